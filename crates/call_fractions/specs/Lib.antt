pub mod FractionCall
pub mod FractionPromises
