pub mod DenseCall
pub mod DensePromises
