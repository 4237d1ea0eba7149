pub mod FractionCallLaws
pub mod FractionPromisesProof
pub mod FractionExamples
