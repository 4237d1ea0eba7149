pub mod DensePromisesProof
pub mod DenseExamples
