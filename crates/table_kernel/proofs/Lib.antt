pub mod KernelProof
pub mod KernelPromisesProof
pub mod KernelExamples
