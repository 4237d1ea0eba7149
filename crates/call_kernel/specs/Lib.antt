pub mod KernelLaws
pub mod ShowsLaws
