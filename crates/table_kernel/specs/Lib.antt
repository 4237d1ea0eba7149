pub mod KernelCall
pub mod KernelPromises
