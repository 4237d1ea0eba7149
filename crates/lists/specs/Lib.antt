pub mod Index
pub mod Lists
pub mod ListLaws
pub mod Writing
pub mod Parts
