pub mod Replied
pub mod CheckLaws
pub mod Passed
