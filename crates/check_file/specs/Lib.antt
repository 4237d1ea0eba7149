pub mod FileChecks
pub mod FileLaws
