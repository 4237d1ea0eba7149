pub mod Checked
pub mod StepLaws
