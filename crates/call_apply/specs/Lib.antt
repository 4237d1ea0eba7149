pub mod ApplyLaws
