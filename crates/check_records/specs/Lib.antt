pub mod Filed
pub mod RecordLaws
pub mod ChainLaws
