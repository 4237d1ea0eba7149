pub mod Pivots
pub mod PivotLaws
