pub mod PivotCall
pub mod PivotCallLaws
