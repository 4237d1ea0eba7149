pub mod PairCall
pub mod PairCallLaws
