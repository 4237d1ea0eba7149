pub mod ExchangeLaws
pub mod StepLaws
pub mod EliminationLaws
