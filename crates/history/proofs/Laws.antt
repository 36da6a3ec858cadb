pub mod HistoryLaws
pub mod NonceLaws
pub mod OpeningsLaws
pub mod ReadLaws
pub mod StepLaws
pub mod ValueLaws
pub mod WalkLaws
