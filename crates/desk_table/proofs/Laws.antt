pub mod Cases
pub mod DeskLaws
pub mod LowestLaws
pub mod VerdictsLaws
