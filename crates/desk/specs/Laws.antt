pub mod LogVerdictsLaws
pub mod Progress
pub mod ProgressLaws
pub mod Reader
pub mod Refused
pub mod WalkLaws
