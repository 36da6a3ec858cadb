pub mod Batch
pub mod ProveLaws
