pub mod Laws
pub mod Lines
pub mod Session
pub mod Step
