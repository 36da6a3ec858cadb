pub mod Host
pub mod Laws
pub mod Outcome
