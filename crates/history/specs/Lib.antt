pub mod History
pub mod Laws
pub mod Nonce
pub mod Openings
pub mod Step
pub mod Value
