pub mod Laws
pub mod Proof
