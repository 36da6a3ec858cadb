pub mod Act
pub mod Laws
pub mod Rounds
pub mod Tablet
