pub mod Command
pub mod Laws
pub mod Numeral
pub mod Order
