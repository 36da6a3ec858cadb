pub mod Laws
pub mod Line
pub mod Text
