pub mod Answer
pub mod Desk
pub mod Lowest
