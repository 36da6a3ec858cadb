pub mod Effect
pub mod Store
