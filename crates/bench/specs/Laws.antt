pub mod BenchLaws
pub mod OrderLaws
pub mod ResultLaws
pub mod SessionLaws
