pub mod ActLaws
pub mod FigureLaws
pub mod Idle
pub mod IdleLaws
pub mod NonceLaws
pub mod RoundsLaws
pub mod RoundsLength
