pub mod CommandLaws
pub mod NumeralLaws
pub mod NumeralRoundTrip
