pub mod ProofLaws
pub mod RoundTrip
