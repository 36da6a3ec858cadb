-- The confirmation's byte form: document 01, "Confirmation: box number, value, clock reading", 12 bytes. Assumes nothing.
use Rattle.std.specs.Prelude.{ℕ, ◌+◌, ◌^◌, ◌<◌, List, ◌++◌}
use Rattle.forms.specs.Number.{be32, digits}
use Rattle.forms.specs.Terms.{counter_id, global_clock}
pub use Rattle.forms.specs.declared.confirmation.Confirmation.{Confirmation}

-- the confirmation of these figures
abbrev pub confirmation_of : ℕ → ℕ → ℕ → Confirmation
confirmation_of id value reading = record { id = counter_id id; value = value; reading = global_clock reading }

-- the confirmation at place k
unfoldable pub confirmation_at : List ℕ → ℕ → Confirmation
confirmation_at s k = confirmation_of (be32 s k) (be32 s (k + 4)) (be32 s (k + 8))

unfoldable pub confirmation_bytes : Confirmation → List ℕ
confirmation_bytes c = digits 4 c.id.0 ++ digits 4 c.value ++ digits 4 c.reading.0

-- its numbers have 32 bits
pub record ConfirmationFits (c : Confirmation) : Type 0 where
  pub id : c.id.0 < 2 ^ 32
  pub value : c.value < 2 ^ 32
  pub reading : c.reading.0 < 2 ^ 32
