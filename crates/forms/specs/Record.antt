-- A counter's record in an image, and its byte form: document 01, "records .. (latest confirmation, in order of opening)", and document 02:
-- Note 2, "A record grows to 16 bytes, the current value last", and Note 6, "Each record gains 4 bytes at its end: the number of proofs
-- written for that box since opening". Assumes nothing.
use Rattle.std.specs.Prelude.{ℕ, ◌+◌, List, ◌++◌}
use Rattle.forms.specs.Confirmation.{Confirmation, confirmation_at, confirmation_bytes}
use Rattle.forms.specs.Limits.{confirmation_len}
use Rattle.forms.specs.Number.{be32, digits}
pub use Rattle.forms.specs.declared.record.Record.{Record}

-- the record of a counter as it is taken up: its current value is the confirmed one, and no proof was written for it
abbrev pub taken : Confirmation → Record
taken c = record { held = c; current = c.value; proofs = 0 }

-- where the current value and the number of proofs of the record at place k stand
abbrev pub current_place : ℕ → ℕ
current_place k = k + confirmation_len

abbrev pub proofs_place : ℕ → ℕ
proofs_place k = k + (confirmation_len + 4)

-- the record at place k
abbrev pub record_at : List ℕ → ℕ → Record
record_at s k = record { held = confirmation_at s k; current = be32 s (current_place k); proofs = be32 s (proofs_place k) }

abbrev pub record_bytes : Record → List ℕ
record_bytes r = confirmation_bytes r.held ++ digits 4 r.current ++ digits 4 r.proofs
