-- The clock certificate's byte form: document 01, "reading, nonce", 24 bytes. Assumes nothing.
use Rattle.std.specs.Prelude.{ℕ, ◌+◌, List, ◌++◌}
use Rattle.forms.specs.Bytes.{window}
use Rattle.forms.specs.Limits.{nonce_len}
use Rattle.forms.specs.Number.{be32, digits}
use Rattle.forms.specs.Terms.{global_clock}
pub use Rattle.forms.specs.declared.certificate.Certificate.{Certificate}

-- the clock certificate at place k
unfoldable pub certificate_at : List ℕ → ℕ → Certificate
certificate_at s k = record { reading = global_clock (be32 s k); nonce = window s (k + 4) nonce_len }

unfoldable pub certificate_bytes : Certificate → List ℕ
certificate_bytes c = digits 4 c.reading.0 ++ c.nonce
