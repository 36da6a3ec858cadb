-- `forms::nonce::nonce_at` meets its contract: after i turns the first i bytes are those of the window. Assumes nothing.
use Rattle.std.proofs.Common.{◌≡◌, ◌<◌, ◌≤◌, length, take}
use Rattle.forms.specs.Bytes.{window}
use Rattle.forms.specs.Limits.{nonce_len}
use Rattle.forms.proofs.nonce.nonce_at.Given as goal

abbrev pub invariant-loop-i : goal.invariant-loop-i
invariant-loop-i l = (l.i ≤ nonce_len) × (l.at < length l.s) × (length l.nonce ≡ nonce_len) × (take l.i l.nonce ≡ window l.s l.at l.i)
