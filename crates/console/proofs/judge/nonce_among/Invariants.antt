-- `console::judge::nonce_among` meets its contract: no entry passed is the one looked for. Assumes nothing.
use Rattle.std.proofs.Common.{◌≡◌, List, ℕ, ◌-◌}
use Rattle.forms.specs.Entry.{entries_at, offset_at}
use Rattle.forms.specs.Limits.{image_log_offset}
use Rattle.console.specs.Laws.StepLaws.{FoundNonce}
use Rattle.console.proofs.judge.nonce_among.Given as goal

-- the nonce found among the entries that are left is found among all
abbrev pub invariant-loop : goal.invariant-loop
invariant-loop l = (l.offset ≡ offset_at l.image image_log_offset l.counter)
    × ((nonce : List ℕ) → FoundNonce l.id l.t (entries_at l.image l.offset (l.count - l.counter)) nonce →
    FoundNonce l.id l.t (entries_at l.image image_log_offset l.count) nonce)
