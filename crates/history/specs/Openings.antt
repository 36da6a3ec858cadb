-- How often a counter was raised in the history: document 02, Note 1, "the history's number of increments after g, the reading of the proof's
-- confirmation, up to T with an owner-signed request for the box". It speaks of the history alone. Assumes nothing.
use Rattle.std.specs.Prelude.{ℕ, zero, suc, ◌+◌, ◌-◌, Bool, cond, List}
use Rattle.forms.specs.declared.terms.CounterId.{CounterId}
use Rattle.forms.specs.declared.terms.GlobalClock.{GlobalClock}
use Rattle.forms.specs.Terms.{global_clock}
use Rattle.history.specs.History.{HistoryEvent}
use Rattle.history.specs.Value.{Signatures, counts}

-- how many of the readings g + 1 .. g + k count
unfoldable pub number_of : (GlobalClock → Bool) → ℕ → ℕ → ℕ
number_of counting g zero = 0
number_of counting g (suc k) = number_of counting g k + cond (counting (global_clock (g + suc k))) 1 0

-- the number of increments after a reading up to another that carry an owner-signed request for a counter
unfoldable pub openings_between : Signatures → CounterId → GlobalClock → List HistoryEvent → GlobalClock → GlobalClock → ℕ
openings_between signed id first es after up_to_lem = number_of (counts signed id first es) after.0 (up_to_lem.0 - after.0)
