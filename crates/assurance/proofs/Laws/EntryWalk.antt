-- Running value and count along a proof's entries are the walk along the clock, where entry k has the reading k after the start and that reading
-- counts exactly if the entry is the counter's own. Assumes nothing.
use Rattle.std.specs.Prelude.{◌≡◌, Bool, List, ℕ, zero, suc, ◌+◌, ◌≤◌, refl, cond}
use Rattle.std.proofs.Common.{◌∙◌, arith, sym, ap, ap₂}
use Rattle.forms.specs.Chain.{from_value, raised_running}
use Rattle.forms.specs.declared.running.Running.{Running}
use Rattle.forms.specs.Terms.{global_clock}
use Rattle.forms.specs.declared.terms.CounterId.{CounterId}
use Rattle.forms.specs.declared.terms.GlobalClock.{GlobalClock}
use Rattle.desk_table.specs.Desk.{entry, is_own, running_to}
use Rattle.history.specs.Laws.Walk.{pass_running, clock_walk}
use Rattle.history.proofs.Laws.WalkLaws.{walk-last}

module _ (counting : GlobalClock → Bool) (s : List ℕ) (log : ℕ) (verdicts : List ℕ) (before : ℕ) (id : CounterId) (value start : ℕ) where
  -- entry k has the reading k after the start, which counts exactly if the entry is the counter's own
  abbrev pub Placed : ℕ → Type 0
  Placed k = ((entry s log k).reading ≡ global_clock (start + k)) × (counting (global_clock (start + k)) ≡ is_own s log verdicts before id k)

  -- running value and count along such entries are the walk over as many readings
  pub placed-walk : (n : ℕ) → ((k : ℕ) → 1 ≤ k → k ≤ n → Placed k)
      → running_to s log verdicts before id value n ≡ clock_walk (pass_running counting) (from_value value) (global_clock start) n
  unfolding running_to clock_walk
  placed-walk zero placed = refl
  placed-walk (suc n) placed =
      let here = placed (suc n) (omega arith) (omega arith) in
      let r = running_to s log verdicts before id value n in
      ap₂ (λ (own : Bool) (t : GlobalClock). cond own (raised_running r t) r) (sym here.1) here.0
      ∙ ap (λ (q : Running). pass_running counting q (global_clock (start + suc n))) (placed-walk n (λ k low high. placed k low (omega arith)))
      ∙ sym (walk-last (pass_running counting) (from_value value) (global_clock start) n)
