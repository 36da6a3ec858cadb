-- What an order prints is no longer than a result of all tablets, and there are never more of them. Assumes nothing.
use Rattle.std.specs.Prelude.{ℕ, ◌≤◌, ◌<◌, ◌≡◌, Bool, cond, ◌||◌, List, eqb, leb, length, refl, true, false}
use Rattle.std.proofs.Common.{arith, true≢false, leb-false, length-append}
use Rattle.forms.specs.declared.terms.CounterId.{CounterId}
use Rattle.forms.specs.declared.terms.GlobalClock.{GlobalClock}
use Rattle.grammar.specs.declared.order.Order.{Order}
use Rattle.console.specs.Lines.{Answered}
use Rattle.tablets.specs.Rounds.{after_rounds}
use Rattle.tablets.specs.Laws.RoundsLength.{length-after-rounds}
use Rattle.tablets.specs.Tablet.{blank, max_tablets}
use Rattle.tablets.specs.declared.tablet.Tablet.{Tablet}
use Rattle.bench.specs.Bench.{Stage, Standing, ordered, passed_over, placed, refused_tablet, run_ordered, silent, start_ordered, tablet_ordered}
use Rattle.bench.specs.Result.{max_result}
use Rattle.bench.specs.Laws.ResultLaws.{result_fits}

-- a tablet that is not refused has room behind the others
pub room_for : (ts : List Tablet) (id : CounterId) (period : ℕ) → refused_tablet ts id period ≡ false → length ts < max_tablets
room_for ts id period e = leb-false max_tablets (length ts) (go (eqb id.0 0) (eqb period 0) (leb max_tablets (length ts)) e)
  where
    go : (a b c : Bool) → ((a || b) || c) ≡ false → c ≡ false
    go false false c h = h
    go false true c h = absurd (true≢false h)
    go true b c h = absurd (true≢false h)

-- of an answer: its text is short, and it leaves no tablets too many
pub record Bounded (a : Answered Standing) : Type 0 where
  pub short : length a.text ≤ max_result
  pub few : length a.state.depot.tablets ≤ max_tablets

module _ (b : Standing) (few : length b.depot.tablets ≤ max_tablets) where
  passed-bounded : Bounded (passed_over b)
  passed-bounded = record { short = omega arith; few = few }

  start-bounded : (stage : Stage) (clock : GlobalClock) → Bounded (start_ordered stage b clock)
  start-bounded Stage.New clock = record { short = omega arith; few = omega arith }
  start-bounded (Stage.Started c) clock = passed-bounded
  start-bounded Stage.Ran clock = passed-bounded

  tablet-bounded : (stage : Stage) (id : CounterId) (period belief : ℕ) → Bounded (tablet_ordered stage b id period belief)
  unfolding placed
  tablet-bounded Stage.New id period belief = passed-bounded
  tablet-bounded (Stage.Started clock) id period belief = go (refused_tablet b.depot.tablets id period) refl
    where
      go : (t : Bool) → refused_tablet b.depot.tablets id period ≡ t
          → Bounded (cond t (passed_over b) (silent (Stage.Started clock) (placed clock b.depot (blank id period belief))))
      go true e = passed-bounded
      go false e = record { short = omega arith; few = simp length-append (omega (arith, room_for b.depot.tablets id period e)) }
  tablet-bounded Stage.Ran id period belief = passed-bounded

  run-bounded : (stage : Stage) (rounds : ℕ) → Bounded (run_ordered stage b rounds)
  run-bounded Stage.New rounds = passed-bounded
  run-bounded (Stage.Started clock) rounds =
      let after : length (after_rounds 0 rounds b.depot).tablets ≤ max_tablets = omega (arith, length-after-rounds 0 rounds b.depot) in
      record { short = result_fits (after_rounds 0 rounds b.depot).tablets after; few = after }
  run-bounded Stage.Ran rounds = passed-bounded

  pub order-bounded : (o : Order) → Bounded (ordered b o)
  unfolding ordered
  order-bounded (Order.Start clock) = start-bounded b.stage clock
  order-bounded (Order.Tablet id period belief) = tablet-bounded b.stage id period belief
  order-bounded (Order.Run rounds) = run-bounded b.stage rounds
  order-bounded Order.Other = passed-bounded
