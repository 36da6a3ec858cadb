-- `tablets::rounds::run` meets its contract. The loop's invariant: the rounds from the next one with an act on, on what the rounds so far left, come
-- to the whole run's. Assumes nothing.
use Rattle.std.proofs.Common.{sym, ap, ◌∙◌, ℕ, ◌-◌, ◌<◌, arith}
use Rattle.tablets.specs.Laws.Idle.{never}
use Rattle.tablets.specs.Laws.IdleLaws.{next-later}
use Rattle.tablets.specs.Rounds.{after_rounds, depot_of, tablets_of}
use Rattle.tablets.specs.Laws.RoundsLaws.{passed_over, round-taken, run-over}
use Rattle.tablets.proofs.rounds.run.Goals as goal
use Rattle.tablets.proofs.rounds.run.Goals.{After-next_round-next-in-loop-next}

pub loop-next-init : goal.loop-next-init
loop-next-init c =
    let a = c.args in
    let d = depot_of a.fleet a.image.now in
    let small : a.done < never = omega arith in
    let next = c.next_round-next.ensures in (
      omega (arith, next, next-later (tablets_of a.fleet) a.done small),
      ap (λ (n : ℕ). after_rounds (n - 1) a.rounds d) next ∙ sym (passed_over d a.done a.rounds small),
    )

-- the round that was taken is one of 32 bits, and the next one lies behind it
later : (c : After-next_round-next-in-loop-next) → (c.loop-next.next < never) × (c.loop-next.next < c.next_round-next-in-loop-next.result)
later c =
    let small : c.loop-next.next < never = omega (arith, c.loop-next-test.true, c.ranges.rounds) in
    let ts = tablets_of c.take_round-fleet.result in
    (small, omega (arith, c.next_round-next-in-loop-next.ensures, next-later ts c.loop-next.next small))

pub loop-next-smaller : goal.loop-next-smaller
loop-next-smaller c =
    let next = later (goal.at.loop-next-smaller c).After-next_round-next-in-loop-next in
    omega (arith, next.1, c.loop-next-test.true)

pub loop-next-preserved : goal.loop-next-preserved
loop-next-preserved c =
    let next = later (goal.at.loop-next-preserved c).After-next_round-next-in-loop-next in
    let loop = c.loop-next in
    let rounds = c.args.rounds in
    let d = depot_of loop.fleet loop.image in
    let e = depot_of c.take_round-fleet.result c.take_round-fleet.new.image in (
      omega (arith, next.1),
      ap (λ (n : ℕ). after_rounds (n - 1) rounds e) c.next_round-next-in-loop-next.ensures
          ∙ sym (passed_over e loop.next rounds next.0)
          ∙ sym (round-taken d e loop.next rounds loop.invariant.0 c.loop-next-test.true c.take_round-fleet.ensures)
          ∙ loop.invariant.1,
    )

pub returns : goal.returns
returns c =
    let loop = c.loop-next in
    let rounds = c.args.rounds in
    sym (run-over (depot_of loop.fleet loop.image) (loop.next - 1) rounds (omega (arith, c.loop-next-test.false))) ∙ loop.invariant.1
