-- `tablets::rounds::take_round` meets its contract. The loop's invariant: the turns that are left, on what the turns so far left, come to the whole
-- round's. Assumes nothing.
use Rattle.std.proofs.Common.{◌≡◌, sym, ap, ap₂, ◌∙◌, List, ℕ, ◌+◌, ◌≤◌, ◌<◌, arith, length, drop, length-set, length-take, get_or-take}
use Rattle.tablets.specs.Rounds.{Fleet, after_turns, depot_of, divides, nobody, tablet_of, tablets_of, turns_from}
use Rattle.tablets.specs.Laws.RoundsLaws.{fleet-turned, round-over, turn-missed, turn-taken}
use Rattle.tablets.specs.Tablet.{Tablet}
use Rattle.tablets.proofs.rounds.take_round.Goals as goal
use Rattle.tablets.proofs.rounds.take_round.Goals.{then-divides, else-divides}

pub loop-number-preserved : goal.loop-number-preserved
loop-number-preserved c =
    let loop = c.loop-number in
    let first = c.args.fleet in
    let round = c.args.round in
    let i = loop.number in
    let fleet = loop.fleet in
    let d = depot_of fleet loop.image in
    let e = depot_of c.if-divides.fleet c.if-divides.image in
    let few = length-take fleet.count fleet.tablets in
    let few₀ = length-take first.count first.tablets in
    let counted : i < fleet.count = omega (arith, c.size-number-end.ensures, c.loop-number-test.true) in
    let there : i < length (tablets_of fleet) = omega (arith, c.size-number-end.ensures, c.loop-number-test.true) in
    let its_turn : divides (tablet_of d i).period round ≡ c.divides.result =
    ap (λ (t : Tablet). divides t.period round) (get_or-take fleet.count fleet.tablets i nobody counted) ∙ sym c.divides.ensures in
    elim c.if-divides.branch [
      | then-divides w ↦
          let taken = fleet-turned fleet loop.image _ _ round i counted w.act.ensures.value w.act.ensures.image_after in (
            ap (λ (f : Fleet). length f.tablets) w.fleet-is ∙ length-set fleet.tablets i _ ∙ loop.invariant.0,
            ap (λ (f : Fleet). f.count) w.fleet-is ∙ loop.invariant.1,
            sym (turn-taken d e round i there (its_turn ∙ w.if-divides.true) (ap₂ depot_of w.fleet-is w.image-is ∙ taken)) ∙ loop.invariant.2,
          )
      | else-divides w ↦ (
        ap (λ (f : Fleet). length f.tablets) w.fleet-is ∙ loop.invariant.0,
        ap (λ (f : Fleet). f.count) w.fleet-is ∙ loop.invariant.1,
        ap₂ (λ (f : Fleet) (x : List ℕ). after_turns (depot_of f x) (turns_from round (i + 1) (drop (i + 1) (tablets_of f)))) w.fleet-is
            w.image-is
            ∙ sym (turn-missed d round i there (its_turn ∙ w.if-divides.false)) ∙ loop.invariant.2,
      )
    ]

pub returns : goal.returns
returns c =
    let loop = c.loop-number in
    let first = c.args.fleet in
    let few = length-take loop.fleet.count loop.fleet.tablets in
    let few₀ = length-take first.count first.tablets in
    let past : length (tablets_of loop.fleet) ≤ loop.number =
    omega (arith, c.size-number-end.ensures, loop.invariant.0, loop.invariant.1, c.loop-number-test.false) in
    sym (round-over (depot_of loop.fleet loop.image) c.args.round loop.number past) ∙ loop.invariant.2
