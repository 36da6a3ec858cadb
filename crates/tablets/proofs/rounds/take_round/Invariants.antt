-- `tablets::rounds::take_round` meets its contract. The loop's invariant: the turns that are left, on what the turns so far left, come to the whole
-- round's. Assumes nothing.
use Rattle.std.proofs.Common.{◌≡◌, length, drop}
use Rattle.tablets.specs.Rounds.{after_turns, depot_of, tablets_of, turns_from}
use Rattle.tablets.specs.Tablet.{max_tablets}
use Rattle.tablets.proofs.rounds.take_round.Given as goal

abbrev pub invariant-loop-number : goal.invariant-loop-number
invariant-loop-number l = (length l.fleet.tablets ≡ max_tablets) × (l.fleet.count ≡ l.initial.fleet.count)
    × (after_turns (depot_of l.fleet l.image) (turns_from l.round l.number (drop l.number (tablets_of l.fleet)))
    ≡ after_turns (depot_of l.initial.fleet l.initial.image) (turns_from l.round 0 (tablets_of l.initial.fleet)))
