-- `tablets::rounds::run` meets its contract. The loop's invariant: the rounds from the next one with an act on, on what the rounds so far left, come
-- to the whole run's. Assumes nothing.
use Rattle.std.proofs.Common.{◌≡◌, ◌+◌, ◌-◌, ◌<◌}
use Rattle.tablets.specs.Rounds.{after_rounds, depot_of}
use Rattle.tablets.proofs.rounds.run.Given as goal

abbrev pub invariant-loop-next : goal.invariant-loop-next
invariant-loop-next l = (0 < l.next)
    × (after_rounds (l.next - 1) l.rounds (depot_of l.fleet l.image) ≡ after_rounds l.done l.rounds (depot_of l.initial.fleet l.initial.image))

abbrev pub decreases-loop-next : goal.decreases-loop-next
decreases-loop-next l = l.rounds + 1 - l.next
