-- `bench::result::put_result` meets its contract. The loop's invariant: the lines of the tablets passed are stored, one behind the other.
-- Assumes nothing.
use Rattle.bench.specs.Laws.ResultLaws.{Stored}
use Rattle.bench.proofs.result.put_result.Given as goal

abbrev pub invariant-loop-tablet : goal.invariant-loop-tablet
invariant-loop-tablet l = Stored l.tablet-items l.tablet-index l.initial.text l.at l.text l.end
