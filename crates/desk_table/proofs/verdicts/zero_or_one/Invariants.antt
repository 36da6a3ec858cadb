-- `desk_table::verdicts::zero_or_one` meets its contract: all are fine where those passed and those left are. Assumes nothing.
use Rattle.std.proofs.Common.{◌≡◌, ◌&&◌, drop}
use Rattle.desk_table.specs.Desk.{zero_or_one}
use Rattle.desk_table.proofs.verdicts.zero_or_one.Given as goal

abbrev pub invariant-loop-verdict : goal.invariant-loop-verdict
invariant-loop-verdict l = zero_or_one l.verdicts ≡ (l.fine && zero_or_one (drop l.verdict-index l.verdicts))
