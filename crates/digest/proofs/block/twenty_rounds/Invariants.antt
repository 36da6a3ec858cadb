-- `digest::block::twenty_rounds` meets its contract: each turn takes what is done four rounds further. Assumes nothing.
use Rattle.std.proofs.Common.{◌+◌, ◌*◌}
use Rattle.forms.specs.Number.{words}
use Rattle.digest.specs.declared.block.Hash.{Hash}
use Rattle.digest.specs.Laws.BlockLaws.{Done}
use Rattle.digest.proofs.block.twenty_rounds.Given as goal

abbrev pub invariant-loop-i : goal.invariant-loop-i
invariant-loop-i g l =
    (h : Hash) → Done (words 16 l.block 0) h g.row.FROM l.initial.v l.initial.w → Done (words 16 l.block 0) h (g.row.FROM + 4 * l.i) l.v l.w
