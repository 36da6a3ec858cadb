-- `desk_table::verdicts::zero_or_one` meets its contract: all are fine where those passed and those left are. Assumes nothing.
use Rattle.std.proofs.Common.{sym, ap, ◌∙◌, ◌&&◌, List, ℕ, add-one, drop, get_or, leb, drop-cons}
use Rattle.std.proofs.lemmas.List.{drop_all}
use Rattle.std.proofs.Math.Bool.{and_assoc, and-true}
use Rattle.desk_table.specs.Desk.{zero_or_one}
use Rattle.desk_table.proofs.verdicts.zero_or_one.Goals as goal

pub loop-verdict-preserved : goal.loop-verdict-preserved
unfolding zero_or_one
loop-verdict-preserved c =
    let l = c.args.verdicts.now in
    let turn = c.loop-verdict in
    let i = turn.verdict-index in
    turn.invariant
    ∙ ap (λ (rest : List ℕ). turn.fine && zero_or_one rest) (drop-cons l i 0 c.loop-verdict-test.true)
    ∙ sym (and_assoc turn.fine (leb (get_or l i 0) 1) _)
    ∙ ap (λ (n : ℕ). (turn.fine && leb (get_or l i 0) 1) && zero_or_one (drop n l)) (sym (add-one i))

pub returns : goal.returns
unfolding zero_or_one
returns c =
    let turn = c.loop-verdict in
    sym (turn.invariant ∙ ap (λ (rest : List ℕ). turn.fine && zero_or_one rest) (drop_all _ _ c.loop-verdict-test.false) ∙ and-true turn.fine)
