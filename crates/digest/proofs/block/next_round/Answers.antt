-- `digest::block::next_round` meets its contract: what is done goes a round further with the word of either kind. Assumes nothing.
use Rattle.std.proofs.Common.{◌∙◌}
use Rattle.digest.specs.Laws.BlockLaws.{done_first, done_next}
use Rattle.forms.specs.Number.{words}
use Rattle.digest.proofs.block.next_round.Goals.{then-t-lt16, else-t-lt16}
use Rattle.digest.proofs.block.next_round.Goals as goal

pub returns : goal.returns
returns c h =
    let a = c.args in
    let r = c.round.result in
    let word = c.if-t-lt16.word in
    elim c.if-t-lt16.branch [
      | then-t-lt16 w ↦ done_first a.block.now h a.t a.v r a.w.now word w.if-t-lt16.true (w.word-is ∙ w.get_u32-word.ensures) c.round.ensures
      | else-t-lt16 w ↦
          done_next (words 16 a.block.now 0) h a.t a.v r a.w.now word w.if-t-lt16.false c.requires (w.word-is ∙ w.next_word-word.ensures) c.round.ensures
    ]
