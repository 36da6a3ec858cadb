-- `text::line::put_filled` meets its contract: what is left of the words, and of the figures, makes of the text so far the whole. Assumes nothing.
use Rattle.std.proofs.Common.{◌≡◌, refl, sym, ap, ◌∙◌, ℕ, ◌+◌, [], arith, drop, length, get_or}
use mathlib.Core.List.{foldl}
use Rattle.text.specs.Line.{Filled, byte_filled, filled_in}
use Rattle.text.specs.Laws.LineLaws.{figure-filled, figure-next, figure-none, nothing_put, put_same, word-filled}
use Rattle.text.specs.Laws.TextLaws.{fold_next}
use Rattle.text.proofs.line.put_filled.Goals.{then-byte-ne35, else-byte-ne35+in-Some, else-byte-ne35+in_default}
use Rattle.text.proofs.line.put_filled.Goals as goal

pub loop-byte-init : goal.loop-byte-init
unfolding filled_in
loop-byte-init c = (0, c.iter-left.ensures.rest, refl)

pub loop-byte-preserved : goal.loop-byte-preserved
loop-byte-preserved c =
    let at = c.loop-byte in
    let a = c.args in
    let figures = a.figures.now in
    let asked : ℕ = at.invariant.0 in
    let filled : Filled = record { text = at.text; end = at.end; asked = asked } in
    let b : ℕ = get_or a.words.now at.byte-index 0 in
    let more : (next : Filled) → byte_filled figures filled b ≡ next
    → filled_in a.text.now a.at a.words.now figures ≡ foldl (byte_filled figures) next (drop (at.byte-index + 1) a.words.now) =
    λ next step. at.invariant.2 ∙ fold_next (byte_filled figures) filled next a.words.now at.byte-index (omega arith) step in
    elim c.if-byte-ne35.branch [
      | then-byte-ne35 w ↦
          let put = w.put_words-end.ensures in
          let step = word-filled figures filled b w.if-byte-ne35.true (w.text-is ∙ put.text_after) (w.end-is ∙ put.value) refl in
          (asked, ap (λ r. r.rest.now) w.left-is ∙ at.invariant.1, more _ step)
      | else-byte-ne35+in-Some w ↦
          let next = figure-next figures asked (sym w.in-Some.ensures.steps ∙ at.invariant.1) in
          let put = put_same at.text at.end _ _ (sym next.0) (w.put_figure-end.ensures.value, w.put_figure-end.ensures.text_after) in
          let step = figure-filled figures filled b w.if-byte-ne35.false (w.text-is ∙ put.1) (w.end-is ∙ put.0) refl in
          (asked + 1, ap (λ r. r.rest.now) w.left-is ∙ next.1, more _ step)
      | else-byte-ne35+in_default w ↦
          let ended = w.in_default.ensures.steps in
          let none = figure-none figures asked (sym (ap length at.invariant.1) ∙ ended.0) in
          let put = put_same at.text at.end [] _ (sym none.0) (nothing_put at.text at.end) in
          let step = figure-filled figures filled b w.if-byte-ne35.false (w.text-is ∙ put.1) (w.end-is ∙ put.0) refl in
          (asked + 1, ap (λ r. r.rest.now) (w.left-is ∙ ended.1) ∙ at.invariant.1 ∙ none.1, more _ step)
    ]
