-- `text::line::put_figure` meets its contract: behind a space stand the numeral's digits. Assumes nothing.
use Rattle.std.proofs.Common.{◌≡◌, sym, ap, ◌∙◌, List, ℕ, ◌≤◌, length, replicate, length-take-le, arith}
use Rattle.forms.specs.Bytes.{overwrite}
use Rattle.forms.specs.Laws.BytesLaws.{length-overwrite}
use Rattle.text.specs.Line.{max_digits, numeral, spaced, stored_end}
use Rattle.text.specs.Laws.LineLaws.{length-numeral, put_same, spaced-made}
use Rattle.text.proofs.line.put_figure.Goals as goal

-- the digits of a number of 32 bits end within the room for a figure
within-room : (n : ℕ) {end : ℕ} {made : List ℕ} → end ≡ stored_end (replicate {A = ℕ} 11 32) 1 (numeral n)
    → made ≡ overwrite (replicate {A = ℕ} 11 32) 1 (numeral n) → end ≤ length made
within-room n e m =
    let long : length _ ≡ 11 = ap length m ∙ length-overwrite (replicate {A = ℕ} 11 32) 1 (numeral n) in
    omega (arith, (spaced-made n e m).0, length-numeral max_digits n, long)

pub slice_bounds-digits-end : goal.slice_bounds-digits-end
slice_bounds-digits-end c = within-room c.args.figure c.put_numeral-end.ensures.value c.put_numeral-end.ensures.text_after

pub slice_bounds-put_words-end : goal.slice_bounds-put_words-end
slice_bounds-put_words-end c =
    sym (length-take-le _ _ (within-room c.args.figure c.put_numeral-end.ensures.value c.put_numeral-end.ensures.text_after))

pub returns : goal.returns
returns c =
    let a = c.args in
    let made = spaced-made a.figure c.put_numeral-end.ensures.value c.put_numeral-end.ensures.text_after in
    let all = put_same a.text.now a.at _ (spaced a.figure) made.1 (c.put_words.ensures.value, c.put_words.ensures.text_after) in
    record { value = all.0; text_after = all.1 }
