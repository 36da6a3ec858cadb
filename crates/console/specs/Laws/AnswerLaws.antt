-- The text of an answer, stored part by part. Assumes nothing.
use Rattle.std.specs.Prelude.{ℕ, ◌+◌, ◌≤◌, ◌≡◌, List, [], ◌∷◌, ◌++◌, length}
use Rattle.std.proofs.Common.{◌∙◌, append_assoc, arith, ap, length-append}
use Rattle.forms.specs.Bytes.{overwrite}
use Rattle.forms.specs.Laws.BytesLaws.{stored_next}
use Rattle.host.specs.declared.answer.Figures.{Figures}
use Rattle.text.specs.Line.{numeral}
use Rattle.text.specs.Laws.LineLaws.{length-numeral}
use Rattle.console.specs.Step.{answer_text, max_answer}

module _ (f : Figures) where
  abbrev number : List ℕ
  number = numeral f.number

  abbrev value : List ℕ
  value = numeral f.value

  -- how long it is
  pub answer-length : length (answer_text f) ≡ length number + 1 + length value + 1
  unfolding answer_text
  answer-length = simp length-append (omega arith)

  pub answer-short : length (answer_text f) ≤ max_answer
  answer-short = omega (arith, answer-length, length-numeral 10 f.number, length-numeral 10 f.value)

  -- number, space, value and newline, one behind the other
  pub answer-stored : (s : List ℕ) (k : ℕ) → k + max_answer ≤ length s → {a b c d : List ℕ} {i j : ℕ} → i ≡ k + length number
      → j ≡ i + 1 + length value
      → a ≡ overwrite s k number → b ≡ overwrite a i (32 ∷ []) → c ≡ overwrite b (i + 1) value → d ≡ overwrite c j (10 ∷ [])
      → d ≡ overwrite s k (answer_text f)
  unfolding answer_text
  answer-stored s k room {a} {b} {c} {d} {i} {j} at_i at_j e₁ e₂ e₃ e₄ =
      let short = answer-short in
      let long = answer-length in
      let two : b ≡ overwrite s k (number ++ (32 ∷ [])) = stored_next s k number (32 ∷ []) e₁ e₂ at_i (omega arith) in
      let three : c ≡ overwrite s k ((number ++ (32 ∷ [])) ++ value) =
      stored_next s k (number ++ (32 ∷ [])) value two e₃ (simp length-append (omega arith)) (simp length-append (omega arith)) in
      let four : d ≡ overwrite s k (((number ++ (32 ∷ [])) ++ value) ++ (10 ∷ [])) =
      stored_next s k ((number ++ (32 ∷ [])) ++ value) (10 ∷ []) three e₄ (simp length-append (omega arith)) (simp length-append (omega arith)) in
      four ∙ ap (overwrite s k) (simp append_assoc)
