-- A tablet's act, from the answers of the host and of the desk that it goes by. Assumes nothing.
use Rattle.std.specs.Prelude.{◌≡◌, Bool, true, false, cond, ℕ, length, take, List}
use Rattle.desk_table.specs.Answer.{Answer}
use Rattle.std.proofs.Common.{ap₂, ◌∙◌, arith, eq-eqb, ne_eqb, sym, ap}
use Rattle.forms.specs.declared.terms.CounterId.{CounterId}
use Rattle.validity.specs.declared.proof.Kind.{Kind}
use Rattle.desk_table.specs.Desk.{verified}
use Rattle.host.specs.Host.{prove_call, prove_output}
use Rattle.host.specs.declared.answer.Figures.{Figures}
use Rattle.console.specs.Step.{empty_output, raised_once, yes_for}
use Rattle.tablets.specs.Act.{Acted, acted, confirmed_shown, following, renewed}
use Rattle.tablets.specs.Tablet.{Tablet, adopting, for_proof, for_raise, nonce_for, refused_full, refused_stale, succeeded}

-- what the desk answers to the proof that the host wrote decides
pub renew-judged : (s nonce : List ℕ) (id : CounterId) (belief : ℕ) {shown : Figures} {answer : Answer} {out u : List ℕ}
    → shown ≡ (prove_call s nonce id (length empty_output)).figures → u ≡ (prove_call s nonce id (length empty_output)).image
    → out ≡ prove_output s nonce id empty_output → answer ≡ verified (take shown.value out) (yes_for Kind.Read shown.value) id nonce
    → renewed s nonce id belief ≡ confirmed_shown answer u id belief
unfolding renewed
renew-judged s nonce id belief told left written judged =
    sym
    (ap₂ (λ (a : Answer) (x : List ℕ). confirmed_shown a x id belief)
    (judged ∙ ap₂ (λ (n : ℕ) (o : List ℕ). verified (take n o) (yes_for Kind.Read n) id nonce) (ap (λ (f : Figures). f.value) told) written)
    left)

cond_yes : {b : Bool} (x y : Acted) → b ≡ true → cond b x y ≡ x
cond_yes x y e = ap (λ (b : Bool). cond b x y) e

cond_no : {b : Bool} (x y : Acted) → b ≡ false → cond b x y ≡ y
cond_no x y e = ap (λ (b : Bool). cond b x y) e

-- an act whose raise was answered
module _ (round number : ℕ) (s : List ℕ) (t : Tablet) {nonce u : List ℕ} {answer : Figures} (new : nonce ≡ nonce_for for_raise round number)
    (told : answer ≡ (raised_once s nonce t.id t.belief).figures) (left : u ≡ (raised_once s nonce t.id t.belief).image) where
  followed : acted round number s t ≡ following answer round number u t
  unfolding acted
  followed =
      sym
      (ap₂ (λ (f : Figures) (x : List ℕ). following f round number x t)
      (told ∙ ap (λ (n : List ℕ). (raised_once s n t.id t.belief).figures) new)
      (left ∙ ap (λ (n : List ℕ). (raised_once s n t.id t.belief).image) new))

  pub act-succeeded : answer.number ≡ 0 → acted round number s t ≡ record { tablet = succeeded t answer.value; image = u }
  unfolding following
  act-succeeded e = followed ∙ cond_yes _ _ (eq-eqb answer.number 0 e)

  -- 22: the value that the desk shows is confirmed and adopted
  pub act-stale : answer.number ≡ 22 → {proof w : List ℕ} {value : ℕ} → proof ≡ nonce_for for_proof round number
      → value ≡ (renewed u proof t.id t.belief).belief → w ≡ (renewed u proof t.id t.belief).image
      → acted round number s t ≡ record { tablet = adopting (refused_stale t) value; image = w }
  unfolding following
  act-stale e asked shown kept =
      followed
      ∙ cond_no _ _ (ne_eqb answer.number 0 (omega arith))
      ∙ cond_yes _ _ (eq-eqb answer.number 22 e)
      ∙ sym
      (ap₂ (λ (v : ℕ) (x : List ℕ). record { tablet = adopting (refused_stale t) v; image = x })
      (shown ∙ ap (λ (n : List ℕ). (renewed u n t.id t.belief).belief) asked)
      (kept ∙ ap (λ (n : List ℕ). (renewed u n t.id t.belief).image) asked))

  -- 24: it is confirmed only
  pub act-full : answer.number ≡ 24 → {proof w : List ℕ} → proof ≡ nonce_for for_proof round number → w ≡ (renewed u proof t.id t.belief).image
      → acted round number s t ≡ record { tablet = refused_full t; image = w }
  unfolding following
  act-full e asked kept =
      followed
      ∙ cond_no _ _ (ne_eqb answer.number 0 (omega arith))
      ∙ cond_no _ _ (ne_eqb answer.number 22 (omega arith))
      ∙ cond_yes _ _ (eq-eqb answer.number 24 e)
      ∙ sym
      (ap (λ (x : List ℕ). record { tablet = refused_full t; image = x })
      (kept ∙ ap (λ (n : List ℕ). (renewed u n t.id t.belief).image) asked))

  -- any other refusal
  pub act-refused : (answer.number ≡ 0 → ⊥) → (answer.number ≡ 22 → ⊥) → (answer.number ≡ 24 → ⊥)
      → acted round number s t ≡ record { tablet = t; image = u }
  unfolding following
  act-refused e₁ e₂ e₃ =
      followed
      ∙ cond_no _ _ (ne_eqb answer.number 0 e₁)
      ∙ cond_no _ _ (ne_eqb answer.number 22 e₂)
      ∙ cond_no _ _ (ne_eqb answer.number 24 e₃)
