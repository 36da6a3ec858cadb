-- Laws of what a call came to: its figures tell a refusal from a value, say of read what read's figures say, and of a
-- batch of one whose request is refused the value 0. Assumes nothing.
use Rattle.std.proofs.Common.{◌≡◌, refl, sym, ap, ap₂, ◌∙◌, ◌+◌, ◌-◌, ◌/◌, ◌&&◌, ℕ, Bool, true, false, not, cond, List, [], ◌∷◌, ◌++◌, length, get_or, replicate, eqb, Err, Result, eq-eqb, eqb-true}
use Rattle.std.proofs.lemmas.Bool.{false≢true}
use Rattle.forms.specs.Refusal.{refusal_number}
use Rattle.forms.specs.declared.refusal.Refusal.{Refusal}
use Rattle.forms.specs.Limits.{max_requests, request_len}
use Rattle.forms.specs.Request.{request_at}
use Rattle.forms.specs.declared.request.Request.{Request}
use Rattle.log_image.specs.Sound.{sound}
use Rattle.log_image.specs.State.{decode}
use Rattle.log_store.specs.Effect.{incremented}
use Rattle.host.specs.Host.{answered, asked, asked_from, bad_batch, batch_refusal, Batch, increment_call, judge_next, judged_batch, numbers_of, request_refusal, settled}
use Rattle.host.specs.declared.answer.Figures.{Figures}
use Rattle.host.specs.Outcome.{figures_of}
use Rattle.host.proofs.Laws.SettledLaws.{some_number}

-- a refusal has a number
pub refused-number : {outcome : Result ℕ Refusal} {refusal : Refusal} → outcome ≡ Err refusal → (figures_of outcome).number ≡ 0 → ⊥
refused-number {outcome} {refusal} is none =
    false≢true (sym (some_number refusal) ∙ eq-eqb (refusal_number refusal) 0 (sym (ap (λ (o : Result ℕ Refusal). (figures_of o).number) is) ∙ none))

-- a batch of one whose request is refused has the value 0
module _ (s requests : List ℕ) (verdict : ℕ) (one : length requests ≡ request_len) where
  abbrev asked_one : Request
  asked_one = request_at requests 0

  abbrev own : ℕ
  own = request_refusal (decode s) [] asked_one verdict

  abbrev judged_one : Bool → Batch
  judged_one passes = record { numbers = own ∷ []; passed = cond passes (asked_one ∷ []) [] }

  one-judged : judged_batch (decode s) (asked requests (verdict ∷ [])) ≡ judged_one (eqb own 0)
  unfolding judged_batch judge_next asked_from
  one-judged = ap (λ (n : ℕ). judged_batch (decode s) (asked_from requests (verdict ∷ []) 0 (n / request_len))) one

  abbrev whole : ℕ
  whole = batch_refusal requests (verdict ∷ [])

  abbrev number_at : Bool → Batch → ℕ
  number_at known b =
      let numbers : List ℕ = cond known b.numbers [] in
      get_or (numbers ++ replicate {A = ℕ} (max_requests - length numbers) 0) 0 0

  abbrev value_at : Batch → ℕ
  value_at b =
      (cond (eqb (length b.passed) 0) (record { figures = answered s whole 0; image = s })
      (settled s whole ((decode s).clock.0 + 1) (incremented (decode s) b.passed))).figures.value

  value-none : (answered s whole 0).value ≡ 0
  unfolding answered
  value-none = go (sound s) (eqb whole 0)
    where
      go : (a b : Bool) → (cond {A = Figures} a (cond b (record { number = 0; value = 0 }) (record { number = whole; value = 0 })) (record { number = 14; value = 0 })).value ≡ 0
      go false b = refl
      go true false = refl
      go true true = refl

  pub refused-stays : (get_or (numbers_of s requests (verdict ∷ [])) 0 0 ≡ 0 → ⊥) → (increment_call s requests (verdict ∷ [])).figures.value ≡ 0
  unfolding numbers_of increment_call
  refused-stays some = ap value_at one-judged ∙ go (sound s && not (bad_batch requests (verdict ∷ []))) (eqb own 0) refl refl
    where
      go : (known passes : Bool) → (sound s && not (bad_batch requests (verdict ∷ []))) ≡ known → eqb own 0 ≡ passes → value_at (judged_one passes) ≡ 0
      go known false e d = value-none
      go false true e d = absurd (some (ap (λ (b : Bool). number_at b (judged_batch (decode s) (asked requests (verdict ∷ [])))) e))
      go true true e d = absurd (some (ap₂ number_at e one-judged ∙ eqb-true own 0 d))
