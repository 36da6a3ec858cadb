-- Laws of a call on an image: 14, a refusal, and success. Assumes nothing.
use Rattle.std.specs.Prelude.{◌≡◌, refl, ℕ, Bool, true, false, cond, ◌&&◌, List, ◌++◌, eqb, drop}
use Rattle.std.proofs.Common.{sym, ap, ap₂, ◌∙◌, eq-eqb, ne_eqb}
use Rattle.forms.specs.Refusal.{refusal_number}
use Rattle.forms.specs.declared.refusal.Refusal.{Refusal}
use Rattle.validity.specs.Proof.{Fields, fields_len, proof_bytes}
use Rattle.log_image.specs.State.{State, encode}
use Rattle.log_image.specs.Sound.{sound}
use Rattle.host.specs.declared.answer.Figures.{Figures}
use Rattle.host.specs.Host.{Settled, answered, settled, output_for}

-- what is answered where a test is known
answered-at : (s : List ℕ) (number value : ℕ) {a b : Bool} → sound s ≡ a → eqb number 0 ≡ b
    → answered s number value ≡ cond a (cond b (record { number = 0; value = value }) (record { number = number; value = 0 })) (record { number = 14; value = 0 })
unfolding answered
answered-at s number value e d =
    ap₂ (λ (x y : Bool). cond x (cond y (record { number = 0; value = value }) (record { number = number; value = 0 })) (record { number = 14; value = 0 })) e d

-- a refusal
pub answered-refused : (s : List ℕ) (number value : ℕ) → sound s ≡ true → (number ≡ 0 → ⊥) → answered s number value ≡ record { number = number; value = 0 }
answered-refused s number value e some = answered-at s number value e (ne_eqb number 0 some)

-- success
pub answered-done : (s : List ℕ) (number value : ℕ) → sound s ≡ true → number ≡ 0 → answered s number value ≡ record { number = 0; value = value }
answered-done s number value e none = answered-at s number value e (eq-eqb number 0 none)

-- the same of the image
pub settled-refused : (s : List ℕ) (number value : ℕ) (next : State) → sound s ≡ true → (number ≡ 0 → ⊥)
    → settled s number value next ≡ record { figures = record { number = number; value = 0 }; image = s }
unfolding settled
settled-refused s number value next e some =
    ap₂ (λ (f : Figures) (b : Bool). record { figures = f; image = cond b (encode next) s }) (answered-refused s number value e some)
    (ap₂ ◌&&◌ e (ne_eqb number 0 some))

pub settled-done : (s : List ℕ) (number value : ℕ) (next : State) → sound s ≡ true → number ≡ 0
    → settled s number value next ≡ record { figures = record { number = 0; value = value }; image = encode next }
unfolding settled
settled-done s number value next e none =
    ap₂ (λ (f : Figures) (b : Bool). record { figures = f; image = cond b (encode next) s }) (answered-done s number value e none)
    (ap₂ ◌&&◌ e (eq-eqb number 0 none))

-- what the code of a call that is done shows: figures and image
abbrev Ends : Settled → Figures → List ℕ → Type 0
Ends r figures image = (figures ≡ r.figures) × (image ≡ r.image)

ends : {r : Settled} (figures : Figures) (image : List ℕ) → r ≡ record { figures = figures; image = image } → Ends r figures image
ends figures image e = (sym (ap (λ (x : Settled). x.figures) e), sym (ap (λ (x : Settled). x.image) e))

pub ends-done : (s : List ℕ) (number value : ℕ) (next : State) (shown : ℕ) (image : List ℕ) → sound s ≡ true → number ≡ 0 → shown ≡ value → image ≡ encode next
    → Ends (settled s number value next) (record { number = 0; value = shown }) image
ends-done s number value next shown image e none same stored =
    ends _ _ (settled-done s number value next e none ∙ (λ i. record { figures = record { number = 0; value = sym same i }; image = sym stored i }))

-- the image of a call that is done
pub image-done : (s : List ℕ) (number value : ℕ) (next : State) → sound s ≡ true → number ≡ 0 → encode next ≡ (settled s number value next).image
image-done s number value next e none = sym (ap (λ (x : Settled). x.image) (settled-done s number value next e none))

-- the output of a call that writes a proof
pub output-done : (figures : Figures) (fields : Fields) (output : List ℕ) → figures.number ≡ 0
    → proof_bytes fields ++ drop (fields_len fields) output ≡ output_for figures fields output
unfolding output_for
output-done figures fields output none =
    sym (ap (λ (b : Bool). cond b (proof_bytes fields ++ drop (fields_len fields) output) output) (eq-eqb figures.number 0 none))

-- a refusal's number is not 0
pub some_number : (r : Refusal) → eqb (refusal_number r) 0 ≡ false
some_number Refusal.BadWanted = refl
some_number r = refl
