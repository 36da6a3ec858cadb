-- A call that answers 0: the image was sound, no row of its table held, and the value is its own. Assumes nothing.
use Rattle.std.specs.Prelude.{ℕ, ◌≡◌, refl, Bool, true, false, cond, List, eqb}
use Rattle.std.proofs.Common.{ap, arith, eqb-true}
use Rattle.std.proofs.lemmas.Bool.{eqb-false}
use Rattle.log_image.specs.Sound.{sound}
use Rattle.log_image.specs.State.{State}
use Rattle.host.specs.declared.answer.Figures.{Figures}
use Rattle.host.specs.Host.{Settled, answered, settled}
use Rattle.host.proofs.Laws.SettledLaws.{settled-done}

-- the figures that a call answers with, by whether the image is sound and whether no refusal was given
abbrev ended : Bool → Bool → ℕ → ℕ → Figures
ended is passed number value =
    cond is (cond passed (record { number = 0; value = value }) (record { number = number; value = 0 })) (record { number = 14; value = 0 })

-- the image is sound, and no row of the call's own table holds
answered-passed : (s : List ℕ) (number value : ℕ) → (answered s number value).number ≡ 0 → (sound s ≡ true) × (number ≡ 0)
unfolding answered
answered-passed s number value e = go (sound s) (eqb number 0) refl refl e
  where
    go : (is passed : Bool) → sound s ≡ is → eqb number 0 ≡ passed → (ended is passed number value).number ≡ 0 → (sound s ≡ true) × (number ≡ 0)
    go true true p q z = (p, eqb-true number 0 q)
    go true false p q z = absurd (eqb-false number 0 q z)
    go false passed p q z = let no : ⊥ = omega arith in absurd no

-- the same of a call that stores
pub settled-passed : (s : List ℕ) (number value : ℕ) (next : State) → (settled s number value next).figures.number ≡ 0 → (sound s ≡ true) × (number ≡ 0)
unfolding settled
settled-passed s number value next e = answered-passed s number value e

-- and the value is the call's own
pub value-given : (s : List ℕ) (number value : ℕ) (next : State) → (settled s number value next).figures.number ≡ 0
    → (settled s number value next).figures.value ≡ value
value-given s number value next e =
    let passed = settled-passed s number value next e in
    ap (λ (r : Settled). r.figures.value) (settled-done s number value next passed.0 passed.1)
