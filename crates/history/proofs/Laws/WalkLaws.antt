-- Laws of the walk along the clock, for any step: one reading more, walks in a row, readings that change nothing, two steps that agree, and a
-- part of what is walked. Assumes nothing.
use Rattle.std.specs.Prelude.{ℕ, zero, suc, ◌+◌, ◌≤◌, ◌<◌, ◌≡◌, refl}
use Rattle.std.proofs.Common.{sym, ap, ap₂, ◌∙◌, zero-add, add-zero, arith}
use Rattle.forms.specs.declared.terms.GlobalClock.{GlobalClock}
use Rattle.forms.specs.Terms.{global_clock}
use Rattle.history.specs.Laws.Walk.{clock_walk}

-- the last reading of a walk
pub walk-last : {A : Type 0} (step : A → GlobalClock → A) (a : A) (reading : GlobalClock) (k : ℕ)
    → clock_walk step a reading (suc k) ≡ step (clock_walk step a reading k) (global_clock (reading.0 + suc k))
unfolding clock_walk
walk-last step a reading zero = refl
walk-last step a reading (suc k) =
    let next = global_clock (reading.0 + 1) in
    walk-last step (step a next) next k ∙ ap (λ (n : ℕ). step (clock_walk step (step a next) next k) (global_clock n)) (omega arith)

-- a walk over k and then m readings
pub walk-append : {A : Type 0} (step : A → GlobalClock → A) (a : A) (reading : GlobalClock) (k m : ℕ)
    → clock_walk step a reading (k + m) ≡ clock_walk step (clock_walk step a reading k) (global_clock (reading.0 + k)) m
unfolding clock_walk
walk-append step a reading zero m = ap₂ (λ (n r : ℕ). clock_walk step a (global_clock r) n) (zero-add m) (sym (add-zero reading.0))
walk-append step a reading (suc k) m =
    let next = global_clock (reading.0 + 1) in
    let shifted : suc k + m ≡ suc (k + m) = omega arith in
    ap (clock_walk step a reading) shifted
    ∙ walk-append step (step a next) next k m
    ∙ ap (λ (n : ℕ). clock_walk step (clock_walk step (step a next) next k) (global_clock n) m) (omega arith)

-- readings that change nothing
pub walk-still : {A : Type 0} (step : A → GlobalClock → A) (a : A) (reading : GlobalClock) (k : ℕ)
    → ((t : GlobalClock) → reading.0 < t.0 → t.0 ≤ reading.0 + k → step a t ≡ a)
    → clock_walk step a reading k ≡ a
unfolding clock_walk
walk-still step a reading zero still = refl
walk-still step a reading (suc k) still =
    let next = global_clock (reading.0 + suc k) in
    walk-last step a reading k
    ∙ ap (λ b. step b next) (walk-still step a reading k (λ t above within. still t above (omega arith)))
    ∙ still next (omega arith) (omega arith)

-- two steps that agree on the readings of a walk make the same walk
pub walk-agree : {A : Type 0} (step other : A → GlobalClock → A) (a : A) (reading : GlobalClock) (k : ℕ)
    → ((t : GlobalClock) → reading.0 < t.0 → t.0 ≤ reading.0 + k → (b : A) → step b t ≡ other b t)
    → clock_walk step a reading k ≡ clock_walk other a reading k
unfolding clock_walk
walk-agree step other a reading zero agree = refl
walk-agree step other a reading (suc k) agree =
    let next = global_clock (reading.0 + suc k) in
    walk-last step a reading k
    ∙ agree next (omega arith) (omega arith) (clock_walk step a reading k)
    ∙ ap (λ b. other b next) (walk-agree step other a reading k (λ t above within. agree t above (omega arith)))
    ∙ sym (walk-last other a reading k)

-- a part that goes its own way is walked by its own step
pub walk-part : {A B : Type 0} (part : A → B) (step : A → GlobalClock → A) (other : B → GlobalClock → B)
    → ((b : A) (t : GlobalClock) → part (step b t) ≡ other (part b) t)
    → (a : A) (reading : GlobalClock) (k : ℕ)
    → part (clock_walk step a reading k) ≡ clock_walk other (part a) reading k
unfolding clock_walk
walk-part part step other own a reading zero = refl
walk-part part step other own a reading (suc k) =
    let next = global_clock (reading.0 + 1) in
    walk-part part step other own (step a next) next k ∙ ap (λ b. clock_walk other b next k) (own a next)
