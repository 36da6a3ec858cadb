-- Rounds in which nobody acts: the next round with an act lies behind those that are done, and none before it has one. Assumes nothing.
use Rattle.std.specs.Prelude.{◌≡◌, refl, Bool, false, not, cond, ◌&&◌, List, [], ◌∷◌, ℕ, zero, suc, ◌+◌, ◌*◌, ◌/◌, ◌%◌, ◌≤◌, ◌<◌, min, eqb, length}
use Rattle.std.specs.Prelude.{get_or, drop}
use Rattle.std.proofs.Common.{sym, ap, subst, ◌∙◌, div-add-mod', div-lt_iff_lt-mul, div-mul-le_self, mul-le-mul_right, arith, eq-eqb, ne_eqb, add-one}
use Rattle.std.proofs.Common.{drop_of_length-le, drop-cons}
use Rattle.std.proofs.Math.Nat.{lt-div-mul-add}
use mathlib.Core.List.{foldl}
use Rattle.tablets.specs.Laws.Idle.{never, next_round, next_turn}
use Rattle.tablets.specs.Rounds.{divides, turns_from}
use Rattle.tablets.specs.Tablet.{Tablet}

-- ---- one period

-- no round is divided by the period 0, and it never has a turn
pub divides-none : (period round : ℕ) → period ≡ 0 → divides period round ≡ false
divides-none period round e = ap (λ (b : Bool). not b && eqb (round % period) 0) (eq-eqb period 0 e)

pub divides-some : (period round : ℕ) → (period ≡ 0 → ⊥) → divides period round ≡ eqb (round % period) 0
divides-some period round some = ap (λ (b : Bool). not b && eqb (round % period) 0) (ne_eqb period 0 some)

pub turn-none : (period done : ℕ) → period ≡ 0 → next_turn period done ≡ never
unfolding next_turn
turn-none period done e = ap (λ (b : Bool). cond b never ((done / period + 1) * period)) (eq-eqb period 0 e)

pub turn-some : (period done : ℕ) → (period ≡ 0 → ⊥) → next_turn period done ≡ (done / period + 1) * period
unfolding next_turn
turn-some period done some = ap (λ (b : Bool). cond b never ((done / period + 1) * period)) (ne_eqb period 0 some)

-- the next turn is at most a period away
pub turn_near : (period done : ℕ) → (done / period + 1) * period ≤ done + period
turn_near period done = omega (arith, div-mul-le_self done period)

-- it lies behind the rounds that are done
turn-later : (period done : ℕ) → done < never → done < next_turn period done
turn-later zero done h = subst (λ (n : ℕ). done < n) (sym (turn-none 0 done refl)) h
turn-later (suc p) done h = later (suc p) (omega arith)
  where
    later : (period : ℕ) → (period ≡ 0 → ⊥) → done < next_turn period done
    later period some = omega (arith, turn-some period done some, lt-div-mul-add {a = done} {b = period} (omega arith))

-- and the period divides no round between
turn-idle : (period done round : ℕ) → done < round → round < next_turn period done → divides period round ≡ false
turn-idle zero done round behind before = divides-none 0 round refl
turn-idle (suc p) done round behind before = idle (suc p) (omega arith) before
  where
    idle : (period : ℕ) → (period ≡ 0 → ⊥) → round < next_turn period done → divides period round ≡ false
    idle period some h =
        divides-some period round some
        ∙ ne_eqb (round % period) 0
        (λ e.
        let whole : round / period * period ≡ round = omega (arith, div-add-mod' round period) in
        let above : done / period < round / period = (div-lt_iff_lt-mul {k = period} (omega arith)).1 (omega arith) in
        let far : (done / period + 1) * period ≤ round / period * period = mul-le-mul_right period (omega arith) in
        omega (arith, turn-some period done some))

-- ---- some tablets

pub next-later : (ts : List Tablet) (done : ℕ) → done < never → done < next_round ts done
unfolding next_round
next-later [] done h = h
next-later (t ∷ ts) done h = omega (arith, turn-later t.period done h, next-later ts done h)

pub next-bound : (ts : List Tablet) (done : ℕ) → next_round ts done ≤ never
unfolding next_round
next-bound [] done = omega arith
next-bound (t ∷ ts) done = omega (arith, next-bound ts done)

-- the nearer one of a turn and of theirs, tablet by tablet
pub next-nearest : (ts : List Tablet) (done n : ℕ) → n ≤ never
    → foldl (λ (m : ℕ) (t : Tablet). min m (next_turn t.period done)) n ts ≡ min n (next_round ts done)
unfolding next_round
next-nearest [] done n h = omega arith
next-nearest (t ∷ ts) done n h =
    let rest : foldl (λ (m : ℕ) (u : Tablet). min m (next_turn u.period done)) (min n (next_turn t.period done)) ts
    ≡ min (min n (next_turn t.period done)) (next_round ts done) = next-nearest ts done (min n (next_turn t.period done)) (omega arith) in
    rest ∙ omega arith

pub round-idle : (ts : List Tablet) (done round number : ℕ) → done < round → round < next_round ts done → turns_from round number ts ≡ []
unfolding next_round turns_from
round-idle [] done round number behind before = refl
round-idle (t ∷ ts) done round number behind before =
    let rest = turns_from round (suc number) ts in
    ap (λ (b : Bool). cond b (record { round = round; number = number } ∷ rest) rest) (turn-idle t.period done round behind (omega arith))
    ∙ round-idle ts done round (suc number) behind (omega arith)

-- of the tablets from a number on: the first of them, and the others
pub next-from : (ts : List Tablet) (i done : ℕ) (z : Tablet) → i < length ts
    → next_round (drop i ts) done ≡ min (next_turn (get_or ts i z).period done) (next_round (drop (i + 1) ts) done)
unfolding next_round
next-from ts i done z h =
    ap (λ (l : List Tablet). next_round l done) (drop-cons ts i z h)
    ∙ ap (λ (n : ℕ). min (next_turn (get_or ts i z).period done) (next_round (drop n ts) done)) (sym (add-one i))

pub next_past : (ts : List Tablet) (i done : ℕ) → length ts ≤ i → next_round (drop i ts) done ≡ never
unfolding next_round
next_past ts i done h = ap (λ (l : List Tablet). next_round l done) (drop_of_length-le ts h)
