-- The first place of a byte, and folds over bytes, one byte after the other. Assumes nothing.
use Rattle.std.specs.Prelude.{ℕ, suc, ◌+◌, ◌≤◌, ◌<◌, ◌≡◌, length, get_or, drop, List, [], ◌∷◌, refl, eqb, cond}
use Rattle.std.specs.List.{fold, position_or_len}
use mathlib.Core.List.{foldl}
use Rattle.std.proofs.Common.{ap, ◌∙◌, add-one, arith, drop-cons, eq-eqb, ne_eqb}
use Rattle.std.proofs.lemmas.List.Sums.{position_or_len_is}
use Rattle.std.proofs.lemmas.List.Recursion.{is_position_or_len}
use Rattle.text.specs.Text.{before}

-- ---- the first place of a byte

before_position : (byte : ℕ) (s : List ℕ) → before byte s ≡ position_or_len (λ b. eqb b byte) s
unfolding before
before_position byte s =
    is_position_or_len (before byte) (λ b. eqb b byte) refl
    (λ b s. ap (λ (n : ℕ). cond (eqb b byte) 0 n) {x = suc (before byte s)} {y = 1 + before byte s} (omega arith))
    s

-- so many that none of them is such a byte, and the one behind them is
pub before_is : (byte : ℕ) (s : List ℕ) (n : ℕ) → n ≤ length s → ((k : ℕ) → k < n → get_or s k 0 ≡ byte → ⊥) → (n < length s → get_or s n 0 ≡ byte)
    → before byte s ≡ n
before_is byte s n within none found =
    before_position byte s
    ∙ position_or_len_is (λ b. eqb b byte) s n 0 within (λ k below. ne_eqb (get_or s k 0) byte (none k below))
    (λ inside. eq-eqb (get_or s n 0) byte (found inside))

-- ---- folds

-- the library's fold is the logic's
pub fold_same : {A B : Type 0} (f : B → A → B) (a : B) (xs : List A) → fold f a xs ≡ foldl f a xs
fold_same f a [] = refl
fold_same f a (x ∷ xs) = fold_same f (f a x) xs

-- a fold over the bytes from a place on takes the byte there first
pub fold_next : {A : Type 0} (step : A → ℕ → A) (a b : A) (s : List ℕ) (i : ℕ) → i < length s → step a (get_or s i 0) ≡ b
    → foldl step a (drop i s) ≡ foldl step b (drop (i + 1) s)
fold_next step a b s i within e = rw (add-one, drop-cons s i 0, ← e)
