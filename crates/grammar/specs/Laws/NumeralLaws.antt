-- Digits read one by one. Assumes nothing.
use Rattle.std.specs.Prelude.{ℕ, ◌+◌, ◌-◌, ◌*◌, ◌≤◌, ◌<◌, ◌≡◌, refl, Bool, true, false, not, cond, ◌&&◌, List, [], ◌∷◌, leb, length, Option, None, Some}
use Rattle.std.proofs.Common.{le_refl, arith, ap, le-leb, eq-eqb, ne_eqb}
use Rattle.std.proofs.Math.Bool.{and-false}
use Rattle.std.proofs.lemmas.Bool.{lt-leb, leb-true, leb-false}
use Rattle.forms.specs.Limits.{max_word}
use Rattle.text.specs.Text.{zero_digit, is_digit}
use Rattle.grammar.specs.Numeral.{all_digits, value_from, unpadded, figure_of}

-- ---- a number read

-- a number and the digit behind it, where the byte is a digit and what they stand for is not too large
unfoldable pub with_digit : ℕ → ℕ → Option ℕ
with_digit n b = cond (is_digit b && leb (n * 10 + (b - zero_digit)) max_word) (Some (n * 10 + (b - zero_digit))) None

-- the number that digits stand for behind others, where each byte is a digit and what they stand for is not too large
unfoldable pub read_behind : ℕ → List ℕ → Option ℕ
read_behind n s = cond (all_digits s && leb (value_from n s) max_word) (Some (value_from n s)) None

pub digit-within : (b : ℕ) → zero_digit ≤ b → b ≤ zero_digit + 9 → is_digit b ≡ true
digit-within b h l = rw (le-leb zero_digit b h, le-leb b (zero_digit + 9) l)

digit-other : (b : ℕ) → (zero_digit ≤ b → b ≤ zero_digit + 9 → ⊥) → is_digit b ≡ false
digit-other b other = go (leb zero_digit b) (leb b (zero_digit + 9)) refl refl
  where
    go : (l h : Bool) → leb zero_digit b ≡ l → leb b (zero_digit + 9) ≡ h → (l && h) ≡ false
    go true true e f = absurd (other (leb-true _ _ e) (leb-true _ _ f))
    go true false e f = refl
    go false h e f = refl

pub no-digit : (n b : ℕ) → (zero_digit ≤ b → b ≤ zero_digit + 9 → ⊥) → with_digit n b ≡ None
unfolding with_digit
no-digit n b other = rw (digit-other b other)

pub digit-large : (n b : ℕ) → max_word < n * 10 + (b - zero_digit) → with_digit n b ≡ None
unfolding with_digit
digit-large n b h = rw (lt-leb (n * 10 + (b - zero_digit)) max_word h, and-false)

pub digit-more : (n b : ℕ) → zero_digit ≤ b → b ≤ zero_digit + 9 → n * 10 + (b - zero_digit) ≤ max_word → with_digit n b ≡ Some (n * 10 + (b - zero_digit))
unfolding with_digit
digit-more n b low high h = rw (digit-within b low high, le-leb (n * 10 + (b - zero_digit)) max_word h)

pub read-none : (n : ℕ) → n ≤ max_word → read_behind n [] ≡ Some n
unfolding read_behind all_digits value_from
read-none n h = rw (le-leb n max_word h)

value_grows : (n : ℕ) (s : List ℕ) → n ≤ value_from n s
unfolding value_from
value_grows n [] = le_refl n
value_grows n (b ∷ s) = omega (arith, value_grows (n * 10 + (b - zero_digit)) s)

-- a digit more
pub read-digit : (n b m : ℕ) (s : List ℕ) → with_digit n b ≡ Some m → read_behind n (b ∷ s) ≡ read_behind m s
unfolding with_digit read_behind all_digits value_from
read-digit n b m s e = go (is_digit b) (leb (n * 10 + (b - zero_digit)) max_word) e
  where
    go : (d l : Bool) → cond (d && l) (Some (n * 10 + (b - zero_digit))) None ≡ Some m
        → cond ((d && all_digits s) && leb (value_from (n * 10 + (b - zero_digit)) s) max_word) (Some (value_from (n * 10 + (b - zero_digit)) s)) None
        ≡ cond (all_digits s && leb (value_from m s) max_word) (Some (value_from m s)) None
    go true true e = let same : n * 10 + (b - zero_digit) ≡ m = cc in ap (λ (k : ℕ). cond (all_digits s && leb (value_from k s) max_word) (Some (value_from k s)) None) same
    go true false e = cc
    go false l e = cc

-- a byte that is no digit, or one that makes the number too large
pub read-stops : (n b : ℕ) (s : List ℕ) → with_digit n b ≡ None → read_behind n (b ∷ s) ≡ None
unfolding with_digit read_behind all_digits value_from
read-stops n b s e = go (is_digit b) (leb (n * 10 + (b - zero_digit)) max_word) refl e
  where
    go : (d l : Bool) → leb (n * 10 + (b - zero_digit)) max_word ≡ l → cond (d && l) (Some (n * 10 + (b - zero_digit))) None ≡ None
        → cond ((d && all_digits s) && leb (value_from (n * 10 + (b - zero_digit)) s) max_word) (Some (value_from (n * 10 + (b - zero_digit)) s)) None ≡ None
    go true true f e = cc
    go true false f e =
        let large : leb (value_from (n * 10 + (b - zero_digit)) s) max_word ≡ false = lt-leb _ _ (omega (arith, value_grows (n * 10 + (b - zero_digit)) s, leb-false _ _ f)) in
        rw (large, and-false)
    go false l f e = refl

-- what is read is not too large
pub with-digit-fits : (n b m : ℕ) → with_digit n b ≡ Some m → m ≤ max_word
unfolding with_digit
with-digit-fits n b m e = go (is_digit b) (leb (n * 10 + (b - zero_digit)) max_word) refl e
  where
    go : (d l : Bool) → leb (n * 10 + (b - zero_digit)) max_word ≡ l → cond (d && l) (Some (n * 10 + (b - zero_digit))) None ≡ Some m → m ≤ max_word
    go true true f e = let same : n * 10 + (b - zero_digit) ≡ m = cc in omega (arith, leb-true _ _ f)
    go true false f e = cc
    go false l f e = cc

-- ---- a figure

pub figure-padded : (s : List ℕ) → unpadded s ≡ false → figure_of s ≡ None
unfolding figure_of
figure-padded s e = ap (λ (b : Bool). cond (b && (all_digits s && leb (value_from 0 s) max_word)) (Some (value_from 0 s)) None) e

pub figure-read : (s : List ℕ) → unpadded s ≡ true → figure_of s ≡ read_behind 0 s
unfolding figure_of read_behind
figure-read s e = ap (λ (b : Bool). cond (b && (all_digits s && leb (value_from 0 s) max_word)) (Some (value_from 0 s)) None) e

-- a 0 before another byte, a byte alone, and a byte that is no 0
pub padded-zero : (b : ℕ) (s : List ℕ) → b ≡ zero_digit → (length s ≡ 0 → ⊥) → unpadded (b ∷ s) ≡ false
padded-zero b [] e more = absurd (more refl)
padded-zero b (c ∷ s) e more = ap not (eq-eqb b zero_digit e)

pub unpadded-one : (b : ℕ) (s : List ℕ) → length s ≡ 0 → unpadded (b ∷ s) ≡ true
unpadded-one b [] none = refl
unpadded-one b (c ∷ s) none = absurd (omega arith)

pub unpadded-other : (b : ℕ) (s : List ℕ) → (b ≡ zero_digit → ⊥) → unpadded (b ∷ s) ≡ true
unpadded-other b [] other = refl
unpadded-other b (c ∷ s) other = ap not (ne_eqb b zero_digit other)
