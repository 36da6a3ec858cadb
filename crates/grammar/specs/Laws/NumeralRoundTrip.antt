-- Reading and writing of figures are inverse to each other. Assumes nothing.
use Rattle.std.specs.Prelude.{ℕ, zero, suc, ◌+◌, ◌-◌, ◌*◌, ◌/◌, ◌%◌, ◌^◌, ◌≤◌, ◌<◌, ◌≡◌, refl, Bool, true, false, not, cond, ◌&&◌, List, [], ◌∷◌, ◌++◌, eqb, leb, ltb, length, Some, None}
use Rattle.std.proofs.Common.{le_trans, mod-lt, pow-suc, one-mul, div-lt_iff_lt-mul, le-div_iff_mul-le, div-add-mod', mul_assoc, mul-le-mul_right, arith, sym, ap, ap₂, ◌∙◌, subst, append_assoc, append-nil, length-append, lt-ltb, le-ltb, ltb-true, ltb-false, le-leb, leb-true, leb-false, ne_eqb}
use Rattle.std.proofs.Math.Nat.{pow-succ', div-eq_of_lt-le, pow-le-pow_right}
use Rattle.std.proofs.lemmas.Bool.{false≢true, eqb-false, not-true}
use Rattle.forms.specs.Limits.{max_word}
use Rattle.forms.specs.Laws.TestsLaws.{both}
use Rattle.text.specs.Line.{numeral, numeral_in, max_digits}
use Rattle.text.specs.Text.{zero_digit, is_digit}
use Rattle.grammar.specs.Numeral.{all_digits, value_from, value_of, unpadded, figure_of}
use Rattle.grammar.specs.Laws.NumeralLaws.{digit-within}

-- ---- one digit more

digits_more : (s : List ℕ) (b : ℕ) → all_digits (s ++ (b ∷ [])) ≡ (all_digits s && is_digit b)
unfolding all_digits
digits_more [] b = go (is_digit b)
  where
    go : (t : Bool) → (t && true) ≡ (true && t)
    go true = refl
    go false = refl
digits_more (a ∷ s) b = go (is_digit a) (digits_more s b)
  where
    go : (t : Bool) → all_digits (s ++ (b ∷ [])) ≡ (all_digits s && is_digit b) → (t && all_digits (s ++ (b ∷ []))) ≡ (t && all_digits s && is_digit b)
    go true e = e
    go false e = refl

value-more : (n : ℕ) (s : List ℕ) (b : ℕ) → value_from n (s ++ (b ∷ [])) ≡ value_from n s * 10 + (b - zero_digit)
unfolding value_from
value-more n [] b = refl
value-more n (a ∷ s) b = value-more (n * 10 + (a - zero_digit)) s b

-- the first digit is there and is no 0
headed : List ℕ → Bool
headed [] = false
headed (b ∷ s) = not (eqb b zero_digit)

headed-more : (s : List ℕ) (b : ℕ) → headed s ≡ true → headed (s ++ (b ∷ [])) ≡ true
unfolding headed
headed-more [] b h = absurd (false≢true h)
headed-more (a ∷ s) b h = h

headed-unpadded : (s : List ℕ) → headed s ≡ true → unpadded s ≡ true
unfolding headed
headed-unpadded [] h = h
headed-unpadded (b ∷ []) h = refl
headed-unpadded (b ∷ c ∷ s) h = h

-- ---- what is written is read again

last-digit : (n : ℕ) → is_digit (zero_digit + n % 10) ≡ true
last-digit n = let small : n % 10 < 10 = mod-lt n (omega arith) in digit-within (zero_digit + n % 10) (omega arith) (omega arith)

numeral-digits : (places n : ℕ) → all_digits (numeral_in places n) ≡ true
unfolding numeral_in all_digits
numeral-digits zero n = refl
numeral-digits (suc places) n = go (ltb n 10) refl (numeral-digits places (n / 10))
  where
    go : (t : Bool) → ltb n 10 ≡ t → all_digits (numeral_in places (n / 10)) ≡ true
        → all_digits (cond t ((zero_digit + n) ∷ []) (numeral_in places (n / 10) ++ ((zero_digit + n % 10) ∷ []))) ≡ true
    go true e h =
        let small : n < 10 = ltb-true n 10 e in
        ap (λ (t : Bool). t && true) (digit-within (zero_digit + n) (omega arith) (omega arith))
    go false e h = digits_more (numeral_in places (n / 10)) (zero_digit + n % 10) ∙ ap₂ ◌&&◌ h (last-digit n)

tens-fit : (places n : ℕ) → n < 10 ^ suc places → n / 10 < 10 ^ places
tens-fit places n h = (div-lt_iff_lt-mul {k = 10} {x = n} (omega arith)).1 (rw pow-suc at h)

numeral-value : (places n : ℕ) → n < 10 ^ places → value_of (numeral_in places n) ≡ n
unfolding numeral_in value_from
numeral-value zero n h = omega arith
numeral-value (suc places) n h = go (ltb n 10) refl (numeral-value places (n / 10) (tens-fit places n h))
  where
    go : (t : Bool) → ltb n 10 ≡ t → value_of (numeral_in places (n / 10)) ≡ n / 10
        → value_of (cond t ((zero_digit + n) ∷ []) (numeral_in places (n / 10) ++ ((zero_digit + n % 10) ∷ []))) ≡ n
    go true e tens = omega arith
    go false e tens = value-more 0 (numeral_in places (n / 10)) (zero_digit + n % 10) ∙ omega (arith, tens, div-add-mod' n 10)

numeral-headed : (places n : ℕ) → 0 < n → n < 10 ^ places → headed (numeral_in places n) ≡ true
unfolding numeral_in headed
numeral-headed zero n pos h = absurd (omega arith)
numeral-headed (suc places) n pos h = go (ltb n 10) refl (λ p. numeral-headed places (n / 10) p (tens-fit places n h))
  where
    go : (t : Bool) → ltb n 10 ≡ t → (0 < n / 10 → headed (numeral_in places (n / 10)) ≡ true)
        → headed (cond t ((zero_digit + n) ∷ []) (numeral_in places (n / 10) ++ ((zero_digit + n % 10) ∷ []))) ≡ true
    go true e tens = ap not (ne_eqb (zero_digit + n) zero_digit (λ z. omega arith))
    go false e tens =
        headed-more (numeral_in places (n / 10)) (zero_digit + n % 10) (tens ((le-div_iff_mul-le {k = 10} (omega arith)).1 (omega (arith, ltb-false n 10 e))))

numeral-unpadded : (places n : ℕ) → n < 10 ^ suc places → unpadded (numeral_in (suc places) n) ≡ true
unfolding numeral_in
numeral-unpadded places n h = go (ltb n 10) refl
  where
    go : (t : Bool) → ltb n 10 ≡ t → unpadded (cond t ((zero_digit + n) ∷ []) (numeral_in places (n / 10) ++ ((zero_digit + n % 10) ∷ []))) ≡ true
    go true e = refl
    go false e =
        let tens : 0 < n / 10 = (le-div_iff_mul-le {k = 10} (omega arith)).1 (omega (arith, ltb-false n 10 e)) in
        headed-unpadded _ (headed-more _ _ (numeral-headed places (n / 10) tens (tens-fit places n h)))

pub read-numeral : (n : ℕ) → n ≤ max_word → figure_of (numeral n) ≡ Some n
unfolding figure_of
read-numeral n h =
    let small : n < 10 ^ 10 = omega arith in
    rw (numeral-unpadded 9 n small, numeral-digits 10 n, numeral-value 10 n small, le-leb n max_word h)

-- ---- what is read is what is written

-- a list, grown from its end
data Grown : List ℕ → Type 0 where
  none : Grown []
  more : {s : List ℕ} → Grown s → (b : ℕ) → Grown (s ++ (b ∷ []))

grown-onto : {a : List ℕ} → Grown a → (s : List ℕ) → Grown (a ++ s)
grown-onto {a} g [] = rw append-nil g
grown-onto {a} g (b ∷ s) = subst Grown (append_assoc a (b ∷ []) s) (grown-onto (more g b) s)

value-least : (n : ℕ) (s : List ℕ) → n * 10 ^ length s ≤ value_from n s
unfolding value_from
value-least n [] = omega arith
value-least n (b ∷ s) =
    le_trans
    (subst (λ (m : ℕ). m ≤ (n * 10 + (b - zero_digit)) * 10 ^ length s) (mul_assoc n 10 (10 ^ length s) ∙ ap (λ (m : ℕ). n * m) (sym (pow-succ' 10 (length s))))
    (mul-le-mul_right (10 ^ length s) (omega arith)))
    (value-least (n * 10 + (b - zero_digit)) s)

digit-least : (b : ℕ) → is_digit b ≡ true → (zero_digit ≤ b) × (b ≤ zero_digit + 9)
digit-least b e = let t = both (leb zero_digit b) (leb b (zero_digit + 9)) e in (leb-true _ _ t.0, leb-true _ _ t.1)

-- a figure of more digits is larger
headed-value : (s : List ℕ) (k : ℕ) → headed s ≡ true → all_digits s ≡ true → k < length s → 10 ^ k ≤ value_of s
unfolding headed all_digits value_from
headed-value [] k h d l = absurd (omega arith)
headed-value (b ∷ s) k h d l =
    let first = digit-least b (both (is_digit b) (all_digits s) d).0 in
    let other = eqb-false b zero_digit (not-true _ h) in
    let one : 1 ≤ 0 * 10 + (b - zero_digit) = above b first.0 other in
    le_trans (pow-le-pow_right {n = 10} (omega arith) {i = k} {j = length s} (omega arith))
    (le_trans
    (subst (λ (m : ℕ). m ≤ (0 * 10 + (b - zero_digit)) * 10 ^ length s) (one-mul (10 ^ length s)) (mul-le-mul_right (10 ^ length s) one))
    (value-least (0 * 10 + (b - zero_digit)) s))
  where
    above : (b : ℕ) → zero_digit ≤ b → (b ≡ zero_digit → ⊥) → 1 ≤ 0 * 10 + (b - zero_digit)
    above b l other = omega arith

-- a line of digits that goes on behind its first is headed where it is not padded
unpadded-headed : (s : List ℕ) (b : ℕ) → 0 < length s → unpadded (s ++ (b ∷ [])) ≡ true → headed s ≡ true
unfolding headed
unpadded-headed [] b l u = absurd (omega arith)
unpadded-headed (a ∷ []) b l u = u
unpadded-headed (a ∷ c ∷ s) b l u = u

-- a number and one digit more, written
numeral-more : (places n d : ℕ) → d < 10 → 0 < n → numeral_in (suc places) (n * 10 + d) ≡ numeral_in places n ++ ((zero_digit + d) ∷ [])
unfolding numeral_in
numeral-more places n d h pos =
    let large : 10 ≤ n * 10 + d = omega arith in
    let front : (n * 10 + d) / 10 ≡ n = div-eq_of_lt-le {k = n} 10 (omega arith) (omega arith) in
    let back : (n * 10 + d) % 10 ≡ d = omega (arith, div-add-mod' (n * 10 + d) 10) in
    let m : ℕ = n * 10 + d in
    ap (λ (t : Bool). cond t ((zero_digit + m) ∷ []) (numeral_in places (m / 10) ++ ((zero_digit + m % 10) ∷ []))) (le-ltb m 10 large)
    ∙ ap₂ (λ (f e : ℕ). numeral_in places f ++ ((zero_digit + e) ∷ [])) front back

numeral-one : (places d : ℕ) → d < 10 → numeral_in (suc places) d ≡ (zero_digit + d) ∷ []
unfolding numeral_in
numeral-one places d h = rw (lt-ltb d 10 h)

spelled-more : (s : List ℕ) (b places : ℕ) → (unpadded s ≡ true → numeral_in places (value_of s) ≡ s) → all_digits s ≡ true → is_digit b ≡ true
    → unpadded (s ++ (b ∷ [])) ≡ true → numeral_in (suc places) (value_of (s ++ (b ∷ []))) ≡ s ++ (b ∷ [])
unfolding value_from
spelled-more [] b places front ds d u =
    let digit = digit-least b d in
    let back : zero_digit + (0 * 10 + (b - zero_digit)) ≡ b = omega arith in
    numeral-one places (0 * 10 + (b - zero_digit)) (omega arith) ∙ ap (λ (e : ℕ). e ∷ []) back
spelled-more (a ∷ s) b places front ds d u =
    let digit = digit-least b d in
    let back : zero_digit + (b - zero_digit) ≡ b = omega arith in
    let h = unpadded-headed (a ∷ s) b (omega arith) u in
    ap (numeral_in (suc places)) (value-more 0 (a ∷ s) b)
    ∙ numeral-more places (value_of (a ∷ s)) (b - zero_digit) (omega arith) (headed-value (a ∷ s) 0 h ds (omega arith))
    ∙ ap₂ (λ (l : List ℕ) (e : ℕ). l ++ (e ∷ [])) (front (headed-unpadded (a ∷ s) h)) back

spelled : {s : List ℕ} → Grown s → (places : ℕ) → length s ≤ places → all_digits s ≡ true → unpadded s ≡ true → numeral_in places (value_of s) ≡ s
spelled none places l d u = absurd (false≢true u)
spelled (more {s} g b) zero l d u = absurd (omega (arith, length-append s (b ∷ [])))
spelled (more {s} g b) (suc places) l d u =
    let ds = both (all_digits s) (is_digit b) (sym (digits_more s b) ∙ d) in
    spelled-more s b places (λ v. spelled g places (omega (arith, length-append s (b ∷ []))) ds.0 v) ds.0 ds.1 u

-- a figure that is not too large has at most ten digits
few-digits : (s : List ℕ) → unpadded s ≡ true → all_digits s ≡ true → value_of s ≤ max_word → length s ≤ max_digits
unfolding headed
few-digits s u d v = go (leb (length s) max_digits) refl
  where
    first : (s : List ℕ) → 1 < length s → unpadded s ≡ true → headed s ≡ true
    first [] l u = absurd (omega arith)
    first (b ∷ []) l u = absurd (omega arith)
    first (b ∷ c ∷ s) l u = u

    go : (t : Bool) → leb (length s) max_digits ≡ t → length s ≤ max_digits
    go true e = leb-true _ _ e
    go false e =
        let l : max_digits < length s = leb-false _ _ e in
        absurd (omega (arith, headed-value s 10 (first s (omega arith) u) d l))

pub numeral-read : (s : List ℕ) (n : ℕ) → figure_of s ≡ Some n → s ≡ numeral n
unfolding figure_of
numeral-read s n e = go (unpadded s && (all_digits s && leb (value_of s) max_word)) refl e
  where
    go : (t : Bool) → (unpadded s && (all_digits s && leb (value_of s) max_word)) ≡ t → cond t (Some (value_of s)) None ≡ Some n
        → s ≡ numeral n
    go false p e = let z : ◌≡◌ {A = ℕ} 0 1 = cc in absurd (omega arith)
    go true p e =
        let u = both (unpadded s) (all_digits s && leb (value_of s) max_word) p in
        let d = both (all_digits s) (leb (value_of s) max_word) u.1 in
        let v : value_of s ≡ n = cc in
        sym (spelled (grown-onto none s) max_digits (few-digits s u.0 d.0 (leb-true _ _ d.1)) d.0 u.0) ∙ ap numeral v
