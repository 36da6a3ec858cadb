-- Bytes stored in a text, with room for them and without, a number's digits as the library `io` writes them, and words with figures in them,
-- one byte after the other. Assumes nothing.
use Rattle.std.specs.Prelude.{ℕ, zero, suc, ◌+◌, ◌-◌, ◌/◌, ◌%◌, ◌^◌, ◌≤◌, ◌<◌, ◌≡◌, refl, Bool, true, false, cond, List, [], ◌∷◌, ◌++◌, leb, ltb, length, get_or, take, drop, replicate}
use Rattle.std.proofs.Common.{le_refl, add_comm, add-zero, mod-lt, mod-eq_of_lt, pow-suc, div-lt_iff_lt-mul, le-div_iff_mul-le, add-one, arith, sym, ap, ap₂, ◌∙◌, length-append, length-drop, drop-cons, drop_of_length-le, take-append-drop, lt-ltb, le-ltb, ltb-true, ltb-false, le-leb, leb-true, leb-false, eq-eqb, ne_eqb}
use Rattle.std.proofs.Math.Nat.{one-le-pow, pow-le-pow_right}
use Rattle.std.proofs.Math.Seq.{take-append_seam}
use Rattle.std.proofs.lemmas.Bool.{lt-leb}
use Rattle.forms.specs.Bytes.{overwrite}
use Rattle.forms.specs.Laws.BytesLaws.{overwrite-fits, overwrite-out}
use Rattle.forms.specs.Limits.{max_word}
use Rattle.io.specs.Digits.{last_digits, hex_digit_ascii, IsDigitCount}
use Rattle.text.specs.Line.{Filled, byte_filled, figure_at, max_digits, numeral, numeral_in, spaced, stored_end}
use Rattle.text.specs.Text.{zero_digit}

-- ---- bytes stored

pub stored-fits : (text : List ℕ) (at : ℕ) (v : List ℕ) → at + length v ≤ length text → stored_end text at v ≡ at + length v
unfolding stored_end
stored-fits text at v fits = rw (le-leb _ _ fits)

pub stored-out : (text : List ℕ) (at : ℕ) (v : List ℕ) → length text < at + length v → stored_end text at v ≡ at
unfolding stored_end
stored-out text at v over = rw (lt-leb _ _ over)

-- without room the text stays as it is, and so does the place
pub nothing_stored : (text : List ℕ) (at : ℕ) (v : List ℕ) → length text < at + length v → (at ≡ stored_end text at v) × (text ≡ overwrite text at v)
nothing_stored text at v over = (sym (stored-out text at v over), sym (overwrite-out text at v over))

-- what was put is the same bytes by another name
pub put_same : (text : List ℕ) (at : ℕ) (v w : List ℕ) {end : ℕ} {after : List ℕ} → v ≡ w
    → (end ≡ stored_end text at v) × (after ≡ overwrite text at v)
    → (end ≡ stored_end text at w) × (after ≡ overwrite text at w)
put_same text at v w same put = (put.0 ∙ ap (stored_end text at) same, put.1 ∙ ap (overwrite text at) same)

-- ---- a number

pub length-numeral : (places n : ℕ) → length (numeral_in places n) ≤ places
unfolding numeral_in
length-numeral zero n = le_refl 0
length-numeral (suc places) n = go (ltb n 10) (length-numeral places (n / 10))
  where
    go : (b : Bool) → length (numeral_in places (n / 10)) ≤ places
        → length (cond b ((zero_digit + n) ∷ []) (numeral_in places (n / 10) ++ ((zero_digit + n % 10) ∷ []))) ≤ suc places
    go true h = omega arith
    go false h = simp length-append (omega arith)

length_digits : (r n : ℕ) → length (last_digits 10 r n) ≡ r
length_digits zero n = refl
length_digits (suc r) n = simp length-append (omega (arith, length_digits r (n / 10)))

glyph-small : (d : ℕ) → d < 10 → hex_digit_ascii d ≡ zero_digit + d
glyph-small d h = rw (lt-ltb d 10 h)

-- fewer than ten is one digit
digits-small : (r n : ℕ) → n < 10 → IsDigitCount 10 1 n (suc r) → last_digits 10 (suc r) n ≡ (zero_digit + n) ∷ []
digits-small zero n h f = ap (λ (d : ℕ). d ∷ []) (glyph-small (n % 10) (mod-lt n (omega arith)) ∙ ap (λ (d : ℕ). zero_digit + d) (mod-eq_of_lt h))
digits-small (suc r) n h f =
    let e : suc (suc r) - 1 ≡ suc r = omega arith in
    absurd (omega (arith, f.2 (omega arith), ap (λ (k : ℕ). 10 ^ k) e, pow-suc 10 r, one-le-pow r 10 (omega arith)))

-- ten and more has a digit more than its tens have
fewest-tens : (r n : ℕ) → 10 ≤ n → IsDigitCount 10 1 n (suc r) → IsDigitCount 10 1 (n / 10) r
fewest-tens zero n h f = absurd (omega arith)
fewest-tens (suc r) n h f = (
  omega arith,
  (div-lt_iff_lt-mul {k = 10} {x = n} (omega arith)).1 (rw pow-suc at f.1),
  λ g.
      let e : suc (suc r) - 1 ≡ suc (suc r - 1) = omega arith in
      (le-div_iff_mul-le {k = 10} (omega arith)).1 (omega (arith, f.2 (omega arith), ap (λ (k : ℕ). 10 ^ k) e, pow-suc 10 (suc r - 1))),
)

digits-numeral : (places r n : ℕ) → r ≤ places → IsDigitCount 10 1 n r → last_digits 10 r n ≡ numeral_in places n
unfolding numeral_in
digits-numeral places zero n h f = absurd (omega arith)
digits-numeral zero (suc r) n h f = absurd (omega arith)
digits-numeral (suc places) (suc r) n h f = go (ltb n 10) refl (digits-numeral places r (n / 10) (omega arith))
  where
    go : (b : Bool) → ltb n 10 ≡ b → (IsDigitCount 10 1 (n / 10) r → last_digits 10 r (n / 10) ≡ numeral_in places (n / 10))
        → last_digits 10 (suc r) n ≡ cond b ((zero_digit + n) ∷ []) (numeral_in places (n / 10) ++ ((zero_digit + n % 10) ∷ []))
    go true e tens = digits-small r n (ltb-true n 10 e) f
    go false e tens =
        ap₂ (λ (s : List ℕ) (d : ℕ). s ++ (d ∷ []))
        (tens (fewest-tens r n (ltb-false n 10 e) f))
        (glyph-small (n % 10) (mod-lt n (omega arith)))

-- a number of 32 bits has at most ten
fewest-places : (n r : ℕ) → n ≤ max_word → IsDigitCount 10 1 n r → r ≤ max_digits
fewest-places n r h f = go (leb r max_digits) refl
  where
    go : (b : Bool) → leb r max_digits ≡ b → r ≤ max_digits
    go true e = leb-true r max_digits e
    go false e =
        let more : max_digits < r = leb-false r max_digits e in
        absurd (omega (arith, f.2 (omega arith), pow-le-pow_right {n = 10} (omega arith) {i = 10} {j = r - 1} (omega arith)))

-- the library's digits of a number of 32 bits
pub decimal-numeral : (n r : ℕ) → n ≤ max_word → IsDigitCount 10 1 n r → last_digits 10 r n ≡ numeral n
decimal-numeral n r h f = digits-numeral max_digits r n (fewest-places n r h f) f

-- and how many they are
pub decimal-length : (n r : ℕ) → n ≤ max_word → IsDigitCount 10 1 n r → r ≡ length (numeral n)
decimal-length n r h f = sym (length_digits r n) ∙ ap length (decimal-numeral n r h f)

-- ---- a figure, behind a space

-- the digits of a number of 32 bits, stored behind the first of eleven spaces
pub spaced-made : (n : ℕ) {end : ℕ} {made : List ℕ} → end ≡ stored_end (replicate {A = ℕ} 11 32) 1 (numeral n)
    → made ≡ overwrite (replicate {A = ℕ} 11 32) 1 (numeral n) → (end ≡ 1 + length (numeral n)) × (take end made ≡ spaced n)
spaced-made n e m =
    let few : 1 + length (numeral n) ≤ 11 = omega (arith, length-numeral max_digits n) in
    let last = e ∙ stored-fits (replicate {A = ℕ} 11 32) 1 (numeral n) few in
    let rest : List ℕ = drop (1 + length (numeral n)) (replicate {A = ℕ} 11 32) in (
      last,
      ap₂ (λ (k : ℕ) (l : List ℕ). take k l) (last ∙ add_comm 1 (length (numeral n)) ∙ add-one (length (numeral n)))
          (m ∙ overwrite-fits (replicate {A = ℕ} 11 32) 1 (numeral n) few)
          ∙ ap (λ (l : List ℕ). 32 ∷ l) (take-append_seam (numeral n) rest),
    )

-- ---- words with figures in them

-- nothing is put where nothing is asked for
pub nothing_put : (text : List ℕ) (at : ℕ) → (at ≡ stored_end text at []) × (text ≡ overwrite text at [])
nothing_put text at = go (leb (at + 0) (length text)) refl
  where
    go : (b : Bool) → leb (at + 0) (length text) ≡ b → (at ≡ stored_end text at []) × (text ≡ overwrite text at [])
    go true e =
        let fits = leb-true _ _ e in (
          sym (stored-fits text at [] fits ∙ add-zero at),
          sym (overwrite-fits text at [] fits ∙ ap (λ (k : ℕ). take at text ++ drop k text) (add-zero at) ∙ take-append-drop at text),
        )
    go false e = nothing_stored text at [] (leb-false _ _ e)

pub figure-there : (figures : List ℕ) (place : ℕ) → place < length figures → figure_at figures place ≡ spaced (get_or figures place 0)
unfolding figure_at
figure-there figures place h = rw (lt-ltb _ _ h)

pub figure-missing : (figures : List ℕ) (place : ℕ) → length figures ≤ place → figure_at figures place ≡ []
unfolding figure_at
figure-missing figures place h = rw (le-ltb _ _ h)

-- the figures behind those asked for begin with the one asked for next, or there is none

pub figure-next : (figures : List ℕ) (asked : ℕ) {figure : ℕ} {rest : List ℕ} → figure ∷ rest ≡ drop asked figures
    → (figure_at figures asked ≡ spaced figure) × (rest ≡ drop (asked + 1) figures)
figure-next figures asked {figure} {rest} e =
    let within : asked < length figures = omega (arith, ap length e, length-drop asked figures) in
    let first : figure ∷ rest ≡ get_or figures asked 0 ∷ drop (suc asked) figures = e ∙ drop-cons figures asked 0 within in
    (figure-there figures asked within ∙ ap spaced cc, rw add-one cc)

pub figure-none : (figures : List ℕ) (asked : ℕ) → length (drop asked figures) ≡ 0
    → (figure_at figures asked ≡ []) × (drop asked figures ≡ drop (asked + 1) figures)
figure-none figures asked e =
    let past : length figures ≤ asked = omega (arith, e, length-drop asked figures) in
    (figure-missing figures asked past, drop_of_length-le figures past ∙ sym (drop_of_length-le figures (omega arith)))

-- a byte of the words more, as the code puts it
pub figure-filled : (figures : List ℕ) (f : Filled) (b : ℕ) {text : List ℕ} {end asked : ℕ} → b ≡ 35
    → text ≡ overwrite f.text f.end (figure_at figures f.asked) → end ≡ stored_end f.text f.end (figure_at figures f.asked)
    → asked ≡ f.asked + 1 → byte_filled figures f b ≡ record { text = text; end = end; asked = asked }
figure-filled figures f b is t e a = rw (eq-eqb b 35 is) (cc)

pub word-filled : (figures : List ℕ) (f : Filled) (b : ℕ) {text : List ℕ} {end asked : ℕ} → (b ≡ 35 → ⊥)
    → text ≡ overwrite f.text f.end (b ∷ []) → end ≡ stored_end f.text f.end (b ∷ []) → asked ≡ f.asked
    → byte_filled figures f b ≡ record { text = text; end = end; asked = asked }
word-filled figures f b other t e a = rw (ne_eqb b 35 other) (cc)
