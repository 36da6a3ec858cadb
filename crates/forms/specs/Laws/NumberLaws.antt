-- Laws of big-endian numbers, over the width: a number stored reads as that number, bytes read as a number are its digits, and a number
-- reads the same wherever its bytes stand. Assumes nothing.
use Rattle.std.specs.Prelude.{◌≡◌, refl, ℕ, zero, suc, ◌+◌, ◌*◌, ◌/◌, ◌%◌, ◌^◌, ◌≤◌, ◌<◌, List, [], ◌∷◌, ◌++◌, length, get_or, drop}
use Rattle.std.proofs.Common.{sym, ap, ap₂, ◌∙◌, subst, zero-add, add_assoc, pow-suc, div-add-mod', div-lt_iff_lt-mul, arith, append_assoc, get_or-drop, lit<}
use Rattle.std.proofs.Math.Nat.{pow-succ', div-div-eq-div-mul}
use Rattle.std.proofs.Math.ListN.{get_or-append, get_or-eq_default}
use Rattle.std.proofs.lemmas.List.{get_or_at}
use Rattle.std.proofs.Math.Arith.{digits_lt, digits_div, digits_mod}
use Rattle.forms.specs.Bytes.{Bytes, window}
use Rattle.forms.specs.Laws.BytesLaws.{window-snoc, window-append, bytes-none, bytes-cons}
use Rattle.forms.specs.Number.{big_endian, be32, digits}

pub length_digits : (w x : ℕ) → length (digits w x) ≡ w
length_digits zero x = refl
length_digits (suc zero) x = refl
length_digits (suc (suc w)) x = ap suc (length_digits (suc w) x)

-- the lowest digit stands last
pub digits-snoc : (w x : ℕ) → digits (suc (suc w)) x ≡ digits (suc w) (x / 256) ++ (x % 256 ∷ [])
digits-snoc zero x = refl
digits-snoc (suc w) x =
    ap₂ (λ (q : ℕ) (l : List ℕ). q % 256 ∷ l)
    (ap (λ (d : ℕ). x / d) (pow-succ' 256 (suc w)) ∙ sym (div-div-eq-div-mul x 256 (256 ^ suc w)))
    (digits-snoc w x)

-- a number stored reads as that number
pub big_endian-digits : (w x : ℕ) (rest : List ℕ) → x < 256 ^ w → big_endian w (digits w x ++ rest) 0 ≡ x
big_endian-digits zero x rest h = omega arith
big_endian-digits (suc zero) x rest h = omega arith
big_endian-digits (suc (suc w)) x rest h =
    ap (λ (s : List ℕ). big_endian (suc (suc w)) s 0)
    (ap (λ (l : List ℕ). l ++ rest) (digits-snoc w x) ∙ append_assoc (digits (suc w) (x / 256)) (x % 256 ∷ []) rest)
    ∙ ap₂ (λ (high low : ℕ). high * 256 + low)
    (big_endian-digits (suc w) (x / 256) (x % 256 ∷ rest)
    ((div-lt_iff_lt-mul (lit< tt)).1 (subst (λ (m : ℕ). x < m) (pow-suc 256 (suc w)) h)))
    (get_or_at (digits (suc w) (x / 256)) (x % 256) rest 0 (0 + suc w) (length_digits (suc w) (x / 256) ∙ sym (zero-add (suc w))))
    ∙ div-add-mod' x 256

-- a number's bytes bound it
pub big_endian-bound : (w : ℕ) (s : List ℕ) (k : ℕ) → Bytes s → big_endian w s k < 256 ^ w
unfolding Bytes
big_endian-bound zero s k b = lit< tt
big_endian-bound (suc zero) s k b = b k
big_endian-bound (suc (suc w)) s k b =
    subst (λ (m : ℕ). big_endian (suc w) s k * 256 + get_or s (k + suc w) 0 < m) (sym (pow-suc 256 (suc w)))
    (digits_lt (big_endian-bound (suc w) s k b) (b (k + suc w)))

-- bytes that read as a number are its digits
pub digits-big_endian : (w : ℕ) (s : List ℕ) (k : ℕ) → Bytes s → digits w (big_endian w s k) ≡ window s k w
unfolding Bytes window
digits-big_endian zero s k b = refl
digits-big_endian (suc zero) s k b =
    let low : get_or s k 0 < 256 = b k in
    ap (λ (d : ℕ). d ∷ []) (omega arith)
digits-big_endian (suc (suc w)) s k b =
    digits-snoc w (big_endian (suc w) s k * 256 + get_or s (k + suc w) 0)
    ∙ ap₂ (λ (high low : ℕ). digits (suc w) high ++ (low ∷ []))
    (digits_div (big_endian (suc w) s k) (b (k + suc w)))
    (digits_mod (big_endian (suc w) s k) (b (k + suc w)))
    ∙ ap (λ (l : List ℕ). l ++ (get_or s (k + suc w) 0 ∷ [])) (digits-big_endian (suc w) s k b)
    ∙ sym (window-snoc s k (suc w))

-- a number stands where its bytes stand
pub big_endian-drop : (w : ℕ) (s : List ℕ) (j k : ℕ) → big_endian w (drop j s) k ≡ big_endian w s (j + k)
big_endian-drop zero s j k = refl
big_endian-drop (suc zero) s j k = get_or-drop j s k 0
big_endian-drop (suc (suc w)) s j k =
    ap₂ (λ (high low : ℕ). high * 256 + low) (big_endian-drop (suc w) s j k)
    (get_or-drop j s (k + suc w) 0 ∙ ap (λ (i : ℕ). get_or s i 0) (sym (add_assoc j k (suc w))))

-- bytes behind a number do not change it
pub big_endian-append : (w : ℕ) (s rest : List ℕ) (k : ℕ) → k + w ≤ length s → big_endian w (s ++ rest) k ≡ big_endian w s k
big_endian-append zero s rest k h = refl
big_endian-append (suc zero) s rest k h = get_or-append s rest 0 k (omega arith)
big_endian-append (suc (suc w)) s rest k h =
    ap₂ (λ (high low : ℕ). high * 256 + low) (big_endian-append (suc w) s rest k (omega arith))
    (get_or-append s rest 0 (k + suc w) (omega arith))

-- past the end there is 0
pub big_endian-past : (w : ℕ) (s : List ℕ) (k : ℕ) → length s ≤ k → big_endian w s k ≡ 0
big_endian-past zero s k h = refl
big_endian-past (suc zero) s k h = get_or-eq_default s 0 h
big_endian-past (suc (suc w)) s k h =
    ap₂ (λ (high low : ℕ). high * 256 + low) (big_endian-past (suc w) s k h)
    (get_or-eq_default s 0 {n = k + suc w} (omega arith))

-- ---- bytes written

pub bytes-digits : (w x : ℕ) → Bytes (digits w x)
bytes-digits zero x = bytes-none
bytes-digits (suc zero) x = bytes-cons (x % 256) [] (omega arith) bytes-none
bytes-digits (suc (suc w)) x = bytes-cons (x / 256 ^ suc w % 256) (digits (suc w) x) (omega arith) (bytes-digits (suc w) x)

-- a number behind a part
pub window-next : {front : List ℕ} (s : List ℕ) (k n : ℕ) → Bytes s → front ≡ window s k n → front ++ digits 4 (be32 s (k + n)) ≡ window s k (n + 4)
window-next s k n b e = ap₂ (λ (front back : List ℕ). front ++ back) e (digits-big_endian 4 s (k + n) b) ∙ sym (window-append s k n 4)
