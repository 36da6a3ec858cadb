-- Bytes compared word by word: document 02, Note 3. Numbers compare as their bytes do, at any width; bytes that make up words compare as the words
-- do, for any number of words; and so two nonces agree exactly when their five words do. Assumes nothing.
use Rattle.std.specs.Prelude.{◌≡◌, refl, Bool, true, false, ◌&&◌, List, [], ◌∷◌, ◌++◌, ℕ, zero, suc, ◌+◌, ◌*◌, eqb, length}
use Rattle.std.proofs.Common.{sym, ap, ap₂, ◌∙◌, arith, length-append, eq-eqb, ne_eqb}
use Rattle.std.proofs.lemmas.Bool.{false≢true}
use Rattle.std.proofs.Math.Bool.{and-true}
use Rattle.forms.specs.Bytes.{Bytes, window, same}
use Rattle.forms.specs.Laws.BytesLaws.{length-window, window-append, window-whole, same-append, same-exactly}
use Rattle.forms.specs.Limits.{nonce_len, nonce_words}
use Rattle.forms.specs.Number.{big_endian, be32, digits, words}
use Rattle.forms.specs.Laws.NumberLaws.{big_endian-bound, big_endian-digits, digits-big_endian}

-- ---- one number

-- numbers are the same where their bytes are
same_number : (w : ℕ) (s t : List ℕ) (j k : ℕ) → Bytes s → Bytes t → window s j w ≡ window t k w → big_endian w s j ≡ big_endian w t k
same_number w s t j k bs bt e =
    sym (big_endian-digits w (big_endian w s j) [] (big_endian-bound w s j bs))
    ∙ ap (λ (l : List ℕ). big_endian w (l ++ []) 0) (digits-big_endian w s j bs ∙ e ∙ sym (digits-big_endian w t k bt))
    ∙ big_endian-digits w (big_endian w t k) [] (big_endian-bound w t k bt)

-- bytes are the same where the numbers that they hold are
same_bytes : (w : ℕ) (s t : List ℕ) (j k : ℕ) → Bytes s → Bytes t → big_endian w s j ≡ big_endian w t k → window s j w ≡ window t k w
same_bytes w s t j k bs bt e = sym (digits-big_endian w s j bs) ∙ ap (digits w) e ∙ digits-big_endian w t k bt

-- numbers compare as their bytes do
number-compares : (w : ℕ) (s t : List ℕ) (j k : ℕ) → Bytes s → Bytes t
    → eqb (big_endian w s j) (big_endian w t k) ≡ same (window s j w) (window t k w)
number-compares w s t j k bs bt = go (same (window s j w) (window t k w)) refl
  where
    go : (b : Bool) → same (window s j w) (window t k w) ≡ b → eqb (big_endian w s j) (big_endian w t k) ≡ b
    go true e = eq-eqb _ _ (same_number w s t j k bs bt ((same-exactly _ _).0 e))
    go false e = ne_eqb _ _ (λ n. false≢true (sym e ∙ (same-exactly _ _).1 (same_bytes w s t j k bs bt n)))

-- ---- words in a row

length-words : (n : ℕ) (s : List ℕ) (k : ℕ) → length (words n s k) ≡ n
unfolding words
length-words zero s k = refl
length-words (suc n) s k = length-append (words n s k) (be32 s (k + 4 * n) ∷ []) ∙ ap (λ (m : ℕ). m + 1) (length-words n s k) ∙ omega arith

-- one word more, behind those that were compared
pub words_more : (n : ℕ) (s t : List ℕ) (j k : ℕ) {x y : Bool} → x ≡ same (words n s j) (words n t k)
    → y ≡ eqb (be32 s (j + 4 * n)) (be32 t (k + 4 * n)) → (x && y) ≡ same (words (suc n) s j) (words (suc n) t k)
unfolding words same
words_more n s t j k p q =
    let a = be32 s (j + 4 * n) in
    let b = be32 t (k + 4 * n) in
    ap₂ ◌&&◌ p (q ∙ sym (and-true (eqb a b)))
    ∙ sym (same-append (words n s j) (a ∷ []) (words n t k) (b ∷ []) (length-words n s j ∙ sym (length-words n t k)))

-- bytes that make up words compare as the words do
pub words-compare : (n : ℕ) (s t : List ℕ) (j k : ℕ) → Bytes s → Bytes t
    → same (words n s j) (words n t k) ≡ same (window s j (4 * n)) (window t k (4 * n))
unfolding same words window
words-compare zero s t j k bs bt = refl
words-compare (suc n) s t j k bs bt =
    let front : length (window s j (4 * n)) ≡ length (window t k (4 * n)) = length-window s j (4 * n) ∙ sym (length-window t k (4 * n)) in
    let longer : 4 * n + 4 ≡ 4 * suc n = omega arith in
    sym (words_more n s t j k (sym (words-compare n s t j k bs bt)) (sym (number-compares 4 s t (j + 4 * n) (k + 4 * n) bs bt)))
    ∙ sym (same-append (window s j (4 * n)) (window s (j + 4 * n) 4) (window t k (4 * n)) (window t (k + 4 * n) 4) front)
    ∙ ap₂ same (sym (window-append s j (4 * n) 4)) (sym (window-append t k (4 * n) 4))
    ∙ ap (λ (m : ℕ). same (window s j m) (window t k m)) longer

-- two nonces agree exactly when their five words do
pub nonces-compare : (a b : List ℕ) → Bytes a → Bytes b → length a ≡ nonce_len → length b ≡ nonce_len
    → same (words nonce_words a 0) (words nonce_words b 0) ≡ same a b
nonces-compare a b ba bb la lb = words-compare nonce_words a b 0 0 ba bb ∙ ap₂ same (window-whole a nonce_len la) (window-whole b nonce_len lb)
