-- Laws of a message with its padding: the padding is what is stored behind the rest in the last blocks, and the digest is that of the whole blocks, then
-- of the last ones. Assumes nothing.
use Rattle.std.specs.Prelude.{◌≡◌, ℕ, zero, suc, ◌+◌, ◌-◌, ◌*◌, ◌/◌, ◌%◌, ◌^◌, ◌<◌, ◌≤◌, List, [], ◌∷◌, ◌++◌, length, take, drop, replicate, slice_index, refl}
use Rattle.std.specs.Int.{to_be_bytes, w64}
use Rattle.std.proofs.Common.{sym, ap, ap₂, ◌∙◌, pow-suc, zero-lt-suc, arith, append_assoc, length-append, length-drop}
use Rattle.std.proofs.Math.Nat.{one-le-pow}
use Rattle.std.proofs.Math.Arith.{mod-mul, digits_div, digits_mod}
use Rattle.std.proofs.lemmas.List.{length-replicate, drop-append-le}
use Rattle.std.proofs.Math.ListN.{get_or-append}
use Rattle.std.proofs.Math.Seq.{take-append-add}
use Rattle.forms.specs.Bytes.{overwrite}
use Rattle.forms.specs.Laws.BytesLaws.{overwrite-fits, length-overwrite, stored_next}
use Rattle.forms.specs.Number.{digits}
use Rattle.forms.specs.Laws.NumberLaws.{digits-snoc}
use Rattle.digest.specs.declared.block.Hash.{Hash}
use Rattle.digest.specs.Laws.BlockLaws.{hashed-same, hashed-more}
use Rattle.digest.specs.Sha1.{padding, padded, hashed, initial, digest, sha1}

-- ---- the length in bits

-- digits hang on the number modulo what they can hold
digits_low : (w x : ℕ) → digits (suc w) (x % 256 ^ suc w) ≡ digits (suc w) x
digits_low zero x = ap (λ (d : ℕ). d ∷ []) (omega arith)
digits_low (suc w) x =
    let parts : x % 256 ^ suc (suc w) ≡ x / 256 % 256 ^ suc w * 256 + x % 256 =
    ap (λ (m : ℕ). x % m) (pow-suc 256 (suc w)) ∙ mod-mul x (one-le-pow (suc w) 256 (zero-lt-suc 255)) (zero-lt-suc 255) in
    let small : x % 256 < 256 = omega arith in
    digits-snoc w (x % 256 ^ suc (suc w))
    ∙ ap₂ (λ (high low : ℕ). digits (suc w) high ++ (low ∷ []))
    (ap (λ (y : ℕ). y / 256) parts ∙ digits_div (x / 256 % 256 ^ suc w) small)
    (ap (λ (y : ℕ). y % 256) parts ∙ digits_mod (x / 256 % 256 ^ suc w) small)
    ∙ ap (λ (l : List ℕ). l ++ (x % 256 ∷ [])) (digits_low w (x / 256))
    ∙ sym (digits-snoc w x)

-- as the library writes them
bits-stored : (n : ℕ) → to_be_bytes w64 (n * 8 % 2 ^ 64) ≡ digits 8 (8 * n)
bits-stored n = digits_low 7 (n * 8) ∙ ap (digits 8) (omega arith)

-- ---- the last blocks, set out in a buffer of zeros

zeros-same : {m n : ℕ} → m ≡ n → replicate {A = ℕ} m 0 ≡ replicate {A = ℕ} n 0
zeros-same e = ap (λ (k : ℕ). replicate {A = ℕ} k 0) e

drop-zeros : (i n : ℕ) → drop i (replicate {A = ℕ} n 0) ≡ replicate {A = ℕ} (n - i) 0
drop-zeros zero n = zeros-same {m = n} {n = n - zero} (omega arith)
drop-zeros (suc i) zero = zeros-same {m = zero} {n = zero - suc i} (omega arith)
drop-zeros (suc i) (suc n) = drop-zeros i n ∙ zeros-same {m = n - i} {n = suc n - suc i} (omega arith)

take-zeros : (i n : ℕ) → i ≤ n → take i (replicate {A = ℕ} n 0) ≡ replicate {A = ℕ} i 0
take-zeros zero n h = refl
take-zeros (suc i) zero h = absurd (omega arith)
take-zeros (suc i) (suc n) h = ap (λ (l : List ℕ). 0 ∷ l) (take-zeros i n (omega arith))

-- two stores in a row of zeros: at its front, and at a place behind that
two-stores : (size : ℕ) (front back : List ℕ) (z : ℕ) {l : List ℕ} {p : ℕ} → p ≡ length front + z → p + length back ≤ size
    → l ≡ overwrite (overwrite (replicate {A = ℕ} size 0) 0 front) p back
    → (rest : List ℕ) × (l ≡ ((front ++ replicate {A = ℕ} z 0) ++ back) ++ rest)
two-stores size front back z {l} {p} place fits e =
    let zeros = replicate {A = ℕ} size 0 in
    let long : length zeros ≡ size = length-replicate size 0 in
    let first : overwrite zeros 0 front ≡ front ++ drop (0 + length front) zeros = overwrite-fits zeros 0 front (omega arith) in
    let kept : length (overwrite zeros 0 front) ≡ length zeros = length-overwrite zeros 0 front in
    let middle : take z (drop (0 + length front) zeros) ≡ replicate {A = ℕ} z 0 =
    ap (take z) (drop-zeros (0 + length front) size) ∙ take-zeros z (size - (0 + length front)) (omega arith) in
    let end = drop (p + length back) (overwrite zeros 0 front) in (
      end,
      e
          ∙ overwrite-fits (overwrite zeros 0 front) p back (omega arith)
          ∙ ap (λ (l : List ℕ). l ++ (back ++ end))
          (ap₂ take place first ∙ take-append-add front (drop (0 + length front) zeros) z ∙ ap (λ (l : List ℕ). front ++ l) middle)
          ∙ sym (append_assoc (front ++ replicate {A = ℕ} z 0) back end),
    )

length-padding : (n : ℕ) → length (padding n) ≡ 9 + (119 - n % 64) % 64
unfolding padding
length-padding n =
    ap suc (length-append (replicate {A = ℕ} ((119 - n % 64) % 64) 0) (digits 8 (8 * n)) ∙ ap (λ (k : ℕ). k + 8) (length-replicate ((119 - n % 64) % 64) 0))
    ∙ omega arith

-- the last blocks as they are stored: the rest, the byte 0x80 behind it, and the length at the end
pub ended-stored : (h : Hash) (rest : List ℕ) (n blocks : ℕ) {t1 t2 t3 bits : List ℕ} → length rest ≡ n % 64 → blocks ≡ (length rest + 72) / 64
    → t1 ≡ overwrite (replicate {A = ℕ} 128 0) 0 rest → t2 ≡ overwrite t1 (length rest) (0x80 ∷ [])
    → bits ≡ to_be_bytes w64 (n * 8 % 2 ^ 64) → t3 ≡ overwrite t2 (64 * blocks - 8) bits
    → hashed h t3 blocks ≡ hashed h (rest ++ padding n) blocks
unfolding padding
ended-stored h rest n blocks {t1} {t2} {t3} short b e1 e2 written e3 =
    let zeros = replicate {A = ℕ} 128 0 in
    let front = rest ++ (0x80 ∷ []) in
    let z = (119 - n % 64) % 64 in
    let back = digits 8 (8 * n) in
    let long : length front ≡ length rest + 1 = length-append rest (0x80 ∷ []) in
    let front-stored : t2 ≡ overwrite zeros 0 front = stored_next zeros 0 rest (0x80 ∷ []) e1 e2 (omega arith) (omega arith) in
    let whole : length t2 ≡ 128 = ap length front-stored ∙ length-overwrite zeros 0 front in
    let back-stored : t3 ≡ overwrite t2 (64 * blocks - 8) back = e3 ∙ ap (overwrite t2 (64 * blocks - 8)) (written ∙ bits-stored n) in
    let all = two-stores 128 front back z {p = 64 * blocks - 8} (omega arith) (omega arith)
    (back-stored ∙ ap (λ (l : List ℕ). overwrite l (64 * blocks - 8) back) front-stored) in
    let made : t3 ≡ (rest ++ padding n) ++ all.0 = all.1 ∙ simp append_assoc in
    let size : length (rest ++ padding n) ≡ 64 * blocks =
    length-append rest (padding n) ∙ ap (λ (k : ℕ). length rest + k) (length-padding n) ∙ omega arith in
    hashed-same h t3 (rest ++ padding n) blocks
    (λ k below. ap (λ (l : List ℕ). slice_index l k) made ∙ get_or-append (rest ++ padding n) all.0 0 k (omega arith))

-- ---- the whole message

-- the digest of the hash value behind the whole blocks, then behind the last ones
pub sha1-ends : (m rest : List ℕ) {first whole last : Hash} {bytes : List ℕ} → rest ≡ drop (64 * (length m / 64)) m
    → first ≡ initial → whole ≡ hashed first m (length m / 64) → last ≡ hashed whole (rest ++ padding (length m)) ((length rest + 72) / 64)
    → bytes ≡ digest last → bytes ≡ sha1 m
unfolding sha1 padded
sha1-ends m rest e at_first at-whole at_last as_bytes =
    let n = length m / 64 in
    let j = (length rest + 72) / 64 in
    let p = padding (length m) in
    let short : length rest ≡ length m - 64 * n = ap length e ∙ length-drop (64 * n) m in
    let count : length (m ++ p) / 64 ≡ n + j =
    ap (λ (k : ℕ). k / 64) (length-append m p ∙ ap (λ (k : ℕ). length m + k) (length-padding (length m))) ∙ omega arith in
    as_bytes
    ∙ ap digest
    (at_last
    ∙ ap (λ (h : Hash). hashed h (rest ++ p) j) (at-whole ∙ ap (λ (h : Hash). hashed h m n) at_first)
    ∙ sym
    (ap (hashed initial (m ++ p)) count
    ∙ hashed-more initial (m ++ p) n j
    ∙ ap₂ (λ (h : Hash) (s : List ℕ). hashed h s j)
    (hashed-same initial (m ++ p) m n (λ k below. get_or-append m p 0 k (omega arith)))
    (drop-append-le (64 * n) m p (omega arith) ∙ ap (λ (l : List ℕ). l ++ p) (sym e))))
