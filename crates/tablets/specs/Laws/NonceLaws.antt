-- The nonces of a run: how they are stored, and that they are new for each raise and each proof. Assumes nothing.
use Rattle.std.specs.Prelude.{◌≡◌, refl, List, ◌++◌, ℕ, ◌≤◌, length, replicate, drop}
use Rattle.std.proofs.Common.{sym, ap, ◌∙◌, append_assoc, arith, drop_at}
use Rattle.forms.specs.Bytes.{overwrite}
use Rattle.forms.specs.Laws.BytesLaws.{overwrite-fits, stored_next}
use Rattle.forms.specs.Limits.{max_word, nonce_len}
use Rattle.forms.specs.Number.{big_endian, digits}
use Rattle.forms.specs.Laws.NumberLaws.{big_endian-digits, length_digits}
use Rattle.tablets.specs.Tablet.{nonce_for}

-- its three numbers, one behind the other
pub nonce-stored : (purpose round number : ℕ) {a b c : List ℕ} → a ≡ overwrite (replicate {A = ℕ} nonce_len 0) 0 (digits 4 purpose)
    → b ≡ overwrite a 4 (digits 4 round) → c ≡ overwrite b 8 (digits 4 number) → c ≡ nonce_for purpose round number
unfolding nonce_for
nonce-stored purpose round number {a} {b} {c} e₁ e₂ e₃ =
    let z : List ℕ = replicate {A = ℕ} nonce_len 0 in
    let p : List ℕ = digits 4 purpose in
    let r : List ℕ = digits 4 round in
    let n : List ℕ = digits 4 number in
    let lp = length_digits 4 purpose in
    let lr = length_digits 4 round in
    let ln = length_digits 4 number in
    let room : length z ≡ 20 = refl in
    let two : b ≡ overwrite z 0 (p ++ r) = stored_next z 0 p r e₁ e₂ (omega arith) (omega arith) in
    let three : c ≡ overwrite z 0 ((p ++ r) ++ n) =
    stored_next z 0 (p ++ r) n two e₃ (omega arith) (omega arith) in
    let long : length ((p ++ r) ++ n) ≡ 12 = omega arith in
    three ∙ overwrite-fits z 0 ((p ++ r) ++ n) (omega arith) ∙ ap (λ (k : ℕ). ((p ++ r) ++ n) ++ drop k z) long ∙ simp append_assoc

-- ---- they are new

-- a number of 32 bits and what stands behind it are known from their bytes
word-apart : {x y : ℕ} {rest others : List ℕ} → x ≤ max_word → y ≤ max_word → digits 4 x ++ rest ≡ digits 4 y ++ others → (x ≡ y) × (rest ≡ others)
word-apart {x} {y} {rest} {others} hx hy e = (
  sym (big_endian-digits 4 x rest (omega arith)) ∙ ap (λ (s : List ℕ). big_endian 4 s 0) e ∙ big_endian-digits 4 y others (omega arith),
  sym (drop_at (digits 4 x) rest 4 (length_digits 4 x)) ∙ ap (drop 4) e ∙ drop_at (digits 4 y) others 4 (length_digits 4 y),
)

-- two raises or proofs with one nonce are one: for the same purpose, in the same round, by the same tablet
pub nonce-apart : (purpose round number purpose' round' number' : ℕ) → purpose ≤ max_word → round ≤ max_word → number ≤ max_word
    → purpose' ≤ max_word → round' ≤ max_word → number' ≤ max_word → nonce_for purpose round number ≡ nonce_for purpose' round' number'
    → (purpose ≡ purpose') × (round ≡ round') × (number ≡ number')
unfolding nonce_for
nonce-apart purpose round number purpose' round' number' hp hr hn hp' hr' hn' e =
    let first = word-apart hp hp' e in
    let second = word-apart hr hr' first.1 in
    (first.0, second.0, (word-apart hn hn' second.1).0)
