-- Laws of the lowest bad place. Assumes nothing.
use Rattle.std.specs.Prelude.{◌≡◌, refl, ℕ, zero, suc, ◌+◌, ◌≤◌, ◌<◌, Bool, true, false, cond, eqb}
use Rattle.std.proofs.Common.{sym, ap, ◌∙◌, zero-add, arith}
use Rattle.std.proofs.Math.Decide.{dec_le}
use Rattle.std.proofs.Math.Dec.{eqb-suc-zero}
use Rattle.desk_table.specs.Lowest.{lowest_from, lowest}

-- none of the places 1 to i is bad
abbrev pub Clear : (ℕ → Bool) → ℕ → Type 0
Clear bad i = (k : ℕ) → 1 ≤ k → k ≤ i → bad k ≡ false

none_from : (bad : ℕ → Bool) (i n : ℕ) → ((k : ℕ) → i ≤ k → k < i + n → bad k ≡ false) → lowest_from bad i n ≡ 0
unfolding lowest_from
none_from bad i zero clear = refl
none_from bad i (suc n) clear =
    ap (λ (b : Bool). cond b i (lowest_from bad (suc i) n)) (clear i (omega arith) (omega arith))
    ∙ none_from bad (suc i) n (λ k p q. clear k (omega arith) (omega arith))

-- where no place is bad, the lowest is 0
pub lowest-none : (bad : ℕ → Bool) (n : ℕ) → Clear bad n → lowest bad n ≡ 0
lowest-none bad n clear = none_from bad 1 n (λ k p q. clear k p (omega arith))

all_from : (bad : ℕ → Bool) (i n : ℕ) → 1 ≤ i → lowest_from bad i n ≡ 0 → (k : ℕ) → i ≤ k → k < i + n → bad k ≡ false
unfolding lowest_from
all_from bad i zero pos e k p q = let no : ⊥ = omega arith in absurd no
all_from bad i (suc n) pos e k p q = go (bad i) refl e (λ rest less. all_from bad (suc i) n (omega arith) rest k less (omega arith))
  where
    here : (suc i ≤ k → ⊥) → k ≡ i
    here more = omega arith

    go : (b : Bool) → bad i ≡ b → cond b i (lowest_from bad (suc i) n) ≡ 0 → (lowest_from bad (suc i) n ≡ 0 → suc i ≤ k → bad k ≡ false) → bad k ≡ false
    go true is e rest = let no : ⊥ = omega arith in absurd no
    go false is e rest = elim (dec_le (suc i) k) [ yes less ↦ rest e less | no more ↦ ap bad (here more) ∙ is ]

-- where the lowest is 0, no place is bad
pub lowest-clear : (bad : ℕ → Bool) (n : ℕ) → lowest bad n ≡ 0 → Clear bad n
lowest-clear bad n e k p q = all_from bad 1 n (omega arith) e k p (omega arith)

-- with one place more looked at: the lowest so far, or else that place where it is bad
next-from : (bad : ℕ → Bool) (i n : ℕ)
    → lowest_from bad (suc i) (suc n) ≡ cond (eqb (lowest_from bad (suc i) n) 0) (cond (bad (suc (i + n))) (suc (i + n)) 0) (lowest_from bad (suc i) n)
unfolding lowest_from
next-from bad i zero =
    let same : i ≡ i + 0 = omega arith in
    ap (λ (k : ℕ). cond (bad (suc k)) (suc k) 0) same
next-from bad i (suc n) = go (bad (suc i)) (next-from bad (suc i) n)
  where
    others : ℕ
    others = lowest_from bad (suc (suc i)) n

    there : suc i + n ≡ i + suc n
    there = omega arith

    go : (b : Bool) → lowest_from bad (suc (suc i)) (suc n) ≡ cond (eqb others 0) (cond (bad (suc (suc i + n))) (suc (suc i + n)) 0) others
        → cond b (suc i) (lowest_from bad (suc (suc i)) (suc n))
        ≡ cond (eqb (cond b (suc i) others) 0) (cond (bad (suc (i + suc n))) (suc (i + suc n)) 0) (cond b (suc i) others)
    go true next = ap (λ (b : Bool). cond b (cond (bad (suc (i + suc n))) (suc (i + suc n)) 0) (suc i)) (sym (eqb-suc-zero i))
    go false next = next ∙ ap (λ (k : ℕ). cond (eqb others 0) (cond (bad (suc k)) (suc k) 0) others) there

pub lowest-next : (bad : ℕ → Bool) (n : ℕ) → lowest bad (suc n) ≡ cond (eqb (lowest bad n) 0) (cond (bad (suc n)) (suc n) 0) (lowest bad n)
lowest-next bad n =
    next-from bad 0 n ∙ ap (λ (k : ℕ). cond (eqb (lowest bad n) 0) (cond (bad (suc k)) (suc k) 0) (lowest bad n)) (zero-add n)
