-- What the rows of the desk's table say where their tests do not hold, and that number 0 means that no test holds. They stand in the table's
-- order, but for 4, which the closing reading needs; 2, 3 and 5 are said by `Reads` of validity. Assumes nothing.
use Rattle.std.specs.Prelude.{ℕ, zero, suc, ◌+◌, ◌-◌, ◌≤◌, ◌≡◌, refl, Bool, true, false, not, cond, ◌&&◌, List, [], ◌∷◌, eqb, leb, ltb, length, get_or}
use Rattle.std.proofs.Common.{sym, ap, ◌∙◌, arith, eqb-true, eq-eqb, ltb-false, leb-true, subst}
use Rattle.std.proofs.lemmas.Bool.{false≢true, eqb-false, not-true, not-false}
use Rattle.forms.specs.Bytes.{same, window}
use Rattle.forms.specs.Laws.BytesLaws.{same-equal, window-whole}
use Rattle.forms.specs.Chain.{follows_by}
use Rattle.forms.specs.Checks.{Row, first_answer}
use Rattle.forms.specs.Entry.{Entry}
use Rattle.forms.specs.Limits.{nonce_len}
use Rattle.forms.specs.Request.{names, place_of, before_of, nonce_of, names_twice}
use Rattle.forms.specs.Laws.TestsLaws.{both, neither}
use Rattle.forms.specs.Terms.{global_clock, same_id}
use Rattle.forms.specs.Laws.TermsLaws.{same_id_lem}
use Rattle.forms.specs.declared.confirmation.Confirmation.{Confirmation}
use Rattle.forms.specs.declared.terms.CounterId.{CounterId}
use Rattle.forms.specs.declared.terms.GlobalClock.{GlobalClock}
use Rattle.digest.specs.Seal.{is_sealed}
use Rattle.validity.specs.Proof.{miscounted, log_offset}
use Rattle.validity.specs.Laws.ProofLaws.{count-some}
use Rattle.validity.specs.declared.proof.Kind.{Kind}
use Rattle.validity.specs.declared.proof.Proof.{Proof}
use Rattle.desk_table.specs.Answer.{figures, Answer}
use Rattle.desk_table.specs.Desk.{confirmation, certificate, entry, verdicts_before, verdict_count, verdict_place, zero_or_one, is_no, module_verdict, owner_verdict, is_own, closes_on, running_to, bad_wanted, bad_verdicts, bad_confirmation, certificate_denied, module_denied, forged, repeated, closes_elsewhere, wrong_reading, wrong_closing, breaks_chain, closing}
use Rattle.desk_table.proofs.Laws.LowestLaws.{Clear}

-- ---- a table of refusals

-- every row gives a refusal
abbrev pub refusing : List (Row Answer) → Bool
refusing [] = true
refusing (row ∷ rows) = not (eqb (figures row.answer).number 0) && refusing rows

-- the test of a row, by its place from 0
abbrev pub test : List (Row Answer) → ℕ → Bool
test [] k = false
test (row ∷ rows) zero = row.test
test (row ∷ rows) (suc k) = test rows k

-- where the answer has number 0, a refusal was passed over
pub refusal-passed : (held : Bool) (refusal others : Answer) → not (eqb (figures refusal).number 0) ≡ true → (figures (cond held refusal others)).number ≡ 0
    → (held ≡ false) × ((figures others).number ≡ 0)
refusal-passed true refusal others refused accepted =
    absurd (false≢true (ap not (sym (eq-eqb (figures refusal).number 0 accepted)) ∙ refused))
refusal-passed false refusal others refused accepted = (refl, accepted)

-- and so was every row of a table
pub rows-passed : (rows : List (Row Answer)) (otherwise : Answer) → refusing rows ≡ true → (figures (first_answer rows otherwise)).number ≡ 0
    → (k : ℕ) → test rows k ≡ false
rows-passed [] otherwise refused accepted k = refl
rows-passed (row ∷ rows) otherwise refused accepted zero =
    let each = both (not (eqb (figures row.answer).number 0)) (refusing rows) refused in
    (refusal-passed row.test row.answer (first_answer rows otherwise) each.0 accepted).0
rows-passed (row ∷ rows) otherwise refused accepted (suc k) =
    let each = both (not (eqb (figures row.answer).number 0)) (refusing rows) refused in
    rows-passed rows otherwise each.1 (refusal-passed row.test row.answer (first_answer rows otherwise) each.0 accepted).1 k

-- the answer of a table whose rows were all passed over is the one behind it
pub answer-behind : (rows : List (Row Answer)) (otherwise : Answer) → ((k : ℕ) → test rows k ≡ false) → first_answer rows otherwise ≡ otherwise
answer-behind [] otherwise passed = refl
answer-behind (row ∷ rows) otherwise passed =
    ap (λ (held : Bool). cond held row.answer (first_answer rows otherwise)) (passed 0) ∙ answer-behind rows otherwise (λ k. passed (suc k))

-- ---- the rows

-- a lowest place that is 0
pub none-lowest : (place : ℕ) → not (eqb place 0) ≡ false → place ≡ 0
none-lowest place e = eqb-true place 0 (not-false (eqb place 0) e)

-- 1
pub wanted-some : (id : CounterId) (nonce : List ℕ) → bad_wanted id nonce ≡ false → (id.0 ≡ 0 → ⊥) × (length nonce ≡ nonce_len)
unfolding bad_wanted
wanted-some id nonce e =
    let each = neither (eqb id.0 0) (not (eqb (length nonce) nonce_len)) e in
    (eqb-false id.0 0 each.0, eqb-true (length nonce) nonce_len (not-false (eqb (length nonce) nonce_len) each.1))

-- each of the verdicts that are 0 or 1
zero-or-one-low : (verdicts : List ℕ) → zero_or_one verdicts ≡ true → (k : ℕ) → get_or verdicts k 0 ≤ 1
unfolding zero_or_one
zero-or-one-low [] e k = omega arith
zero-or-one-low (b ∷ verdicts) e zero = leb-true b 1 (both (leb b 1) (zero_or_one verdicts) e).0
zero-or-one-low (b ∷ verdicts) e (suc k) = zero-or-one-low verdicts (both (leb b 1) (zero_or_one verdicts) e).1 k

-- 6
pub verdicts-right : (p : Proof) (s verdicts : List ℕ) → bad_verdicts p s verdicts ≡ false
    → (length verdicts ≡ verdict_count s p) × ((k : ℕ) → get_or verdicts k 0 ≤ 1)
unfolding bad_verdicts
verdicts-right p s verdicts e =
    let each = neither (not (eqb (length verdicts) (verdict_count s p))) (not (zero_or_one verdicts)) e in (
      eqb-true (length verdicts) (verdict_count s p) (not-false (eqb (length verdicts) (verdict_count s p)) each.0),
      zero-or-one-low verdicts (not-false (zero_or_one verdicts) each.1),
    )

-- 7
pub confirmation-right : (k : Confirmation) (id : CounterId) → bad_confirmation k id ≡ false → (k.id ≡ id) × (k.value ≤ k.reading.0)
unfolding bad_confirmation
confirmation-right k id e =
    let each = neither (not (same_id k.id id)) (ltb k.reading.0 k.value) e in
    (same_id_lem k.id id (not-false (same_id k.id id) each.0), ltb-false k.reading.0 k.value each.1)

-- 8: a verdict that is 0 or 1, and not no
pub said-yes : (verdict : ℕ) → verdict ≤ 1 → is_no verdict ≡ false → verdict ≡ 1
said-yes verdict low e = omega (arith, eqb-false verdict 0 e)

-- 9, of the clock certificate
pub certificate-said : (kind : Kind) (verdicts : List ℕ) → certificate_denied kind verdicts ≡ false → kind ≡ Kind.Read → is_no (get_or verdicts 1 0) ≡ false
unfolding certificate_denied
certificate-said kind verdicts e read = subst (λ (k : Kind). certificate_denied k verdicts ≡ false) read e

-- 9, of the entries
pub module-said : (s : List ℕ) (log : ℕ) (verdicts : List ℕ) (before n : ℕ) → Clear (module_denied s log verdicts before) n
    → (k : ℕ) → 1 ≤ k → k ≤ n → is_no (module_verdict s log verdicts before k) ≡ false
unfolding module_denied
module-said s log verdicts before n clear = clear

-- 30
pub digest-right : (s : List ℕ) (log n : ℕ) → Clear (forged s log) n → (k : ℕ) → 1 ≤ k → k ≤ n → is_sealed (entry s log k) ≡ true
unfolding forged
digest-right s log n clear k low high = not-false (is_sealed (entry s log k)) (clear k low high)

-- 31
pub named-once : (s : List ℕ) (log n : ℕ) → Clear (repeated s log) n → (k : ℕ) → 1 ≤ k → k ≤ n → names_twice (entry s log k).requests ≡ false
unfolding repeated
named-once s log n clear = clear

-- a nonce that compares as the wanted one is it
same-nonce : (own nonce : List ℕ) → length nonce ≡ nonce_len → same own (window nonce 0 nonce_len) ≡ true → own ≡ nonce
same-nonce own nonce long e = same-equal own (window nonce 0 nonce_len) e ∙ window-whole nonce nonce_len long

-- an entry that a proof may close on names the counter, with the owner's yes, and its request has the nonce
closes-right : (e : Entry) (verdicts : List ℕ) (owners : ℕ) (id : CounterId) (nonce : List ℕ) → length nonce ≡ nonce_len → closes_on e verdicts owners id nonce ≡ true
    → (names id e.requests ≡ true) × (is_no (get_or verdicts (owners + place_of id e.requests) 0) ≡ false) × (nonce_of id e.requests ≡ nonce)
closes-right e verdicts owners id nonce long is =
    let said = is_no (get_or verdicts (owners + place_of id e.requests) 0) in
    let each = both (names id e.requests && not said) (same (nonce_of id e.requests) (window nonce 0 nonce_len)) is in
    let own = both (names id e.requests) (not said) each.0 in
    (own.0, not-true said own.1, same-nonce (nonce_of id e.requests) nonce long each.1)

module _ (kind : Kind) (n : ℕ) (s verdicts : List ℕ) (id : CounterId) (nonce : List ℕ) (long : length nonce ≡ nonce_len)
    (e : closes_elsewhere (record { kind = kind; count = n }) s verdicts id nonce ≡ false) where
  -- 10, in kind 1
  pub certificate-closes : kind ≡ Kind.Read → (certificate s).nonce ≡ nonce
  unfolding closes_elsewhere
  certificate-closes read =
      same-nonce (certificate s).nonce nonce long
      (not-false (same (certificate s).nonce (window nonce 0 nonce_len))
      (subst (λ (k : Kind). closes_elsewhere (record { kind = k; count = n }) s verdicts id nonce ≡ false) read e))

  -- what 10 says of the last entry, in kind 2
  abbrev pub LastCloses : Kind → Type 0
  LastCloses k =
      (names id (entry s (log_offset k) n).requests ≡ true)
      × (is_no (owner_verdict s (log_offset k) verdicts (verdicts_before k) id n) ≡ false)
      × (nonce_of id (entry s (log_offset k) n).requests ≡ nonce)

  -- 10, in kind 2
  pub last-closes : kind ≡ Kind.Increment → LastCloses kind
  unfolding closes_elsewhere
  last-closes increment =
      subst LastCloses (sym increment)
      (let log = log_offset Kind.Increment in
      let owners = verdict_place s log (verdicts_before Kind.Increment) n + 1 in
      closes-right (entry s log n) verdicts owners id nonce long
      (not-false (closes_on (entry s log n) verdicts owners id nonce)
      (subst (λ (k : Kind). closes_elsewhere (record { kind = k; count = n }) s verdicts id nonce ≡ false) increment e)))

-- 11
pub readings-right : (s : List ℕ) (log : ℕ) (start : GlobalClock) (n : ℕ) → Clear (wrong_reading s log start) n
    → (k : ℕ) → 1 ≤ k → k ≤ n → (entry s log k).reading ≡ global_clock (start.0 + k)
unfolding wrong_reading
readings-right s log start n clear k low high =
    ap global_clock
    (eqb-true (entry s log k).reading.0 (start.0 + k) (not-false (eqb (entry s log k).reading.0 (start.0 + k)) (clear k low high)))

-- 4, in kind 2
pub last-stands : (kind : Kind) (n : ℕ) → miscounted (record { kind = kind; count = n }) ≡ false → kind ≡ Kind.Increment → 1 ≤ n
last-stands kind n e increment = count-some n (subst (λ (k : Kind). miscounted (record { kind = k; count = n }) ≡ false) increment e)

-- 11, and the closing reading of both kinds
pub closing-right : (kind : Kind) (n : ℕ) (s : List ℕ)
    → wrong_closing (record { kind = kind; count = n }) s ≡ false
    → (kind ≡ Kind.Increment → 1 ≤ n)
    → ((k : ℕ) → 1 ≤ k → k ≤ n → (entry s (log_offset kind) k).reading ≡ global_clock ((confirmation s).reading.0 + k))
    → closing (record { kind = kind; count = n }) s ≡ global_clock ((confirmation s).reading.0 + n)
unfolding wrong_closing closing
closing-right Kind.Read n s e some readings =
    ap global_clock
    (eqb-true (certificate s).reading.0 ((confirmation s).reading.0 + n)
    (not-false (eqb (certificate s).reading.0 ((confirmation s).reading.0 + n)) e))
closing-right Kind.Increment n s e some readings = readings n (some refl) (omega arith)

-- T of kind 1 and of kind 2
pub closing-read : (kind : Kind) (n : ℕ) (s : List ℕ) → kind ≡ Kind.Read → closing (record { kind = kind; count = n }) s ≡ (certificate s).reading
unfolding closing
closing-read kind n s read = ap (λ (k : Kind). closing (record { kind = k; count = n }) s) read

-- 13
pub chain-right : (s : List ℕ) (log : ℕ) (verdicts : List ℕ) (before : ℕ) (id : CounterId) (value n : ℕ) → Clear (breaks_chain s log verdicts before id value) n
    → (k : ℕ) → 1 ≤ k → k ≤ n
    → follows_by (is_own s log verdicts before id k) (running_to s log verdicts before id value (k - 1)).value (before_of id (entry s log k).requests) ≡ true
unfolding breaks_chain
chain-right s log verdicts before id value n clear k low high =
    not-false (follows_by (is_own s log verdicts before id k) (running_to s log verdicts before id value (k - 1)).value (before_of id (entry s log k).requests))
    (clear k low high)
