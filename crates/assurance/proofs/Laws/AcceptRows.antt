-- When the desk accepts bytes that read as a proof: every verdict is yes, and what is left of its table passes. The converse of what number 0
-- shows (`Accepted`). Assumes nothing.
use Rattle.std.specs.Prelude.{◌≡◌, Bool, true, false, cond, ◌&&◌, ◌||◌, eqb, length, get_or, replicate, ℕ, zero, suc, ◌+◌, ◌-◌, ◌≤◌, ◌<◌, refl, not, List, [], ◌∷◌, Ok}
use Rattle.desk_table.specs.Answer.{Answer, shows, refuses}
use Rattle.std.proofs.Common.{subst, ◌∙◌, sym, ap, ap₂, arith, eqb-true, eq-eqb, le-ltb, ltb-true}
use Rattle.std.proofs.lemmas.Bool.{not-true}
use Rattle.std.proofs.Math.Decide.{dec_le}
use Rattle.std.proofs.lemmas.List.{length-replicate, get_or-replicate}
use Rattle.forms.specs.Chain.{from_value, step_by, follows_by, step, follows, running_after, value_after, chains}
use Rattle.forms.specs.Laws.ChainLaws.{running-snoc, chains_cons, value-cons, value_step}
use Rattle.forms.specs.Checks.{Row, first_answer}
use Rattle.forms.specs.Entry.{count_at, len_at, entry_at, entries_at, offset_at}
use Rattle.forms.specs.Laws.EntryLaws.{offset-cons, entries-snoc}
use Rattle.forms.specs.Limits.{head_len}
use Rattle.forms.specs.Request.{names, place_of, before_of, names_twice}
use Rattle.forms.specs.Laws.RequestLaws.{length-requests, names-place}
use Rattle.forms.specs.Laws.TestsLaws.{both}
use Rattle.forms.specs.Terms.{counter_id}
use Rattle.forms.specs.declared.running.Running.{Running}
use Rattle.forms.specs.declared.terms.CounterId.{CounterId}
use Rattle.digest.specs.Seal.{is_sealed}
use Rattle.validity.specs.Proof.{parsed, log_offset, Parsed}
use Rattle.validity.specs.declared.proof.Kind.{Kind}
use Rattle.validity.specs.declared.proof.Proof.{Proof}
use Rattle.desk_table.specs.Desk.{confirmation, entry, verdicts_before, verdicts_to, verdict_count, zero_or_one, is_own, running_to, bad_wanted, bad_verdicts, bad_confirmation, certificate_denied, module_denied, forged, repeated, closes_elsewhere, wrong_reading, wrong_closing, breaks_chain, closing, later_checks, accepted, judged, verified}
use Rattle.desk_table.proofs.Laws.DeskLaws.{answer_of, verified-parsed}
use Rattle.desk_table.specs.Lowest.{lowest}
use Rattle.desk_table.proofs.Laws.LowestLaws.{Clear, lowest-none}
use Rattle.desk.specs.Laws.LogVerdictsLaws.{verdicts-grow}
use Rattle.log_image.specs.Sound.{consecutive, proper, all_proper}

-- a verdict list that is all yes
abbrev pub ones : ℕ → List ℕ
ones m = replicate {A = ℕ} m 1

-- ---- a table of refusals

infixr 5 ◌then◌
-- no row's test holds, from the first on
pub data PassedOver : List (Row Answer) → Type 0 where
  end : PassedOver []
  ◌then◌ : {row : Row Answer} {rows : List (Row Answer)} → row.test ≡ false → PassedOver rows → PassedOver (row ∷ rows)

-- then the answer is the one behind the table
pub passed_over : (rows : List (Row Answer)) (otherwise : Answer) → PassedOver rows → first_answer rows otherwise ≡ otherwise
passed_over [] otherwise end = refl
passed_over (row ∷ rows) otherwise (passed then others) =
    ap (λ (held : Bool). cond held row.answer (first_answer rows otherwise)) passed ∙ passed_over rows otherwise others

-- a check over every entry is passed over where none fails it
clear-passed : (bad : ℕ → Bool) (n : ℕ) → Clear bad n → not (eqb (lowest bad n) 0) ≡ false
clear-passed bad n clear = ap (λ (place : ℕ). not (eqb place 0)) (lowest-none bad n clear)

-- ---- verdicts that are all yes

-- each is 0 or 1
ones-zero-or-one : (m : ℕ) → zero_or_one (ones m) ≡ true
unfolding zero_or_one
ones-zero-or-one zero = refl
ones-zero-or-one (suc m) = ones-zero-or-one m

-- none of them is no
ones-said : (m k : ℕ) → k < m → eqb (get_or (ones m) k 0) 0 ≡ false
ones-said m k within = ap (λ (v : ℕ). eqb v 0) (get_or-replicate m k 1 0 within)

-- 6
ones-right : (p : Proof) (s : List ℕ) → bad_verdicts p s (ones (verdict_count s p)) ≡ false
unfolding bad_verdicts
ones-right p s =
    ap₂ (λ (a b : Bool). not a || not b) (eq-eqb _ _ (length-replicate {A = ℕ} (verdict_count s p) 1)) (ones-zero-or-one (verdict_count s p))

-- those of an entry stand behind those before it, and within the whole list
pub verdicts-within : (s : List ℕ) (log before n k : ℕ) → k < n → verdicts_to s log before k + (1 + count_at s (offset_at s log k)) ≤ verdicts_to s log before n
unfolding verdicts_to
verdicts-within s log before zero k less = let no : ⊥ = omega arith in absurd no
verdicts-within s log before (suc n) k less = elim (dec_le (suc k) n) [ Prim.yes earlier ↦ further (verdicts-within s log before n k earlier) | no later ↦ last (here later) ]
  where
    Within : ℕ → Type 0
    Within j = verdicts_to s log before j + (1 + count_at s (offset_at s log j)) ≤ verdicts_to s log before n + (1 + count_at s (offset_at s log n))

    further : verdicts_to s log before k + (1 + count_at s (offset_at s log k)) ≤ verdicts_to s log before n → Within k
    further low = omega (arith, low)

    here : (suc k ≤ n → ⊥) → n ≡ k
    here later = omega (arith, later, less)

    last : n ≡ k → Within k
    last e = subst Within e (omega arith)

-- 8: the confirmation's stands among them
some-before : (kind : Kind) → 0 < verdicts_before kind
some-before Kind.Read = omega arith
some-before Kind.Increment = omega arith

-- 9, of the clock certificate
certificate-said : (kind : Kind) (m : ℕ) → verdicts_before kind ≤ m → certificate_denied kind (ones m) ≡ false
unfolding certificate_denied
certificate-said Kind.Read m some = ones-said m 1 (omega (arith, some))
certificate-said Kind.Increment m some = refl

-- the entry behind k others
pub entry-behind : (s : List ℕ) (log k : ℕ) → entry s log (suc k) ≡ entry_at s (offset_at s log k)
entry-behind s log k =
    let place : suc k - 1 ≡ k = omega arith in
    ap (λ (j : ℕ). entry_at s (offset_at s log j)) place

module _ (s : List ℕ) (log before n : ℕ) where
  -- the verdicts on all entries, and those before them
  abbrev yes : List ℕ
  yes = ones (verdicts_to s log before n)

  -- 9, of the entries
  module-clear : Clear (module_denied s log yes before) n
  unfolding module_denied
  module-clear k low high =
      ones-said (verdicts_to s log before n) (verdicts_to s log before (k - 1)) (omega (arith, verdicts-within s log before n (k - 1) (omega arith)))

  -- every entry that names the counter is its own
  pub ones-own : (id : CounterId) (k : ℕ) → 1 ≤ k → k ≤ n → is_own s log yes before id k ≡ names id (entry s log k).requests
  unfolding is_own entry_at
  ones-own id k low high = go (names id (entry s log k).requests) refl
    where
      place : ℕ
      place = place_of id (entry s log k).requests

      among : names id (entry s log k).requests ≡ true → place < count_at s (offset_at s log (k - 1))
      among is =
          let below = ltb-true place (length (entry s log k).requests) (sym (names-place id (entry s log k).requests) ∙ is) in
          omega (arith, below, length-requests s (offset_at s log (k - 1) + head_len) (count_at s (offset_at s log (k - 1))))

      go : (b : Bool) → names id (entry s log k).requests ≡ b → (b && not (eqb (get_or yes (verdicts_to s log before (k - 1) + 1 + place) 0) 0)) ≡ b
      go true is =
          ap not (ones-said (verdicts_to s log before n) (verdicts_to s log before (k - 1) + 1 + place)
          (omega (arith, among is, verdicts-within s log before n (k - 1) (omega arith))))
      go false is = refl

  -- so running value and count are those along all entries
  ones-running : (id : CounterId) (value k : ℕ) → k ≤ n → running_to s log yes before id value k ≡ running_after id (from_value value) (entries_at s log k)
  unfolding running_to running_after entries_at step
  ones-running id value zero up_to_lem = refl
  ones-running id value (suc k) up_to_lem =
      ap₂ (λ (b : Bool) (r : Running). step_by b r (entry s log (suc k)).reading) (ones-own id (suc k) (omega arith) up_to_lem) (ones-running id value k (omega arith))
      ∙ ap (step id (running_after id (from_value value) (entries_at s log k))) (entry-behind s log k)
      ∙ sym (running-snoc id (from_value value) (entries_at s log k) (entry_at s (offset_at s log k)))
      ∙ ap (running_after id (from_value value)) (sym (entries-snoc s log k))

-- ---- entries, by their place

-- of consecutive entries, the one behind k others has the reading g + k + 1
entry-reading : (s : List ℕ) (log n g : ℕ) → consecutive g (entries_at s log n) ≡ true
    → (k : ℕ) → k < n → (entry_at s (offset_at s log k)).reading.0 ≡ g + suc k
unfolding consecutive entries_at offset_at
entry-reading s log zero g steps k within = let no : ⊥ = omega arith in absurd no
entry-reading s log (suc n) g steps zero within =
    eqb-true (entry_at s log).reading.0 (g + 1)
    (both (eqb (entry_at s log).reading.0 (g + 1)) (consecutive (g + 1) (entries_at s (log + len_at s log) n)) steps).0
entry-reading s log (suc n) g steps (suc k) within =
    let sum : g + 1 + suc k ≡ g + suc (suc k) = omega arith in
    let parts = both (eqb (entry_at s log).reading.0 (g + 1)) (consecutive (g + 1) (entries_at s (log + len_at s log) n)) steps in
    ap (λ (j : ℕ). (entry_at s j).reading.0) (offset-cons s log k)
    ∙ entry-reading s (log + len_at s log) n (g + 1) parts.1 k (omega arith)
    ∙ sum

-- of proper entries, each is proper
entry-proper : (s : List ℕ) (log n : ℕ) → all_proper (entries_at s log n) ≡ true → (k : ℕ) → k < n → proper (entry_at s (offset_at s log k)) ≡ true
unfolding all_proper entries_at offset_at
entry-proper s log zero are k within = let no : ⊥ = omega arith in absurd no
entry-proper s log (suc n) are zero within = (both (proper (entry_at s log)) (all_proper (entries_at s (log + len_at s log) n)) are).0
entry-proper s log (suc n) are (suc k) within =
    ap (λ (j : ℕ). proper (entry_at s j)) (offset-cons s log k)
    ∙ entry-proper s (log + len_at s log) n (both (proper (entry_at s log)) (all_proper (entries_at s (log + len_at s log) n)) are).1 k (omega arith)

-- the first entry follows, and the others chain behind it
first-follows : (s : List ℕ) (log n : ℕ) (id : CounterId) (value : ℕ) → chains id value (entries_at s log (suc n)) ≡ true
    → (follows id value (entry_at s log) ≡ true) × (chains id (value_step id value (entry_at s log)) (entries_at s (log + len_at s log) n) ≡ true)
unfolding entries_at
first-follows s log n id value chain =
    both (follows id value (entry_at s log)) (chains id (value_step id value (entry_at s log)) (entries_at s (log + len_at s log) n))
    (sym (chains_cons id value (entry_at s log) (entries_at s (log + len_at s log) n)) ∙ chain)

-- entries that chain follow the running value before each of them
entry_follows : (s : List ℕ) (log n : ℕ) (id : CounterId) (value : ℕ) → chains id value (entries_at s log n) ≡ true
    → (k : ℕ) → k < n → follows id (value_after id value (entries_at s log k)) (entry_at s (offset_at s log k)) ≡ true
unfolding entries_at value_after running_after offset_at
entry_follows s log zero id value chain k within = let no : ⊥ = omega arith in absurd no
entry_follows s log (suc n) id value chain zero within = (first-follows s log n id value chain).0
entry_follows s log (suc n) id value chain (suc k) within =
    ap₂ (λ (v j : ℕ). follows id v (entry_at s j)) (value-cons id value (entry_at s log) (entries_at s (log + len_at s log) k)) (offset-cons s log k)
    ∙ entry_follows s (log + len_at s log) n id (value_step id value (entry_at s log)) (first-follows s log n id value chain).1 k (omega arith)

-- ---- bytes that read as a proof

-- the verdict list of a proof's bytes, all yes
abbrev pub yes_to : Kind → ℕ → List ℕ → List ℕ
yes_to kind n s = ones (verdict_count s (record { kind = kind; count = n }))

-- what is left of the table where every verdict is yes
pub record Clean (kind : Kind) (n : ℕ) (s : List ℕ) (id : CounterId) (nonce : List ℕ) : Type 0 where
  -- 7
  pub own : (confirmation s).id ≡ id
  pub low : (confirmation s).value ≤ (confirmation s).reading.0
  -- 30 and 31
  pub all-proper : all_proper (entries_at s (log_offset kind) n) ≡ true
  -- 10
  pub ends : closes_elsewhere (record { kind = kind; count = n }) s (yes_to kind n s) id nonce ≡ false
  -- 11
  pub steps : consecutive (confirmation s).reading.0 (entries_at s (log_offset kind) n) ≡ true
  pub closes : wrong_closing (record { kind = kind; count = n }) s ≡ false
  -- 13
  pub chain : chains id (confirmation s).value (entries_at s (log_offset kind) n) ≡ true

module _ (kind : Kind) (n : ℕ) (s : List ℕ) (id : CounterId) (nonce : List ℕ) (clean : Clean kind n s id nonce) where
  -- 7
  confirmation-clean : bad_confirmation (confirmation s) id ≡ false
  unfolding bad_confirmation
  confirmation-clean =
      ap₂ (λ (a b : Bool). not a || b) (eq-eqb (confirmation s).id.0 id.0 (ap (λ (i : CounterId). i.0) clean.own))
      (le-ltb (confirmation s).reading.0 (confirmation s).value clean.low)

  -- what 30 and 31 ask of an entry
  is-proper : (k : ℕ) → 1 ≤ k → k ≤ n
      → (is_sealed (entry s (log_offset kind) k) ≡ true) × (not (names_twice (entry s (log_offset kind) k).requests) ≡ true)
  is-proper k low high =
      let e = entry s (log_offset kind) k in
      let parts = both (is_sealed e) (not (names_twice e.requests) && not (names (counter_id 0) e.requests))
      (entry-proper s (log_offset kind) n clean.all-proper (k - 1) (omega arith)) in
      (parts.0, (both (not (names_twice e.requests)) (not (names (counter_id 0) e.requests)) parts.1).0)

  -- 30
  digests-clear : Clear (forged s (log_offset kind)) n
  unfolding forged
  digests-clear k low high = ap not (is-proper k low high).0

  -- 31
  once-clear : Clear (repeated s (log_offset kind)) n
  unfolding repeated
  once-clear k low high = not-true (names_twice (entry s (log_offset kind) k).requests) (is-proper k low high).1

  -- 11
  readings-clear : Clear (wrong_reading s (log_offset kind) (confirmation s).reading) n
  unfolding wrong_reading
  readings-clear k low high =
      let place : suc (k - 1) ≡ k = omega arith in
      ap not (eq-eqb (entry s (log_offset kind) k).reading.0 ((confirmation s).reading.0 + k)
      (entry-reading s (log_offset kind) n (confirmation s).reading.0 clean.steps (k - 1) (omega arith)
      ∙ ap (λ (j : ℕ). (confirmation s).reading.0 + j) place))

  -- 13
  chain-clear : Clear (breaks_chain s (log_offset kind) (yes_to kind n s) (verdicts_before kind) id (confirmation s).value) n
  unfolding breaks_chain value_after follows
  chain-clear k low high =
      ap₂ (λ (b : Bool) (r : Running). not (follows_by b r.value (before_of id (entry s (log_offset kind) k).requests)))
      (ones-own s (log_offset kind) (verdicts_before kind) n id k low high)
      (ones-running s (log_offset kind) (verdicts_before kind) n id (confirmation s).value (k - 1) (omega arith))
      ∙ ap not (entry_follows s (log_offset kind) n id (confirmation s).value clean.chain (k - 1) (omega arith))

  -- what is shown: running value and count along all entries, and the closing reading
  abbrev pub shown_of : Answer
  shown_of =
      shows (running_after id (from_value (confirmation s).value) (entries_at s (log_offset kind) n)) (closing (record { kind = kind; count = n }) s)

  -- checks 6 to 13 pass, and the answer is the one behind them
  clean-accepted : judged (record { kind = kind; count = n }) s (yes_to kind n s) id nonce ≡ shown_of
  unfolding judged
  clean-accepted =
      let p : Proof = record { kind = kind; count = n } in
      let log : ℕ = log_offset kind in
      let before : ℕ = verdicts_before kind in
      let verdicts : List ℕ = yes_to kind n s in
      let some = verdicts-grow s log before n in
      passed_over (later_checks p s verdicts id nonce) (accepted p s verdicts id)
      (ones-right p s
      then confirmation-clean
      then ones-said (verdict_count s p) 0 (omega (arith, some, some-before kind))
      then certificate-said kind (verdict_count s p) some
      then clear-passed (module_denied s log verdicts before) n (module-clear s log before n)
      then clear-passed (forged s log) n digests-clear
      then clear-passed (repeated s log) n once-clear
      then clean.ends
      then clear-passed (wrong_reading s log (confirmation s).reading) n readings-clear
      then clean.closes
      then clear-passed (breaks_chain s log verdicts before id (confirmation s).value) n chain-clear
      then end)
      ∙ ap (λ (r : Running). shows r (closing p s)) (ones-running s log before n id (confirmation s).value n (omega arith))

  -- the desk accepts such bytes
  pub clean-verified : bad_wanted id nonce ≡ false → parsed s ≡ Ok (record { kind = kind; count = n })
      → verified s (yes_to kind n s) id nonce ≡ shown_of
  clean-verified wanted reads =
      let judge : Proof → Answer = λ p. judged p s (yes_to kind n s) id nonce in
      verified-parsed s (yes_to kind n s) id nonce
      ∙ ap₂ (λ (held : Bool) (r : Parsed). cond held (refuses 1 0) (answer_of judge r)) wanted reads
      ∙ clean-accepted
