-- Fields of either kind that the desk accepts once they are written: the counter's confirmation, the entries after it, one for each reading,
-- that chain, and a close with the wanted nonce. Assumes nothing.
use Rattle.std.specs.Prelude.{ℕ, suc, ◌+◌, ◌^◌, ◌≤◌, ◌<◌, ◌≡◌, Bool, true, false, ◌&&◌, ◌||◌, List, [], ◌∷◌, ◌++◌, drop, get_or, refl, not, length, Ok}
use Rattle.desk_table.specs.Answer.{shows}
use Rattle.std.proofs.Common.{sym, ap₂, subst, ◌∙◌, append-nil, arith, drop_at, eq-eqb, ne_eqb, ap, length-append}
use Rattle.forms.specs.Bytes.{same, window}
use Rattle.forms.specs.Laws.BytesLaws.{same_refl, window-whole}
use Rattle.forms.specs.Certificate.{certificate_bytes}
use Rattle.forms.specs.Chain.{from_value, running_after, chains}
use Rattle.forms.specs.Confirmation.{confirmation_bytes, ConfirmationFits}
use Rattle.forms.specs.Entry.{Entry, entry_at, entries_at, offset_at, log_bytes, units}
use Rattle.forms.specs.Laws.EntryLaws.{EntriesFit, entries-drop, entries-snoc, length-entries, log-bytes}
use Rattle.forms.specs.Limits.{nonce_len, max_units}
use Rattle.forms.specs.Log.{ends_at, walk, Walked}
use Rattle.forms.specs.Laws.LogLaws.{Counted, walk-bytes}
use Rattle.forms.specs.Request.{names, nonce_of}
use Rattle.forms.specs.declared.certificate.Certificate.{Certificate}
use Rattle.forms.specs.declared.confirmation.Confirmation.{Confirmation}
use Rattle.forms.specs.declared.terms.CounterId.{CounterId}
use Rattle.validity.specs.Proof.{Fields, read, increment, fields_len, proof_bytes, proof_fields, header_of, header_bytes, parsed, log_offset}
use Rattle.validity.specs.Laws.ProofLaws.{parsed-ends}
use Rattle.validity.specs.Laws.RoundTrip.{Taken, Takes, decode-encode, encode-reads}
use Rattle.validity.specs.declared.proof.Kind.{Kind}
use Rattle.validity.specs.declared.proof.Proof.{Proof}
use Rattle.desk_table.specs.Desk.{confirmation, certificate, entry, verdicts_before, verdicts_for, all_yes, is_own, bad_wanted, closes_elsewhere, wrong_closing, closing, verified}
use Rattle.desk.specs.Laws.LogVerdictsLaws.{verdicts-counted}
use Rattle.log_image.specs.Laws.ImageParts.{entries-units}
use Rattle.log_image.specs.Sound.{consecutive, all_proper}
use Rattle.assurance.proofs.Laws.AcceptRows.{ones, entry-behind, ones-own, yes_to, Clean, clean-verified}

-- what a proof set out for a counter says: the counter's confirmation (v, g), and the entries after g, one for each reading, that chain
pub record SetOut (id : CounterId) (c : Confirmation) (es : List Entry) : Type 0 where
  pub own : c.id ≡ id
  pub low : c.value ≤ c.reading.0
  pub fits : ConfirmationFits c
  pub few : units es ≤ max_units
  pub counted : Counted es
  pub entries_fit : EntriesFit es
  pub all-proper : all_proper es ≡ true
  pub steps : consecutive c.reading.0 es ≡ true
  pub chain : chains id c.value es ≡ true

-- a counter and a nonce that may be asked with
pub record Wanted (id : CounterId) (nonce : List ℕ) : Type 0 where
  pub counter : id.0 ≡ 0 → ⊥
  pub long : length nonce ≡ nonce_len

-- 1
wanted-passes : (id : CounterId) (nonce : List ℕ) → Wanted id nonce → bad_wanted id nonce ≡ false
unfolding bad_wanted
wanted-passes id nonce wanted = ap₂ (λ (a b : Bool). a || not b) (ne_eqb id.0 0 wanted.counter) (eq-eqb (length nonce) nonce_len wanted.long)

-- a nonce of twenty bytes compares as itself
nonce-same : (own nonce : List ℕ) → length nonce ≡ nonce_len → own ≡ nonce → same own (window nonce 0 nonce_len) ≡ true
nonce-same own nonce long e = ap₂ same e (window-whole nonce nonce_len long) ∙ same_refl nonce

-- entries read back from where they were written
pub entries-back : (s : List ℕ) (log : ℕ) (es : List Entry) → EntriesFit es → drop log s ≡ log_bytes es → entries_at s log (length es) ≡ es
entries-back s log es fit e =
    let here : log ≡ log + 0 = omega arith in
    ap (λ (j : ℕ). entries_at s j (length es)) here
    ∙ sym (entries-drop s log 0 (length es))
    ∙ ap (λ (l : List ℕ). entries_at l 0 (length es)) (e ∙ sym (append-nil (log_bytes es)))
    ∙ log-bytes es [] fit

-- the last of them
last-back : (s : List ℕ) (log : ℕ) (es front : List Entry) (last : Entry) → entries_at s log (length es) ≡ es → es ≡ front ++ (last ∷ [])
    → entry s log (length es) ≡ last
last-back s log es front last back ends =
    let n : ℕ = length front in
    let count : length es ≡ suc n = ap length ends ∙ length-append front (last ∷ []) ∙ (omega arith) in
    let end : Entry = entry_at s (offset_at s log n) in
    let both_ways : entries_at s log n ++ (end ∷ []) ≡ front ++ (last ∷ []) = sym (entries-snoc s log n) ∙ ap (entries_at s log) (sym count) ∙ back ∙ ends in
    let behind : end ∷ [] ≡ last ∷ [] =
    sym (drop_at (entries_at s log n) (end ∷ []) n (length-entries s log n)) ∙ ap (drop n) both_ways ∙ drop_at front (last ∷ []) n refl in
    ap (entry s log) count ∙ entry-behind s log n ∙ ap (λ (l : List Entry). get_or l 0 last) behind

-- the parts of fields
confirmation_in : Fields → Confirmation
confirmation_in (read c k n entries) = c
confirmation_in (increment c n entries) = c

certificate_in : Certificate → Fields → Certificate
certificate_in none (read c k n entries) = k
certificate_in none (increment c n entries) = none

entries_in : Fields → List ℕ
entries_in (read c k n entries) = entries
entries_in (increment c n entries) = entries

-- they read back from fields that writing takes, in kind 1
pub read_back : (c : Confirmation) (k : Certificate) (n : ℕ) (entries : List ℕ) → Takes (read c k n entries)
    → (confirmation (proof_bytes (read c k n entries)) ≡ c) × (certificate (proof_bytes (read c k n entries)) ≡ k) × (drop (log_offset Kind.Read) (proof_bytes (read c k n entries)) ≡ entries)
unfolding confirmation_in certificate_in entries_in proof_fields proof_bytes header_of header_bytes
read_back c k n entries takes =
    let e = decode-encode (read c k n entries) takes in
    (ap confirmation_in e, ap (certificate_in k) e, ap entries_in e)

-- and in kind 2
pub increment-back : (c : Confirmation) (n : ℕ) (entries : List ℕ) → Takes (increment c n entries)
    → (confirmation (proof_bytes (increment c n entries)) ≡ c) × (drop (log_offset Kind.Increment) (proof_bytes (increment c n entries)) ≡ entries)
unfolding confirmation_in entries_in proof_fields proof_bytes header_of header_bytes
increment-back c n entries takes =
    let e = decode-encode (increment c n entries) takes in
    (ap confirmation_in e, ap entries_in e)

-- bytes written are as long as their fields say, in kind 1 and in kind 2
pub read_length : (c : Confirmation) (k : Certificate) (n : ℕ) (entries : List ℕ) → length k.nonce ≡ nonce_len
    → length (proof_bytes (read c k n entries)) ≡ fields_len (read c k n entries)
unfolding proof_bytes header_of header_bytes confirmation_bytes certificate_bytes
read_length c k n entries nonce = simp length-append (omega (arith, nonce))

pub increment-length : (c : Confirmation) (n : ℕ) (entries : List ℕ) → length (proof_bytes (increment c n entries)) ≡ fields_len (increment c n entries)
unfolding proof_bytes header_of header_bytes confirmation_bytes
increment-length c n entries = omega arith

module _ (id : CounterId) (nonce : List ℕ) (c : Confirmation) (es : List Entry) (set_out : SetOut id c es) (wanted : Wanted id nonce) where
  -- the bytes that writing takes
  pub taken : Taken c (length es) (log_bytes es)
  taken =
      record {
        fits = set_out.fits;
        few = omega (arith, entries-units es, set_out.few);
        whole =
            ap (λ (l : List ℕ). ends_at (walk l 0 (length es)) (length (log_bytes es))) (sym (append-nil (log_bytes es)))
            ∙ ap (λ (w : Walked). ends_at w (length (log_bytes es))) (walk-bytes es [] set_out.counted set_out.entries_fit set_out.few)
            ∙ eq-eqb (length (log_bytes es)) (length (log_bytes es)) refl;
      }

  -- bytes from which the confirmation and the entries read back
  back-clean : (kind : Kind) (s : List ℕ) → confirmation s ≡ c → entries_at s (log_offset kind) (length es) ≡ es
      → closes_elsewhere (record { kind = kind; count = length es }) s (yes_to kind (length es) s) id nonce ≡ false
      → wrong_closing (record { kind = kind; count = length es }) s ≡ false
      → Clean kind (length es) s id nonce
  back-clean kind s confirms entries ends closes =
      record {
        own = ap (λ (k : Confirmation). k.id) confirms ∙ set_out.own;
        low = subst (λ (k : Confirmation). k.value ≤ k.reading.0) (sym confirms) set_out.low;
        all-proper = ap all_proper entries ∙ set_out.all-proper;
        ends = ends;
        steps = ap₂ (λ (k : Confirmation) (l : List Entry). consecutive k.reading.0 l) confirms entries ∙ set_out.steps;
        closes = closes;
        chain = ap₂ (λ (k : Confirmation) (l : List Entry). chains id k.value l) confirms entries ∙ set_out.chain;
      }

  -- and what the desk answers to them
  back-accepted : (kind : Kind) (s : List ℕ) → confirmation s ≡ c → entries_at s (log_offset kind) (length es) ≡ es
      → parsed s ≡ Ok (record { kind = kind; count = length es })
      → closes_elsewhere (record { kind = kind; count = length es }) s (yes_to kind (length es) s) id nonce ≡ false
      → wrong_closing (record { kind = kind; count = length es }) s ≡ false
      → verified s (ones (verdicts_for kind (length s))) id nonce
      ≡ shows (running_after id (from_value c.value) es) (closing (record { kind = kind; count = length es }) s)
  back-accepted kind s confirms entries reads ends closes =
      let p : Proof = record { kind = kind; count = length es } in
      ap (λ (m : ℕ). verified s (ones m) id nonce) (verdicts-counted p s (parsed-ends s p reads))
      ∙ clean-verified kind (length es) s id nonce (back-clean kind s confirms entries ends closes) (wanted-passes id nonce wanted) reads
      ∙ ap₂ (λ (k : Confirmation) (l : List Entry). shows (running_after id (from_value k.value) l) (closing (record { kind = kind; count = length es }) s))
      confirms entries

  -- a proof of kind 1, up to the certificate's reading
  pub read-accepted : (k : Certificate) → k.nonce ≡ nonce → k.reading.0 ≡ c.reading.0 + length es → k.reading.0 < 2 ^ 32
      → verified (proof_bytes (read c k (length es) (log_bytes es))) (all_yes (read c k (length es) (log_bytes es))) id nonce
      ≡ shows (running_after id (from_value c.value) es) k.reading
  unfolding closes_elsewhere wrong_closing closing
  read-accepted k asked reached fits =
      let fields : Fields = read c k (length es) (log_bytes es) in
      let s = proof_bytes fields in
      let long : length k.nonce ≡ nonce_len = ap length asked ∙ wanted.long in
      let takes : Takes fields = (taken, record { reading = fits; nonce = long }) in
      let back = read_back c k (length es) (log_bytes es) takes in
      ap (λ (m : ℕ). verified s (ones (verdicts_for Kind.Read m)) id nonce) (sym (read_length c k (length es) (log_bytes es) long))
      ∙ back-accepted Kind.Read s back.0 (entries-back s (log_offset Kind.Read) es set_out.entries_fit back.2) (encode-reads fields takes)
      (ap not (nonce-same (certificate s).nonce nonce wanted.long (ap (λ (j : Certificate). j.nonce) back.1 ∙ asked)))
      (ap not (eq-eqb (certificate s).reading.0 ((confirmation s).reading.0 + length es)
      (ap (λ (j : Certificate). j.reading.0) back.1 ∙ reached ∙ ap (λ (j : Confirmation). j.reading.0 + length es) (sym back.0))))
      ∙ ap (λ (j : Certificate). shows (running_after id (from_value c.value) es) j.reading) back.1

  -- a proof of kind 2, up to the last entry's reading
  pub increment-accepted : (front : List Entry) (last : Entry) → es ≡ front ++ (last ∷ []) → names id last.requests ≡ true → nonce_of id last.requests ≡ nonce
      → verified (proof_bytes (increment c (length es) (log_bytes es))) (all_yes (increment c (length es) (log_bytes es))) id nonce
      ≡ shows (running_after id (from_value c.value) es) last.reading
  unfolding closes_elsewhere wrong_closing closing is_own
  increment-accepted front last ends own asked =
      let fields : Fields = increment c (length es) (log_bytes es) in
      let s = proof_bytes fields in
      let log = log_offset Kind.Increment in
      let some : 1 ≤ length es = omega (arith, ap length ends ∙ length-append front (last ∷ [])) in
      let takes : Takes fields = (taken, some) in
      let back = increment-back c (length es) (log_bytes es) takes in
      let entries = entries-back s log es set_out.entries_fit back.1 in
      let end : entry s log (length es) ≡ last = last-back s log es front last entries ends in
      ap (λ (m : ℕ). verified s (ones (verdicts_for Kind.Increment m)) id nonce) (sym (increment-length c (length es) (log_bytes es)))
      ∙ back-accepted Kind.Increment s back.0 entries (encode-reads fields takes)
      (ap₂ (λ (a b : Bool). not (a && b))
      (ones-own s log (verdicts_before Kind.Increment) (length es) id (length es) some (omega arith) ∙ ap (λ (e : Entry). names id e.requests) end ∙ own)
      (nonce-same (nonce_of id (entry s log (length es)).requests) nonce wanted.long (ap (λ (e : Entry). nonce_of id e.requests) end ∙ asked)))
      refl
      ∙ ap (λ (e : Entry). shows (running_after id (from_value c.value) es) e.reading) end
