-- The desk's answer to a validity proof: document 01, "The desk", and document 02's Note 7. One row of `verified` for each row of its table, in its
-- order; 4, 9 and 11 have two, and 12 has none: document 02's Note 5, "Number 12 is no longer given". Assumes nothing.
use Rattle.std.specs.Prelude.{ℕ, zero, suc, ◌+◌, ◌-◌, ◌/◌, Bool, true, false, not, ◌&&◌, ◌||◌, List, [], ◌∷◌, eqb, leb, ltb, length, get_or, replicate}
use Rattle.forms.specs.Bytes.{same, window}
use Rattle.forms.specs.Limits.{nonce_len, request_len, proof_header_len}
use Rattle.forms.specs.Terms.{same_id}
use Rattle.forms.specs.declared.terms.CounterId.{CounterId}
use Rattle.forms.specs.declared.terms.GlobalClock.{GlobalClock}
use Rattle.forms.specs.declared.confirmation.Confirmation.{Confirmation}
use Rattle.forms.specs.declared.certificate.Certificate.{Certificate}
use Rattle.forms.specs.declared.running.Running.{Running}
use Rattle.forms.specs.Checks.{Row, ◌gives◌, first_answer}
use Rattle.forms.specs.Confirmation.{confirmation_at}
use Rattle.forms.specs.Certificate.{certificate_at}
use Rattle.forms.specs.Entry.{Entry, entry_at, count_at, offset_at}
use Rattle.forms.specs.Request.{names, place_of, before_of, nonce_of, names_twice}
use Rattle.forms.specs.Chain.{from_value, step_by, follows_by}
use Rattle.digest.specs.Seal.{is_sealed}
use Rattle.validity.specs.declared.proof.Kind.{Kind}
use Rattle.validity.specs.declared.proof.Proof.{Proof}
use Rattle.validity.specs.Proof.{Fields, fields_len, shape_of, known_form, shape_at, miscounted, overcounted, proof_laid_out, confirmation_offset, certificate_offset, log_offset}
use Rattle.desk_table.specs.Answer.{Answer, shows, refuses}
use Rattle.desk_table.specs.Lowest.{lowest}

-- ---- the parts of a proof

-- the confirmation, whose value and reading are (v, g)
abbrev pub confirmation : List ℕ → Confirmation
confirmation s = confirmation_at s confirmation_offset

-- the clock certificate of kind 1
abbrev pub certificate : List ℕ → Certificate
certificate s = certificate_at s (certificate_offset Kind.Read)

-- "Entry i, from 1", of a log that begins at an offset: where it stands, behind those before it, and what it says
abbrev pub entry_offset : List ℕ → ℕ → ℕ → ℕ
entry_offset s log i = offset_at s log (i - 1)

abbrev pub entry : List ℕ → ℕ → ℕ → Entry
entry s log i = entry_at s (entry_offset s log i)

-- in kind 1 the one, in kind 2 the other
abbrev pub by_kind : {A : Type 0} → Kind → A → A → A
by_kind Kind.Read read increment = read
by_kind Kind.Increment read increment = increment

-- ---- verdicts: "confirmation; clock certificate in kind 1", then "Each entry's module verdict is followed by one owner verdict per request"

-- how many stand before those of the entries
abbrev pub verdicts_before : Kind → ℕ
verdicts_before Kind.Read = 2
verdicts_before Kind.Increment = 1

-- how many stand before those behind the first i entries
unfoldable pub verdicts_to : List ℕ → ℕ → ℕ → ℕ → ℕ
verdicts_to s log before zero = before
verdicts_to s log before (suc i) = verdicts_to s log before i + (1 + count_at s (offset_at s log i))

-- the length of the verdict list
abbrev pub verdict_count : List ℕ → Proof → ℕ
verdict_count s p = verdicts_to s (log_offset p.kind) (verdicts_before p.kind) p.count

-- the same by a proof's kind and whole length: an entry's head is as long as a request
abbrev pub verdicts_for : Kind → ℕ → ℕ
verdicts_for kind len = verdicts_before kind + (len - log_offset kind) / request_len

-- a verdict list for the proof written from some fields, all yes
abbrev pub all_yes : Fields → List ℕ
all_yes fields = replicate {A = ℕ} (verdicts_for (shape_of fields).kind (fields_len fields)) 1

-- every verdict is 0 or 1
unfoldable pub zero_or_one : List ℕ → Bool
zero_or_one [] = true
zero_or_one (b ∷ rest) = leb b 1 && zero_or_one rest

-- "0 no and 1 yes"
abbrev pub is_no : ℕ → Bool
is_no verdict = eqb verdict 0

-- where the module's verdict on entry i stands; the owner's on its requests stand behind it
abbrev pub verdict_place : List ℕ → ℕ → ℕ → ℕ → ℕ
verdict_place s log before i = verdicts_to s log before (i - 1)

abbrev pub module_verdict : List ℕ → ℕ → List ℕ → ℕ → ℕ → ℕ
module_verdict s log verdicts before i = get_or verdicts (verdict_place s log before i) 0

-- ---- the wanted counter's own entries

-- an entry is the counter's own where a request of it names the counter and the owner's verdict on that request is yes. Document 02, Note 5: what has
-- "owner's verdict no is now passed over"; here alone that verdict counts
abbrev pub own_by : Bool → ℕ → Bool
own_by names verdict = names && not (is_no verdict)

-- the owner's verdict on the counter's request in entry i. There is at most one such request, or 31 is given before this counts
abbrev pub owner_verdict : List ℕ → ℕ → List ℕ → ℕ → CounterId → ℕ → ℕ
owner_verdict s log verdicts before id i = get_or verdicts (verdict_place s log before i + 1 + place_of id (entry s log i).requests) 0

-- entry i is the wanted counter's own
unfoldable pub is_own : List ℕ → ℕ → List ℕ → ℕ → CounterId → ℕ → Bool
is_own s log verdicts before id i = own_by (names id (entry s log i).requests) (owner_verdict s log verdicts before id i)

-- "A kind 2 proof closes on a request of the wanted box and nonce in its last entry": the entry is the counter's own, the owner's verdicts on its
-- requests standing from a place on, and its request has the nonce
abbrev pub closes_on : Entry → List ℕ → ℕ → CounterId → List ℕ → Bool
closes_on e verdicts owners id nonce =
    own_by (names id e.requests) (get_or verdicts (owners + place_of id e.requests) 0) && same (nonce_of id e.requests) (window nonce 0 nonce_len)

-- running value and count behind the first i entries, from the confirmation's value on
unfoldable pub running_to : List ℕ → ℕ → List ℕ → ℕ → CounterId → ℕ → ℕ → Running
running_to s log verdicts before id value zero = from_value value
running_to s log verdicts before id value (suc i) =
    step_by (is_own s log verdicts before id (suc i)) (running_to s log verdicts before id value i) (entry s log (suc i)).reading

-- ---- what the checks test

-- 1: wanted counter 0, or wanted nonce not 20 bytes
unfoldable pub bad_wanted : CounterId → List ℕ → Bool
bad_wanted id nonce = eqb id.0 0 || not (eqb (length nonce) nonce_len)

-- 6: verdict list of another length, or a byte over 1
unfoldable pub bad_verdicts : Proof → List ℕ → List ℕ → Bool
bad_verdicts p s verdicts = not (eqb (length verdicts) (verdict_count s p)) || not (zero_or_one verdicts)

-- 7: confirmation of another counter, or v > g
unfoldable pub bad_confirmation : Confirmation → CounterId → Bool
bad_confirmation c id = not (same_id c.id id) || ltb c.reading.0 c.value

-- 9: the module's verdict on the clock certificate is no
unfoldable pub certificate_denied : Kind → List ℕ → Bool
certificate_denied kind verdicts = by_kind kind (is_no (get_or verdicts 1 0)) false

-- 9: the module's verdict on entry i is no
unfoldable pub module_denied : List ℕ → ℕ → List ℕ → ℕ → ℕ → Bool
module_denied s log verdicts before i = is_no (module_verdict s log verdicts before i)

-- 30: "an entry whose nonce is not its requests' digest"
unfoldable pub forged : List ℕ → ℕ → ℕ → Bool
forged s log i = not (is_sealed (entry s log i))

-- 31: "one naming a box twice (0 too)"
unfoldable pub repeated : List ℕ → ℕ → ℕ → Bool
repeated s log i = names_twice (entry s log i).requests

-- 10: kind 1: the certificate's nonce is not the wanted one; kind 2: the last entry is not the counter's own with the wanted nonce
unfoldable pub closes_elsewhere : Proof → List ℕ → List ℕ → CounterId → List ℕ → Bool
closes_elsewhere p s verdicts id nonce =
    let log : ℕ = log_offset p.kind in
    by_kind p.kind
    (not (same (certificate s).nonce (window nonce 0 nonce_len)))
    (not (closes_on (entry s log p.count) verdicts (verdict_place s log (verdicts_before p.kind) p.count + 1) id nonce))

-- 11: entry i has another t than g + i, in whole numbers
unfoldable pub wrong_reading : List ℕ → ℕ → GlobalClock → ℕ → Bool
wrong_reading s log start i = not (eqb (entry s log i).reading.0 (start.0 + i))

-- 11: the certificate's reading is not g + n
unfoldable pub wrong_closing : Proof → List ℕ → Bool
wrong_closing p s = by_kind p.kind (not (eqb (certificate s).reading.0 ((confirmation s).reading.0 + p.count))) false

-- 13: entry i is the wanted counter's own and states another value before than the running value
unfoldable pub breaks_chain : List ℕ → ℕ → List ℕ → ℕ → CounterId → ℕ → ℕ → Bool
breaks_chain s log verdicts before id value i =
    not (follows_by (is_own s log verdicts before id i) (running_to s log verdicts before id value (i - 1)).value
    (before_of id (entry s log i).requests))

-- T: the certificate's reading in kind 1, the last t in kind 2
unfoldable pub closing : Proof → List ℕ → GlobalClock
closing p s = by_kind p.kind (certificate s).reading (entry s (log_offset p.kind) p.count).reading

-- ---- the table

-- a check over every entry, lowest entry first, with its place
abbrev pub lowest_entry : ℕ → ℕ → Row Answer
lowest_entry number place = not (eqb place 0) gives refuses number place

-- checks 6 to 9, 30, 31, 10, 11 and 13, of bytes that read as a proof
abbrev pub later_checks : Proof → List ℕ → List ℕ → CounterId → List ℕ → List (Row Answer)
later_checks p s verdicts id nonce =
    let n : ℕ = p.count in
    let log : ℕ = log_offset p.kind in
    let before : ℕ = verdicts_before p.kind in
    (bad_verdicts p s verdicts gives refuses 6 0)
    ∷ (bad_confirmation (confirmation s) id gives refuses 7 0)
    ∷ (is_no (get_or verdicts 0 0) gives refuses 8 0)
    ∷ (certificate_denied p.kind verdicts gives refuses 9 0)
    ∷ lowest_entry 9 (lowest (module_denied s log verdicts before) n)
    ∷ lowest_entry 30 (lowest (forged s log) n)
    ∷ lowest_entry 31 (lowest (repeated s log) n)
    ∷ (closes_elsewhere p s verdicts id nonce gives refuses 10 0)
    ∷ lowest_entry 11 (lowest (wrong_reading s log (confirmation s).reading) n)
    ∷ (wrong_closing p s gives refuses 11 (n + 1))
    ∷ lowest_entry 13 (lowest (breaks_chain s log verdicts before id (confirmation s).value) n)
    ∷ []

-- "The final running value is the answer; place is 0", and with it the count of the wanted counter's own entries
abbrev pub accepted : Proof → List ℕ → List ℕ → CounterId → Answer
accepted p s verdicts id =
    shows (running_to s (log_offset p.kind) verdicts (verdicts_before p.kind) id (confirmation s).value p.count) (closing p s)

-- the answer to bytes that read as a proof
unfoldable pub judged : Proof → List ℕ → List ℕ → CounterId → List ℕ → Answer
judged p s verdicts id nonce = first_answer (later_checks p s verdicts id nonce) (accepted p s verdicts id)

-- the desk's answer to proof, verdicts, wanted counter and wanted nonce
unfoldable pub verified : List ℕ → List ℕ → CounterId → List ℕ → Answer
verified s verdicts id nonce =
    first_answer
    ((bad_wanted id nonce gives refuses 1 0)
    ∷ (ltb (length s) proof_header_len gives refuses 2 0)
    ∷ (not (known_form s) gives refuses 3 0)
    ∷ (miscounted (shape_at s) gives refuses 4 0)
    ∷ (overcounted s (log_offset (shape_at s).kind) (shape_at s).count gives refuses 4 0)
    ∷ (not (proof_laid_out s (shape_at s)) gives refuses 5 0)
    ∷ later_checks (shape_at s) s verdicts id nonce)
    (accepted (shape_at s) s verdicts id)
