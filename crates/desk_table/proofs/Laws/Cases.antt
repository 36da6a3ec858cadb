-- Document 01's "Twelve proofs at the desk", cases A to L, with G as document 02's Note 5 has it, and six more, four of unsigned entries, one of the
-- nonce that a proof of kind 2 closes on and one of another counter's reading, as one table: each row is a proof by its fields, its verdicts, what is
-- wanted, and the answer's number, value, place and openings. Each entry carries one request, and its nonce is the digest of that. One theorem says
-- that the desk's definition gives every row its answer, whatever the digests are. Assumes nothing.
use Rattle.std.specs.Prelude.{◌≡◌, refl, ℕ, suc, Bool, true, false, not, cond, ◌&&◌, T, eqb, length, replicate, take, drop, List, [], ◌∷◌, ◌++◌, map, Ok}
use Rattle.std.proofs.Common.{sym, ap, ◌∙◌, subst, eqb→eq}
use Rattle.std.proofs.Math.Path.{subst⁻¹}
use mathlib.Core.List.{head-eq_of_cons-eq, tail-eq_of_cons-eq, Memᴰ}
use Rattle.forms.specs.Checks.{first_answer}
use Rattle.forms.specs.Limits.{nonce_len}
use Rattle.forms.specs.Terms.{counter_id, global_clock}
use Rattle.forms.specs.Bytes.{window, same}
use Rattle.forms.specs.Laws.BytesLaws.{same_refl, window-whole}
use Rattle.forms.specs.Confirmation.{confirmation_at, confirmation_bytes}
use Rattle.forms.specs.Certificate.{certificate_at, certificate_bytes}
use Rattle.forms.specs.Entry.{Entry, entry_at, entries_at, offset_at, head_bytes, entry_bytes, log_bytes}
use Rattle.forms.specs.Log.{walked}
use Rattle.forms.specs.Request.{request_at, requests_at, request_bytes, joined, names, place_of, before_of, names_twice, nonce_of as nonce_in}
use Rattle.forms.specs.declared.request.Request.{Request}
use Rattle.forms.specs.declared.terms.CounterId.{CounterId}
use Rattle.forms.specs.declared.confirmation.Confirmation.{Confirmation}
use Rattle.digest.specs.Seal.{digest_of, is_sealed}
use Rattle.digest.specs.Laws.SealLaws.{digest-length}
use Rattle.validity.specs.Proof.{Fields, read, increment, shape_of, log_offset, header_of, header_bytes, proof_bytes, parsed, Parsed}
use Rattle.validity.specs.declared.proof.Proof.{Proof}
use Rattle.desk_table.specs.Answer.{Answer, Figures, figures, refuses}
use Rattle.desk_table.specs.Lowest.{lowest_from, lowest}
use Rattle.desk_table.specs.Desk.{all_yes, zero_or_one, verdicts_to, is_own, running_to, bad_wanted, bad_verdicts, bad_confirmation, certificate_denied}
use Rattle.desk_table.specs.Desk.{module_denied, forged, repeated, closes_elsewhere, wrong_reading, wrong_closing, breaks_chain, closing}
use Rattle.desk_table.specs.Desk.{lowest_entry, later_checks, accepted, judged, verified}
use Rattle.desk_table.proofs.Laws.DeskLaws.{answer_of, verified-parsed}

-- ---- a row

pub record Case : Type 0 where
  pub proof : Fields
  pub verdicts : List ℕ
  pub id : CounterId
  pub nonce : List ℕ
  pub number : ℕ
  pub value : ℕ
  pub place : ℕ
  pub openings : ℕ

-- what the desk answers to the row's proof
abbrev pub answered : Case → Figures
answered c = figures (verified (proof_bytes c.proof) c.verdicts c.id c.nonce)

-- some figures are the row's answer
pub record Answers (c : Case) (f : Figures) : Type 0 where
  pub number : f.number ≡ c.number
  pub value : f.value ≡ c.value
  pub place : f.place ≡ c.place
  pub openings : f.openings ≡ c.openings

abbrev pub Holds : Case → Type 0
Holds c = Answers c (answered c)

-- ---- the fields of the document's cases

-- a nonce of twenty equal bytes
abbrev nonce_of : ℕ → List ℕ
nonce_of b = replicate nonce_len b

-- the nonce that the clock certificate was asked with
abbrev asked : List ℕ
asked = nonce_of 5

-- counter, value and reading
abbrev confirmed : ℕ → ℕ → ℕ → Confirmation
confirmed id value reading = record { id = counter_id id; value = value; reading = global_clock reading }

-- kind 1, with the certificate's reading; and kind 2
abbrev on_read : Confirmation → ℕ → List Entry → Fields
on_read confirmation reading es = read confirmation (record { reading = global_clock reading; nonce = asked }) (length es) (log_bytes es)

abbrev on_increment : Confirmation → List Entry → Fields
on_increment confirmation es = increment confirmation (length es) (log_bytes es)

-- the confirmation of K and L, at the clock's end
abbrev at_end : Confirmation
at_end = confirmed 7 4294967295 4294967295

-- wanted counter 7; then verdicts and nonce, and number, value, place and openings
abbrev row : Fields → List ℕ → List ℕ → ℕ → ℕ → ℕ → ℕ → Case
row proof verdicts nonce number value place openings =
    record {
      proof = proof;
      verdicts = verdicts;
      id = counter_id 7;
      nonce = nonce;
      number = number;
      value = value;
      place = place;
      openings = openings;
    }

-- all yes, and the certificate's nonce wanted
abbrev plain : Fields → ℕ → ℕ → ℕ → ℕ → Case
plain proof number value place openings = row proof (all_yes proof) asked number value place openings

-- ---- the table, by what an entry's nonce is made of its requests

module _ (digest : List Request → List ℕ) where
  -- reading t, and one request of a counter, with its value before; the byte of the request's nonce stands first
  abbrev entry : ℕ → ℕ → ℕ → ℕ → Entry
  entry b t id before =
      let rs : List Request = record { nonce = nonce_of b; id = counter_id id; before = before } ∷ [] in
      record { reading = global_clock t; nonce = digest rs; requests = rs }

  abbrev first : Entry
  first = entry 1 101 7 100

  abbrev second : Entry
  second = entry 2 102 9 100

  abbrev third : Entry
  third = entry 3 103 7 101

  abbrev P : Fields
  P = on_read (confirmed 7 100 100) 103 (first ∷ second ∷ third ∷ [])

  cases_by : List Case
  cases_by =
      -- A: P
      plain P 0 103 0 2
      -- B: n = 0, certificate 100
      ∷ plain (on_read (confirmed 7 100 100) 100 []) 0 100 0 0
      -- C: n = 0, certificate 99
      ∷ plain (on_read (confirmed 7 100 100) 99 []) 11 0 1 0
      -- D: entry 3 before = 100
      ∷ plain (on_read (confirmed 7 100 100) 103 (first ∷ second ∷ entry 3 103 7 100 ∷ [])) 13 0 3 0
      -- E: entry 2 taken out
      ∷ plain (on_read (confirmed 7 100 100) 103 (first ∷ third ∷ [])) 11 0 2 0
      -- F: owner's no at entry 2
      ∷ row P (1 ∷ 1 ∷ 1 ∷ 1 ∷ 1 ∷ 0 ∷ 1 ∷ 1 ∷ []) asked 0 103 0 2
      -- G: owner's no at entry 1, so that entry 3 states another value than the running one
      ∷ row P (1 ∷ 1 ∷ 1 ∷ 0 ∷ 1 ∷ 1 ∷ 1 ∷ 1 ∷ []) asked 13 0 3 0
      -- H: other nonce wanted
      ∷ row P (all_yes P) (nonce_of 6) 10 0 0 0
      -- I: confirmation (7, 101, 100)
      ∷ plain (on_read (confirmed 7 101 100) 103 (first ∷ second ∷ third ∷ [])) 7 0 0 0
      -- J: kind 2, entries 101 and 102 only, the nonce of 102's request wanted
      ∷ row (on_increment (confirmed 7 100 100) (first ∷ second ∷ [])) (1 ∷ 1 ∷ 1 ∷ 1 ∷ 1 ∷ []) (nonce_of 2) 10 0 0 0
      -- K: value, reading and certificate 4,294,967,295, n = 0
      ∷ plain (on_read at_end 4294967295 []) 0 4294967295 0 0
      -- L: K with one entry t = 0 and certificate 0
      ∷ plain (on_read at_end 0 (entry 1 0 7 4294967295 ∷ [])) 11 0 1 0
      -- owner's no at entry 3: value and openings stay as entry 1 left them
      ∷ row P (1 ∷ 1 ∷ 1 ∷ 1 ∷ 1 ∷ 1 ∷ 1 ∷ 0 ∷ []) asked 0 101 0 1
      -- owner's no everywhere: the value stays the confirmation's
      ∷ row P (1 ∷ 1 ∷ 1 ∷ 0 ∷ 1 ∷ 0 ∷ 1 ∷ 0 ∷ []) asked 0 100 0 0
      -- owner's no at entry 2, here counter 7's, which states any value
      ∷ row (on_read (confirmed 7 100 100) 103 (first ∷ entry 2 102 7 4294967295 ∷ third ∷ [])) (1 ∷ 1 ∷ 1 ∷ 1 ∷ 1 ∷ 0 ∷ 1 ∷ 1 ∷ []) asked 0 103 0 2
      -- kind 2, owner's no at entry 3, whose counter and nonce are the wanted ones
      ∷ row (on_increment (confirmed 7 100 100) (first ∷ second ∷ third ∷ [])) (1 ∷ 1 ∷ 1 ∷ 1 ∷ 1 ∷ 1 ∷ 0 ∷ []) (nonce_of 3) 10 0 0 0
      -- kind 2, another nonce wanted than that of the request in entry 3, which is counter 7's with the owner's yes
      ∷ row (on_increment (confirmed 7 100 100) (first ∷ second ∷ third ∷ [])) (1 ∷ 1 ∷ 1 ∷ 1 ∷ 1 ∷ 1 ∷ 1 ∷ []) (nonce_of 6) 10 0 0 0
      -- entry 2, another counter's, with reading 105 where 102 is due
      ∷ plain (on_read (confirmed 7 100 100) 103 (first ∷ entry 2 105 9 100 ∷ third ∷ [])) 11 0 2 0
      ∷ []

-- "each entry's nonce being its requests' digest"
pub cases : List Case
cases = cases_by digest_of

-- ---- a digest is its twenty bytes, one by one, and no entry of the table is refused by 30

spread : List Request → List ℕ
spread rs = window (digest_of rs) 0 nonce_len

spread-whole : (rs : List Request) → spread rs ≡ digest_of rs
unfolding spread
spread-whole rs = window-whole (digest_of rs) nonce_len (digest-length rs)

-- the first of some entries whose nonce would not be the digest, if each had its twenty bytes
unsealed : ℕ → List Entry → ℕ
unsealed i [] = 0
unsealed i (e ∷ es) = cond (not (same (spread e.requests) (digest_of e.requests))) i (unsealed (suc i) es)

none-unsealed : (i : ℕ) (es : List Entry) → unsealed i es ≡ 0
unfolding unsealed
none-unsealed i [] = refl
none-unsealed i (e ∷ es) =
    ap (λ (b : Bool). cond (not b) i (unsealed (suc i) es))
    (ap (λ (d : List ℕ). same d (digest_of e.requests)) (spread-whole e.requests) ∙ same_refl (digest_of e.requests))
    ∙ none-unsealed (suc i) es

-- ---- the answer without the row of 30

passing : Proof → List ℕ → List ℕ → CounterId → List ℕ → Answer
passing p s verdicts id nonce =
    let rows = later_checks p s verdicts id nonce in
    cond (bad_wanted id nonce) (refuses 1 0) (first_answer (take 5 rows ++ drop 6 rows) (accepted p s verdicts id))

-- where the bytes read as a proof and its entries have their digests
passing-verified : (p : Proof) (s verdicts : List ℕ) (id : CounterId) (nonce : List ℕ) → parsed s ≡ Ok p
    → lowest (forged s (log_offset p.kind)) p.count ≡ 0 → verified s verdicts id nonce ≡ passing p s verdicts id nonce
unfolding passing judged
passing-verified p s verdicts id nonce reads sealed =
    let rows = later_checks p s verdicts id nonce in
    verified-parsed s verdicts id nonce
    ∙ ap (λ (r : Parsed). cond (bad_wanted id nonce) (refuses 1 0) (answer_of (λ (x : Proof). judged x s verdicts id nonce) r)) reads
    ∙ ap (λ (place : ℕ).
    cond (bad_wanted id nonce) (refuses 1 0) (first_answer (take 5 rows ++ (lowest_entry 30 place ∷ drop 6 rows)) (accepted p s verdicts id))) sealed

-- ---- every row holds

agrees : Case → Figures → Bool
agrees c f = eqb f.number c.number && (eqb f.value c.value && (eqb f.place c.place && eqb f.openings c.openings))

both : (a b : Bool) → T (a && b) → T a × T b
both true b t = (tt, t)
both false b t = absurd t

agreed : (c : Case) (f : Figures) → T (agrees c f) → Answers c f
unfolding agrees
agreed c f t =
    let n = both (eqb f.number c.number) _ t in
    let v = both (eqb f.value c.value) _ n.1 in
    let p = both (eqb f.place c.place) _ v.1 in
    record { number = eqb→eq _ _ n.0; value = eqb→eq _ _ v.0; place = eqb→eq _ _ p.0; openings = eqb→eq _ _ p.1 }

-- the answer of the other rows, what the bytes read as, and what 30 finds, and would find, in the entries
abbrev passed : Case → Figures
passed c = figures (passing (shape_of c.proof) (proof_bytes c.proof) c.verdicts c.id c.nonce)

abbrev reading : Case → Parsed
reading c = parsed (proof_bytes c.proof)

abbrev shape : Case → Parsed
shape c = Ok (shape_of c.proof)

abbrev found : Case → ℕ
found c = lowest (forged (proof_bytes c.proof) (log_offset (shape_of c.proof).kind)) (shape_of c.proof).count

abbrev unfound : Case → ℕ
unfound c = unsealed 1 (entries_at (proof_bytes c.proof) (log_offset (shape_of c.proof).kind) (shape_of c.proof).count)

every : List Case → Bool
every [] = true
every (c ∷ cs) = agrees c (passed c) && every cs

-- what is computed of the table
record Computed (cs : List Case) : Type 0 where
  reads : map reading cs ≡ map shape cs
  seals : map found cs ≡ map unfound cs
  answers : T (every cs)

computed : Computed (cases_by spread)
unfolding cases_by spread unsealed passing agrees every bad_wanted bad_verdicts bad_confirmation certificate_denied module_denied forged repeated
    closes_elsewhere wrong_reading wrong_closing is_own running_to breaks_chain closing verdicts_to zero_or_one lowest_from window same parsed walked offset_at
    entries_at confirmation_at confirmation_bytes certificate_at certificate_bytes entry_at head_bytes entry_bytes log_bytes request_at requests_at
    request_bytes joined names place_of before_of nonce_in names_twice is_sealed header_of header_bytes proof_bytes
computed = record { reads = refl; seals = refl; answers = tt }

holds : (c : Case) → reading c ≡ shape c → found c ≡ unfound c → T (agrees c (passed c)) → Holds c
holds c reads seals answers =
    subst (λ (a : Answer). Answers c (figures a))
    (sym (passing-verified (shape_of c.proof) (proof_bytes c.proof) c.verdicts c.id c.nonce reads (seals ∙ none-unsealed 1 _)))
    (agreed c (passed c) answers)

in_table : (c : Case) (cs : List Case) → map reading cs ≡ map shape cs → map found cs ≡ map unfound cs → T (every cs) → Memᴰ c cs → Holds c
unfolding every
in_table c [] reads seals answers m = elim m [ ]
in_table c (x ∷ xs) reads seals answers (Memᴰ.head e) =
    subst⁻¹ Holds e (holds x (head-eq_of_cons-eq reads) (head-eq_of_cons-eq seals) (both (agrees x (passed x)) (every xs) answers).0)
in_table c (x ∷ xs) reads seals answers (Memᴰ.tail m) =
    in_table c xs (tail-eq_of_cons-eq reads) (tail-eq_of_cons-eq seals) (both (agrees x (passed x)) (every xs) answers).1 m

-- the table is the same with each digest written as its twenty bytes
spread-cases : cases_by spread ≡ cases
unfolding cases
spread-cases = ap cases_by (λ i rs. spread-whole rs i)

pub cases-hold : (c : Case) → Memᴰ c cases → Holds c
cases-hold c m =
    let all = subst Computed spread-cases computed in
    in_table c cases all.reads all.seals all.answers m
