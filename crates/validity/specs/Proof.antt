-- The validity proof's form: document 01, "Proof form", with the entries of document 02's Note 7. What bytes read as, what is written from fields, and
-- the numbers of the refusals.
-- Assumes nothing.
use Rattle.std.specs.Prelude.{ℕ, ◌+◌, Bool, false, cond, not, ◌&&◌, ◌||◌, List, [], ◌∷◌, ◌++◌, eqb, ltb, length, drop, Ok, Err, Result, Some, None, Option}
use Rattle.forms.specs.Limits.{confirmation_len, certificate_len, max_units, proof_form, proof_header_len}
use Rattle.forms.specs.Log.{ends_at, overfull, walk}
use Rattle.forms.specs.declared.log.WalkError.{WalkError}
use Rattle.forms.specs.declared.refusal.Refusal.{Refusal}
use Rattle.forms.specs.Number.{be16, be32, digits}
use Rattle.forms.specs.Checks.{◌gives◌, first_answer}
use Rattle.forms.specs.Confirmation.{confirmation_at, confirmation_bytes}
use Rattle.forms.specs.declared.confirmation.Confirmation.{Confirmation}
use Rattle.forms.specs.Certificate.{certificate_at, certificate_bytes}
use Rattle.forms.specs.declared.certificate.Certificate.{Certificate}
pub use Rattle.validity.specs.declared.proof.Kind.{Kind}
pub use Rattle.validity.specs.declared.proof.Proof.{Proof}
pub use Rattle.validity.specs.declared.proof.ParseError.{ParseError}
pub use Rattle.validity.specs.declared.proof.UnknownKind.{UnknownKind}
pub use Rattle.validity.specs.declared.writing.WriteError.{WriteError}

-- ---- layout

-- "kind (2 bytes): 1 read, 2 increment"
abbrev pub kind_number : Kind → ℕ
kind_number Kind.Read = 1
kind_number Kind.Increment = 2

abbrev pub known_kind : ℕ → Bool
known_kind n = eqb n 1 || eqb n 2

-- the kind of a known number
abbrev pub kind_of : ℕ → Kind
kind_of n = cond (eqb n 1) Kind.Read Kind.Increment

-- that kind, or the number that is unknown
abbrev pub kind_or_unknown : ℕ → Result Kind UnknownKind
kind_or_unknown n = cond (known_kind n) (Ok (kind_of n)) (Err (record { 0 = n }))

-- "offset of confirmation = 24"
abbrev pub confirmation_offset : ℕ
confirmation_offset = proof_header_len

-- "offset of clock certificate: 36 in kind 1, 0 in kind 2"
abbrev pub certificate_offset : Kind → ℕ
certificate_offset Kind.Read = confirmation_offset + confirmation_len
certificate_offset Kind.Increment = 0

-- "offset of log: 60 in kind 1, 36 in kind 2"
abbrev pub log_offset : Kind → ℕ
log_offset Kind.Read = confirmation_offset + confirmation_len + certificate_len
log_offset Kind.Increment = confirmation_offset + confirmation_len

-- ---- reading

-- check 3: form 2, and kind 1 or 2
abbrev pub known_form : List ℕ → Bool
known_form s = eqb (be16 s 0) proof_form && known_kind (be16 s 2)

-- the kind that the header gives, where the form and the kind are known
abbrev pub kind_at : List ℕ → Option Kind
kind_at s = cond (known_form s) (Some (kind_of (be16 s 2))) None

-- the kind and the count n that the header gives
abbrev pub shape_at : List ℕ → Proof
shape_at s = record { kind = kind_of (be16 s 2); count = be32 s 20 }

-- "n = 0 in kind 2"
abbrev pub nothing_raised : Kind → ℕ → Bool
nothing_raised Kind.Read n = false
nothing_raised Kind.Increment n = eqb n 0

-- check 4: n over 1,024, or n = 0 in kind 2
abbrev pub miscounted : Proof → Bool
miscounted p = ltb max_units p.count || nothing_raised p.kind p.count

-- check 4: "more than that or a count over 8", in the entries that begin at a place of some bytes
abbrev pub overcounted : List ℕ → ℕ → ℕ → Bool
overcounted s log n = overfull (walk s log n)

-- check 5: the bytes lent end with the n-th entry, and the whole length and the three offsets are theirs and the kind's
abbrev pub proof_laid_out : List ℕ → Proof → Bool
proof_laid_out s p =
    ends_at (walk s (log_offset p.kind) p.count) (length s)
    && (eqb (be32 s 4) (length s)
    && (eqb (be32 s 8) confirmation_offset
    && (eqb (be32 s 12) (certificate_offset p.kind)
    && eqb (be32 s 16) (log_offset p.kind))))

-- what bytes read as
abbrev pub Parsed : Type 0
Parsed = Result Proof ParseError

-- why bytes are no proof whose walk comes to no end
abbrev pub unread_for : WalkError → ParseError
unread_for WalkError.TooMany = ParseError.BadCount
unread_for WalkError.Cut = ParseError.BadLayout

-- what bytes read as: checks 2 to 5 in their order
unfoldable pub parsed : List ℕ → Parsed
parsed s =
    first_answer
    ((ltb (length s) proof_header_len gives (Err ParseError.TooShort))
    ∷ (not (known_form s) gives (Err ParseError.UnknownForm))
    ∷ (miscounted (shape_at s) gives (Err ParseError.BadCount))
    ∷ (overcounted s (log_offset (shape_at s).kind) (shape_at s).count gives (Err ParseError.BadCount))
    ∷ (not (proof_laid_out s (shape_at s)) gives (Err ParseError.BadLayout))
    ∷ [])
    (Ok (shape_at s))

-- document 01's number for each answer of reading; 0: bytes that read as a proof
abbrev pub read_number : Parsed → ℕ
read_number (Err ParseError.TooShort) = 2
read_number (Err ParseError.UnknownForm) = 3
read_number (Err ParseError.BadCount) = 4
read_number (Err ParseError.BadLayout) = 5
read_number (Ok p) = 0

-- the refusal by that number
abbrev pub refusal_of : ParseError → Refusal
refusal_of ParseError.TooShort = Refusal.TooShort
refusal_of ParseError.UnknownForm = Refusal.UnknownForm
refusal_of ParseError.BadCount = Refusal.BadCount
refusal_of ParseError.BadLayout = Refusal.BadLayout

-- ---- fields

-- a proof's fields: confirmation, in kind 1 the clock certificate, count and entry bytes
pub data Fields : Type 0 where
  read : Confirmation → Certificate → ℕ → List ℕ → Fields
  increment : Confirmation → ℕ → List ℕ → Fields

-- the fields that are given for a known kind; in kind 2 the certificate is none of them
abbrev pub fields_of : Kind → Confirmation → Certificate → ℕ → List ℕ → Fields
fields_of Kind.Read confirmation certificate count entries = read confirmation certificate count entries
fields_of Kind.Increment confirmation certificate count entries = increment confirmation count entries

abbrev pub shape_of : Fields → Proof
shape_of (read confirmation certificate count entries) = record { kind = Kind.Read; count = count }
shape_of (increment confirmation count entries) = record { kind = Kind.Increment; count = count }

-- how long the proof of some fields is
abbrev pub fields_len : Fields → ℕ
fields_len (read confirmation certificate count entries) = log_offset Kind.Read + length entries
fields_len (increment confirmation count entries) = log_offset Kind.Increment + length entries

-- the header's 24 bytes, from the numbers in it
unfoldable pub header_of : ℕ → ℕ → ℕ → ℕ → ℕ → List ℕ
header_of kind len certificate log count =
    digits 2 proof_form
    ++ digits 2 kind
    ++ digits 4 len
    ++ digits 4 confirmation_offset
    ++ digits 4 certificate
    ++ digits 4 log
    ++ digits 4 count

unfoldable pub header_bytes : Proof → ℕ → List ℕ
header_bytes p len = header_of (kind_number p.kind) len (certificate_offset p.kind) (log_offset p.kind) p.count

-- the bytes written from fields
unfoldable pub proof_bytes : Fields → List ℕ
proof_bytes (read confirmation certificate count entries) =
    header_bytes (record { kind = Kind.Read; count = count }) (log_offset Kind.Read + length entries)
    ++ confirmation_bytes confirmation
    ++ certificate_bytes certificate
    ++ entries
proof_bytes (increment confirmation count entries) =
    header_bytes (record { kind = Kind.Increment; count = count }) (log_offset Kind.Increment + length entries)
    ++ confirmation_bytes confirmation
    ++ entries

-- the fields that bytes read as
unfoldable pub proof_fields : List ℕ → Fields
proof_fields s =
    fields_of (kind_of (be16 s 2)) (confirmation_at s confirmation_offset) (certificate_at s (certificate_offset Kind.Read)) (be32 s 20)
    (drop (log_offset (kind_of (be16 s 2))) s)

-- ---- writing

-- what writing answers: a length, or why nothing is written
abbrev pub Written : Type 0
Written = Result ℕ WriteError

-- why fields are not written over whose entries the walk comes to no end
abbrev pub unwritten_for : WalkError → WriteError
unwritten_for WalkError.TooMany = WriteError.BadCount
unwritten_for WalkError.Cut = WriteError.BadEntries

-- what writing from fields answers: 3, 4, 5 (the entry bytes are not exactly n entries), then 26 (the output is too short)
unfoldable pub written : ℕ → ℕ → List ℕ → ℕ → Written
written kind count entries room =
    let p : Proof = record { kind = kind_of kind; count = count } in
    let len : ℕ = log_offset (kind_of kind) + length entries in
    first_answer
    ((not (known_kind kind) gives (Err WriteError.UnknownKind))
    ∷ (miscounted p gives (Err WriteError.BadCount))
    ∷ (overcounted entries 0 count gives (Err WriteError.BadCount))
    ∷ (not (ends_at (walk entries 0 count) (length entries)) gives (Err WriteError.BadEntries))
    ∷ (ltb room len gives (Err WriteError.NoRoom))
    ∷ [])
    (Ok len)

-- document 01's number and value for each answer of writing
abbrev pub write_number : Written → ℕ
write_number (Err WriteError.UnknownKind) = 3
write_number (Err WriteError.BadCount) = 4
write_number (Err WriteError.BadEntries) = 5
write_number (Err WriteError.NoRoom) = 26
write_number (Ok n) = 0

-- the refusal by that number
abbrev pub write_refusal_of : WriteError → Refusal
write_refusal_of WriteError.UnknownKind = Refusal.UnknownForm
write_refusal_of WriteError.BadCount = Refusal.BadCount
write_refusal_of WriteError.BadEntries = Refusal.BadLayout
write_refusal_of WriteError.NoRoom = Refusal.NoRoom

abbrev pub write_value : Written → ℕ
write_value (Err e) = 0
write_value (Ok n) = n

-- the output after writing: the proof followed by the rest of the old output, or the old output where the fields are refused
unfoldable pub output_after : Written → Fields → List ℕ → List ℕ
output_after (Err e) fields out = out
output_after (Ok n) fields out = proof_bytes fields ++ drop n out
