-- Laws of the validity proof's form: its limits, what bytes that read as a proof are like, and its parts stored one behind the other.
-- Assumes nothing.
use Rattle.std.specs.Prelude.{◌≡◌, refl, ℕ, ◌+◌, ◌≤◌, true, false, not, eqb, ltb, List, ◌++◌, drop, length, Ok}
use Rattle.std.proofs.Common.{sym, ap, ◌∙◌, arith, lit≤, le-ltb, ltb-false, eq-eqb, eqb-true, zero-add, length-append}
use Rattle.std.proofs.lemmas.Bool.{eqb-false}
use Rattle.forms.specs.Bytes.{overwrite}
use Rattle.forms.specs.Laws.BytesLaws.{overwrite-fits, stored_next}
use Rattle.forms.specs.Confirmation.{confirmation_bytes}
use Rattle.forms.specs.declared.confirmation.Confirmation.{Confirmation}
use Rattle.forms.specs.Certificate.{certificate_bytes}
use Rattle.forms.specs.declared.certificate.Certificate.{Certificate}
use Rattle.forms.specs.Entry.{offset_at}
use Rattle.forms.specs.Limits.{nonce_len, max_units, proof_header_len, max_proof_len}
use Rattle.forms.specs.Log.{ends_at, walk}
use Rattle.forms.specs.Laws.LogLaws.{end_at, ends-fully, ends-offset, walk-bound}
use Rattle.forms.specs.Number.{be32}
use Rattle.forms.specs.Laws.PartsLaws.{confirmation-length, certificate-length}
use Rattle.forms.specs.Laws.TestsLaws.{both, neither}
use Rattle.validity.specs.Proof.{Kind, Proof, nothing_raised, miscounted, confirmation_offset, certificate_offset, log_offset}
use Rattle.validity.specs.Proof.{known_form, shape_at, proof_laid_out, parsed, read_number, header_of, header_bytes, fields_of, proof_bytes}

-- ---- limits

-- a count within the limits
pub count-bound : (p : Proof) → miscounted p ≡ false → p.count ≤ max_units
count-bound p e = ltb-false max_units p.count (neither (ltb max_units p.count) (nothing_raised p.kind p.count) e).0

-- an increment's proof has an entry
pub count-some : (count : ℕ) → miscounted (record { kind = Kind.Increment; count = count }) ≡ false → 1 ≤ count
count-some count e =
    let some : count ≡ 0 → ⊥ = eqb-false count 0 (neither (ltb max_units count) (eqb count 0) e).1 in
    omega arith

pub log-bound : (kind : Kind) → log_offset kind ≤ 60
log-bound Kind.Read = lit≤ tt
log-bound Kind.Increment = lit≤ tt

pub certificate-bound : (kind : Kind) → certificate_offset kind ≤ 36
certificate-bound Kind.Read = lit≤ tt
certificate-bound Kind.Increment = lit≤ tt

-- the proof of entries that a walk passes is within the longest proof's length
pub proof_len-bound : (kind : Kind) (count : ℕ) (entries : List ℕ) → ends_at (walk entries 0 count) (length entries) ≡ true
    → log_offset kind + length entries ≤ max_proof_len
proof_len-bound kind count entries e =
    let at = ends-offset entries 0 count (length entries) e in
    omega (arith, at.1, walk-bound entries 0 count (end_at entries 0 count) at.0, log-bound kind)

-- ---- reading

-- the entries end with the bytes lent, and the whole length and the offsets are theirs and the kind's
pub record LaidOut (s : List ℕ) (p : Proof) : Type 0 where
  pub lent : ends_at (walk s (log_offset p.kind) p.count) (length s) ≡ true
  pub whole : be32 s 4 ≡ length s
  pub confirmation : be32 s 8 ≡ confirmation_offset
  pub certificate : be32 s 12 ≡ certificate_offset p.kind
  pub log : be32 s 16 ≡ log_offset p.kind

pub laid-out-yes : (s : List ℕ) (p : Proof) → LaidOut s p → proof_laid_out s p ≡ true
laid-out-yes s p l =
    simp (l.lent, eq-eqb _ _ l.whole, eq-eqb _ _ l.confirmation, eq-eqb _ _ l.certificate, eq-eqb _ _ l.log)

pub laid-out-parts : (s : List ℕ) (p : Proof) → proof_laid_out s p ≡ true → LaidOut s p
laid-out-parts s p e =
    let first = both _ _ e in
    let second = both _ _ first.1 in
    let third = both _ _ second.1 in
    let fourth = both _ _ third.1 in
    record {
      lent = first.0;
      whole = eqb-true _ _ second.0;
      confirmation = eqb-true _ _ third.0;
      certificate = eqb-true _ _ fourth.0;
      log = eqb-true _ _ fourth.1;
    }

-- bytes that pass checks 2 to 5
pub record Reads (s : List ℕ) : Type 0 where
  pub header : proof_header_len ≤ length s
  pub known : known_form s ≡ true
  pub counted : miscounted (shape_at s) ≡ false
  pub laid : LaidOut s (shape_at s)

-- they read as the proof that the header gives
pub reads-parsed : (s : List ℕ) → Reads s → parsed s ≡ Ok (shape_at s)
unfolding parsed
reads-parsed s r =
    simp (
      le-ltb (length s) proof_header_len r.header,
      ap not r.known,
      r.counted,
      ends-fully (walk s (log_offset (shape_at s).kind) (shape_at s).count) (length s) r.laid.lent,
      ap not (laid-out-yes s (shape_at s) r.laid),
    )

-- number 0 means that every check has passed
pub parsed-reads : (s : List ℕ) → read_number (parsed s) ≡ 0 → Reads s
unfolding parsed
parsed-reads s e =
    let p = shape_at s in
    let laid : proof_laid_out s p ≡ true = grind arith in
    record { header = grind arith; known = grind arith; counted = grind arith; laid = laid-out-parts s p laid }

-- bytes that read as a proof read as the one that their header gives
pub parsed-shape : (s : List ℕ) (p : Proof) → parsed s ≡ Ok p → p ≡ shape_at s
parsed-shape s p e =
    let same = sym e ∙ reads-parsed s (parsed-reads s (ap read_number e)) in
    grind arith

-- and its count is within the limits
pub parsed-counted : (s : List ℕ) (p : Proof) → parsed s ≡ Ok p → miscounted p ≡ false
parsed-counted s p e = ap miscounted (parsed-shape s p e) ∙ (parsed-reads s (ap read_number e)).counted

-- the walk over its entries ends with the bytes
pub parsed-ends : (s : List ℕ) (p : Proof) → parsed s ≡ Ok p → ends_at (walk s (log_offset p.kind) p.count) (length s) ≡ true
parsed-ends s p e =
    ap (λ (q : Proof). ends_at (walk s (log_offset q.kind) q.count) (length s)) (parsed-shape s p e) ∙ (parsed-reads s (ap read_number e)).laid.lent

pub parsed-walk : (s : List ℕ) (p : Proof) → parsed s ≡ Ok p
    → walk s (log_offset p.kind) p.count ≡ Ok (end_at s (log_offset p.kind) p.count)
parsed-walk s p e = (ends-offset s (log_offset p.kind) p.count (length s) (parsed-ends s p e)).0

pub parsed-length : (s : List ℕ) (p : Proof) → parsed s ≡ Ok p → length s ≡ offset_at s (log_offset p.kind) p.count
parsed-length s p e = sym (ends-offset s (log_offset p.kind) p.count (length s) (parsed-ends s p e)).1

-- ---- the parts stored one behind the other

pub header-length : (p : Proof) (len : ℕ) → length (header_bytes p len) ≡ proof_header_len
unfolding header_of header_bytes
header-length p len = refl

-- bytes stored from the front on
stored-front : (out v : List ℕ) (n : ℕ) → length v ≡ n → n ≤ length out → overwrite out 0 v ≡ v ++ drop n out
stored-front out v n e h =
    overwrite-fits out 0 v (omega arith) ∙ ap (λ (k : ℕ). v ++ drop k out) (zero-add (length v) ∙ e)

-- what storing a certificate makes of an output, where the kind has one
abbrev pub certified : Kind → Certificate → List ℕ → List ℕ
certified Kind.Read certificate out = overwrite out (certificate_offset Kind.Read) (certificate_bytes certificate)
certified Kind.Increment certificate out = out

module _ (confirmation : Confirmation) (certificate : Certificate) (count : ℕ) (entries out : List ℕ) (nonce : length certificate.nonce ≡ nonce_len) where
  stored-kind : (kind : Kind) {l₁ l₂ l₃ l₄ : List ℕ}
      → log_offset kind + length entries ≤ length out
      → l₁ ≡ overwrite out 0 (header_bytes (record { kind = kind; count = count }) (log_offset kind + length entries))
      → l₂ ≡ overwrite l₁ confirmation_offset (confirmation_bytes confirmation)
      → l₃ ≡ certified kind certificate l₂
      → l₄ ≡ overwrite l₃ (log_offset kind) entries
      → l₄ ≡ proof_bytes (fields_of kind confirmation certificate count entries) ++ drop (log_offset kind + length entries) out
  unfolding proof_bytes
  stored-kind Kind.Read room e₁ e₂ e₃ e₄ =
      let len = log_offset Kind.Read + length entries in
      let header = header_bytes (record { kind = Kind.Read; count = count }) len in
      let h = header-length (record { kind = Kind.Read; count = count }) len in
      let c = confirmation-length confirmation in
      let k = certificate-length certificate nonce in
      let hc : length (header ++ confirmation_bytes confirmation) ≡ 36 = length-append header (confirmation_bytes confirmation) ∙ (omega arith) in
      let hck : length (header ++ confirmation_bytes confirmation ++ certificate_bytes certificate) ≡ 60 =
      length-append (header ++ confirmation_bytes confirmation) (certificate_bytes certificate) ∙ (omega arith) in
      stored_next out 0 (header ++ confirmation_bytes confirmation ++ certificate_bytes certificate) entries
      (stored_next out 0 (header ++ confirmation_bytes confirmation) (certificate_bytes certificate)
      (stored_next out 0 header (confirmation_bytes confirmation) e₁ e₂ (omega arith) (omega arith))
      e₃ (omega arith) (omega arith))
      e₄ (omega arith) (omega arith)
      ∙ stored-front out (header ++ confirmation_bytes confirmation ++ certificate_bytes certificate ++ entries) len
      (length-append (header ++ confirmation_bytes confirmation ++ certificate_bytes certificate) entries ∙ (omega arith)) room
  stored-kind Kind.Increment room e₁ e₂ e₃ e₄ =
      let len = log_offset Kind.Increment + length entries in
      let header = header_bytes (record { kind = Kind.Increment; count = count }) len in
      let h = header-length (record { kind = Kind.Increment; count = count }) len in
      let c = confirmation-length confirmation in
      let hc : length (header ++ confirmation_bytes confirmation) ≡ 36 = length-append header (confirmation_bytes confirmation) ∙ (omega arith) in
      stored_next out 0 (header ++ confirmation_bytes confirmation) entries
      (stored_next out 0 header (confirmation_bytes confirmation) e₁ (e₃ ∙ e₂) (omega arith) (omega arith))
      e₄ (omega arith) (omega arith)
      ∙ stored-front out (header ++ confirmation_bytes confirmation ++ entries) len
      (length-append (header ++ confirmation_bytes confirmation) entries ∙ (omega arith)) room

-- header, confirmation, in kind 1 the certificate, and entries, stored in this order, are the proof in front of the rest of the output
pub stored-proof : (p : Proof) (confirmation : Confirmation) (certificate : Certificate) (entries out : List ℕ) {l₁ l₂ l₃ l₄ : List ℕ}
    → length certificate.nonce ≡ nonce_len
    → log_offset p.kind + length entries ≤ length out
    → l₁ ≡ overwrite out 0 (header_bytes p (log_offset p.kind + length entries))
    → l₂ ≡ overwrite l₁ confirmation_offset (confirmation_bytes confirmation)
    → l₃ ≡ certified p.kind certificate l₂
    → l₄ ≡ overwrite l₃ (log_offset p.kind) entries
    → l₄ ≡ proof_bytes (fields_of p.kind confirmation certificate p.count entries) ++ drop (log_offset p.kind + length entries) out
stored-proof p confirmation certificate entries out nonce = stored-kind confirmation certificate p.count entries out nonce p.kind
