-- Reading and writing a validity proof are inverse to each other: demand 2, "A proof written from fields reads as those fields, and bytes that
-- read as a proof are the only ones so written". Assumes nothing.
use Rattle.std.specs.Prelude.{◌≡◌, refl, ℕ, ◌+◌, ◌≤◌, Bool, true, false, ◌||◌, List, [], ◌++◌, length, drop, eqb, Ok}
use Rattle.std.proofs.Common.{sym, ap, ap₂, ◌∙◌, subst, arith, length-append, length-drop, take-append-drop, take_at, drop_at, le-ltb, eqb-true, ne_eqb}
use Rattle.forms.specs.Bytes.{Bytes, window}
use Rattle.forms.specs.Laws.BytesLaws.{window-part, window-append, length-window}
use Rattle.forms.specs.Laws.EntryLaws.{offset-grows}
use Rattle.forms.specs.Limits.{nonce_len, max_units, proof_form}
use Rattle.forms.specs.Log.{ends_at, walk}
use Rattle.forms.specs.Laws.LogLaws.{ends-drop, ends-offset}
use Rattle.forms.specs.Number.{be16, be32, digits}
use Rattle.forms.specs.Laws.NumberLaws.{big_endian-digits, big_endian-bound, digits-big_endian}
use Rattle.forms.specs.Terms.{counter_id, global_clock}
use Rattle.forms.specs.Confirmation.{confirmation_at, confirmation_bytes, ConfirmationFits}
use Rattle.forms.specs.declared.confirmation.Confirmation.{Confirmation}
use Rattle.forms.specs.Certificate.{certificate_at, certificate_bytes}
use Rattle.forms.specs.declared.certificate.Certificate.{Certificate}
use Rattle.forms.specs.Laws.PartsLaws.{CertificateFits, confirmation-window, certificate-window}
use Rattle.forms.specs.Laws.TestsLaws.{both}
use Rattle.validity.specs.Proof.{Kind, kind_number, kind_of, known_kind, known_form, shape_at, miscounted, log_offset, parsed, read_number, written, write_number}
use Rattle.validity.specs.Laws.ProofLaws.{LaidOut, Reads, reads-parsed, parsed-reads, count-bound, count-some, proof_len-bound}
use Rattle.validity.specs.Proof.{Fields, read, increment, shape_of, header_of, header_bytes, proof_bytes, proof_fields, fields_of}

-- the fields that writing takes: numbers of 32 bits, nonces of twenty bytes, a count within the limits, and bytes that are
-- exactly as many entries
pub record Taken (confirmation : Confirmation) (count : ℕ) (entries : List ℕ) : Type 0 where
  pub fits : ConfirmationFits confirmation
  pub few : count ≤ max_units
  pub whole : ends_at (walk entries 0 count) (length entries) ≡ true

abbrev pub Takes : Fields → Type 0
Takes (read confirmation certificate count entries) = Taken confirmation count entries × CertificateFits certificate
Takes (increment confirmation count entries) = Taken confirmation count entries × (1 ≤ count)

-- fields of the code's types that writing does not refuse
pub written-taken : (kind : ℕ) (confirmation : Confirmation) (certificate : Certificate) (count : ℕ) (entries : List ℕ) (room : ℕ)
    → ConfirmationFits confirmation → CertificateFits certificate → write_number (written kind count entries room) ≡ 0
    → Takes (fields_of (kind_of kind) confirmation certificate count entries)
unfolding written
written-taken kind confirmation certificate count entries room cf kf e = given (kind_of kind) (grind arith) (grind arith)
  where
    given : (k : Kind) → miscounted (record { kind = k; count = count }) ≡ false → ends_at (walk entries 0 count) (length entries) ≡ true
        → Takes (fields_of k confirmation certificate count entries)
    given Kind.Read m w = (record { fits = cf; few = count-bound (record { kind = Kind.Read; count = count }) m; whole = w }, kf)
    given Kind.Increment m w = (record { fits = cf; few = count-bound (record { kind = Kind.Increment; count = count }) m; whole = w }, count-some count m)

-- ---- what is written reads as it was given

read-decoded : (confirmation : Confirmation) (certificate : Certificate) (count : ℕ) (entries : List ℕ)
    → Taken confirmation count entries → CertificateFits certificate
    → proof_fields (proof_bytes (read confirmation certificate count entries)) ≡ read confirmation certificate count entries
unfolding proof_fields proof_bytes header_of header_bytes confirmation_bytes certificate_bytes confirmation_at certificate_at
read-decoded confirmation certificate count entries taken fits =
    let s = proof_bytes (read confirmation certificate count entries) in
    let nonce : window s 40 nonce_len ≡ certificate.nonce =
    window-part s 40 nonce_len (simp length-append (omega (arith, fits.nonce)))
    ∙ take_at certificate.nonce entries nonce_len fits.nonce in
    λ i. read
    (record {
      id = counter_id (big_endian-digits 4 confirmation.id.0 [] taken.fits.id i);
      value = big_endian-digits 4 confirmation.value [] taken.fits.value i;
      reading = global_clock (big_endian-digits 4 confirmation.reading.0 [] taken.fits.reading i);
    })
    (record { reading = global_clock (big_endian-digits 4 certificate.reading.0 [] fits.reading i); nonce = nonce i })
    (big_endian-digits 4 count [] (omega (arith, taken.few)) i)
    (drop_at certificate.nonce entries nonce_len fits.nonce i)

increment-decoded : (confirmation : Confirmation) (count : ℕ) (entries : List ℕ)
    → Taken confirmation count entries
    → proof_fields (proof_bytes (increment confirmation count entries)) ≡ increment confirmation count entries
unfolding proof_fields proof_bytes header_of header_bytes confirmation_bytes confirmation_at
increment-decoded confirmation count entries taken =
    λ i. increment
    (record {
      id = counter_id (big_endian-digits 4 confirmation.id.0 [] taken.fits.id i);
      value = big_endian-digits 4 confirmation.value [] taken.fits.value i;
      reading = global_clock (big_endian-digits 4 confirmation.reading.0 [] taken.fits.reading i);
    })
    (big_endian-digits 4 count [] (omega (arith, taken.few)) i)
    entries

-- fields written read as those fields
pub decode-encode : (fields : Fields) → Takes fields → proof_fields (proof_bytes fields) ≡ fields
decode-encode (read confirmation certificate count entries) takes = read-decoded confirmation certificate count entries takes.0 takes.1
decode-encode (increment confirmation count entries) takes = increment-decoded confirmation count entries takes.0

-- two different field values have different bytes
pub encode_injective : (f g : Fields) → Takes f → Takes g → proof_bytes f ≡ proof_bytes g → f ≡ g
encode_injective f g tf tg e = sym (decode-encode f tf) ∙ ap proof_fields e ∙ decode-encode g tg

-- ---- what is written reads as a proof

-- the walk over entries that stand behind other bytes ends with these
ends-behind : (s entries : List ℕ) (log count : ℕ) → drop log s ≡ entries → log ≤ length s → ends_at (walk entries 0 count) (length entries) ≡ true
    → ends_at (walk s log count) (length s) ≡ true
ends-behind s entries log count e h whole =
    sym (ends-drop s log count h) ∙ ap (λ (l : List ℕ). ends_at (walk l 0 count) (length l)) e ∙ whole

read-reads : (confirmation : Confirmation) (certificate : Certificate) (count : ℕ) (entries : List ℕ)
    → Taken confirmation count entries → CertificateFits certificate
    → parsed (proof_bytes (read confirmation certificate count entries)) ≡ Ok (record { kind = Kind.Read; count = count })
unfolding proof_bytes header_of header_bytes confirmation_bytes certificate_bytes
read-reads confirmation certificate count entries taken fits =
    let s = proof_bytes (read confirmation certificate count entries) in
    let long : length s ≡ 60 + length entries = simp length-append (omega (arith, fits.nonce)) in
    let short = proof_len-bound Kind.Read count entries taken.whole in
    let counted : be32 s 20 ≡ count = big_endian-digits 4 count [] (omega (arith, taken.few)) in
    let shape : shape_at s ≡ record { kind = Kind.Read; count = count } = λ i. record { kind = Kind.Read; count = counted i } in
    let behind : drop 60 s ≡ entries = drop_at certificate.nonce entries nonce_len fits.nonce in
    reads-parsed s (record {
      header = omega arith;
      known = refl;
      counted = ap miscounted shape ∙ ap (λ (b : Bool). b || false) (le-ltb max_units count taken.few);
      laid = subst (LaidOut s) (sym shape) (record {
        lent = ends-behind s entries 60 count behind (omega arith) taken.whole;
        whole = big_endian-digits 4 (60 + length entries) [] (omega arith) ∙ sym long;
        confirmation = refl;
        certificate = refl;
        log = refl;
      });
    })
    ∙ ap Ok shape

increment-reads : (confirmation : Confirmation) (count : ℕ) (entries : List ℕ)
    → Taken confirmation count entries → 1 ≤ count
    → parsed (proof_bytes (increment confirmation count entries)) ≡ Ok (record { kind = Kind.Increment; count = count })
unfolding proof_bytes header_of header_bytes confirmation_bytes
increment-reads confirmation count entries taken some =
    let s = proof_bytes (increment confirmation count entries) in
    let long : length s ≡ 36 + length entries = omega arith in
    let short = proof_len-bound Kind.Increment count entries taken.whole in
    let counted : be32 s 20 ≡ count = big_endian-digits 4 count [] (omega (arith, taken.few)) in
    let shape : shape_at s ≡ record { kind = Kind.Increment; count = count } = λ i. record { kind = Kind.Increment; count = counted i } in
    reads-parsed s (record {
      header = omega arith;
      known = refl;
      counted = ap miscounted shape ∙ ap₂ ◌||◌ (le-ltb max_units count taken.few) (ne_eqb count 0 (λ e. omega arith));
      laid = subst (LaidOut s) (sym shape) (record {
        lent = ends-behind s entries 36 count refl (omega arith) taken.whole;
        whole = big_endian-digits 4 (36 + length entries) [] (omega arith) ∙ sym long;
        confirmation = refl;
        certificate = refl;
        log = refl;
      });
    })
    ∙ ap Ok shape

pub encode-reads : (fields : Fields) → Takes fields → parsed (proof_bytes fields) ≡ Ok (shape_of fields)
encode-reads (read confirmation certificate count entries) takes = read-reads confirmation certificate count entries takes.0 takes.1
encode-reads (increment confirmation count entries) takes = increment-reads confirmation count entries takes.0 takes.1

-- ---- bytes that read as a proof

-- a known kind's number is that of its kind
kind-number : (n : ℕ) → known_kind n ≡ true → kind_number (kind_of n) ≡ n
kind-number n known = grind arith

both-known : (s : List ℕ) → known_form s ≡ true → (be16 s 0 ≡ proof_form) × (known_kind (be16 s 2) ≡ true)
both-known s e =
    let parts = both (eqb (be16 s 0) proof_form) (known_kind (be16 s 2)) e in
    (eqb-true (be16 s 0) proof_form parts.0, parts.1)

-- the header of bytes that read as a proof
header-window : (s : List ℕ) → Bytes s → Reads s → header_bytes (shape_at s) (length s) ≡ window s 0 24
unfolding header_of header_bytes
header-window s b r =
    let known = both-known s r.known in
    let laid = r.laid in
    ap₂ (λ (front back : List ℕ). front ++ back)
    (ap₂ (λ (front back : List ℕ). front ++ back)
    (ap₂ (λ (front back : List ℕ). front ++ back)
    (ap₂ (λ (front back : List ℕ). front ++ back)
    (ap₂ (λ (front back : List ℕ). front ++ back)
    (ap₂ (λ (front back : List ℕ). front ++ back)
    (ap (digits 2) (sym known.0) ∙ digits-big_endian 2 s 0 b)
    (ap (digits 2) (kind-number (be16 s 2) known.1) ∙ digits-big_endian 2 s 2 b)
    ∙ sym (window-append s 0 2 2))
    (ap (digits 4) (sym laid.whole) ∙ digits-big_endian 4 s 4 b)
    ∙ sym (window-append s 0 4 4))
    (ap (digits 4) (sym laid.confirmation) ∙ digits-big_endian 4 s 8 b)
    ∙ sym (window-append s 0 8 4))
    (ap (digits 4) (sym laid.certificate) ∙ digits-big_endian 4 s 12 b)
    ∙ sym (window-append s 0 12 4))
    (ap (digits 4) (sym laid.log) ∙ digits-big_endian 4 s 16 b)
    ∙ sym (window-append s 0 16 4))
    (digits-big_endian 4 s 20 b)
    ∙ sym (window-append s 0 20 4)

-- the parts that bytes read as, written one behind the other, are the bytes
encode-parts : (kind : Kind) (count : ℕ) (s : List ℕ) → Bytes s → log_offset kind ≤ length s
    → header_bytes (record { kind = kind; count = count }) (length s) ≡ window s 0 24
    → proof_bytes (fields_of kind (confirmation_at s 24) (certificate_at s 36) count (drop (log_offset kind) s)) ≡ s
unfolding proof_bytes
encode-parts Kind.Read count s b long header =
    let all : 60 + length (drop 60 s) ≡ length s = ap (λ (n : ℕ). 60 + n) (length-drop 60 s) ∙ (omega arith) in
    ap (λ (front : List ℕ). front ++ drop 60 s)
    (ap₂ (λ (front back : List ℕ). front ++ back)
    (ap₂ (λ (front back : List ℕ). front ++ back) (ap (header_bytes (record { kind = Kind.Read; count = count })) all ∙ header) (confirmation-window s 24 b)
    ∙ sym (window-append s 0 24 12))
    (certificate-window s 36 b)
    ∙ sym (window-append s 0 36 24)
    ∙ window-part s 0 60 long)
    ∙ take-append-drop 60 s
encode-parts Kind.Increment count s b long header =
    let all : 36 + length (drop 36 s) ≡ length s = ap (λ (n : ℕ). 36 + n) (length-drop 36 s) ∙ (omega arith) in
    ap (λ (front : List ℕ). front ++ drop 36 s)
    (ap₂ (λ (front back : List ℕ). front ++ back) (ap (header_bytes (record { kind = Kind.Increment; count = count })) all ∙ header) (confirmation-window s 24 b)
    ∙ sym (window-append s 0 24 12)
    ∙ window-part s 0 36 long)
    ∙ take-append-drop 36 s

-- the entries begin within the bytes
log-within : (s : List ℕ) → Reads s → log_offset (shape_at s).kind ≤ length s
log-within s r =
    let p = shape_at s in
    omega (arith, (ends-offset s (log_offset p.kind) p.count (length s) r.laid.lent).1, offset-grows s (log_offset p.kind) p.count)

-- bytes that read as a proof are the bytes written from the fields that they read as
pub encode-decode : (s : List ℕ) → Bytes s → read_number (parsed s) ≡ 0 → proof_bytes (proof_fields s) ≡ s
unfolding proof_fields
encode-decode s b e =
    let r = parsed-reads s e in
    encode-parts (kind_of (be16 s 2)) (be32 s 20) s b (log-within s r) (header-window s b r)

taken-parts : (kind : Kind) (count : ℕ) (s : List ℕ) → Bytes s → miscounted (record { kind = kind; count = count }) ≡ false
    → ends_at (walk (drop (log_offset kind) s) 0 count) (length (drop (log_offset kind) s)) ≡ true
    → Takes (fields_of kind (confirmation_at s 24) (certificate_at s 36) count (drop (log_offset kind) s))
unfolding confirmation_at certificate_at
taken-parts Kind.Read count s b counted ends = (
  record {
    fits = record { id = big_endian-bound 4 s 24 b; value = big_endian-bound 4 s 28 b; reading = big_endian-bound 4 s 32 b };
    few = count-bound (record { kind = Kind.Read; count = count }) counted;
    whole = ends;
  },
  record { reading = big_endian-bound 4 s 36 b; nonce = length-window s 40 nonce_len },
)
taken-parts Kind.Increment count s b counted ends = (
  record {
    fits = record { id = big_endian-bound 4 s 24 b; value = big_endian-bound 4 s 28 b; reading = big_endian-bound 4 s 32 b };
    few = count-bound (record { kind = Kind.Increment; count = count }) counted;
    whole = ends;
  },
  count-some count counted,
)

-- and those are fields that writing takes
pub decode-taken : (s : List ℕ) → Bytes s → read_number (parsed s) ≡ 0 → Takes (proof_fields s)
unfolding proof_fields
decode-taken s b e =
    let r = parsed-reads s e in
    taken-parts (kind_of (be16 s 2)) (be32 s 20) s b r.counted
    (ends-drop s (log_offset (shape_at s).kind) (be32 s 20) (log-within s r) ∙ r.laid.lent)
