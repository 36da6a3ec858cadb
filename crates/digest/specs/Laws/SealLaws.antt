-- Laws of sealed entries: what is read of an entry's bytes is their digest; and the nonce of an entry made from requests fits. Assumes nothing.
use Rattle.std.specs.Prelude.{◌≡◌, ℕ, ◌+◌, ◌*◌, ◌<◌, ◌≤◌, Bool, true, false, ◌&&◌, List, length, take, drop}
use Rattle.std.proofs.Common.{sym, ap, ◌∙◌, arith, le-leb}
use Rattle.std.proofs.lemmas.Bool.{lt-leb}
use Rattle.forms.specs.Bytes.{Bytes, same, window}
use Rattle.forms.specs.Laws.BytesLaws.{same-equal, window-part, window-whole}
use Rattle.forms.specs.Entry.{Entry, entry_at, count_at, len_at}
use Rattle.forms.specs.Limits.{nonce_len, head_len, request_len}
use Rattle.forms.specs.Request.{joined}
use Rattle.forms.specs.declared.request.Request.{Request}
use Rattle.forms.specs.Laws.RequestLaws.{requests-window}
use Rattle.digest.specs.Seal.{digest_of, is_sealed, sealed_at}
use Rattle.digest.specs.Sha1.{sha1}
use Rattle.digest.specs.Laws.Sha1Laws.{sha1-length, sha1-bytes}

pub digest-length : (qs : List Request) → length (digest_of qs) ≡ nonce_len
unfolding digest_of
digest-length qs = sha1-length (joined qs)

pub digest-bytes : (qs : List Request) → Bytes (digest_of qs)
unfolding digest_of
digest-bytes qs = sha1-bytes (joined qs)

-- an entry at a place is sealed where its nonce is the digest of its requests' bytes
pub sealed-window : (s : List ℕ) (k : ℕ) → Bytes s
    → is_sealed (entry_at s k) ≡ same (entry_at s k).nonce (sha1 (window s (k + head_len) (request_len * count_at s k)))
unfolding is_sealed digest_of entry_at
sealed-window s k b =
    ap (λ (m : List ℕ). same (window s (k + (4 + 4)) nonce_len) (sha1 m)) (requests-window s (k + head_len) (count_at s k) b)

-- a sealed entry's nonce is the digest of its requests
pub sealed-nonce : (e : Entry) → is_sealed e ≡ true → e.nonce ≡ digest_of e.requests
unfolding is_sealed
sealed-nonce e is = same-equal e.nonce (digest_of e.requests) is

-- an entry that is not there whole is not sealed at its place; one that is there whole is where it is sealed
pub cut-unsealed : (s : List ℕ) (k : ℕ) → length s < k + len_at s k → sealed_at s k ≡ false
cut-unsealed s k short = ap (λ (b : Bool). b && is_sealed (entry_at s k)) (lt-leb (k + len_at s k) (length s) short)

pub whole-sealed : (s : List ℕ) (k : ℕ) → k + len_at s k ≤ length s → sealed_at s k ≡ is_sealed (entry_at s k)
whole-sealed s k whole = ap (λ (b : Bool). b && is_sealed (entry_at s k)) (le-leb (k + len_at s k) (length s) whole)

-- the comparison of an entry's nonce with the digest of the bytes behind its head
pub compared-sealed : (s : List ℕ) (k : ℕ) (digest : List ℕ) → Bytes s → k + len_at s k ≤ length s
    → digest ≡ sha1 (take (request_len * count_at s k) (drop (k + head_len) s))
    → same (entry_at s k).nonce (window digest 0 nonce_len) ≡ sealed_at s k
compared-sealed s k digest b whole is =
    ap (same (entry_at s k).nonce)
    (window-whole digest nonce_len (ap length is ∙ sha1-length (take (request_len * count_at s k) (drop (k + head_len) s)))
    ∙ is
    ∙ ap sha1 (sym (window-part s (k + head_len) (request_len * count_at s k) (omega (arith, whole)))))
    ∙ sym (sealed-window s k b)
    ∙ sym (whole-sealed s k whole)
