-- Laws of SHA-1's digests: 20 bytes for every message. Assumes nothing.
use Rattle.std.specs.Prelude.{◌≡◌, ℕ, zero, suc, ◌/◌, List, [], ◌∷◌, ◌++◌, length, refl}
use Rattle.forms.specs.Bytes.{Bytes}
use Rattle.forms.specs.Limits.{nonce_len}
use Rattle.forms.specs.Number.{digits}
use Rattle.forms.specs.Laws.NumberLaws.{bytes-digits}
use Rattle.digest.specs.declared.block.Hash.{Hash}
use Rattle.digest.specs.Sha1.{digest, sha1, hashed, initial, padded}

bytes-append : (s t : List ℕ) → Bytes s → Bytes t → Bytes (s ++ t)
unfolding Bytes
bytes-append [] t bs bt k = bt k
bytes-append (b ∷ s) t bs bt zero = bs zero
bytes-append (b ∷ s) t bs bt (suc k) = bytes-append s t (λ j. bs (suc j)) bt k

digest-bytes : (h : Hash) → Bytes (digest h)
unfolding digest
digest-bytes h =
    bytes-append (digits 4 h.a) (digits 4 h.b ++ digits 4 h.c ++ digits 4 h.d ++ digits 4 h.e) (bytes-digits 4 h.a)
    (bytes-append (digits 4 h.b) (digits 4 h.c ++ digits 4 h.d ++ digits 4 h.e) (bytes-digits 4 h.b)
    (bytes-append (digits 4 h.c) (digits 4 h.d ++ digits 4 h.e) (bytes-digits 4 h.c)
    (bytes-append (digits 4 h.d) (digits 4 h.e) (bytes-digits 4 h.d) (bytes-digits 4 h.e))))

pub sha1-length : (m : List ℕ) → length (sha1 m) ≡ nonce_len
unfolding sha1 digest
sha1-length m = refl

pub sha1-bytes : (m : List ℕ) → Bytes (sha1 m)
unfolding sha1
sha1-bytes m = digest-bytes (hashed initial (padded m) (length (padded m) / 64))
