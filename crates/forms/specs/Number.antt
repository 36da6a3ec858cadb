-- Big-endian numbers at a place of some bytes, at any width: document 01, "Fields are big-endian"; and words in a row: document 02,
-- Note 3. Assumes nothing.
use Rattle.std.specs.Prelude.{ℕ, zero, suc, ◌+◌, ◌*◌, ◌/◌, ◌%◌, ◌^◌, List, [], ◌∷◌, ◌++◌, get_or}

-- the number that the w bytes from place k on hold, the highest first; a byte that is not there counts as 0
abbrev pub big_endian : ℕ → List ℕ → ℕ → ℕ
big_endian zero s k = 0
big_endian (suc zero) s k = get_or s k 0
big_endian (suc (suc w)) s k = big_endian (suc w) s k * 256 + get_or s (k + suc w) 0

-- the w bytes that hold x, the highest first
abbrev pub digits : ℕ → ℕ → List ℕ
digits zero x = []
digits (suc zero) x = x % 256 ∷ []
digits (suc (suc w)) x = x / 256 ^ suc w % 256 ∷ digits (suc w) x

abbrev pub be16 : List ℕ → ℕ → ℕ
be16 s k = big_endian 2 s k

abbrev pub be32 : List ℕ → ℕ → ℕ
be32 s k = big_endian 4 s k

-- the first n words of 32 bits from place k on
unfoldable pub words : ℕ → List ℕ → ℕ → List ℕ
words zero s k = []
words (suc n) s k = words n s k ++ (be32 s (k + 4 * n) ∷ [])
