-- Bytes as lists of numbers: a part of them, a part stored over them, and two parts compared. What lies past the end reads as 0.
-- Assumes nothing.
use Rattle.std.specs.Prelude.{ℕ, zero, suc, ◌+◌, ◌<◌, Bool, true, false, cond, ◌&&◌, List, [], ◌∷◌, ◌++◌, length, get_or, take, drop, leb, eqb}

-- every element is a byte
unfoldable pub Bytes : List ℕ → Type 0
Bytes s = (k : ℕ) → get_or s k 0 < 256

-- the n bytes from place k on, 0 for each that is not there
unfoldable pub window : List ℕ → ℕ → ℕ → List ℕ
window s k zero = []
window s k (suc n) = get_or s k 0 ∷ window s (suc k) n

-- s with v in place of as many of its bytes from place k on
abbrev pub splice : List ℕ → ℕ → List ℕ → List ℕ
splice s k v = take k s ++ (v ++ drop (k + length v) s)

-- s with v stored from place k on, or s itself where v does not fit there
unfoldable pub overwrite : List ℕ → ℕ → List ℕ → List ℕ
overwrite s k v = cond (leb (k + length v) (length s)) (splice s k v) s

-- whether two lists of bytes are the same
unfoldable pub same : List ℕ → List ℕ → Bool
same [] [] = true
same [] (b ∷ m) = false
same (a ∷ l) [] = false
same (a ∷ l) (b ∷ m) = eqb a b && same l m
