-- The lowest of the places 1 to n at which a test holds: document 01, "lowest entry first". Assumes nothing.
use Rattle.std.specs.Prelude.{ℕ, zero, suc, Bool, cond}

-- from place i on, among as many places as given; 0 where there is none
unfoldable pub lowest_from : (ℕ → Bool) → ℕ → ℕ → ℕ
lowest_from bad i zero = 0
lowest_from bad i (suc n) = cond (bad i) i (lowest_from bad (suc i) n)

abbrev pub lowest : (ℕ → Bool) → ℕ → ℕ
lowest bad n = lowest_from bad 1 n
