-- Rounds in which nobody acts: the next round with an act is found from the periods. Assumes nothing.
use Rattle.std.specs.Prelude.{ℕ, ◌+◌, ◌*◌, ◌/◌, min, cond, List, [], ◌∷◌, eqb}
use Rattle.tablets.specs.Tablet.{Tablet}

-- past every round of 32 bits
abbrev pub never : ℕ
never = 4294967296

-- the first round, behind those that are done, which a period divides
unfoldable pub next_turn : ℕ → ℕ → ℕ
next_turn period done = cond (eqb period 0) never ((done / period + 1) * period)

-- the first in which one of some tablets acts
unfoldable pub next_round : List Tablet → ℕ → ℕ
next_round [] done = never
next_round (t ∷ ts) done = min (next_turn t.period done) (next_round ts done)
