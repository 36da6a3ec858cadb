-- A tablet, what its acts came to, and the nonces that it asks with: document 02, Note 8: "up to 32 tablets, each with a box, a period in rounds
-- and a believed value". Assumes nothing.
use Rattle.std.specs.Prelude.{ℕ, ◌+◌, min, List, ◌++◌, replicate}
use Rattle.forms.specs.Limits.{max_word}
use Rattle.forms.specs.Number.{digits}
use Rattle.forms.specs.declared.terms.CounterId.{CounterId}
pub use Rattle.tablets.specs.declared.tablet.Tablet.{Tablet}

abbrev pub max_tablets : ℕ
max_tablets = 32

-- ---- what is counted: "raises made, answers 22, answers 24"

-- one more, up to the largest figure of 32 bits, for a tablet that is handed over with any. A tablet acts at most once in a round, so that in a run
-- each figure is the number of those answers (`FigureLaws`)
abbrev pub one_more : ℕ → ℕ
one_more n = min (n + 1) max_word

abbrev pub blank : CounterId → ℕ → ℕ → Tablet
blank id period belief = record { id = id; period = period; belief = belief; raises = 0; stale = 0; full = 0 }

-- "which a success makes the new clock"
abbrev pub succeeded : Tablet → ℕ → Tablet
succeeded t clock =
    record { id = t.id; period = t.period; belief = clock; raises = one_more t.raises; stale = t.stale; full = t.full }

-- an answer 22, and an answer 24
abbrev pub refused_stale : Tablet → Tablet
refused_stale t = record { id = t.id; period = t.period; belief = t.belief; raises = t.raises; stale = one_more t.stale; full = t.full }

abbrev pub refused_full : Tablet → Tablet
refused_full t = record { id = t.id; period = t.period; belief = t.belief; raises = t.raises; stale = t.stale; full = one_more t.full }

-- "adopts the value"
abbrev pub adopting : Tablet → ℕ → Tablet
adopting t value = record { id = t.id; period = t.period; belief = value; raises = t.raises; stale = t.stale; full = t.full }

-- ---- nonces

-- what a nonce is for
abbrev pub for_raise : ℕ
for_raise = 1

abbrev pub for_proof : ℕ
for_proof = 2

-- a nonce for each raise and each proof: what it is for, the round and the tablet's number, in four bytes each, and zeros behind them
unfoldable pub nonce_for : ℕ → ℕ → ℕ → List ℕ
nonce_for purpose round number = digits 4 purpose ++ (digits 4 round ++ (digits 4 number ++ replicate {A = ℕ} 8 0))
