-- The walk along the clock: what one reading after another makes of something, by any step. A history's value and count and those along a
-- proof's entries are compared with it. Assumes nothing.
use Rattle.std.specs.Prelude.{ℕ, zero, suc, ◌+◌, Bool, cond}
use Rattle.forms.specs.Chain.{raised_running}
use Rattle.forms.specs.declared.running.Running.{Running}
use Rattle.forms.specs.declared.terms.GlobalClock.{GlobalClock}
use Rattle.forms.specs.Terms.{global_clock}

-- past the k readings that follow a reading
unfoldable pub clock_walk : {A : Type 0} → (A → GlobalClock → A) → A → GlobalClock → ℕ → A
clock_walk step a reading zero = a
clock_walk step a reading (suc k) = let next = global_clock (reading.0 + 1) in clock_walk step (step a next) next k

-- the value past one reading: a reading that counts becomes the value
abbrev pub pass : (GlobalClock → Bool) → ℕ → GlobalClock → ℕ
pass counting value t = cond (counting t) t.0 value

-- running value and count past one reading, which is counted where it counts
abbrev pub pass_running : (GlobalClock → Bool) → Running → GlobalClock → Running
pass_running counting r t = cond (counting t) (raised_running r t) r
