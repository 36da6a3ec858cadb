-- The two numbers of 32 bits that are never taken one for the other, for definitions to name: a counter's id (document 01: box number)
-- and a reading of the global clock. Assumes nothing.
use Rattle.std.specs.Prelude.{ℕ, Bool, eqb}
pub use Rattle.forms.specs.declared.terms.CounterId.{CounterId}
pub use Rattle.forms.specs.declared.terms.GlobalClock.{GlobalClock}

abbrev pub counter_id : ℕ → CounterId
counter_id n = record { 0 = n }

abbrev pub global_clock : ℕ → GlobalClock
global_clock n = record { 0 = n }

-- whether two ids name the same counter
abbrev pub same_id : CounterId → CounterId → Bool
same_id a b = eqb a.0 b.0
