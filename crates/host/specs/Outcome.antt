-- What a call came to, in the figures of document 01: 0 and the value, or the refusal's number and 0. Assumes nothing.
use Rattle.std.specs.Prelude.{ℕ, cond, eqb, get_or, map, replicate, None, Some, Option, Ok, Err, Result}
use Rattle.forms.specs.Limits.{max_requests}
use Rattle.forms.specs.Refusal.{refusal_number}
use Rattle.forms.specs.Terms.{global_clock}
use Rattle.forms.specs.declared.refusal.Refusal.{Refusal}
use Rattle.forms.specs.declared.running.Running.{Running}
use Rattle.forms.specs.declared.terms.GlobalClock.{GlobalClock}
pub use Rattle.host.specs.declared.answer.Batch.{Batch}
pub use Rattle.host.specs.declared.answer.BatchFigures.{BatchFigures}
pub use Rattle.host.specs.declared.answer.Figures.{Figures}
pub use Rattle.host.specs.declared.answer.ReadFigures.{ReadFigures}

abbrev pub figures_of : Result ℕ Refusal → Figures
figures_of (Ok value) = record { number = 0; value = value }
figures_of (Err refusal) = record { number = refusal_number refusal; value = 0 }

abbrev pub read_figures_of : Result Running Refusal → ReadFigures
read_figures_of (Ok running) = record { number = 0; value = running.value; openings = running.openings }
read_figures_of (Err refusal) = record { number = refusal_number refusal; value = 0; openings = 0 }

-- a request's own number: its refusal's, or 0 where it passed
abbrev pub own_number : Option Refusal → ℕ
own_number None = 0
own_number (Some refusal) = refusal_number refusal

-- the clock's new reading, 0 where no request passed
abbrev pub reading_of : Option GlobalClock → ℕ
reading_of None = 0
reading_of (Some clock) = clock.0

abbrev pub batch_figures_of : Result Batch Refusal → BatchFigures
batch_figures_of (Ok batch) = record { number = 0; value = reading_of batch.clock; numbers = map own_number batch.refused }
batch_figures_of (Err refusal) = record { number = refusal_number refusal; value = 0; numbers = replicate {A = ℕ} max_requests 0 }

-- the clock that a value tells: "value the new clock, else 0"
abbrev pub clock_told : ℕ → Option GlobalClock
clock_told value = cond (eqb value 0) None (Some (global_clock value))

-- the clock that a batch came to, none where it was refused as a whole
abbrev pub clock_of : Result Batch Refusal → Option GlobalClock
clock_of (Ok batch) = batch.clock
clock_of (Err refusal) = None

-- what a request came to that was refused, or passed with others at a reading
abbrev pub outcome_at : Option Refusal → Option GlobalClock → Result ℕ Refusal
outcome_at (Some refusal) clock = Err refusal
outcome_at None clock = Ok (reading_of clock)

-- of a batch of one
abbrev pub outcome_of_one : Batch → Result ℕ Refusal
outcome_of_one batch = outcome_at (get_or batch.refused 0 None) batch.clock
