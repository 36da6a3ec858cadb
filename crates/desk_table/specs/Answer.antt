-- The desk's answer and the five figures for it: document 01, "Answers: number, value, closing reading T, place", and the openings of document
-- 02's Note 1. Assumes nothing.
use Rattle.std.specs.Prelude.{ℕ, Ok, Err, Result}
use Rattle.forms.specs.Refusal.{refusal_number}
use Rattle.forms.specs.declared.running.Running.{Running}
use Rattle.forms.specs.declared.terms.GlobalClock.{GlobalClock}
pub use Rattle.desk_table.specs.declared.answer.Accepted.{Accepted}
pub use Rattle.desk_table.specs.declared.answer.Figures.{Figures}
pub use Rattle.desk_table.specs.declared.answer.Refused.{Refused}

-- an accepted proof shows running value, count and closing reading; a refused one the number of the check that refuses it, and a place
pub data Answer : Type 0 where
  shows : Running → GlobalClock → Answer
  refuses : ℕ → ℕ → Answer

-- what the desk's code answers, with the refusal's number, and place 0 where no entry is refused
abbrev pub told : Result Accepted Refused → Answer
told (Ok a) = shows a.running a.closing
told (Err r) = refuses (refusal_number r.refusal) r.place

-- an accepted proof has number 0 and place 0; a refused one has value, closing reading and openings 0
abbrev pub figures : Answer → Figures
figures (shows running closing) = record { number = 0; value = running.value; closing = closing.0; place = 0; openings = running.openings }
figures (refuses number place) = record { number = number; value = 0; closing = 0; place = place; openings = 0 }
