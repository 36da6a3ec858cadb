-- What a check of the desk's table makes of a place, and of a test. Assumes nothing.
use Rattle.std.specs.Prelude.{ℕ, Bool, cond, Option, Some, None, Result, Ok, Err}
use Rattle.forms.specs.declared.refusal.Refusal.{Refusal}
use Rattle.desk_table.specs.declared.answer.Refused.{Refused}

-- refused at the place, where there is one
abbrev pub refused_at : Option ℕ → Refusal → Result (Unit {0}) Refused
refused_at None refusal = Ok tt
refused_at (Some place) refusal = Err (record { refusal = refusal; place = place })

-- refused at no entry
abbrev pub refused_if : Bool → Refusal → Result (Unit {0}) Refused
refused_if bad refusal = cond bad (Err (record { refusal = refusal; place = 0 })) (Ok tt)
