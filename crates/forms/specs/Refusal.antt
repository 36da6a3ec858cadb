-- The numbers that calls answer: document 01's tables of the desk, the host and the program, and those of document 02. Assumes nothing.
use Rattle.std.specs.Prelude.{ℕ, Result, Ok, Err}
pub use Rattle.forms.specs.declared.refusal.Refusal.{Refusal}

abbrev pub refusal_number : Refusal → ℕ
refusal_number Refusal.BadWanted = 1
refusal_number Refusal.TooShort = 2
refusal_number Refusal.UnknownForm = 3
refusal_number Refusal.BadCount = 4
refusal_number Refusal.BadLayout = 5
refusal_number Refusal.BadVerdicts = 6
refusal_number Refusal.BadConfirmation = 7
refusal_number Refusal.Unconfirmed = 8
refusal_number Refusal.Denied = 9
refusal_number Refusal.ClosesElsewhere = 10
refusal_number Refusal.WrongReading = 11
refusal_number Refusal.BrokenChain = 13
refusal_number Refusal.Forged = 30
refusal_number Refusal.Repeated = 31
refusal_number Refusal.Unsound = 14
refusal_number Refusal.Unsigned = 15
refusal_number Refusal.Malformed = 16
refusal_number Refusal.NotHeld = 17
refusal_number Refusal.AlreadyHeld = 18
refusal_number Refusal.TableFull = 19
refusal_number Refusal.TooEarly = 20
refusal_number Refusal.Misstated = 21
refusal_number Refusal.Stale = 22
refusal_number Refusal.NoEntry = 23
refusal_number Refusal.LogFull = 24
refusal_number Refusal.ClockEnded = 25
refusal_number Refusal.NoRoom = 26
refusal_number Refusal.NamedLater = 28
refusal_number Refusal.RaisedAlready = 29
refusal_number Refusal.UnknownLine = 27

-- the number of what a call came to: 0, or its refusal's
abbrev pub outcome_number : {A : Type 0} → Result A Refusal → ℕ
outcome_number (Ok a) = 0
outcome_number (Err refusal) = refusal_number refusal
