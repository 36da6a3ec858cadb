-- A value that the history gives a counter at a reading, counted from the counter's opening in the desk's list. A definition alone. Assumes nothing.
use Rattle.std.specs.Prelude.{ℕ, ◌≤◌, ◌≡◌, List}
use Rattle.forms.specs.declared.confirmation.Confirmation.{Confirmation}
use Rattle.forms.specs.declared.terms.CounterId.{CounterId}
use Rattle.forms.specs.declared.terms.GlobalClock.{GlobalClock}
use Rattle.history.specs.History.{HistoryEvent}
use Rattle.history.specs.Value.{Signatures, value_at}
use Rattle.assurance.specs.DeskList.{Item, Opening}

-- the opening stands in the list l, the value is that of the history h: the list's own, or what one has of it at a place
pub record Valued (first : GlobalClock) (signed : Signatures) (l : List Item) (h : List HistoryEvent)
    (id : CounterId)
    (reading : GlobalClock)
    (value : ℕ) : Type 0 where
  pub place : ℕ
  pub opening : Confirmation
  pub opens : Opening l id place opening
  pub within : opening.reading.0 ≤ reading.0
  pub given : value ≡ value_at signed id first h opening.reading reading
