-- Laws of the value that the history gives a counter: at its opening, and with another history that gives the same. Assumes nothing.
use Rattle.std.specs.Prelude.{ℕ, ◌≡◌, List}
use Rattle.std.proofs.Common.{sym, ◌∙◌, le_refl}
use Rattle.forms.specs.declared.confirmation.Confirmation.{Confirmation}
use Rattle.forms.specs.declared.terms.CounterId.{CounterId}
use Rattle.forms.specs.declared.terms.GlobalClock.{GlobalClock}
use Rattle.history.specs.History.{HistoryEvent}
use Rattle.history.specs.Value.{Signatures, value_at}
use Rattle.history.proofs.Laws.ValueLaws.{value_at-opened}
use Rattle.assurance.specs.DeskList.{Item, Opening}
use Rattle.assurance.specs.Valued.{Valued}

module _ (first : GlobalClock) (signed : Signatures) (l : List Item) where
  -- an opening whose value is its reading, by any history
  pub opening-valued : (h : List HistoryEvent) (id : CounterId) (j : ℕ) (k : Confirmation) → Opening l id j k → k.value ≡ k.reading.0
      → Valued first signed l h id k.reading k.value
  opening-valued h id j k opens same =
      record {
        place = j;
        opening = k;
        opens = opens;
        within = le_refl k.reading.0;
        given = same ∙ sym (value_at-opened signed id first h k.reading);
      }

  -- another history with the same values at the reading
  pub valued_same : (h h' : List HistoryEvent) (id : CounterId) (reading : GlobalClock) (value : ℕ)
      → ((opened : GlobalClock) → value_at signed id first h opened reading ≡ value_at signed id first h' opened reading)
      → Valued first signed l h id reading value → Valued first signed l h' id reading value
  valued_same h h' id reading value same v =
      record { place = v.place; opening = v.opening; opens = v.opens; within = v.within; given = v.given ∙ same v.opening.reading }
