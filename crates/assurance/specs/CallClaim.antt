-- A further claim of the desk's calls, beside `DeskClaim`: the openings rest on the call's own true verdicts alone, and the value supposes bytes of the
-- counter's own accepted calls alone. Definitions alone; the proof stands in files of its own. Assumes nothing.
use Rattle.std.specs.Prelude.{ℕ, ◌≤◌, ◌≡◌, ◌⊎◌, List}
use Rattle.forms.specs.Bytes.{Bytes}
use Rattle.forms.specs.declared.terms.CounterId.{CounterId}
use Rattle.forms.specs.declared.terms.GlobalClock.{GlobalClock}
use Rattle.desk_table.specs.Desk.{confirmation}
use Rattle.history.specs.Openings.{openings_between}
use Rattle.history.specs.Value.{Signatures}
use Rattle.assurance.specs.DeskList.{Call, Item, call, At, history, shown, Accepted, closes, Truth, Supposed, Fresh, Clash, Clashed}
use Rattle.assurance.specs.Valued.{Valued}

-- the openings shown are "the history's number of increments after g, the reading of the proof's confirmation, up to T with an owner-signed request for
-- the box"
abbrev pub Counted : GlobalClock → Signatures → List Item → Call → Type 0
Counted first signed l c = (shown c).openings ≡ openings_between signed c.id first (history l) (confirmation c.proof).reading (closes c)

-- the counter's own accepted calls up to place i are handed bytes; nothing is supposed of other counters' calls, of refused ones or of later ones
abbrev pub LentUpTo : List Item → CounterId → ℕ → Type 0
LentUpTo l id i = (j : ℕ) (c : Call) → j ≤ i → At l j (call c) → c.id ≡ id → Accepted c → Bytes c.proof

-- For every first reading, every choice of signed requests and every list, of each accepted call: where demand 3's suppositions of its counter hold up
-- to the call, the value shown is the history's, or a clash is exhibited; and where the call's own verdicts are true, the openings shown are the
-- history's and the reading that the proof closes on is fresh, or a clash is exhibited in the call's own proof.
abbrev pub CallClaim : Type 0
CallClaim =
    (first : GlobalClock) (signed : Signatures) (l : List Item) (i : ℕ) (c : Call) → At l i (call c) → Accepted c → LentUpTo l c.id i
    → (Supposed first signed l c.id i → Valued first signed l (history l) c.id (closes c) (shown c).value ⊎ Clashed first l c.id i)
    × (Truth first signed l i c → (Counted first signed l c × Fresh first l c) ⊎ Clash first l i c)
