-- The rounds of a run: document 02, Note 8: "In round r, from 1, tablets whose period divides r act by rising number." A run is the list of the turns
-- that its rounds give, taken one after the other. Assumes nothing.
use Rattle.std.specs.Prelude.{ℕ, zero, suc, ◌-◌, ◌%◌, Bool, not, cond, ◌&&◌, eqb, get_or, set, take, List, [], ◌∷◌, ◌++◌}
use mathlib.Core.List.{foldl}
use Rattle.forms.specs.Terms.{counter_id}
use Rattle.tablets.specs.Act.{Acted, acted, tried}
use Rattle.tablets.specs.Tablet.{Tablet, blank}
pub use Rattle.tablets.specs.declared.rounds.Fleet.{Fleet}

-- the tablets, by their numbers from 0 on, and the host's image
pub record Depot : Type 0 where
  pub tablets : List Tablet
  pub image : List ℕ

-- ---- turns

-- in a round it is a tablet's turn
pub record Turn : Type 0 where
  pub round : ℕ
  pub number : ℕ

-- "whose period divides r": 0 divides no round
abbrev pub divides : ℕ → ℕ → Bool
divides period round = not (eqb period 0) && eqb (round % period) 0

-- the turns of one round, "by rising number", of tablets that are numbered from a number on
unfoldable pub turns_from : ℕ → ℕ → List Tablet → List Turn
turns_from round number [] = []
turns_from round number (t ∷ ts) =
    cond (divides t.period round) (record { round = round; number = number } ∷ turns_from round (suc number) ts)
    (turns_from round (suc number) ts)

-- those of so many rounds, behind rounds that are done
unfoldable pub turns_of : ℕ → ℕ → List Tablet → List Turn
turns_of done zero ts = []
turns_of done (suc n) ts = turns_from (suc done) 0 ts ++ turns_of (suc done) n ts

-- ---- a run

-- no tablet, of no box
abbrev pub nobody : Tablet
nobody = blank (counter_id 0) 0 0

-- the tablet of a number; nobody where there are not so many
abbrev pub tablet_of : Depot → ℕ → Tablet
tablet_of d number = get_or d.tablets number nobody

-- the number with which a tablet's raise is answered when it is its turn
abbrev pub answer_at : Depot → Turn → ℕ
answer_at d x = (tried x.round x.number d.image (tablet_of d x.number)).figures.number

-- a tablet acts
unfoldable pub turned : Depot → Turn → Depot
turned d x =
    let a : Acted = acted x.round x.number d.image (tablet_of d x.number) in
    record { tablets = set d.tablets x.number a.tablet; image = a.image }

-- turns one after the other
unfoldable pub after_turns : Depot → List Turn → Depot
after_turns d turns = foldl turned d turns

-- the rounds behind those that are done, up to a last one
abbrev pub after_rounds : ℕ → ℕ → Depot → Depot
after_rounds done rounds d = after_turns d (turns_of done (rounds - done) d.tablets)

-- ---- what the code holds of a depot, beside the image

abbrev pub tablets_of : Fleet → List Tablet
tablets_of fleet = take fleet.count fleet.tablets

abbrev pub depot_of : Fleet → List ℕ → Depot
depot_of fleet image = record { tablets = tablets_of fleet; image = image }
