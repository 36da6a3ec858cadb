-- The orders that set a run up: document 02, Note 8: lines "in this order are `start clock`, `tablet box period belief`, one `run rounds`", and "any
-- other line, a period or box 0 or a 33rd tablet prints `27 0` and is passed over; `start` and `tablet` print nothing." Assumes nothing.
use Rattle.std.specs.Prelude.{ℕ, Bool, cond, ◌||◌, List, [], ◌∷◌, ◌++◌, eqb, leb, length, replicate}
use Rattle.forms.specs.Limits.{image_len}
use Rattle.forms.specs.declared.terms.CounterId.{CounterId}
use Rattle.forms.specs.declared.terms.GlobalClock.{GlobalClock}
use Rattle.host.specs.Host.{open_call, start_call}
use Rattle.grammar.specs.Order.{order_of}
use Rattle.grammar.specs.declared.order.Order.{Order}
use Rattle.console.specs.Lines.{Answered, Pending, within, over, lines, transcript}
use Rattle.console.specs.Step.{yes}
use Rattle.tablets.specs.Rounds.{Depot, after_rounds, depot_of}
use Rattle.tablets.specs.Tablet.{blank, max_tablets}
use Rattle.tablets.specs.declared.tablet.Tablet.{Tablet}
use Rattle.bench.specs.Result.{result_text}
pub use Rattle.bench.specs.declared.bench.Bench.{Bench}
pub use Rattle.bench.specs.declared.bench.Stage.{Stage}

-- where the bench stands between lines: how far the order of lines is, and the depot
pub record Standing : Type 0 where
  pub stage : Stage
  pub depot : Depot

-- ---- the depot before its first round

abbrev pub started : List ℕ → GlobalClock → Depot
started s clock = record { tablets = []; image = (start_call s clock).image }

-- "All boxes are opened first, at the start clock", value = reading = start clock, in the order of their first tablets. A box that is open already is
-- not opened again: the host refuses that by 18 and leaves the image as it was
unfoldable pub placed : GlobalClock → Depot → Tablet → Depot
placed clock d t =
    record {
      tablets = d.tablets ++ (t ∷ []);
      image = (open_call d.image (record { id = t.id; value = clock.0; reading = clock }) yes).image;
    }

-- "a period or box 0 or a 33rd tablet"
abbrev pub refused_tablet : List Tablet → CounterId → ℕ → Bool
refused_tablet ts id period = (eqb id.0 0 || eqb period 0) || leb max_tablets (length ts)

-- ---- an order

-- `27 0` and a newline, in ASCII
abbrev pub no_order : List ℕ
no_order = 50 ∷ 55 ∷ 32 ∷ 48 ∷ 10 ∷ []

-- the line "prints `27 0` and is passed over"
abbrev pub passed_over : Standing → Answered Standing
passed_over b = record { state = b; text = no_order }

-- "`start` and `tablet` print nothing"
abbrev pub silent : Stage → Depot → Answered Standing
silent stage d = record { state = record { stage = stage; depot = d }; text = [] }

-- `start` is the first
abbrev pub start_ordered : Stage → Standing → GlobalClock → Answered Standing
start_ordered Stage.New b clock = silent (Stage.Started clock) (started b.depot.image clock)
start_ordered (Stage.Started c) b clock = passed_over b
start_ordered Stage.Ran b clock = passed_over b

abbrev pub tablet_ordered : Stage → Standing → CounterId → ℕ → ℕ → Answered Standing
tablet_ordered Stage.New b id period belief = passed_over b
tablet_ordered (Stage.Started clock) b id period belief =
    cond (refused_tablet b.depot.tablets id period) (passed_over b) (silent (Stage.Started clock) (placed clock b.depot (blank id period belief)))
tablet_ordered Stage.Ran b id period belief = passed_over b

-- "one `run`": behind it every line is passed over
abbrev pub run_ordered : Stage → Standing → ℕ → Answered Standing
run_ordered Stage.New b rounds = passed_over b
run_ordered (Stage.Started clock) b rounds =
    let d : Depot = after_rounds 0 rounds b.depot in
    record { state = record { stage = Stage.Ran; depot = d }; text = result_text d.tablets }
run_ordered Stage.Ran b rounds = passed_over b

unfoldable pub ordered : Standing → Order → Answered Standing
ordered b (Order.Start clock) = start_ordered b.stage b clock
ordered b (Order.Tablet id period belief) = tablet_ordered b.stage b id period belief
ordered b (Order.Run rounds) = run_ordered b.stage b rounds
ordered b Order.Other = passed_over b

-- ---- lines

abbrev pub pending_order : Pending → Order
pending_order (within line) = order_of line
pending_order over = Order.Other

unfoldable pub line_ordered : Standing → Pending → Answered Standing
line_ordered b line = ordered b (pending_order line)

-- nothing was ordered yet
abbrev pub fresh : Standing
fresh = record { stage = Stage.New; depot = record { tablets = []; image = replicate {A = ℕ} image_len 0 } }

-- what the bench prints for an input
abbrev pub printed : List ℕ → List ℕ
printed input = transcript line_ordered fresh (lines input)

-- ---- what the code holds of it, beside the image

abbrev pub standing_of : Bench → List ℕ → Standing
standing_of bench image = record { stage = bench.stage; depot = depot_of bench.fleet image }
