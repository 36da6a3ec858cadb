-- What the bench prints for an input, from its lines: document 02, Note 8: "Lines .. in this order are `start clock`, `tablet box period belief`, one
-- `run rounds`", "any other line, a period or box 0 or a 33rd tablet prints `27 0` and is passed over; `start` and `tablet` print nothing", and "`run`
-- prints a line per tablet, by number". Definitions alone; the proof stands in a file of its own. Assumes nothing.
use Rattle.std.specs.Prelude.{ℕ, ◌-◌, ◌^◌, ◌<◌, ◌≡◌, cond, length, replicate, List, [], ◌∷◌, ◌++◌}
use mathlib.Core.List.{flatten, foldl}
use Rattle.forms.specs.Limits.{image_len}
use Rattle.forms.specs.declared.terms.GlobalClock.{GlobalClock}
use Rattle.grammar.specs.declared.order.Order.{Order}
use Rattle.console.specs.Lines.{lines, pending_for}
use Rattle.tablets.specs.Rounds.{Depot, Turn, after_rounds, after_turns, answer_at}
use Rattle.tablets.specs.Tablet.{blank}
use Rattle.tablets.specs.declared.tablet.Tablet.{Tablet}
use Rattle.bench.specs.Bench.{no_order, pending_order, printed, refused_tablet}
use Rattle.bench.specs.Result.{result_text}
use Rattle.assurance.specs.BenchList.{FleetFits, Succeeds, set_up}

-- ---- the order of an input's lines

-- the order that a line is; one over 80 bytes is none
abbrev pub order_in : List ℕ → Order
order_in line = pending_order (pending_for line)

-- no line of some is such an order, a `start` or a `run`, whatever its figure
unfoldable pub Never : {A : Type 0} → (A → Order) → List (List ℕ) → Type 0
Never order [] = Unit
Never {A} order (line ∷ ls) = ((figure : A) → order_in line ≡ order figure → ⊥) × Never order ls

-- the first line that is such an order, with its figure, the lines ahead of it and those behind it
pub record First {A : Type 0} (order : A → Order) (ls : List (List ℕ)) : Type 0 where
  pub ahead : List (List ℕ)
  pub line : List ℕ
  pub figure : A
  pub behind : List (List ℕ)
  pub whole : ls ≡ ahead ++ (line ∷ behind)
  pub none_ahead : Never order ahead
  pub orders : order_in line ≡ order figure

-- "in this order": no line is a `start`; or behind the first `start` no line is a `run`; or one is, and the first of these is the "one `run`"
pub data Course (ls : List (List ℕ)) : Type 0 where
  not-started : Never Order.Start ls → Course ls
  not-run : (start : First Order.Start ls) → Never Order.Run start.behind → Course ls
  one-run : (start : First Order.Start ls) (run : First Order.Run start.behind) → Course ls

-- ---- the tablets

-- the tablets with one line more: a line `tablet` gives one, but for "a period or box 0 or a 33rd tablet", and "any other line" gives none
abbrev pub with_line : List Tablet → Order → List Tablet
with_line ts (Order.Tablet id period belief) = cond (refused_tablet ts id period) ts (ts ++ (blank id period belief ∷ []))
with_line ts (Order.Start clock) = ts
with_line ts (Order.Run rounds) = ts
with_line ts Order.Other = ts

-- those that the lines between `start` and `run` give, by number
abbrev pub fleet_of : List (List ℕ) → List Tablet
fleet_of between = foldl (λ ts line. with_line ts (order_in line)) [] between

-- the depot that they set up
abbrev pub depot_for : GlobalClock → List (List ℕ) → Depot
depot_for clock between = set_up (replicate {A = ℕ} image_len 0) clock (fleet_of between)

-- ---- what is printed

-- so many lines `27 0`
abbrev pub no_orders : ℕ → List ℕ
no_orders n = flatten (replicate {A = List ℕ} n no_order)

-- ahead of `start` each line is passed over
abbrev pub ahead_text : List (List ℕ) → List ℕ
ahead_text ahead = no_orders (length ahead)

-- behind it each one that gives no tablet
abbrev pub between_text : List (List ℕ) → List ℕ
between_text between = no_orders (length between - length (fleet_of between))

-- "`run` prints a line per tablet, by number", and behind it each line is passed over
abbrev pub run_text : GlobalClock → List (List ℕ) → ℕ → List (List ℕ) → List ℕ
run_text clock between rounds behind = result_text (after_rounds 0 rounds (depot_for clock between)).tablets ++ no_orders (length behind)

abbrev pub text_of : {ls : List (List ℕ)} → Course ls → List ℕ
text_of {ls} (not-started none) = ahead_text ls
text_of (not-run start none) = ahead_text start.ahead ++ between_text start.behind
text_of (one-run start run) =
    ahead_text start.ahead ++ (between_text run.ahead ++ run_text start.figure run.ahead run.figure run.behind)

-- ---- the claim

-- what the bench's claim supposes of start clock and tablets
abbrev pub Suited : {ls : List (List ℕ)} → Course ls → Type 0
Suited (not-started none) = Unit
Suited (not-run start none) = Unit
Suited (one-run start run) = (start.figure.0 < 2 ^ 32) × FleetFits (fleet_of run.ahead)

-- every input has its course, and prints what this says; and where it has a `run`, start clock and tablets are as the bench's claim supposes
abbrev pub InputClaim : Type 0
InputClaim = (input : List ℕ) → Course (lines input) × ((course : Course (lines input)) → (printed input ≡ text_of course) × Suited course)

-- so that the bench's claim is about every input that has one: "After 22 a tablet's next act succeeds .."
abbrev pub InputActs : Type 0
InputActs =
    (input : List ℕ) (start : First Order.Start (lines input)) (run : First Order.Run start.behind)
    → (before : List Turn) (first : Turn) (between : List Turn) (next : Turn)
    → answer_at (after_turns (depot_for start.figure run.ahead) before) first ≡ 22
    → Succeeds (depot_for start.figure run.ahead) (fleet_of run.ahead) before first between next
