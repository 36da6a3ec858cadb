-- An input of the bench, as bytes: a `run` too early, the start, a tablet of box 0, one of box 7, the `run`, and one too many. It has its course, and
-- what it prints is calculated from this and from the two answers of BenchWitness.antt, with no image calculated. Assumes nothing.
use Rattle.std.specs.Prelude.{ℕ, ◌+◌, ◌-◌, ◌<◌, ◌≡◌, refl, cond, eqb, length, get_or, List, [], ◌∷◌, ◌++◌}
use Rattle.std.proofs.Common.{ap, ap₂, ◌∙◌, arith, append-nil}
use mathlib.Core.List.{flatten}
use Rattle.forms.specs.Bytes.{same}
use Rattle.forms.specs.Terms.{counter_id, global_clock}
use Rattle.grammar.specs.Command.{arguments_of, words}
use Rattle.grammar.specs.Numeral.{all_digits, figure_of, value_from}
use Rattle.grammar.specs.Order.{order_of}
use Rattle.grammar.specs.declared.order.Order.{Order}
use Rattle.console.specs.Lines.{lines, pending_for}
use Rattle.tablets.specs.Laws.FigureLaws.{answers_of, full-told, raises-told, stale-told}
use Rattle.tablets.specs.Laws.RoundsLength.{length-after-rounds}
use Rattle.tablets.specs.Rounds.{Depot, after_rounds, nobody, tablet_of, turns_of}
use Rattle.tablets.specs.declared.tablet.Tablet.{Tablet}
use Rattle.bench.specs.Bench.{no_order, printed}
use Rattle.bench.specs.Result.{result_text, tablet_line}
use Rattle.assurance.specs.BenchInput.{First, Never, depot_for, fleet_of, no_orders, one-run, order_in, text_of, with_line}
use Rattle.assurance.specs.BenchList.{set_up}
use Rattle.assurance.proofs.Laws.BenchLines.{input-claim}
use Rattle.worked_lists.specs.Worked.BenchWitness.{alone, alone-fits, alone-passes, alone-stale, alone-turns, begun, depot}
use Rattle.worked_lists.specs.Worked.HostListWitness.{blank as buffer}

-- ---- its lines

-- `run 9`, `start 100`, `tablet 0 1 50`, `tablet 7 1 50`, `run 2`, in ASCII
abbrev run-9 : List ℕ
run-9 = 114 ∷ 117 ∷ 110 ∷ 32 ∷ 57 ∷ []

abbrev start-100 : List ℕ
start-100 = 115 ∷ 116 ∷ 97 ∷ 114 ∷ 116 ∷ 32 ∷ 49 ∷ 48 ∷ 48 ∷ []

abbrev tablet-0 : List ℕ
tablet-0 = 116 ∷ 97 ∷ 98 ∷ 108 ∷ 101 ∷ 116 ∷ 32 ∷ 48 ∷ 32 ∷ 49 ∷ 32 ∷ 53 ∷ 48 ∷ []

abbrev tablet-7 : List ℕ
tablet-7 = 116 ∷ 97 ∷ 98 ∷ 108 ∷ 101 ∷ 116 ∷ 32 ∷ 55 ∷ 32 ∷ 49 ∷ 32 ∷ 53 ∷ 48 ∷ []

abbrev run-2 : List ℕ
run-2 = 114 ∷ 117 ∷ 110 ∷ 32 ∷ 50 ∷ []

-- each with a newline, but for the last
abbrev pub small : List ℕ
small = run-9 ++ (10 ∷ start-100 ++ (10 ∷ tablet-0 ++ (10 ∷ tablet-7 ++ (10 ∷ run-2 ++ (10 ∷ run-9)))))

small-lines : lines small ≡ run-9 ∷ start-100 ∷ tablet-0 ∷ tablet-7 ∷ run-2 ∷ run-9 ∷ []
unfolding lines
small-lines = refl

-- the orders that they are
record Orders : Type 0 where
  early : order_in run-9 ≡ Order.Run 9
  start : order_in start-100 ≡ Order.Start (global_clock 100)
  none : order_in tablet-0 ≡ Order.Tablet (counter_id 0) 1 50
  one : order_in tablet-7 ≡ Order.Tablet (counter_id 7) 1 50
  run : order_in run-2 ≡ Order.Run 2

orders : Orders
unfolding pending_for order_of words arguments_of figure_of all_digits value_from same
orders = record { early = refl; start = refl; none = refl; one = refl; run = refl }

-- ---- its course

first-start : First Order.Start (lines small)
unfolding Never
first-start =
    record {
      ahead = run-9 ∷ [];
      line = start-100;
      figure = global_clock 100;
      behind = tablet-0 ∷ tablet-7 ∷ run-2 ∷ run-9 ∷ [];
      whole = small-lines;
      none_ahead = (λ clock e. let z : ◌≡◌ {A = ℕ} 0 1 = cc (orders.early, e) in omega arith, tt);
      orders = orders.start;
    }

first_run : First Order.Run first-start.behind
unfolding Never first-start
first_run =
    record {
      ahead = tablet-0 ∷ tablet-7 ∷ [];
      line = run-2;
      figure = 2;
      behind = run-9 ∷ [];
      whole = refl;
      none_ahead = (
        λ r e. let z : ◌≡◌ {A = ℕ} 0 1 = cc (orders.none, e) in omega arith,
        (λ r e. let z : ◌≡◌ {A = ℕ} 0 1 = cc (orders.one, e) in omega arith, tt),
      );
      orders = orders.run;
    }

-- the tablet of box 0 is none
small-fleet : fleet_of (tablet-0 ∷ tablet-7 ∷ []) ≡ alone
small-fleet = ap₂ (λ (o p : Order). with_line (with_line [] o) p) orders.none orders.one

small-depot : depot_for (global_clock 100) (tablet-0 ∷ tablet-7 ∷ []) ≡ depot alone
unfolding depot buffer
small-depot = ap (set_up buffer (global_clock 100)) small-fleet

-- ---- what it prints

-- the tablet behind the run
abbrev pub last : Tablet
last = tablet_of (after_rounds 0 2 (depot alone)) 0

alone-there : (depot alone).tablets ≡ alone
alone-there = (begun alone alone-fits (omega arith) refl).tablets

-- its two acts were answered 22 and 0
answers : (n : ℕ) → answers_of n 0 (depot alone) (turns_of 0 2 (depot alone).tablets) ≡ cond {A = ℕ} (eqb 22 n) 1 0 + (cond {A = ℕ} (eqb 0 n) 1 0 + 0)
unfolding answers_of
answers n =
    ap (answers_of n 0 (depot alone)) (ap (turns_of 0 2) alone-there ∙ alone-turns)
    ∙ ap₂ (λ (a b : ℕ). cond {A = ℕ} (eqb a n) 1 0 + (cond {A = ℕ} (eqb b n) 1 0 + 0)) alone-stale alone-passes

blank-there : (figure : Tablet → ℕ) → figure (tablet_of (depot alone) 0) ≡ figure (get_or alone 0 nobody)
blank-there figure = ap (λ (l : List Tablet). figure (get_or l 0 nobody)) alone-there

one-there : 0 < length (depot alone).tablets
one-there = omega (arith, ap length alone-there)

pub one-raise : last.raises ≡ 1
one-raise = raises-told (depot alone) 0 2 one-there (omega arith) (blank-there (λ t. t.raises)) ∙ answers 0

pub one-stale : last.stale ≡ 1
one-stale = stale-told (depot alone) 0 2 one-there (omega arith) (blank-there (λ t. t.stale)) ∙ answers 22

pub none-full : last.full ≡ 0
none-full = full-told (depot alone) 0 2 one-there (omega arith) (blank-there (λ t. t.full)) ∙ answers 24

one_line : (ts : List Tablet) → length ts ≡ 1 → result_text ts ≡ tablet_line (get_or ts 0 nobody)
unfolding result_text
one_line [] many = absurd (omega arith)
one_line (t ∷ []) many = append-nil (tablet_line t)
one_line (t ∷ u ∷ ts) many = absurd (omega arith)

-- `27 0` for the `run` too early and for box 0, the tablet's line, `1 1 0`, and `27 0` for the second `run`
pub small-printed : printed small ≡ no_order ++ (no_order ++ (tablet_line last ++ no_order))
unfolding first-start first_run flatten
small-printed =
    let d : Depot = after_rounds 0 2 (depot alone) in
    let prints : printed small ≡ text_of (one-run first-start first_run) = ((input-claim small).1 (one-run first-start first_run)).0 in
    prints
    ∙ ap₂ (λ (ts : List Tablet) (x : Depot). no_orders 1 ++ (no_orders (2 - length ts) ++ (result_text (after_rounds 0 2 x).tablets ++ no_orders 1)))
    small-fleet small-depot
    ∙ ap (λ (l : List ℕ). no_order ++ (no_order ++ (l ++ no_order))) (one_line d.tablets (length-after-rounds 0 2 (depot alone) ∙ ap length alone-there))
