-- The lines that the bench takes: document 02, Note 8: "Lines, by the rules of document 01's program, .. are `start clock`, `tablet box period
-- belief`, one `run rounds`, figures of 32 bits". Words and figures are those of `Command`. Assumes nothing.
use Rattle.std.specs.Prelude.{ℕ, cond, List, [], ◌∷◌, Option, Some, None}
use Rattle.forms.specs.Bytes.{same}
use Rattle.forms.specs.Checks.{Row, ◌gives◌, first_answer}
use Rattle.forms.specs.Terms.{counter_id, global_clock}
use Rattle.grammar.specs.Command.{Arguments, arguments_of, start_name, words}
pub use Rattle.grammar.specs.declared.order.Order.{Order}

-- ---- names, in ASCII: tablet, run; start is document 01's

abbrev pub tablet_name : List ℕ
tablet_name = 116 ∷ 97 ∷ 98 ∷ 108 ∷ 101 ∷ 116 ∷ []

abbrev pub run_name : List ℕ
run_name = 114 ∷ 117 ∷ 110 ∷ []

-- ---- orders

-- "`start clock`", "`run rounds`"
abbrev pub order_rows : List ℕ → ℕ → List (Row Order)
order_rows name a =
    (same name start_name gives Order.Start (global_clock a))
    ∷ (same name run_name gives Order.Run a)
    ∷ []

abbrev pub order_one : List ℕ → ℕ → Order
order_one name a = first_answer (order_rows name a) Order.Other

-- "`tablet box period belief`"
abbrev pub order_three : List ℕ → ℕ → ℕ → ℕ → Order
order_three name a b c = cond (same name tablet_name) (Order.Tablet (counter_id a) b c) Order.Other

abbrev pub order_named : List ℕ → Option Arguments → Order
order_named name (Some (Arguments.One a)) = order_one name a
order_named name (Some (Arguments.Two a b)) = Order.Other
order_named name (Some (Arguments.Three a b c)) = order_three name a b c
order_named name None = Order.Other

abbrev pub order_by : List (List ℕ) → Order
order_by [] = Order.Other
order_by (name ∷ figures) = order_named name (arguments_of figures)

-- the order that a line is
unfoldable pub order_of : List ℕ → Order
order_of line = order_by (words line)
