-- What the bench prints for a line is short, and what it prints for an input is the same however the input is cut. Assumes nothing.
use Rattle.std.specs.Prelude.{ℕ, ◌≤◌, ◌≡◌, length, List, []}
use Rattle.std.proofs.Common.{arith, ap, length-take}
use mathlib.Core.List.{flatten}
use Rattle.grammar.specs.declared.order.Order.{Order}
use Rattle.console.specs.Lines.{Pending, within}
use Rattle.console.specs.Laws.LinesPrinted.{printed_in_parts, parts-printed}
use Rattle.tablets.specs.Tablet.{max_tablets}
use Rattle.bench.specs.Bench.{Bench, Standing, fresh, line_ordered, ordered, pending_order, printed, standing_of}
use Rattle.bench.specs.Laws.OrderLaws.{order-bounded}
use Rattle.bench.specs.Result.{max_result}

-- the order of the line was taken
pub line-ordered : (b : Standing) (line : Pending) {order : Order} → order ≡ pending_order line → ordered b order ≡ line_ordered b line
unfolding line_ordered
line-ordered b line asked = ap (ordered b) asked

-- the code's bench has a place for each tablet, and no more
module _ (bench : Bench) (image : List ℕ) (all : length bench.fleet.tablets ≡ max_tablets) where
  pub order-short : (order : Order) → length (ordered (standing_of bench image) order).text ≤ max_result
  order-short order = (order-bounded (standing_of bench image) (simp length-take (omega arith)) order).short

  pub line-short : (line : Pending) → length (line_ordered (standing_of bench image) line).text ≤ max_result
  unfolding line_ordered
  line-short line = order-short (pending_order line)

-- what the bench prints for an input that comes in parts
pub bench-printed : (parts : List (List ℕ)) → printed_in_parts line_ordered (within []) fresh parts ≡ printed (flatten parts)
bench-printed = parts-printed line_ordered fresh
