-- `bench::bench::Bench` takes a line by the trait's contract: it is an order, and what that prints is stored where there is room. Assumes nothing.
use Rattle.std.proofs.Common.{arith, sym}
use Rattle.console.specs.Lines.{pending_of}
use Rattle.console.specs.Laws.LinesLaws.{told-as, told-none, told-room}
use Rattle.bench.specs.Bench.{line_ordered, standing_of}
use Rattle.bench.specs.Laws.SessionLaws.{line-ordered}
use Rattle.bench.specs.Result.{max_result}
use Rattle.bench.proofs.bench.BenchTakeLine.take_line.Goals as goal

pub returns-then-saturating_sub-lt-MAX_RESULT : goal.returns-then-saturating_sub-lt-MAX_RESULT
returns-then-saturating_sub-lt-MAX_RESULT c =
    let a = c.args in
    told-none line_ordered max_result (standing_of a.self.now a.image.now) (pending_of a.line) a.text.now a.at
    (omega (arith, c.saturating_sub.ensures, c.if-saturating_sub-lt-MAX_RESULT.true))

pub returns : goal.returns
returns c =
    let a = c.args in
    let b = standing_of a.self.now a.image.now in
    let line = pending_of a.line in
    told-room line_ordered max_result b line a.text.now a.at (omega (arith, c.saturating_sub.ensures, c.if-saturating_sub-lt-MAX_RESULT.false))
    (told-as (sym (line-ordered b line c.order_of.ensures)) c.take_order.ensures)
