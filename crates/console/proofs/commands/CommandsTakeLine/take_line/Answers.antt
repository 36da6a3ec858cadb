-- `console::commands::Commands` takes a line by the trait's contract: its answer is stored from the place on, where there is room. Assumes nothing.
use Rattle.std.proofs.Common.{refl, sym, arith}
use Rattle.console.specs.Laws.AnswerLaws.{answer-short}
use Rattle.console.specs.Laws.LinesLaws.{told-as, told-none, told-room}
use Rattle.console.specs.Laws.SessionLaws.{line-answered}
use Rattle.console.specs.Lines.{pending_of}
use Rattle.console.specs.Session.{line_answered}
use Rattle.console.specs.Step.{max_answer}
use Rattle.console.proofs.commands.CommandsTakeLine.take_line.Goals as goal

pub returns-then-saturating_sub-lt-MAX_ANSWER : goal.returns-then-saturating_sub-lt-MAX_ANSWER
returns-then-saturating_sub-lt-MAX_ANSWER c =
    let a = c.args in
    told-none line_answered max_answer a.image.now (pending_of a.line) a.text.now a.at
    (omega (arith, c.saturating_sub.ensures, c.if-saturating_sub-lt-MAX_ANSWER.true))

pub returns : goal.returns
returns c =
    let a = c.args in
    let line = pending_of a.line in
    let ran = c.step.ensures in
    let put = c.put_answer.ensures in
    told-room line_answered max_answer a.image.now line a.text.now a.at
    (omega (arith, c.saturating_sub.ensures, c.if-saturating_sub-lt-MAX_ANSWER.false))
    (told-as (sym (line-answered a.image.now line c.command.ensures ran.value ran.image_after))
    (record { at-state = refl; at_len = put.value; stored = put.text_after; short = answer-short c.step.result }))
