-- `console::step::put_answer` meets its contract: its four parts stand side by side. Assumes nothing.
use Rattle.std.proofs.Common.{◌≡◌, ap, ◌∙◌, ◌+◌, arith, length}
use Rattle.forms.specs.Laws.BytesLaws.{length-overwrite}
use Rattle.text.specs.Line.{numeral}
use Rattle.text.specs.Laws.LineLaws.{length-numeral, stored-fits}
use Rattle.console.specs.Laws.AnswerLaws.{answer-length, answer-stored}
use Rattle.console.proofs.step.put_answer.Goals as goal
use Rattle.console.proofs.step.put_answer.Goals.{After-put_numeral-number_end, After-put_numeral-value_end}

-- the number is whole, and the space stands behind it
number_at : (c : After-put_numeral-number_end) → c.put_numeral-number_end.result ≡ c.args.at + length (numeral c.args.figures.number)
number_at c =
    let a = c.args in
    c.put_numeral-number_end.ensures.value
    ∙ stored-fits a.text.now a.at (numeral a.figures.number) (omega (arith, length-numeral 10 a.figures.number, c.requires))

-- the value is whole behind the space
value-at : (c : After-put_numeral-value_end) → c.put_numeral-value_end.result
    ≡ c.put_numeral-number_end.result + 1 + length (numeral c.args.figures.value)
value-at c =
    let a = c.args in
    let number = number_at (goal.at.After-put_numeral-value_end c).After-put_numeral-number_end in
    let as_long : length c.put.new.s ≡ length a.text.now = ap length c.put.ensures
    ∙ simp length-overwrite (ap length c.put_numeral-number_end.ensures.text_after ∙ simp length-overwrite) in
    c.put_numeral-value_end.ensures.value
    ∙ stored-fits c.put.new.s (c.put_numeral-number_end.result + 1) (numeral a.figures.value)
    (omega (arith, as_long, number, length-numeral 10 a.figures.number, length-numeral 10 a.figures.value, c.requires))

pub overflow_add-number_end : goal.overflow_add-number_end
overflow_add-number_end c =
    let number = number_at (goal.at.overflow_add-number_end c).After-put_numeral-number_end in
    omega (arith, number, length-numeral 10 c.args.figures.number, c.requires)

pub overflow_add-result : goal.overflow_add-result
overflow_add-result c =
    let a = c.args in
    let number = number_at (goal.at.overflow_add-result c).After-put_numeral-number_end in
    let value = value-at (goal.at.overflow_add-result c).After-put_numeral-value_end in
    omega (arith, value, number, length-numeral 10 a.figures.number, length-numeral 10 a.figures.value, c.requires)

pub returns : goal.returns
returns c =
    let a = c.args in
    let n = number_at (goal.at.returns c).After-put_numeral-number_end in
    let v = value-at (goal.at.returns c).After-put_numeral-value_end in
    record {
      value = omega (arith, n, v, answer-length a.figures);
      text_after = answer-stored a.figures a.text.now a.at c.requires n v c.put_numeral-number_end.ensures.text_after c.put.ensures
          c.put_numeral-value_end.ensures.text_after c.put-2.ensures;
    }
