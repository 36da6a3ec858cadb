-- `text::line::put_numeral` meets its contract: the library's digits are the numeral. Assumes nothing.
use Rattle.std.proofs.Common.{◌∙◌, arith}
use Rattle.text.specs.Line.{numeral}
use Rattle.text.specs.Laws.LineLaws.{decimal-numeral, put_same}
use Rattle.text.proofs.line.put_numeral.Goals as goal

pub returns : goal.returns
returns c =
    let a = c.args in
    let same = c.decimal-count.ensures.digits
    ∙ decimal-numeral a.number c.decimal-count.result (omega arith) c.decimal-count.ensures.len in
    let all = put_same a.text.now a.at _ (numeral a.number) same (c.put_words.ensures.value, c.put_words.ensures.text_after) in
    record { value = all.0; text_after = all.1 }
