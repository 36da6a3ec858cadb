-- `grammar::numeral::read_figure` meets its contract: a word without padding is the number that its digits stand for. Assumes nothing.
use Rattle.std.proofs.Common.{◌≡◌, sym, ap, ◌∙◌, ◌∷◌, true, length, eqb-true}
use Rattle.std.proofs.lemmas.Bool.{eqb-false}
use Rattle.std.proofs.lemmas.List.{nil_from_length}
use Rattle.grammar.specs.Numeral.{unpadded}
use Rattle.grammar.specs.Laws.NumeralLaws.{figure-padded, figure-read, padded-zero, unpadded-one, unpadded-other}
use Rattle.grammar.proofs.numeral.read_figure.Goals.{else-first-eq48-via-then-first-eq48+else-not-is_empty, else-first-eq48-via-else-first-eq48}
use Rattle.grammar.proofs.numeral.read_figure.Goals as goal

pub returns-in_err-first : goal.returns-in_err-first
returns-in_err-first c =
    c.from_residual.ensures ∙ sym (figure-padded c.args.word.now (ap unpadded (nil_from_length c.args.word.now c.in_err-first.ensures.cases)))

pub returns-then-not-is_empty : goal.returns-then-not-is_empty
returns-then-not-is_empty c =
    let more = eqb-false _ 0 (sym c.if-not-is_empty.ensures) in
    let cut = c.in_ok-first.ensures.cases.0 in
    sym (figure-padded c.args.word.now (ap unpadded cut ∙ padded-zero c.in_ok-first.first.now c.in_ok-first.rest.now c.if-first-eq48.true more))

pub returns : goal.returns
returns c =
    let first = c.in_ok-first.first.now in
    let rest = c.in_ok-first.rest.now in
    let whole : unpadded (first ∷ rest) ≡ true =
    elim c.else-first-eq48.branch [
      | else-first-eq48-via-then-first-eq48+else-not-is_empty w ↦ unpadded-one first rest (eqb-true (length rest) 0 (sym w.is_empty.ensures ∙ w.if-not-is_empty.false))
      | else-first-eq48-via-else-first-eq48 w ↦ unpadded-other first rest w.if-first-eq48.false
    ] in
    c.read_digits.ensures ∙ sym (figure-read c.args.word.now (ap unpadded c.in_ok-first.ensures.cases.0 ∙ whole))
