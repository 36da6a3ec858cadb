-- `desk::verify::Case::judge` meets its contract: a list that check 6 passes has as many verdicts as the proof asks for. Assumes nothing.
use Rattle.std.proofs.Common.{◌≡◌, sym, ◌∙◌, false, arith}
use Rattle.std.proofs.lemmas.Grind.{common_steps}
use Rattle.desk.specs.Laws.LogVerdictsLaws.{counted-verdicts}
use Rattle.desk.proofs.case.Case.judge.Goals as goal

pub closes_elsewhere-requires : goal.closes_elsewhere-requires
closes_elsewhere-requires c =
    let case = c.args.self.now in
    let passed : c.bad_verdicts.result ≡ false = grind (arith, common_steps, c.refuse_if.ensures, c.in_ok-refuse_if.was) in
    counted-verdicts case.proof case.bytes.now case.verdicts.now (sym c.bad_verdicts.ensures ∙ passed)
