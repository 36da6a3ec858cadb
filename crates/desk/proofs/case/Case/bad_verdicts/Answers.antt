-- `desk::verify::Case::bad_verdicts` meets its contract: the proof's length gives the count that is asked for. Assumes nothing.
use Rattle.std.proofs.Common.{◌≡◌, ◌∙◌, arith}
use Rattle.std.proofs.lemmas.Grind.{common_steps}
use Rattle.desk_table.specs.Desk.{verdict_count, bad_verdicts}
use Rattle.desk.specs.Laws.LogVerdictsLaws.{verdicts-counted}
use Rattle.desk.proofs.case.Case.bad_verdicts.Goals as goal
use Rattle.desk.proofs.case.Case.bad_verdicts.Goals.{After-verdict_count-count}

-- the length that the code compares with
asked : (c : After-verdict_count-count) → c.verdict_count-count.result ≡ verdict_count c.args.self.now.bytes.now c.args.self.now.proof
asked c = c.verdict_count-count.ensures ∙ verdicts-counted c.args.self.now.proof c.args.self.now.bytes.now c.args.self.now.ends

pub returns-then-self-count : goal.returns-then-self-count
unfolding bad_verdicts
returns-then-self-count c = grind (arith, common_steps, asked (goal.at.returns-then-self-count c).After-verdict_count-count)

pub returns-else-self-count : goal.returns-else-self-count
unfolding bad_verdicts
returns-else-self-count c = grind (arith, common_steps, asked (goal.at.returns-else-self-count c).After-verdict_count-count)
