-- `host::batch::judge_batch` meets its contract. The loop's invariant: the code has what the fold has of the requests so far. Assumes nothing.
use Rattle.log_image.specs.State.{decode}
use Rattle.host.specs.Laws.Batch.{JudgedAs}
use Rattle.host.specs.Host.{asked_from, judged_batch}
use Rattle.host.proofs.batch.judge_batch.Given as goal

abbrev pub invariant-loop-i : goal.invariant-loop-i
invariant-loop-i l = JudgedAs (judged_batch (decode l.sound.image.now) (asked_from l.requests l.verdicts 0 l.i)) l.i l.judged
