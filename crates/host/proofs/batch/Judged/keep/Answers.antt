-- `host::batch::Judged::keep` meets its contract. Assumes nothing.
use Rattle.std.proofs.Common.{sym, ◌∙◌, ◌+◌, ◌-◌, ◌*◌, arith}
use Rattle.forms.specs.Limits.{request_len}
use Rattle.host.proofs.Laws.JudgedLaws.{err-number, ok-number, outcome-kept, outcome_passed}
use Rattle.host.proofs.batch.Judged.keep.Goals as goal

pub returns-then-is_err : goal.returns-then-is_err
returns-then-is_err c =
    let a = c.args in
    let some = err-number a.outcome (sym c.is_err.ensures.value ∙ c.if-is_err.true) in
    rw c.err.ensures.value (outcome-kept a.self.now a.requests.now a.i a.outcome some)

pub returns : goal.returns
returns c =
    let a = c.args in
    let none = ok-number a.outcome (sym c.is_err.ensures.value ∙ c.if-is_err.false) in
    rw c.err.ensures.value
    (outcome_passed a.self.now a.requests.now a.i (request_len * a.i + request_len - request_len * a.i) a.outcome c.put.new.s none (omega arith) c.requires.2 c.put.ensures)
