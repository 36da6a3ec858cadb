-- `console::step::raise_once` meets its contract: the request is stored, and handed on as a batch of one. Assumes nothing.
use Rattle.std.proofs.Common.{◌≡◌, ap, ◌∙◌, ℕ, Err, replicate, length, rules}
use Rattle.forms.specs.Bytes.{overwrite}
use Rattle.forms.specs.Limits.{request_len}
use Rattle.forms.specs.Request.{request_bytes}
use Rattle.forms.specs.Laws.RequestLaws.{request-length}
use Rattle.forms.specs.declared.request.Request.{Request}
use Rattle.host.specs.Outcome.{figures_of}
use Rattle.console.specs.Step.{request_with}
use Rattle.console.specs.Laws.StepLaws.{request-stored, increment-image, increment-line, increment-refused}
use Rattle.console.proofs.step.raise_once.Goals as goal
use Rattle.console.proofs.step.raise_once.Goals.{After-write}

-- the request is all that the batch holds
stored : (c : After-write) → c.write.new.s ≡ request_with c.args.nonce c.args.id c.args.before
stored c =
    c.write.ensures ∙ ap (λ (q : Request). overwrite (replicate {A = ℕ} request_len 0) 0 (request_bytes q)) c.new.ensures.value
    ∙ request-stored _ c.well_formed.1.0.1.0.1

pub returns-in_err-batch : goal.returns-in_err-batch
returns-in_err-batch c =
    let batch = stored (goal.at.returns-in_err-batch c).After-write in
    let a = c.args in
    let passed_on : c.from_residual.result ≡ Err c.in_err-batch.field-0.0 = search rules in
    record {
      value = ap figures_of passed_on ∙ increment-refused a.image.now a.nonce a.id a.before _ batch c.in_err-batch.field-0.0 c.in_err-batch.ensures.value;
      image_after = increment-image a.image.now a.nonce a.id a.before _ batch _ c.increment.ensures.image_after;
    }

pub returns : goal.returns
returns c =
    let batch = stored (goal.at.returns c).After-write in
    let a = c.args in
    let one : length c.write.new.s ≡ request_len = ap length batch ∙ request-length _ c.well_formed.1.0.1.0.1 in
    record {
      value = ap figures_of c.outcome.ensures ∙ increment-line a.image.now a.nonce a.id a.before _ batch c.in_ok-batch.batch one c.in_ok-batch.ensures.value;
      image_after = increment-image a.image.now a.nonce a.id a.before _ batch _ c.increment.ensures.image_after;
    }
