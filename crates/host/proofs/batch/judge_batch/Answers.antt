-- `host::batch::judge_batch` meets its contract. The loop's invariant: the code has what the fold has of the requests so far. Assumes nothing.
use Rattle.std.proofs.Common.{◌≡◌, sym, subst, ℕ, ◌+◌, ◌/◌, ◌≤◌, ◌<◌, div-add-mod', arith, length}
use Rattle.forms.specs.Bytes.{Bytes}
use Rattle.forms.specs.Limits.{max_requests, request_len}
use Rattle.log_image.specs.State.{decode}
use Rattle.host.specs.Laws.Batch.{JudgedAs}
use Rattle.host.proofs.Laws.BatchLaws.{good-batch}
use Rattle.host.specs.Host.{asked_from, judged_batch}
use Rattle.host.proofs.Laws.JudgedLaws.{judged-none, judged-next}
use Rattle.host.specs.declared.batch.Judged.{Judged}
use Rattle.host.proofs.batch.judge_batch.Goals as goal
use Rattle.host.proofs.batch.judge_batch.Goals.{In-loop-i}

-- the request that a turn looks at is one of few, and no more passed than were judged
below : (c : In-loop-i) → c.loop-i.i < max_requests
below c = let good = good-batch c.args.requests.now c.args.verdicts.now c.requires in omega (arith, good.each, good.few)

few : (c : In-loop-i) → c.loop-i.judged.count ≤ c.loop-i.i
few c = let so_far = c.loop-i.invariant in omega (arith, so_far.count, so_far.few)

pub loop-i-init : goal.loop-i-init
loop-i-init c =
    let a = c.args in
    subst (λ (j : Judged). JudgedAs (judged_batch (decode a.sound.image.now) (asked_from a.requests.now a.verdicts.now 0 0)) 0 j) (sym c.none-judged.ensures)
    (judged-none (decode a.sound.image.now) a.requests.now a.verdicts.now)

pub request_refusal-outcome-requires : goal.request_refusal-outcome-requires
request_refusal-outcome-requires c = let at = (goal.at.request_refusal-outcome-requires c).In-loop-i in omega (arith, few at, below at)

pub keep-requires : goal.keep-requires
keep-requires c =
    let at = (goal.at.keep-requires c).In-loop-i in
    let good = good-batch c.args.requests.now c.args.verdicts.now c.requires in
    (below at, few at, omega (arith, good.each, div-add-mod' (length c.args.requests.now) request_len))

pub loop-i-preserved : goal.loop-i-preserved
unfolding Bytes
loop-i-preserved c =
    let a = c.args in
    let i = c.loop-i.i in
    let bytes : Bytes a.requests.now = λ k. omega (arith, c.type_inv.requests k) in
    subst (λ (j : Judged). JudgedAs (judged_batch (decode a.sound.image.now) (asked_from a.requests.now a.verdicts.now 0 (i + 1))) (i + 1) j) (sym c.keep.ensures)
    (judged-next (decode a.sound.image.now) a.requests.now a.verdicts.now i c.loop-i.judged c.request_refusal-outcome.result bytes
    c.loop-i.invariant (below (goal.at.loop-i-preserved c).In-loop-i) c.request_refusal-outcome.ensures)

pub returns : goal.returns
returns c =
    let a = c.args in
    let all : c.loop-i.i ≡ length a.requests.now / request_len = omega (arith, (good-batch a.requests.now a.verdicts.now c.requires).each) in
    subst (λ (n : ℕ). JudgedAs (judged_batch (decode a.sound.image.now) (asked_from a.requests.now a.verdicts.now 0 n)) n c.loop-i.judged) all c.loop-i.invariant
