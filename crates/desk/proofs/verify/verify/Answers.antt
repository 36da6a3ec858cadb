-- `desk::verify::verify` meets its contract: check 1, then what the bytes read as, then the later checks. Assumes nothing.
use Rattle.std.proofs.Common.{◌≡◌, refl, sym, ap, ap₂, ◌∙◌, Bool, false, cond, arith, Ok, Err, Result}
use Rattle.std.specs.Prelude.{IsErrAnd}
use Rattle.std.proofs.lemmas.Grind.{common_steps}
use Rattle.forms.specs.Refusal.{refusal_number}
use Rattle.validity.specs.Proof.{Parsed, refusal_of}
use Rattle.validity.specs.Laws.ProofLaws.{parsed-counted, parsed-ends}
use Rattle.validity.specs.declared.proof.ParseError.{ParseError}
use Rattle.validity.specs.declared.proof.Proof.{Proof}
use Rattle.desk_table.specs.Answer.{Answer, refuses, told}
use Rattle.desk_table.specs.declared.answer.Accepted.{Accepted}
use Rattle.desk_table.specs.declared.answer.Refused.{Refused}
use Rattle.desk_table.specs.Desk.{judged, verified}
use Rattle.desk_table.proofs.Laws.DeskLaws.{answer_of, verified-parsed}
use Rattle.desk.proofs.verify.verify.Goals as goal
use Rattle.desk.proofs.verify.verify.Goals.{After-parse}

-- the answer, from what the bytes read as
read : (c : After-parse) →
    let a = c.args in
    verified a.proof.now a.verdicts.now a.id a.nonce.now
    ≡ answer_of (λ (p : Proof). judged p a.proof.now a.verdicts.now a.id a.nonce.now) c.parse.result
read c =
    let a = c.args in
    let later = λ (p : Proof). judged p a.proof.now a.verdicts.now a.id a.nonce.now in
    let passed : c.bad_wanted.result ≡ false = grind (arith, common_steps, c.refuse_if.ensures, c.in_ok-refuse_if.was) in
    verified-parsed a.proof.now a.verdicts.now a.id a.nonce.now
    ∙ ap₂ (λ (b : Bool) (r : Parsed). cond b (refuses 1 0) (answer_of later r)) (sym c.bad_wanted.ensures ∙ passed) (sym c.parse.ensures)

-- bytes that read as no proof are refused with the number of the reason
numbered : (judge : Proof → Answer) (e : ParseError) → refuses (refusal_number (refusal_of e)) 0 ≡ answer_of judge (Err e)
numbered judge ParseError.TooShort = refl
numbered judge ParseError.UnknownForm = refl
numbered judge ParseError.BadCount = refl
numbered judge ParseError.BadLayout = refl

unread : (judge : Proof → Answer) (e : ParseError) (r : Result Accepted Refused)
    → IsErrAnd r (λ (f : Refused). f ≡ record { refusal = refusal_of e; place = 0 }) → told r ≡ answer_of judge (Err e)
unread judge e (Ok a) is = absurd is
unread judge e (Err f) is = ap (λ (x : Refused). refuses (refusal_number x.refusal) x.place) is ∙ numbered judge e

pub returns-in_err-parse : goal.returns-in_err-parse
returns-in_err-parse c =
    let a = c.args in
    let later = λ (p : Proof). judged p a.proof.now a.verdicts.now a.id a.nonce.now in
    unread later c.in_err-parse.field-0.0 c.from_residual-in_err-parse.result c.from_residual-in_err-parse.ensures.1
    ∙ ap (answer_of later) (sym c.in_err-parse.was)
    ∙ sym (read (goal.at.returns-in_err-parse c).After-parse)

pub invariant_of-case : goal.invariant_of-case
invariant_of-case c =
    let reads = sym c.parse.ensures ∙ c.in_ok-parse.was in
    record { counted = parsed-counted c.args.proof.now _ reads; ends = parsed-ends c.args.proof.now _ reads }

pub returns : goal.returns
returns c = let h = c.judge.ensures in let k = c.in_ok-parse.was in grind (arith, read (goal.at.returns c).After-parse)
