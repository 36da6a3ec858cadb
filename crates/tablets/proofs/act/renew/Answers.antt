-- `tablets::act::renew` meets its contract, by the desk's two answers. Assumes nothing.
use Rattle.std.proofs.Common.{◌≡◌, refl, sym, ap, ◌∙◌, ℕ, Ok, Err, Result, take}
use Rattle.std.specs.Result.{result_unwrap_or}
use Rattle.desk_table.specs.Answer.{told}
use Rattle.desk_table.specs.Desk.{verified}
use Rattle.forms.specs.declared.confirmation.Confirmation.{Confirmation}
use Rattle.forms.specs.declared.refusal.Refusal.{Refusal}
use Rattle.host.specs.Host.{confirm_call}
use Rattle.host.specs.Outcome.{figures_of}
use Rattle.validity.specs.declared.proof.Kind.{Kind}
use Rattle.console.specs.Step.{empty_output, yes, yes_for}
use Rattle.tablets.specs.Act.{Renewed, confirmed_shown, renewed}
use Rattle.tablets.specs.Laws.ActLaws.{renew-judged}
use Rattle.tablets.proofs.act.renew.Goals as goal
use Rattle.tablets.proofs.act.renew.Goals.{After-judge}

-- the length of a proof that was not written is 0
length-of : (written : Result ℕ Refusal) → result_unwrap_or written 0 ≡ (figures_of written).value
length-of (Ok len) = refl
length-of (Err refusal) = refl

-- what follows the desk's answer
shown : (c : After-judge) →
    let a = c.args in
    renewed a.image.now a.nonce a.id a.belief ≡ confirmed_shown (told c.judge.result) c.prove.new.image a.id a.belief
unfolding empty_output
shown c =
    let a = c.args in
    let host = c.prove.ensures in
    renew-judged a.image.now a.nonce a.id a.belief host.value host.image_after host.out_after
    (c.judge.ensures
    ∙ ap (λ (n : ℕ). verified (take n c.prove.new.out) (yes_for Kind.Read n) a.id a.nonce) (c.unwrap_or-len.ensures ∙ length-of c.prove.result))

pub returns-in-Ok : goal.returns-in-Ok
returns-in-Ok c =
    let judged = shown (goal.at.returns-in-Ok c).After-judge in
    let a = c.args in
    let u = c.prove.new.image in
    let law = judged ∙ ap (λ x. confirmed_shown (told x) u a.id a.belief) c.in-Ok.is in
    record {
      value = sym (ap (λ (r : Renewed). r.belief) law);
      image_after = c.confirm.ensures.image_after
          ∙ ap (λ (k : Confirmation). (confirm_call u k yes).image) c.new-confirmation.ensures.value
          ∙ sym (ap (λ (r : Renewed). r.image) law);
    }

pub returns-in-Err : goal.returns-in-Err
returns-in-Err c =
    let judged = shown (goal.at.returns-in-Err c).After-judge in
    let a = c.args in
    let law = judged ∙ ap (λ x. confirmed_shown (told x) c.prove.new.image a.id a.belief) c.in-Err.is in
    record { value = sym (ap (λ (r : Renewed). r.belief) law); image_after = sym (ap (λ (r : Renewed). r.image) law) }
