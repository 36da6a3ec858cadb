-- `tablets::act::act` meets its contract, by the host's answer to the raise. Assumes nothing.
use Rattle.std.proofs.lemmas.Bool.{false≢true}
use Rattle.host.proofs.Laws.SettledLaws.{some_number}
use Rattle.std.proofs.Common.{refl, rules, eq-eqb, sym, ap, ◌∙◌}
use Rattle.forms.specs.Refusal.{refusal_number}
use Rattle.tablets.specs.Act.{Acted}
use Rattle.tablets.specs.Laws.ActLaws.{act-full, act-refused, act-stale, act-succeeded}
use Rattle.tablets.specs.Tablet.{Tablet, adopting}
use Rattle.tablets.proofs.act.act.Goals as goal

pub returns-in-Ok : goal.returns-in-Ok
returns-in-Ok c =
    let a = c.args in
    let law = act-succeeded a.round a.number a.image.now a.tablet
    c.nonce_for.ensures c.in-Ok.ensures.value c.raise_once.ensures.image_after refl in
    record { value = c.succeeded.ensures ∙ sym (ap (λ (x : Acted). x.tablet) law); image_after = sym (ap (λ (x : Acted). x.image) law) }

pub returns-in-Err-Stale : goal.returns-in-Err-Stale
returns-in-Err-Stale c =
    let a = c.args in
    let law = act-stale a.round a.number a.image.now a.tablet
    c.nonce_for.ensures c.in-Err-Stale.ensures.value c.raise_once.ensures.image_after
    (ap refusal_number c.in-Err-Stale.field-0-is) c.nonce_for-in-Err-Stale.ensures c.renew-value.ensures.value c.renew-value.ensures.image_after in
    record {
      value = c.adopting.ensures
          ∙ ap (λ (t : Tablet). adopting t c.renew-value.result) c.refused_stale.ensures
          ∙ sym (ap (λ (x : Acted). x.tablet) law);
      image_after = sym (ap (λ (x : Acted). x.image) law);
    }

pub returns-in-Err-LogFull : goal.returns-in-Err-LogFull
returns-in-Err-LogFull c =
    let a = c.args in
    let law = act-full a.round a.number a.image.now a.tablet
    c.nonce_for.ensures c.in-Err-LogFull.ensures.value c.raise_once.ensures.image_after
    (ap refusal_number c.in-Err-LogFull.field-0-is) c.nonce_for-in-Err-LogFull.ensures c.renew.ensures.image_after in
    record { value = c.refused_full.ensures ∙ sym (ap (λ (x : Acted). x.tablet) law); image_after = sym (ap (λ (x : Acted). x.image) law) }

pub returns-in-Err : goal.returns-in-Err
returns-in-Err c =
    let a = c.args in
    let law = act-refused a.round a.number a.image.now a.tablet
    c.nonce_for.ensures c.in-Err.ensures.value c.raise_once.ensures.image_after
    (λ e. false≢true (sym (some_number c.in-Err.field-0) ∙ eq-eqb (refusal_number c.in-Err.field-0) 0 e)) (λ e. search rules) (λ e. search rules) in
    record { value = sym (ap (λ (x : Acted). x.tablet) law); image_after = sym (ap (λ (x : Acted). x.image) law) }
