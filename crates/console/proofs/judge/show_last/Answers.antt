-- `console::judge::show_last` meets its contract: a refusal is the host's, and a proof that was written is judged with the nonce of the
-- request in entry t. Assumes nothing.
use Rattle.std.proofs.Common.{refl, sym, ap, ◌∙◌, Ok}
use Rattle.host.proofs.Laws.OutcomeLaws.{refused-number}
use Rattle.host.specs.Outcome.{figures_of}
use Rattle.console.specs.Step.{desk_figures, empty_output, ran}
use Rattle.console.specs.Laws.StepLaws.{last-line-refused, last-line-judged}
use Rattle.console.proofs.judge.show_last.Goals as goal

pub returns-in_default : goal.returns-in_default
unfolding ran empty_output
returns-in_default c =
    let a = c.args in
    record {
      value = c.into.ensures ∙ last-line-refused a.image.now a.id a.t _ c.last-written.ensures.value (refused-number c.in_default.is);
      image_after = c.last-written.ensures.image_after;
    }

pub returns : goal.returns
unfolding ran empty_output
returns c =
    let a = c.args in
    record {
      value = last-line-judged a.image.now a.id a.t (figures_of (Ok c.in-Ok.len)) (sym (ap figures_of c.in-Ok.is) ∙ c.last-written.ensures.value) _
          c.request_nonce-nonce.result c.show.result refl c.last-written.ensures.out_after c.request_nonce-nonce.ensures
          (c.show.ensures ∙ ap desk_figures c.judge.ensures);
      image_after = c.last-written.ensures.image_after;
    }
