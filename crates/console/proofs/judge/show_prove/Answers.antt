-- `console::judge::show_prove` meets its contract: a refusal is the host's, and a proof that was written is judged. Assumes nothing.
use Rattle.std.proofs.Common.{refl, sym, ap, ◌∙◌, Ok}
use Rattle.host.proofs.Laws.OutcomeLaws.{refused-number}
use Rattle.host.specs.Outcome.{figures_of}
use Rattle.console.specs.Step.{desk_figures, empty_output, ran}
use Rattle.console.specs.Laws.StepLaws.{prove-line-refused, prove-line-judged}
use Rattle.console.proofs.judge.show_prove.Goals as goal

pub returns-in_default : goal.returns-in_default
unfolding ran empty_output
returns-in_default c =
    let a = c.args in
    record {
      value = c.into.ensures
          ∙ prove-line-refused a.image.now a.byte a.id _ c.prove-written.ensures.value (refused-number c.in_default.is);
      image_after = c.prove-written.ensures.image_after;
    }

pub returns : goal.returns
unfolding ran empty_output
returns c =
    let a = c.args in
    record {
      value = prove-line-judged a.image.now a.byte a.id (figures_of (Ok c.in-Ok.len)) (sym (ap figures_of c.in-Ok.is) ∙ c.prove-written.ensures.value) _
          c.show.result refl c.prove-written.ensures.out_after (c.show.ensures ∙ ap desk_figures c.judge.ensures);
      image_after = c.prove-written.ensures.image_after;
    }
