-- `console::step::step` meets its contract, command by command. Assumes nothing.
use Rattle.std.proofs.Common.{◌≡◌, refl, sym, ap, ◌∙◌, List, ℕ}
use Rattle.host.specs.declared.answer.Figures.{Figures}
use Rattle.grammar.specs.declared.command.Command.{Command}
use Rattle.console.specs.Step.{ran}
use Rattle.console.proofs.step.step.Goals as goal

-- what a command answers, and the image behind it, once it is known which it is
figures_known : (s : List ℕ) {command other : Command} {figures : Figures} → command ≡ other → figures ≡ (ran s other).figures → figures
    ≡ (ran s command).figures
figures_known s e answered = answered ∙ sym (ap (λ (c : Command). (ran s c).figures) e)

image_known : (s : List ℕ) {command other : Command} {image : List ℕ} → command ≡ other → image ≡ (ran s other).image → image ≡ (ran s command).image
image_known s e answered = answered ∙ sym (ap (λ (c : Command). (ran s c).image) e)

pub returns-in-Start : goal.returns-in-Start
unfolding ran
returns-in-Start c =
    let is = c.in-Start.is in
    record {
      value = figures_known c.args.image.now is (c.into.ensures ∙ c.start.ensures.value);
      image_after = image_known c.args.image.now is c.start.ensures.image_after;
    }

pub returns-in-Open : goal.returns-in-Open
unfolding ran
returns-in-Open c =
    let is = c.in-Open.is in
    record {
      value = figures_known c.args.image.now is (c.into-in-Open.ensures ∙ c.«open».ensures.value);
      image_after = image_known c.args.image.now is c.«open».ensures.image_after;
    }

pub returns-in-Tick : goal.returns-in-Tick
unfolding ran
returns-in-Tick c =
    let is = c.in-Tick.is in
    record {
      value = figures_known c.args.image.now is (c.into-in-Tick.ensures ∙ c.tick.ensures.value);
      image_after = image_known c.args.image.now is c.tick.ensures.image_after;
    }

pub returns-in-Increment : goal.returns-in-Increment
unfolding ran
returns-in-Increment c =
    let is = c.in-Increment.is in
    record {
      value = figures_known c.args.image.now is (c.into-in-Increment.ensures ∙ c.raise_once.ensures.value);
      image_after = image_known c.args.image.now is c.raise_once.ensures.image_after;
    }

pub returns-in-Read : goal.returns-in-Read
unfolding ran
returns-in-Read c =
    let is = c.in-Read.is in
    record { value = figures_known c.args.image.now is c.show_read.ensures; image_after = image_known c.args.image.now is refl }

pub returns-in-Prove : goal.returns-in-Prove
unfolding ran
returns-in-Prove c =
    let is = c.in-Prove.is in
    record {
      value = figures_known c.args.image.now is c.show_prove.ensures.value;
      image_after = image_known c.args.image.now is c.show_prove.ensures.image_after;
    }

pub returns-in-Last : goal.returns-in-Last
unfolding ran
returns-in-Last c =
    let is = c.in-Last.is in
    record {
      value = figures_known c.args.image.now is c.show_last.ensures.value;
      image_after = image_known c.args.image.now is c.show_last.ensures.image_after;
    }

pub returns-in-Confirm : goal.returns-in-Confirm
unfolding ran
returns-in-Confirm c =
    let is = c.in-Confirm.is in
    record {
      value = figures_known c.args.image.now is (c.into-in-Confirm.ensures ∙ c.confirm.ensures.value);
      image_after = image_known c.args.image.now is c.confirm.ensures.image_after;
    }

pub returns-in-Other : goal.returns-in-Other
unfolding ran
returns-in-Other c =
    let is = c.in-Other.is in
    record { value = figures_known c.args.image.now is (ap (λ (n : ℕ). record { number = n; value = 0 }) c.number.ensures); image_after = image_known c.args.image.now is refl }
