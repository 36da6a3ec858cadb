-- What the program answers to a line, as its code has it. Assumes nothing.
use Rattle.std.specs.Prelude.{ℕ, ◌≤◌, ◌≡◌, refl, Bool, true, false, cond, leb, length, replicate, List, []}
use Rattle.std.proofs.Common.{ap, ap₂, ◌∙◌}
use mathlib.Core.List.{flatten}
use Rattle.forms.specs.Limits.{image_len}
use Rattle.host.specs.declared.answer.Figures.{Figures}
use Rattle.grammar.specs.Command.{command_of}
use Rattle.grammar.specs.declared.command.Command.{Command}
use Rattle.console.specs.Laws.AnswerLaws.{answer-short}
use Rattle.console.specs.Lines.{Pending, within, over, pending_for}
use Rattle.console.specs.Laws.LinesPrinted.{printed_in_parts, parts-printed}
use Rattle.console.specs.Session.{line_answered, line_command, max_line, pending_command, printed}
use Rattle.console.specs.Step.{answer_text, max_answer, ran}

pub line-short : (image : List ℕ) (line : Pending) → length (line_answered image line).text ≤ max_answer
unfolding line_answered
line-short image line = answer-short (ran image (pending_command line)).figures

-- what stands of a whole line is the command that the line is
pub command-for : (line : List ℕ) → pending_command (pending_for line) ≡ line_command line
unfolding line_command pending_for
command-for line = go (leb (length line) max_line)
  where
    go : (t : Bool) → pending_command (cond t (within line) over) ≡ cond t (command_of line) Command.Other
    go true = refl
    go false = refl

-- the command of the line was run
pub line-answered : (image : List ℕ) (line : Pending) {command : Command} {figures : Figures} {after : List ℕ} → command ≡ pending_command line
    → figures ≡ (ran image command).figures → after ≡ (ran image command).image
    → record { state = after; text = answer_text figures } ≡ line_answered image line
unfolding line_answered
line-answered image line asked answered left =
    ap₂ (λ (s : List ℕ) (f : Figures). record { state = s; text = answer_text f }) left answered
    ∙ ap (λ (c : Command). record { state = (ran image c).image; text = answer_text (ran image c).figures }) asked

-- what the program prints for an input that comes in parts
pub program-printed : (parts : List (List ℕ)) → printed_in_parts line_answered (within []) (replicate {A = ℕ} image_len 0) parts
    ≡ printed (flatten parts)
program-printed = parts-printed line_answered (replicate {A = ℕ} image_len 0)
