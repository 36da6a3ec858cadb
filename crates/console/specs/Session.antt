-- The program's lines: document 01, "The program". What it answers to a line on an image, and what it prints for an input. Assumes nothing.
use Rattle.std.specs.Prelude.{ℕ, cond, List, leb, length, replicate}
use Rattle.forms.specs.Limits.{image_len}
use Rattle.host.specs.Host.{Settled}
use Rattle.grammar.specs.Command.{command_of}
use Rattle.grammar.specs.declared.command.Command.{Command}
use Rattle.console.specs.Step.{ran, answer_text}
pub use Rattle.console.specs.Lines.{Answered, Pending, within, over, lines, max_line, transcript}

-- "a line over 80 bytes is one 27"
unfoldable pub line_command : List ℕ → Command
line_command line = cond (leb (length line) max_line) (command_of line) Command.Other

abbrev pub pending_command : Pending → Command
pending_command (within line) = command_of line
pending_command over = Command.Other

-- "Each line prints number and value"; what is kept from line to line is the image
unfoldable pub line_answered : List ℕ → Pending → Answered (List ℕ)
line_answered image line =
    let r : Settled = ran image (pending_command line) in
    record { state = r.image; text = answer_text r.figures }

-- "Before `start` the image is all zero"
abbrev pub printed : List ℕ → List ℕ
printed input = transcript line_answered (replicate {A = ℕ} image_len 0) (lines input)
