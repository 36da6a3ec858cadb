-- The program's lines and the host's half of demand 3, as a statement: what is printed for each line behind a start that was done. Definitions
-- alone; the proof stands in a file of its own. Assumes nothing.
use Rattle.std.specs.Prelude.{ℕ, ◌^◌, ◌<◌, ◌≡◌, List, [], ◌∷◌, length, replicate}
use Rattle.forms.specs.Limits.{image_len}
use Rattle.forms.specs.declared.terms.GlobalClock.{GlobalClock}
use Rattle.host.specs.Host.{start_call, read_call, prove_call, last_call}
use Rattle.grammar.specs.declared.command.Command.{Command}
use Rattle.console.specs.Session.{line_command}
use Rattle.console.specs.Step.{byte_nonce, empty_output, ran}

-- what a command prints on an image: a `prove` that the host does not refuse prints 0 and what `read` gives on the same image, a `last` 0 and t
abbrev pub Prints : List ℕ → Command → Type 0
Prints s (Command.Prove b id) =
    (prove_call s (byte_nonce b) id (length empty_output)).figures.number ≡ 0
    → (ran s (Command.Prove b id)).figures ≡ record { number = 0; value = (read_call s id).value }
Prints s (Command.Last id t) =
    (last_call s id t (length empty_output)).figures.number ≡ 0 → (ran s (Command.Last id t)).figures ≡ record { number = 0; value = t.0 }
Prints s (Command.Start clock) = Unit
Prints s (Command.Open c) = Unit
Prints s (Command.Tick b) = Unit
Prints s (Command.Increment b id before) = Unit
Prints s (Command.Read id) = Unit
Prints s (Command.Confirm c) = Unit
Prints s Command.Other = Unit

-- along the lines no image is found unsound, and each line shows what it should
unfoldable pub Along : List ℕ → List (List ℕ) → Type 0
Along s [] = Unit
Along s (l ∷ ls) = ((ran s (line_command l)).figures.number ≡ 14 → ⊥) × Prints s (line_command l) × Along (ran s (line_command l)).image ls

-- for every clock and all lines behind `start clock`, whatever bytes they are
abbrev pub ProgramClaim : Type 0
ProgramClaim = (clock : GlobalClock) (ls : List (List ℕ)) → clock.0 < 2 ^ 32 → Along (start_call (replicate {A = ℕ} image_len 0) clock).image ls
