-- `text::line::put_filled` meets its contract: what is left of the words, and of the figures, makes of the text so far the whole. Assumes nothing.
use Rattle.std.proofs.Common.{◌≡◌, ℕ, drop}
use mathlib.Core.List.{foldl}
use Rattle.text.specs.Line.{byte_filled, filled_in}
use Rattle.text.proofs.line.put_filled.Given as goal

abbrev pub invariant-loop-byte : goal.invariant-loop-byte
invariant-loop-byte l =
    (asked : ℕ)
    × (l.left.rest.now ≡ drop asked l.figures)
    × (filled_in l.initial.text l.at l.words l.figures
    ≡ foldl (byte_filled l.figures) (record { text = l.text; end = l.end; asked = asked }) (drop l.byte-index l.words))
