-- `text::figures::read_figures` meets its contract: what is left of the text makes of the figures so far those of the whole. Assumes nothing.
use Rattle.std.proofs.Common.{◌≡◌, ◌≤◌, drop}
use mathlib.Core.List.{foldl}
use Rattle.text.specs.Text.{byte_read, figures_in}
use Rattle.text.proofs.figures.read_figures.Given as goal

abbrev pub invariant-loop-byte : goal.invariant-loop-byte
invariant-loop-byte l =
    record {
      counted : l.count ≤ l.byte-index;
      read : figures_in l.text l.initial.figures
          ≡ foldl byte_read (record { count = l.count; figure = l.figure; stored = l.figures }) (drop l.byte-index l.text);
    }
