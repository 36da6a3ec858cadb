-- The text of a run's result: document 02, Note 8: "`run` prints a line per tablet, by number: raises made, answers 22, answers 24." Assumes nothing.
use Rattle.std.specs.Prelude.{ℕ, ◌*◌, List, [], ◌∷◌, ◌++◌}
use Rattle.tablets.specs.Tablet.{max_tablets}
use Rattle.tablets.specs.declared.tablet.Tablet.{Tablet}
use Rattle.text.specs.Line.{numeral, spaced}

-- three figures, one space apart, and a newline
unfoldable pub tablet_line : Tablet → List ℕ
tablet_line t = numeral t.raises ++ (spaced t.stale ++ (spaced t.full ++ (10 ∷ [])))

unfoldable pub result_text : List Tablet → List ℕ
result_text [] = []
result_text (t ∷ ts) = tablet_line t ++ result_text ts

-- the most bytes of a line, three numbers of ten digits, two spaces and a newline (33), and of a result (1,056)
abbrev pub max_tablet_line : ℕ
max_tablet_line = 33

abbrev pub max_result : ℕ
max_result = max_tablet_line * max_tablets
