-- The lines that the program takes: document 01, "The program". A line is words, one space apart: a name and its figures. Assumes nothing.
use Rattle.std.specs.Prelude.{ℕ, cond, List, [], ◌∷◌, eqb, leb, Option, Some, None}
use Rattle.forms.specs.Bytes.{same}
use Rattle.forms.specs.Checks.{Row, ◌gives◌, first_answer}
use Rattle.forms.specs.Confirmation.{confirmation_of}
use Rattle.forms.specs.Terms.{counter_id, global_clock}
use Rattle.grammar.specs.Numeral.{figure_of}
pub use Rattle.grammar.specs.declared.command.Arguments.{Arguments}
pub use Rattle.grammar.specs.declared.command.Command.{Command}

-- ---- words

abbrev pub space : ℕ
space = 32

-- a byte put before the first of some words
abbrev pub on_first : ℕ → List (List ℕ) → List (List ℕ)
on_first b [] = (b ∷ []) ∷ []
on_first b (w ∷ ws) = (b ∷ w) ∷ ws

-- what stands between the spaces of a line: one word more than it has spaces
unfoldable pub words : List ℕ → List (List ℕ)
words [] = [] ∷ []
words (b ∷ s) = cond (eqb b space) ([] ∷ words s) (on_first b (words s))

-- ---- figures

-- one figure, two or three; all else is none of the lines
abbrev pub one_of : Option ℕ → Option Arguments
one_of (Some a) = Some (Arguments.One a)
one_of None = None

abbrev pub two_of : Option ℕ → Option ℕ → Option Arguments
two_of (Some a) (Some b) = Some (Arguments.Two a b)
two_of (Some a) None = None
two_of None b = None

-- a third figure behind two
abbrev pub third_to : Option Arguments → Option ℕ → Option Arguments
third_to (Some (Arguments.Two a b)) (Some c) = Some (Arguments.Three a b c)
third_to (Some (Arguments.Two a b)) None = None
third_to (Some (Arguments.One a)) f = None
third_to (Some (Arguments.Three a b c)) f = None
third_to None f = None

unfoldable pub arguments_of : List (List ℕ) → Option Arguments
arguments_of [] = None
arguments_of (a ∷ []) = one_of (figure_of a)
arguments_of (a ∷ b ∷ []) = two_of (figure_of a) (figure_of b)
arguments_of (a ∷ b ∷ c ∷ []) = third_to (two_of (figure_of a) (figure_of b)) (figure_of c)
arguments_of (a ∷ b ∷ c ∷ d ∷ ws) = None

-- ---- names, in ASCII: start, open, tick, inc, read, prove, last, confirm

abbrev pub start_name : List ℕ
start_name = 115 ∷ 116 ∷ 97 ∷ 114 ∷ 116 ∷ []

abbrev pub open_name : List ℕ
open_name = 111 ∷ 112 ∷ 101 ∷ 110 ∷ []

abbrev pub tick_name : List ℕ
tick_name = 116 ∷ 105 ∷ 99 ∷ 107 ∷ []

abbrev pub inc_name : List ℕ
inc_name = 105 ∷ 110 ∷ 99 ∷ []

abbrev pub read_name : List ℕ
read_name = 114 ∷ 101 ∷ 97 ∷ 100 ∷ []

abbrev pub prove_name : List ℕ
prove_name = 112 ∷ 114 ∷ 111 ∷ 118 ∷ 101 ∷ []

abbrev pub last_name : List ℕ
last_name = 108 ∷ 97 ∷ 115 ∷ 116 ∷ []

abbrev pub confirm_name : List ℕ
confirm_name = 99 ∷ 111 ∷ 110 ∷ 102 ∷ 105 ∷ 114 ∷ 109 ∷ []

-- ---- commands

-- "b over 255 … is one 27"
abbrev pub of_byte : ℕ → Command → Command
of_byte b command = cond (leb b 255) command Command.Other

-- "Lines: `start clock`, .., `tick b`, .., `read box`"
abbrev pub one_rows : List ℕ → ℕ → List (Row Command)
one_rows name a =
    (same name start_name gives Command.Start (global_clock a))
    ∷ (same name tick_name gives of_byte a (Command.Tick a))
    ∷ (same name read_name gives Command.Read (counter_id a))
    ∷ []

abbrev pub named_one : List ℕ → ℕ → Command
named_one name a = first_answer (one_rows name a) Command.Other

-- "`prove b box`, `last box t`"
abbrev pub two_rows : List ℕ → ℕ → ℕ → List (Row Command)
two_rows name a b =
    (same name prove_name gives of_byte a (Command.Prove a (counter_id b)))
    ∷ (same name last_name gives Command.Last (counter_id a) (global_clock b))
    ∷ []

abbrev pub named_two : List ℕ → ℕ → ℕ → Command
named_two name a b = first_answer (two_rows name a b) Command.Other

-- "`open box value reading`", "`inc b box value`", "`confirm box value reading`"
abbrev pub three_rows : List ℕ → ℕ → ℕ → ℕ → List (Row Command)
three_rows name a b c =
    (same name open_name gives Command.Open (confirmation_of a b c))
    ∷ (same name inc_name gives of_byte a (Command.Increment a (counter_id b) c))
    ∷ (same name confirm_name gives Command.Confirm (confirmation_of a b c))
    ∷ []

abbrev pub named_three : List ℕ → ℕ → ℕ → ℕ → Command
named_three name a b c = first_answer (three_rows name a b c) Command.Other

abbrev pub named : List ℕ → Option Arguments → Command
named name (Some (Arguments.One a)) = named_one name a
named name (Some (Arguments.Two a b)) = named_two name a b
named name (Some (Arguments.Three a b c)) = named_three name a b c
named name None = Command.Other

abbrev pub by_words : List (List ℕ) → Command
by_words [] = Command.Other
by_words (name ∷ figures) = named name (arguments_of figures)

-- the command that a line is
unfoldable pub command_of : List ℕ → Command
command_of line = by_words (words line)
