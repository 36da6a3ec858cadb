-- Text put into a buffer from a place on: bytes, a number in decimal figures, and words with figures in them. Assumes nothing.
use Rattle.std.specs.Prelude.{ℕ, zero, suc, ◌+◌, ◌/◌, ◌%◌, cond, eqb, leb, ltb, length, get_or, List, [], ◌∷◌, ◌++◌}
use mathlib.Core.List.{foldl}
use Rattle.forms.specs.Bytes.{overwrite}
use Rattle.text.specs.Text.{zero_digit}

-- the place behind bytes that are stored from a place on; the place itself where they do not fit there, and so are not stored
unfoldable pub stored_end : List ℕ → ℕ → List ℕ → ℕ
stored_end text at v = cond (leb (at + length v) (length text)) (at + length v) at

-- ---- a number

-- a number's digits, as many as it has and at most some
unfoldable pub numeral_in : ℕ → ℕ → List ℕ
numeral_in zero n = []
numeral_in (suc places) n = cond (ltb n 10) ((zero_digit + n) ∷ []) (numeral_in places (n / 10) ++ ((zero_digit + n % 10) ∷ []))

-- a number of 32 bits has at most ten
abbrev pub max_digits : ℕ
max_digits = 10

abbrev pub numeral : ℕ → List ℕ
numeral n = numeral_in max_digits n

-- a figure of a line: a space, and the number's digits
abbrev pub spaced : ℕ → List ℕ
spaced n = 32 ∷ numeral n

-- ---- words with figures in them

-- the figure at a place of some; nothing where there is none
unfoldable pub figure_at : List ℕ → ℕ → List ℕ
figure_at figures place = cond (ltb place (length figures)) (spaced (get_or figures place 0)) []

-- a text as far as words were put into it: its bytes, the place behind those words, and how many figures were asked for
pub record Filled : Type 0 where
  pub text : List ℕ
  pub end : ℕ
  pub asked : ℕ

-- bytes put behind the words
abbrev pub put_behind : Filled → List ℕ → ℕ → Filled
put_behind f v asked = record { text = overwrite f.text f.end v; end = stored_end f.text f.end v; asked = asked }

-- a byte of the words: `#` asks for the next figure, and every other byte is put as it is
abbrev pub byte_filled : List ℕ → Filled → ℕ → Filled
byte_filled figures f b = cond (eqb b 35) (put_behind f (figure_at figures f.asked) (f.asked + 1)) (put_behind f (b ∷ []) f.asked)

-- words put into a text from a place on, with the figures that they ask for
unfoldable pub filled_in : List ℕ → ℕ → List ℕ → List ℕ → Filled
filled_in text at words figures = foldl (byte_filled figures) (record { text = text; end = at; asked = 0 }) words
