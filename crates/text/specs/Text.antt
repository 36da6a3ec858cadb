-- What the programs over text share, on bytes as lists of numbers: the part between two places, the first place of a byte, one number for
-- many bytes, and the decimal figures of a text. Assumes nothing.
use Rattle.std.specs.Prelude.{ℕ, suc, ◌+◌, ◌*◌, ◌-◌, ◌%◌, Bool, cond, ◌&&◌, eqb, leb, length, take, drop, set, List, [], ◌∷◌}
use mathlib.Core.List.{foldl}

-- ---- parts

-- the bytes from a place on and up to another, or all where these are no places of them
unfoldable pub between : List ℕ → ℕ → ℕ → List ℕ
between s from to = cond (leb from to && leb to (length s)) (take (to - from) (drop from s)) s

-- how many bytes stand before the first such byte; all where there is none
unfoldable pub before : ℕ → List ℕ → ℕ
before byte [] = 0
before byte (b ∷ s) = cond (eqb b byte) 0 (suc (before byte s))

-- the first place of a byte from a place on; the length where there is none, and the place itself where it is past the end
abbrev pub first_place : List ℕ → ℕ → ℕ → ℕ
first_place s from byte = from + before byte (drop from s)

-- ---- checksum

-- a checksum and one byte more; the modulus is the largest prime below 2^32
abbrev pub mixed : ℕ → ℕ → ℕ
mixed sum byte = (sum * 257 + byte) % 4294967291

-- one number for many bytes
unfoldable pub checksum : List ℕ → ℕ
checksum s = foldl mixed 1 s

-- ---- figures

-- the byte of the digit 0, in ASCII; the others follow it
abbrev pub zero_digit : ℕ
zero_digit = 48

abbrev pub is_digit : ℕ → Bool
is_digit b = leb zero_digit b && leb b (zero_digit + 9)

-- a decimal number and one more digit, whose byte is 48 and the digit, modulo 2^32
abbrev pub with_digit : ℕ → ℕ → ℕ
with_digit number digit = (number * 10 + digit % 16) % 4294967296

-- a figure stored as the last of so many; nothing is where there is no room, or none was begun
unfoldable pub put_last : List ℕ → ℕ → ℕ → List ℕ
put_last figures count figure = cond (eqb count 0) figures (set figures (count - 1) figure)

-- figures as far as a text was read: how many were begun, the last of them, and all as they are stored
pub record FiguresRead : Type 0 where
  pub count : ℕ
  pub figure : ℕ
  pub stored : List ℕ

-- a digit more of the last figure
abbrev pub digit_read : FiguresRead → ℕ → FiguresRead
digit_read f b =
    let figure : ℕ = with_digit f.figure b in
    record { count = f.count; figure = figure; stored = put_last f.stored f.count figure }

-- the next figure begins
abbrev pub next_begun : FiguresRead → FiguresRead
next_begun f = record { count = f.count + 1; figure = 0; stored = f.stored }

abbrev pub byte_read : FiguresRead → ℕ → FiguresRead
byte_read f b = cond (is_digit b) (digit_read f b) (next_begun f)

-- the figures of a text, each behind a byte that is no digit, stored over those of a list
unfoldable pub figures_in : List ℕ → List ℕ → FiguresRead
figures_in text figures = foldl byte_read (record { count = 0; figure = 0; stored = figures }) text
