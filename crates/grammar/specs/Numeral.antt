-- Decimal figures read from text: document 01, "The program": "fields are decimal without leading zeros". Assumes nothing.
use Rattle.std.specs.Prelude.{ℕ, ◌+◌, ◌-◌, ◌*◌, Bool, true, false, not, cond, ◌&&◌, List, [], ◌∷◌, eqb, leb, Some, None, Option}
use Rattle.forms.specs.Limits.{max_word}
use Rattle.text.specs.Text.{zero_digit, is_digit}

unfoldable pub all_digits : List ℕ → Bool
all_digits [] = true
all_digits (b ∷ s) = is_digit b && all_digits s

-- the number that some digits stand for, behind others that stand for a number
unfoldable pub value_from : ℕ → List ℕ → ℕ
value_from n [] = n
value_from n (b ∷ s) = value_from (n * 10 + (b - zero_digit)) s

abbrev pub value_of : List ℕ → ℕ
value_of s = value_from 0 s

-- "without leading zeros": at least one digit, and no 0 before another
abbrev pub unpadded : List ℕ → Bool
unpadded [] = false
unpadded (b ∷ []) = true
unpadded (b ∷ c ∷ s) = not (eqb b zero_digit)

-- the figure in a field; "a figure too large for its field" is none
unfoldable pub figure_of : List ℕ → Option ℕ
figure_of s = cond (unpadded s && (all_digits s && leb (value_of s) max_word)) (Some (value_of s)) None
