-- A table of refusals: rows in document 01's order, each with the test that gives it. The answer is that of the first row whose test
-- holds. Assumes nothing.
use Rattle.std.specs.Prelude.{Bool, cond, List, [], ◌∷◌}

pub record Row (A : Type 0) : Type 0 where
  pub test : Bool
  pub answer : A

infix 20 ◌gives◌
-- "given when": the row's test, and what it gives
abbrev pub ◌gives◌ : {A : Type 0} → Bool → A → Row A
◌gives◌ test answer = record { test = test; answer = answer }

-- the answer of the first row whose test holds, or else the last one given
abbrev pub first_answer : {A : Type 0} → List (Row A) → A → A
first_answer [] otherwise = otherwise
first_answer (row ∷ rows) otherwise = cond row.test row.answer (first_answer rows otherwise)
