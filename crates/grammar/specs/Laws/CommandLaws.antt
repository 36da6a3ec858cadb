-- The words of a line, and its name compared byte by byte. Assumes nothing.
use Rattle.std.specs.Prelude.{ℕ, ◌≡◌, refl, Bool, true, false, cond, ◌&&◌, List, [], ◌∷◌, eqb, Option, None, Some}
use Rattle.std.proofs.Common.{sym, ap, ◌∙◌}
use Rattle.std.specs.List.{slice_split, onto_first}
use Rattle.std.specs.Option.{option_map}
use Rattle.std.specs.Str.{bytes_eq}
use Rattle.forms.specs.Bytes.{same}
use Rattle.grammar.specs.Command.{Arguments, Command, space, on_first, words, arguments_of, named, by_words, command_of}
use Rattle.grammar.specs.Numeral.{figure_of}
use Rattle.grammar.specs.Order.{Order, order_named, order_by, order_of}

-- ---- words

-- a line's name and figures, where it has so many
unfoldable pub said_by : List (List ℕ) → Option (List ℕ × Arguments)
said_by [] = None
said_by (name ∷ figures) = option_map (λ (a : Arguments). (name, a)) (arguments_of figures)

-- the words are what the library cuts at a space
pub words-split : (s : List ℕ) → words s ≡ slice_split (λ (b : ℕ). eqb b space) s
unfolding words
words-split [] = refl
words-split (b ∷ s) = go (eqb b space) (words s) (slice_split (λ (c : ℕ). eqb c space) s) (words-split s)
  where
    onto : (ws : List (List ℕ)) → on_first b ws ≡ onto_first b ws
    onto [] = refl
    onto (w ∷ ws) = refl

    go : (t : Bool) (ws parts : List (List ℕ)) → ws ≡ parts → cond t ([] ∷ ws) (on_first b ws) ≡ cond t ([] ∷ parts) (onto_first b parts)
    go true ws parts e = ap (λ (l : List (List ℕ)). [] ∷ l) e
    go false ws parts e = onto ws ∙ ap (onto_first b) e

-- what a line says, by its words: a name alone, one figure, two, three, and more
module _ {line : List (List ℕ)} {name : List ℕ} where
  pub none-said : line ≡ name ∷ [] → said_by line ≡ None
  unfolding said_by arguments_of
  none-said is = ap said_by is

  pub one-said : {a : List ℕ} {f : Option ℕ} {x : ℕ} → line ≡ name ∷ a ∷ [] → f ≡ figure_of a → f ≡ Some x → said_by line ≡ Some (name, Arguments.One x)
  unfolding said_by arguments_of
  one-said is e g = ap said_by is ∙ rw (sym e ∙ g)

  pub two-said : {a b : List ℕ} {f g : Option ℕ} {x y : ℕ} → line ≡ name ∷ a ∷ b ∷ [] → f ≡ figure_of a → f ≡ Some x → g ≡ figure_of b → g ≡ Some y
      → said_by line ≡ Some (name, Arguments.Two x y)
  unfolding said_by arguments_of
  two-said is d e h i = ap said_by is ∙ rw (sym d ∙ e, sym h ∙ i)

  pub three-said : {a b c : List ℕ} {f g h : Option ℕ} {x y z : ℕ} → line ≡ name ∷ a ∷ b ∷ c ∷ [] → f ≡ figure_of a → f ≡ Some x → g ≡ figure_of b → g ≡ Some y
      → h ≡ figure_of c → h ≡ Some z → said_by line ≡ Some (name, Arguments.Three x y z)
  unfolding said_by arguments_of
  three-said is d e i j k l = ap said_by is ∙ rw (sym d ∙ e, sym i ∙ j, sym k ∙ l)

  pub more-said : {a b c d : List ℕ} {more : List (List ℕ)} → line ≡ name ∷ a ∷ b ∷ c ∷ d ∷ more → said_by line ≡ None
  unfolding said_by arguments_of
  more-said is = ap said_by is

  -- and a word that is no figure
  pub first-bad : {a : List ℕ} {more : List (List ℕ)} {f : Option ℕ} → line ≡ name ∷ a ∷ more → f ≡ figure_of a → f ≡ None → said_by line ≡ None
  unfolding said_by arguments_of
  first-bad {a} {more} {f} is d e = ap said_by is ∙ go more
    where
      go : (ws : List (List ℕ)) → said_by (name ∷ a ∷ ws) ≡ None
      go [] = rw (sym d ∙ e)
      go (b ∷ []) = rw (sym d ∙ e)
      go (b ∷ c ∷ []) = rw (sym d ∙ e)
      go (b ∷ c ∷ w ∷ ws) = refl

  pub second-bad : {a b : List ℕ} {more : List (List ℕ)} {f g : Option ℕ} {x : ℕ} → line ≡ name ∷ a ∷ b ∷ more → f ≡ figure_of a → f ≡ Some x → g ≡ figure_of b → g ≡ None
      → said_by line ≡ None
  unfolding said_by arguments_of
  second-bad {a} {b} {more} is d e h i = ap said_by is ∙ go more
    where
      go : (ws : List (List ℕ)) → said_by (name ∷ a ∷ b ∷ ws) ≡ None
      go [] = rw (sym d ∙ e, sym h ∙ i)
      go (c ∷ []) = rw (sym d ∙ e, sym h ∙ i)
      go (c ∷ w ∷ ws) = refl

  pub third-bad : {a b c : List ℕ} {more : List (List ℕ)} {f g h : Option ℕ} {x y : ℕ} → line ≡ name ∷ a ∷ b ∷ c ∷ more → f ≡ figure_of a → f ≡ Some x
      → g ≡ figure_of b → g ≡ Some y → h ≡ figure_of c → h ≡ None → said_by line ≡ None
  unfolding said_by arguments_of
  third-bad {a} {b} {c} {more} is d e i j k l = ap said_by is ∙ go more
    where
      go : (ws : List (List ℕ)) → said_by (name ∷ a ∷ b ∷ c ∷ ws) ≡ None
      go [] = rw (sym d ∙ e, sym i ∙ j, sym k ∙ l)
      go (w ∷ ws) = refl

-- ---- names

pub same-bytes : (a b : List ℕ) → same a b ≡ bytes_eq a b
unfolding same
same-bytes [] [] = refl
same-bytes [] (b ∷ m) = refl
same-bytes (a ∷ l) [] = refl
same-bytes (a ∷ l) (b ∷ m) = ap (λ (t : Bool). eqb a b && t) (same-bytes l m)

-- ---- lines

-- the command of a line, by what it says
abbrev pub command_said : Option (List ℕ × Arguments) → Command
command_said None = Command.Other
command_said (Some w) = named w.0 (Some w.1)

pub command-said : (line : List ℕ) → command_of line ≡ command_said (said_by (words line))
unfolding command_of said_by
command-said line = go (words line)
  where
    one : (name : List ℕ) (a : Option Arguments) → named name a ≡ command_said (option_map (λ (b : Arguments). (name, b)) a)
    one name None = refl
    one name (Some a) = refl

    go : (ws : List (List ℕ)) → by_words ws ≡ command_said (said_by ws)
    go [] = refl
    go (name ∷ figures) = one name (arguments_of figures)

-- and the order
abbrev pub order_said : Option (List ℕ × Arguments) → Order
order_said None = Order.Other
order_said (Some w) = order_named w.0 (Some w.1)

pub order-said : (line : List ℕ) → order_of line ≡ order_said (said_by (words line))
unfolding order_of said_by
order-said line = go (words line)
  where
    one : (name : List ℕ) (a : Option Arguments) → order_named name a ≡ order_said (option_map (λ (b : Arguments). (name, b)) a)
    one name None = refl
    one name (Some a) = refl

    go : (ws : List (List ℕ)) → order_by ws ≡ order_said (said_by ws)
    go [] = refl
    go (name ∷ figures) = one name (arguments_of figures)
