-- `grammar::command::read_words` meets its contract, by how many words there are. Assumes nothing.
use Rattle.std.proofs.Common.{◌≡◌, ℕ, Bool, false, refl, sym, ap, subst, ◌∙◌, List, [], ◌∷◌, ◌++◌, map, Option, None, Some, Bor, eqb, rules}
use Rattle.std.specs.Fn.{CalledAt}
use Rattle.std.specs.Iterator.{AlwaysYields, Yields}
use Rattle.std.specs.Option.{option_map}
use Rattle.std.specs.Slice.Iter.{split_rest, split_done, split_callee, split_steps}
use Rattle.std.specs.declared.slice.Split.{Split}
use Rattle.std.proofs.iter.Yields.{gives_left, gives_Drains}
use Rattle.std.proofs.lemmas.Iterator.Splits.{YieldsList-from_slice_split}
use denote.Param.Members.{Mut}
use Rattle.grammar.specs.Command.{Arguments, words, space}
use Rattle.grammar.specs.Laws.CommandLaws.{words-split, none-said, one-said, two-said, three-said, more-said, first-bad, second-bad, third-bad}
use Rattle.grammar.proofs.command.read_words.Goals as goal

-- what calls of `next` gave are the first words of the line
abbrev word : Bor (List ℕ) → List ℕ
word w = w.now

module _ {F : Type 0} (g : Mut F (Bor ℕ × Unit {0}) Bool) (s t : Split ℕ F) (name : Bor (List ℕ)) (step : split_steps g s (Some name) t) {line : List ℕ} {f : F}
    (rest : split_rest s ≡ line) (done : split_done s ≡ false) (closure : split_callee s ≡ f)
    (tests : (x : ℕ) (b : Bool) (q : F) → CalledAt g f x b q → (q ≡ f) × (b ≡ eqb x space)) where
  whole : AlwaysYields (split_steps g) word s (words line)
  whole =
      subst (AlwaysYields (split_steps g) word s) (sym (words-split line))
      (YieldsList-from_slice_split g (λ (b : ℕ). eqb b space) line rest done closure tests).runs

  more_words : (seen : List (Bor (List ℕ))) (u : Split ℕ F) → Yields (split_steps g) t seen u → (more : List (List ℕ)) × (words line ≡ name.now ∷ (map word seen ++ more))
  more_words seen u yields = let left = gives_left (split_steps g) word (name ∷ seen) (words line) s u whole (t, step, yields) in (left.0, left.1)

  all_words : (seen : List (Bor (List ℕ))) (u v : Split ℕ F) → Yields (split_steps g) t seen u → split_steps g u None v → words line ≡ name.now ∷ map word seen
  all_words seen u v yields end = sym (gives_Drains (split_steps g) word (name ∷ seen) (words line) s whole (v, (u, (t, step, yields), end)))

-- a line that says nothing
nothing : {r : Option (Bor (List ℕ) × Arguments)} {said : Option (List ℕ × Arguments)} → r ≡ None → said ≡ None
    → option_map (λ (w : Bor (List ℕ) × Arguments). (w.0.now, w.1)) r ≡ said
nothing is none = ap (option_map (λ (w : Bor (List ℕ) × Arguments). (w.0.now, w.1))) is ∙ sym none

pub returns-in_err-next : goal.returns-in_err-next
returns-in_err-next c =
    let split = c.split-words in
    let left =
    all_words _ split.result c.next.new.self c.in_ok-name.name c.in_ok-name.ensures.steps
    split.ensures.rest split.ensures.done split.ensures.closure (λ x b q k. search rules)
    [] c.next.new.self c.next-2.new.self
    refl c.in_err-next.ensures.steps in
    nothing c.from_residual-in_err-next.ensures (none-said left)

pub returns-in_err-first : goal.returns-in_err-first
returns-in_err-first c =
    let split = c.split-words in
    let left =
    more_words _ split.result c.next.new.self c.in_ok-name.name c.in_ok-name.ensures.steps
    split.ensures.rest split.ensures.done split.ensures.closure (λ x b q k. search rules)
    (c.in_ok-next.field-0 ∷ []) c.next-2.new.self
    (c.next-2.new.self, c.in_ok-next.ensures.steps, refl) in
    nothing c.from_residual-in_err-first.ensures (first-bad left.1 c.read_figure.ensures c.in_err-first.was)

pub returns-in_default : goal.returns-in_default
returns-in_default c =
    let split = c.split-words in
    let left =
    all_words _ split.result c.next.new.self c.in_ok-name.name c.in_ok-name.ensures.steps
    split.ensures.rest split.ensures.done split.ensures.closure (λ x b q k. search rules)
    (c.in_ok-next.field-0 ∷ []) c.next-2.new.self c.next-3.new.self
    (c.next-2.new.self, c.in_ok-next.ensures.steps, refl) c.in_default.ensures.steps in
    sym (one-said left c.read_figure.ensures c.in_ok-first.was)

pub returns-in_err-second : goal.returns-in_err-second
returns-in_err-second c =
    let split = c.split-words in
    let left =
    more_words _ split.result c.next.new.self c.in_ok-name.name c.in_ok-name.ensures.steps
    split.ensures.rest split.ensures.done split.ensures.closure (λ x b q k. search rules)
    (c.in_ok-next.field-0 ∷ c.in-Some.second ∷ []) c.next-3.new.self
    (c.next-2.new.self, c.in_ok-next.ensures.steps, (c.next-3.new.self, c.in-Some.ensures.steps, refl)) in
    nothing c.from_residual-in_err-second.ensures (second-bad left.1 c.read_figure.ensures c.in_ok-first.was c.read_figure-2.ensures c.in_err-second.was)

pub returns-in_default-next : goal.returns-in_default-next
returns-in_default-next c =
    let split = c.split-words in
    let left =
    all_words _ split.result c.next.new.self c.in_ok-name.name c.in_ok-name.ensures.steps
    split.ensures.rest split.ensures.done split.ensures.closure (λ x b q k. search rules)
    (c.in_ok-next.field-0 ∷ c.in-Some.second ∷ []) c.next-3.new.self c.next-4.new.self
    (c.next-2.new.self, c.in_ok-next.ensures.steps, (c.next-3.new.self, c.in-Some.ensures.steps, refl)) c.in_default-next.ensures.steps in
    sym (two-said left c.read_figure.ensures c.in_ok-first.was c.read_figure-2.ensures c.in_ok-second.was)

pub returns-in_err-third : goal.returns-in_err-third
returns-in_err-third c =
    let split = c.split-words in
    let left =
    more_words _ split.result c.next.new.self c.in_ok-name.name c.in_ok-name.ensures.steps
    split.ensures.rest split.ensures.done split.ensures.closure (λ x b q k. search rules)
    (c.in_ok-next.field-0 ∷ c.in-Some.second ∷ c.in-Some-next.third ∷ []) c.next-4.new.self
    (c.next-2.new.self, c.in_ok-next.ensures.steps, (c.next-3.new.self, c.in-Some.ensures.steps, (c.next-4.new.self, c.in-Some-next.ensures.steps, refl))) in
    nothing c.from_residual-in_err-third.ensures (third-bad left.1 c.read_figure.ensures c.in_ok-first.was c.read_figure-2.ensures c.in_ok-second.was c.read_figure-3.ensures c.in_err-third.was)

pub returns-in-Some-next-2 : goal.returns-in-Some-next-2
returns-in-Some-next-2 c =
    let split = c.split-words in
    let left =
    more_words _ split.result c.next.new.self c.in_ok-name.name c.in_ok-name.ensures.steps
    split.ensures.rest split.ensures.done split.ensures.closure (λ x b q k. search rules)
    (c.in_ok-next.field-0 ∷ c.in-Some.second ∷ c.in-Some-next.third ∷ c.in-Some-next-2.field-0 ∷ []) c.next-5.new.self
    (c.next-2.new.self, c.in_ok-next.ensures.steps, (c.next-3.new.self, c.in-Some.ensures.steps, (c.next-4.new.self, c.in-Some-next.ensures.steps, (c.next-5.new.self, c.in-Some-next-2.ensures.steps, refl)))) in
    sym (more-said left.1)

pub returns-in-None : goal.returns-in-None
returns-in-None c =
    let split = c.split-words in
    let left =
    all_words _ split.result c.next.new.self c.in_ok-name.name c.in_ok-name.ensures.steps
    split.ensures.rest split.ensures.done split.ensures.closure (λ x b q k. search rules)
    (c.in_ok-next.field-0 ∷ c.in-Some.second ∷ c.in-Some-next.third ∷ []) c.next-4.new.self c.next-5.new.self
    (c.next-2.new.self, c.in_ok-next.ensures.steps, (c.next-3.new.self, c.in-Some.ensures.steps, (c.next-4.new.self, c.in-Some-next.ensures.steps, refl))) c.in-None.ensures.steps in
    sym (three-said left c.read_figure.ensures c.in_ok-first.was c.read_figure-2.ensures c.in_ok-second.was c.read_figure-3.ensures c.in_ok-third.was)
