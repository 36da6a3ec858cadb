-- `grammar::command::read_command` meets its contract, by the figures and the name. Assumes nothing.
use Rattle.std.proofs.Common.{◌≡◌, ℕ, ◌<◌, sym, ap, ◌∙◌, Some, Result, Ok, Err, rules, arith, le-leb}
use Rattle.std.specs.Result.{MatchResult, OkIff}
use Rattle.std.proofs.lemmas.Bool.{lt-leb}
use Rattle.forms.specs.Terms.{counter_id}
use Rattle.grammar.specs.Command.{Arguments, Command, command_of, named, of_byte}
use Rattle.grammar.specs.Laws.CommandLaws.{command-said, command_said}
use Rattle.grammar.proofs.command.read_command.Goals.{In-Some}
use Rattle.grammar.proofs.command.read_command.Goals as goal

-- the command of a line's name and figures
line_is : (c : In-Some) {figures : Arguments} → c.in-Some.figures ≡ figures → named c.in-Some.name.now (Some figures) ≡ command_of c.args.line.now
line_is c is =
    let line = command-said c.args.line.now ∙ ap command_said (sym c.in-Some.ensures) in
    sym (line ∙ ap (λ (f : Arguments). named c.in-Some.name.now (Some f)) is)

-- a figure over 255 is no byte
byte_is : {E : Type 0} {P : ℕ → Type 0} (b : ℕ) (command : ℕ → Command) (r : Command) (o : Result ℕ E) → OkIff o (b < 256) b → MatchResult o P (λ (e : E). r ≡ Command.Other)
    → ((x : ℕ) → P x → r ≡ command x) → r ≡ of_byte b (command b)
byte_is b command r (Ok x) given is made = made x is ∙ ap command given.1 ∙ rw (le-leb b 255 (omega arith))
byte_is b command r (Err e) given is made = is ∙ rw (lt-leb b 255 (omega arith))

pub returns-in_default : goal.returns-in_default
returns-in_default c = sym (command-said c.args.line.now ∙ ap command_said (sym c.in_default.ensures))

pub returns-in-One : goal.returns-in-One
returns-in-One c = (search rules) ∙ line_is (goal.at.returns-in-One c).In-Some c.in-One.is

pub returns-in-One-2 : goal.returns-in-One-2
returns-in-One-2 c =
    byte_is c.in-One-2.n Command.Tick c.map_or.result c.try_from.result c.try_from.ensures c.map_or.ensures (λ x k. k)
    ∙ (search rules) ∙ line_is (goal.at.returns-in-One-2 c).In-Some c.in-One-2.is

pub returns-in-One-3 : goal.returns-in-One-3
returns-in-One-3 c = (search rules) ∙ line_is (goal.at.returns-in-One-3 c).In-Some c.in-One-3.is

pub returns-in-Two : goal.returns-in-Two
returns-in-Two c =
    byte_is c.in-Two.n (λ (b : ℕ). Command.Prove b (counter_id c.in-Two.id)) c.map_or-in-Two.result c.try_from-in-Two.result
    c.try_from-in-Two.ensures c.map_or-in-Two.ensures (λ x k. search rules)
    ∙ (search rules) ∙ line_is (goal.at.returns-in-Two c).In-Some c.in-Two.is

pub returns-in-Two-2 : goal.returns-in-Two-2
returns-in-Two-2 c = (search rules) ∙ line_is (goal.at.returns-in-Two-2 c).In-Some c.in-Two-2.is

pub returns-in-Three : goal.returns-in-Three
returns-in-Three c =
    ap Command.Open c.new.ensures.value ∙ (search rules) ∙ line_is (goal.at.returns-in-Three c).In-Some c.in-Three.is

pub returns-in-Three-2 : goal.returns-in-Three-2
returns-in-Three-2 c =
    byte_is c.in-Three-2.n (λ (b : ℕ). Command.Increment b (counter_id c.in-Three-2.id) c.in-Three-2.value) c.map_or-in-Three-2.result
    c.try_from-in-Three-2.result c.try_from-in-Three-2.ensures c.map_or-in-Three-2.ensures (λ x k. search rules)
    ∙ (search rules) ∙ line_is (goal.at.returns-in-Three-2 c).In-Some c.in-Three-2.is

pub returns-in-Three-3 : goal.returns-in-Three-3
returns-in-Three-3 c =
    ap Command.Confirm c.new-in-Three-3.ensures.value ∙ (search rules) ∙ line_is (goal.at.returns-in-Three-3 c).In-Some c.in-Three-3.is

pub returns-in_default-figures : goal.returns-in_default-figures
returns-in_default-figures c = (search rules) ∙ line_is (goal.at.returns-in_default-figures c).In-Some c.in-One-3.is

pub returns-in_default-figures-2 : goal.returns-in_default-figures-2
returns-in_default-figures-2 c = (search rules) ∙ line_is (goal.at.returns-in_default-figures-2 c).In-Some c.in-Three-3.is

pub returns-in_default-figures-3 : goal.returns-in_default-figures-3
returns-in_default-figures-3 c = (search rules) ∙ line_is (goal.at.returns-in_default-figures-3 c).In-Some c.in-Two-2.is
