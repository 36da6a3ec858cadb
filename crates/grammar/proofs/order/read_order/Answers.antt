-- `grammar::order::read_order` meets its contract, by the figures and the name. Assumes nothing.
use Rattle.std.proofs.Common.{◌≡◌, sym, ap, ◌∙◌, Some, rules}
use Rattle.grammar.specs.Command.{Arguments}
use Rattle.grammar.specs.Laws.CommandLaws.{order-said, order_said}
use Rattle.grammar.specs.Order.{order_named, order_of}
use Rattle.grammar.proofs.order.read_order.Goals.{In-Some}
use Rattle.grammar.proofs.order.read_order.Goals as goal

-- the order of a line's name and figures
line_is : (c : In-Some) {figures : Arguments} → c.in-Some.figures ≡ figures → order_named c.in-Some.name.now (Some figures) ≡ order_of c.args.line.now
line_is c is =
    let line = order-said c.args.line.now ∙ ap order_said (sym c.in-Some.ensures) in
    sym (line ∙ ap (λ (f : Arguments). order_named c.in-Some.name.now (Some f)) is)

pub returns-in_default : goal.returns-in_default
returns-in_default c = sym (order-said c.args.line.now ∙ ap order_said (sym c.in_default.ensures))

pub returns-in-One : goal.returns-in-One
returns-in-One c = (search rules) ∙ line_is (goal.at.returns-in-One c).In-Some c.in-One.is

pub returns-in-One-2 : goal.returns-in-One-2
returns-in-One-2 c = (search rules) ∙ line_is (goal.at.returns-in-One-2 c).In-Some c.in-One-2.is

pub returns-in-Three : goal.returns-in-Three
returns-in-Three c = (search rules) ∙ line_is (goal.at.returns-in-Three c).In-Some c.in-Three.is

pub returns-in_default-figures : goal.returns-in_default-figures
returns-in_default-figures c = (search rules) ∙ line_is (goal.at.returns-in_default-figures c).In-Some c.in-One-2.is

pub returns-in_default-figures-2 : goal.returns-in_default-figures-2
returns-in_default-figures-2 c = (search rules) ∙ line_is (goal.at.returns-in_default-figures-2 c).In-Some c.in-Three.is

pub returns-in_default-figures-3 : goal.returns-in_default-figures-3
returns-in_default-figures-3 c = line_is (goal.at.returns-in_default-figures-3 c).In-Some c.in_default-figures.is
