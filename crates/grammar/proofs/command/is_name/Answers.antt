-- `grammar::command::is_name` meets its contract: `==` on slices compares their bytes. Assumes nothing.
use Rattle.std.proofs.Common.{sym, ◌∙◌}
use Rattle.grammar.specs.Laws.CommandLaws.{same-bytes}
use Rattle.grammar.proofs.command.is_name.Goals as goal

pub returns : goal.returns
returns c = c.eq.ensures ∙ sym (same-bytes c.args.word.now c.args.name.now)
