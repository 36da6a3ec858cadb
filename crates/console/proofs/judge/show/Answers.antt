-- `console::judge::show` meets its contract. Assumes nothing.
use Rattle.std.proofs.Common.{ap}
use Rattle.desk_table.specs.declared.answer.Figures.{Figures}
use Rattle.console.proofs.judge.show.Goals as goal

pub returns : goal.returns
returns c = ap (λ (f : Figures). record { number = f.number; value = f.value }) c.from-figures.ensures
