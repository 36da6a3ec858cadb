-- `bench::bench::Bench::take_start` meets its contract: the first line of all starts the bench. Assumes nothing.
use Rattle.std.proofs.Common.{ap, ap₂, List, ℕ}
use Rattle.tablets.specs.declared.tablet.Tablet.{Tablet}
use Rattle.bench.specs.Bench.{Stage, standing_of, start_ordered}
use Rattle.bench.specs.Laws.BenchLaws.{told-silent}
use Rattle.console.specs.Laws.LinesLaws.{told-as}
use Rattle.bench.proofs.bench.Bench.take_start.Goals as goal

pub returns-in-New : goal.returns-in-New
returns-in-New c =
    let a = c.args in
    told-as (ap (λ (s : Stage). start_ordered s (standing_of a.self.now a.image.now) a.clock) c.in-New.is)
    (told-silent (Stage.Started a.clock) c.none-self.result _ a.text.now a.at
    (ap₂ (λ (ts : List Tablet) (s : List ℕ). record { tablets = ts; image = s }) c.none-self.ensures c.start.ensures.image_after))
