-- `bench::bench::Bench::take_tablet` meets its contract: on a bench that is started, a tablet that is not refused is placed. Assumes nothing.
use Rattle.std.proofs.Common.{sym, ap, ◌∙◌}
use Rattle.tablets.specs.Rounds.{depot_of}
use Rattle.tablets.specs.Tablet.{blank}
use Rattle.bench.specs.Bench.{Stage, placed, silent, standing_of, tablet_ordered}
use Rattle.bench.specs.Laws.BenchLaws.{tablet-placed, told-silent}
use Rattle.console.specs.Laws.LinesLaws.{told-as}
use Rattle.bench.proofs.bench.Bench.take_tablet.Goals as goal

pub returns-else-refused_tablet : goal.returns-else-refused_tablet
returns-else-refused_tablet c =
    let a = c.args in
    let clock = c.in-Started.clock in
    let d = depot_of a.self.now.fleet a.image.now in
    let b = standing_of a.self.now a.image.now in
    let test = sym c.refused_tablet.ensures ∙ c.if-refused_tablet.false in
    told-as
    (ap (λ (s : Stage). tablet_ordered s b a.id a.period a.belief) c.in-Started.is
    ∙ tablet-placed b clock a.id a.period a.belief test
    ∙ ap (λ (s : Stage). silent s (placed clock d (blank a.id a.period a.belief))) (sym c.in-Started.is))
    (told-silent a.self.now.stage c.place-self.result _ a.text.now a.at (c.place-self.ensures ∙ ap (placed clock d) c.new.ensures))
