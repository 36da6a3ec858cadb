-- `bench::bench::place` meets its contract: the tablet is stored behind the others. Assumes nothing.
use Rattle.std.proofs.Common.{◌≡◌, arith, length}
use Rattle.tablets.specs.Tablet.{max_tablets}
use Rattle.bench.specs.Laws.BenchLaws.{placed-held}
use Rattle.bench.proofs.bench.place.Goals as goal

pub returns : goal.returns
returns c =
    let a = c.args in
    let full : length a.fleet.tablets ≡ max_tablets = omega arith in
    placed-held a.fleet a.tablet a.clock a.image.now full c.requires c.new.ensures.value c.«open».ensures.image_after
