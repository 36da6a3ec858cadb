-- `bench::result::put_result` meets its contract. The loop's invariant: the lines of the tablets passed are stored, one behind the other.
-- Assumes nothing.
use Rattle.std.proofs.Common.{◌≤◌, ap, refl, arith, length, length-take, take}
use Rattle.tablets.specs.Tablet.{max_tablets}
use Rattle.bench.specs.Laws.ResultLaws.{none-stored, one-stored, result_fits, room-left}
use Rattle.bench.proofs.result.put_result.Goals as goal
use Rattle.bench.proofs.result.put_result.Goals.{After-as_slice-tablet-items}

-- the array has 32 tablets
few : (c : After-as_slice-tablet-items) → length c.as_slice-tablet-items.result.now ≤ max_tablets
few c = omega (arith, ap length c.as_slice-tablet-items.ensures, length-take c.args.fleet.count c.args.fleet.tablets)

pub loop-tablet-init : goal.loop-tablet-init
loop-tablet-init c = none-stored c.as_slice-tablet-items.result.now c.args.text.now c.args.at

pub put_tablet-end-requires : goal.put_tablet-end-requires
put_tablet-end-requires c =
    let loop = c.loop-tablet in
    let a = c.args in
    let few = few (goal.at.put_tablet-end-requires c).After-as_slice-tablet-items in
    room-left c.as_slice-tablet-items.result.now loop.tablet-index a.text.now a.at few c.loop-tablet-test.true c.requires loop.invariant

pub loop-tablet-preserved : goal.loop-tablet-preserved
loop-tablet-preserved c =
    let loop = c.loop-tablet in
    let a = c.args in
    let put = c.put_tablet-end.ensures in
    let few = few (goal.at.loop-tablet-preserved c).After-as_slice-tablet-items in
    one-stored c.as_slice-tablet-items.result.now loop.tablet-index a.text.now a.at few c.loop-tablet-test.true c.requires _ _ refl loop.invariant
    (put.value, put.text_after)

pub returns-clause-short : goal.returns-clause-short
returns-clause-short c =
    let loop = c.loop-tablet in
    let items = c.as_slice-tablet-items.result.now in
    let few = few (goal.at.returns-clause-short c).After-as_slice-tablet-items in
    omega (arith, loop.invariant.at-end, result_fits (take loop.tablet-index items) (simp length-take (omega (arith, few))))
