-- Where the code stands behind an order. Assumes nothing.
use Rattle.std.specs.Prelude.{ℕ, ◌+◌, ◌≤◌, ◌<◌, ◌≡◌, refl, true, false, List, length, set, take}
use Rattle.std.proofs.Common.{add-one, arith, ap, ap₂, ◌∙◌, length-take, take-suc-set}
use Rattle.forms.specs.Bytes.{overwrite}
use Rattle.forms.specs.declared.confirmation.Confirmation.{Confirmation}
use Rattle.forms.specs.declared.terms.CounterId.{CounterId}
use Rattle.forms.specs.declared.terms.GlobalClock.{GlobalClock}
use Rattle.host.specs.Host.{open_call}
use Rattle.console.specs.Lines.{Told}
use Rattle.console.specs.Step.{yes}
use Rattle.tablets.specs.Rounds.{Depot, depot_of, tablets_of}
use Rattle.tablets.specs.Tablet.{blank, max_tablets}
use Rattle.tablets.specs.declared.rounds.Fleet.{Fleet}
use Rattle.tablets.specs.declared.tablet.Tablet.{Tablet}
use Rattle.console.specs.Laws.LinesLaws.{told-empty}
use Rattle.bench.specs.Bench.{Bench, Stage, Standing, no_order, passed_over, placed, refused_tablet, silent, standing_of, tablet_ordered}
use Rattle.bench.specs.Result.{max_result, result_text}

-- a line that is passed over leaves the bench as it is
pub told-passed : (bench : Bench) (image before : List ℕ) (at : ℕ) {len : ℕ} {text : List ℕ}
    → (len ≡ at + length no_order) × (text ≡ overwrite before at no_order)
    → Told (passed_over (standing_of bench image)) max_result before at (standing_of bench image) len text
told-passed bench image before at passed = record { at-state = refl; at_len = passed.0; stored = passed.1; short = omega arith }

-- one that prints nothing
pub told-silent : (stage : Stage) (fleet : Fleet) (image before : List ℕ) (at : ℕ) {d : Depot} → depot_of fleet image ≡ d
    → Told (silent stage d) max_result before at (standing_of (record { stage = stage; fleet = fleet }) image) at before
told-silent stage fleet image before at {d} e =
    told-empty (silent stage d) max_result before at refl (ap (λ (d : Depot). record { stage = stage; depot = d }) e)

-- the run, whose result is printed
pub told-run : (fleet : Fleet) (image before : List ℕ) (at : ℕ) {len : ℕ} {text : List ℕ} {d : Depot} → depot_of fleet image ≡ d
    → ((len ≡ at + length (result_text (tablets_of fleet))) × (text ≡ overwrite before at (result_text (tablets_of fleet)))) × (len ≤ at + max_result)
    → Told (record { state = record { stage = Stage.Ran; depot = d }; text = result_text d.tablets }) max_result before at
    (standing_of (record { stage = Stage.Ran; fleet = fleet }) image) len text
told-run fleet image before at {len} e put =
    let ends = put.0.0 ∙ ap (λ (d : Depot). at + length (result_text d.tablets)) e in
    record {
      at-state = ap (λ (d : Depot). record { stage = Stage.Ran; depot = d }) e;
      at_len = ends;
      stored = put.0.1 ∙ ap (λ (d : Depot). overwrite before at (result_text d.tablets)) e;
      short = omega (arith, ends, put.1);
    }

-- ---- a tablet

module _ (b : Standing) (clock : GlobalClock) (id : CounterId) (period belief : ℕ) where
  pub tablet-refused : refused_tablet b.depot.tablets id period ≡ true → tablet_ordered (Stage.Started clock) b id period belief ≡ passed_over b
  tablet-refused e = rw e

  pub tablet-placed : refused_tablet b.depot.tablets id period ≡ false
      → tablet_ordered (Stage.Started clock) b id period belief ≡ silent (Stage.Started clock) (placed clock b.depot (blank id period belief))
  tablet-placed e = rw e

-- it is stored behind the others, and its box opened
pub placed-held : (fleet : Fleet) (t : Tablet) (clock : GlobalClock) (image : List ℕ) {confirmation : Confirmation} {after : List ℕ}
    → length fleet.tablets ≡ max_tablets → length (tablets_of fleet) < max_tablets
    → confirmation ≡ record { id = t.id; value = clock.0; reading = clock } → after ≡ (open_call image confirmation yes).image
    → depot_of (record { tablets = set fleet.tablets fleet.count t; count = fleet.count + 1 }) after ≡ placed clock (depot_of fleet image) t
unfolding placed
placed-held fleet t clock image full room confirmed opened =
    let inside : fleet.count < length fleet.tablets = omega (arith, simp length-take at room) in
    ap₂ (λ (ts : List Tablet) (s : List ℕ). record { tablets = ts; image = s })
    (ap (λ (k : ℕ). take k (set fleet.tablets fleet.count t)) (add-one fleet.count) ∙ take-suc-set fleet.tablets fleet.count t inside)
    (opened ∙ ap (λ (c : Confirmation). (open_call image c yes).image) confirmed)
