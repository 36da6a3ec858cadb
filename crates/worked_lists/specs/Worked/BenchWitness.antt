-- The bench's claim speaks of something, and needs what it supposes. From a start at 100, a tablet of box 7 that believes 50 is answered 22, and 0 in
-- the next round; where another tablet of the box acts between the two, it is answered 22 again. Assumes nothing.
use Rattle.std.specs.Prelude.{ℕ, zero, suc, ◌+◌, ◌^◌, ◌<◌, ◌≡◌, refl, List, [], ◌∷◌, length, get_or}
use Rattle.std.proofs.Common.{sym, ◌∙◌, inl, arith, lit<, get_or-set_other, ap}
use Rattle.forms.specs.Entry.{units}
use Rattle.forms.specs.Terms.{counter_id, global_clock}
use Rattle.forms.specs.declared.terms.GlobalClock.{GlobalClock}
use Rattle.log_image.specs.State.{decode}
use Rattle.host.specs.Host.{current_of}
use Rattle.tablets.specs.Act.{acted, tried}
use Rattle.tablets.specs.Rounds.{Depot, Turn, after_rounds, after_turns, answer_at, nobody, tablet_of, turned, turns_from, turns_of}
use Rattle.tablets.specs.Tablet.{blank, for_proof, nonce_for}
use Rattle.tablets.specs.declared.tablet.Tablet.{Tablet}
use Rattle.assurance.proofs.Laws.BenchActs.{Still, current-kept}
use Rattle.assurance.specs.BenchList.{Confirms, Elsewhere, FleetFits, Open, Proper, set_up}
use Rattle.assurance.proofs.Laws.BenchConfirm.{confirm-claim}
use Rattle.assurance.proofs.Laws.BenchProof.{Begun, Knows, Stocked, begun-stocked, bench-claim, done-turn, knows-passes, run-passes, set-up-begun, stale-turn, turn-knows, turned-stocked, unaware-stale}
use Rattle.worked_lists.specs.Worked.HostListWitness.{blank as buffer, blank-long}

-- ---- tablets of box 7, which act in every round

abbrev tablet : ℕ → Tablet
tablet belief = blank (counter_id 7) 1 belief

proper : (belief : ℕ) → belief < 2 ^ 32 → Proper (tablet belief)
proper belief small = record { counter = λ none. omega (arith, none); id-fits = lit< tt; belief-fits = small }

-- one alone, and one beside another that believes the value of the start
abbrev pub alone : List Tablet
alone = tablet 50 ∷ []

abbrev pub pair : List Tablet
pair = tablet 50 ∷ tablet 100 ∷ []

pub alone-fits : FleetFits alone
alone-fits = record { few = omega arith; all-proper = all }
  where
    all : (k : ℕ) → k < 1 → Proper (get_or alone k nobody)
    all zero below = proper 50 (lit< tt)
    all (suc k) below = absurd (omega arith)

pair_fits : FleetFits pair
pair_fits = record { few = omega arith; all-proper = all }
  where
    all : (k : ℕ) → k < 2 → Proper (get_or pair k nobody)
    all zero below = proper 50 (lit< tt)
    all (suc zero) below = proper 100 (lit< tt)
    all (suc (suc k)) below = absurd (omega arith)

-- ---- their turns

abbrev pub turn : ℕ → ℕ → Turn
turn round number = record { round = round; number = number }

pub alone-turns : turns_of 0 2 alone ≡ turn 1 0 ∷ turn 2 0 ∷ []
unfolding turns_of turns_from
alone-turns = refl

pub pair_turns : turns_of 0 2 pair ≡ turn 1 0 ∷ turn 1 1 ∷ turn 2 0 ∷ turn 2 1 ∷ []
unfolding turns_of turns_from
pair_turns = refl

-- ---- the first turn

unfoldable pub depot : List Tablet → Depot
depot ts = set_up buffer (global_clock 100) ts

-- the first of the tablets believes 50
module _ (ts : List Tablet) (fleet : FleetFits ts) (some : 0 < length ts) (first : get_or ts 0 nobody ≡ tablet 50) where
  pub begun : Begun (global_clock 100) ts (depot ts)
  unfolding depot
  begun = set-up-begun buffer (global_clock 100) ts blank-long (lit< tt) fleet

  pub stocked : Stocked ts (depot ts)
  stocked = begun-stocked (global_clock 100) ts (depot ts) fleet begun

  tablets-there : (k : ℕ) → tablet_of (depot ts) k ≡ get_or ts k nobody
  tablets-there k = ap (λ (l : List Tablet). get_or l k nobody) begun.tablets

  -- every box has the value of the start
  current-there : (k : ℕ) → k < length ts → current_of (decode (depot ts).image) (tablet_of (depot ts) k).id ≡ 100
  current-there k below =
      let held = stocked.held k below in
      sym (current-kept (depot ts).image begun.kept (tablet_of (depot ts) k).id held) ∙ begun.at-start (tablet_of (depot ts) k).id held

  -- so that the first is answered 22
  first-stale : answer_at (depot ts) (turn 1 0) ≡ 22
  unfolding Knows
  first-stale =
      unaware-stale ts (depot ts) stocked (turn 1 0) some
      (λ knows.
      let believes : (tablet_of (depot ts) 0).belief ≡ 50 = ap (λ (t : Tablet). t.belief) (tablets-there 0 ∙ first) in
      let no : ⊥ = omega (arith, knows, current-there 0 some, believes) in no)

  first-still : Still (depot ts).image (turned (depot ts) (turn 1 0)).image
  first-still = stale-turn ts (depot ts) stocked (turn 1 0) some first-stale

  clock-then : (decode (turned (depot ts) (turn 1 0)).image).clock ≡ global_clock 100
  clock-then = first-still.clock ∙ begun.clock

  -- with room left
  open-then : Open (turned (depot ts) (turn 1 0))
  unfolding units
  open-then =
      record {
        space = λ full. omega (arith, full, first-still.room, ap units begun.empty);
        rises = λ last. omega (arith, last, ap (λ (g : GlobalClock). g.0) clock-then);
      }

-- ---- alone

pub alone-stale : answer_at (depot alone) (turn 1 0) ≡ 22
alone-stale = first-stale alone alone-fits (omega arith) refl

-- no other tablet acted between, and there is room: its next act succeeds
pub alone-passes : answer_at (turned (depot alone) (turn 1 0)) (turn 2 0) ≡ 0
unfolding depot after_turns Elsewhere
alone-passes =
    bench-claim buffer (global_clock 100) alone blank-long (lit< tt) alone-fits [] (turn 1 0) [] (turn 2 0) alone-stale refl (omega arith) tt
    (open-then alone alone-fits (omega arith) refl)

-- the two turns are those of a run of two rounds
pub alone-runs : after_rounds 0 2 (depot alone) ≡ turned (turned (depot alone) (turn 1 0)) (turn 2 0)
unfolding after_turns
alone-runs =
    run-passes (depot alone) 2 (turn 1 0 ∷ []) (turn 2 0) [] (ap (turns_of 0 2) (begun alone alone-fits (omega arith) refl).tablets ∙ alone-turns)

-- the desk accepts the proof that it asks for behind its 22, and the host takes the confirmation
pub alone-confirms : Confirms (tried 1 0 (depot alone).image (tablet_of (depot alone) 0)).image (nonce_for for_proof 1 0) (tablet_of (depot alone) 0).id
    (acted 1 0 (depot alone).image (tablet_of (depot alone) 0))
unfolding depot after_turns
alone-confirms = confirm-claim buffer (global_clock 100) alone blank-long (lit< tt) alone-fits [] (turn 1 0) (omega arith) (inl alone-stale)

-- ---- beside another tablet of its box

abbrev pub one : Depot
one = turned (depot pair) (turn 1 0)

abbrev pub two : Depot
two = turned one (turn 1 1)

pub pair-stale : answer_at (depot pair) (turn 1 0) ≡ 22
pair-stale = first-stale pair pair_fits (omega arith) refl

one-stocked : Stocked pair one
one-stocked = turned-stocked pair (depot pair) (stocked pair pair_fits (omega arith) refl) (turn 1 0)

two-stocked : Stocked pair two
two-stocked = turned-stocked pair one one-stocked (turn 1 1)

-- another number's tablet is as it was
untouched : (d : Depot) (x : Turn) (k : ℕ) → (k ≡ x.number → ⊥) → tablet_of (turned d x) k ≡ tablet_of d k
unfolding turned
untouched d x k other = get_or-set_other d.tablets x.number k _ nobody other

-- the box of both is 7
box : (d : Depot) → Stocked pair d → (k : ℕ) → k < 2 → (tablet_of d k).id ≡ counter_id 7
box d there zero below = there.ids zero
box d there (suc zero) below = there.ids 1
box d there (suc (suc k)) below = absurd (omega arith)

-- with 100
current-one : current_of (decode one.image) (counter_id 7) ≡ 100
current-one =
    let there = stocked pair pair_fits (omega arith) refl in
    let here : (tablet_of (depot pair) 0).id ≡ counter_id 7 = there.ids 0 in
    let still = (first-still pair pair_fits (omega arith) refl).current (tablet_of (depot pair) 0).id (there.held 0 (omega arith)) in
    ap (current_of (decode one.image)) (sym here) ∙ still ∙ current-there pair pair_fits (omega arith) refl 0 (omega arith)

-- the other one's raise is done
pub other-passes : answer_at one (turn 1 1) ≡ 0
unfolding Knows
other-passes =
    knows-passes pair one one-stocked (turn 1 1) (omega arith)
    (ap (λ (t : Tablet). t.belief) (untouched (depot pair) (turn 1 0) 1 (λ e. omega (arith, e)) ∙ tablets-there pair pair_fits (omega arith) refl 1)
    ∙ sym (ap (current_of (decode one.image)) (box one one-stocked 1 (omega arith)) ∙ current-one))
    (open-then pair pair_fits (omega arith) refl)

-- its box is at 101
current-two : current_of (decode two.image) (counter_id 7) ≡ 101
unfolding Knows
current-two =
    let knows : Knows two 1 = turn-knows pair one one-stocked (turn 1 1) (omega arith) in
    let clock = ap (λ (g : GlobalClock). g.0) (clock-then pair pair_fits (omega arith) refl) in
    ap (current_of (decode two.image)) (sym (box two two-stocked 1 (omega arith)))
    ∙ sym knows
    ∙ done-turn pair one one-stocked (turn 1 1) (omega arith) other-passes
    ∙ ap (λ (n : ℕ). n + 1) clock

-- it is no tablet of another box
pub not-elsewhere : Elsewhere pair 0 (turn 1 1 ∷ []) → ⊥
unfolding Elsewhere
not-elsewhere elsewhere = elsewhere.0 refl

-- so that the first, which adopted 100, is answered 22 again
pub again-stale : answer_at two (turn 2 0) ≡ 22
unfolding Knows
again-stale =
    unaware-stale pair two two-stocked (turn 2 0) (omega arith)
    (λ knows.
    let adopted : Knows one 0 = turn-knows pair (depot pair) (stocked pair pair_fits (omega arith) refl) (turn 1 0) (omega arith) in
    let believed : (tablet_of two 0).belief ≡ 100 =
    ap (λ (t : Tablet). t.belief) (untouched one (turn 1 1) 0 (λ e. omega (arith, e)))
    ∙ adopted
    ∙ ap (current_of (decode one.image)) (box one one-stocked 0 (omega arith))
    ∙ current-one in
    let now = knows ∙ ap (current_of (decode two.image)) (box two two-stocked 0 (omega arith)) ∙ current-two in
    let no : ⊥ = omega (arith, believed, now) in no)
