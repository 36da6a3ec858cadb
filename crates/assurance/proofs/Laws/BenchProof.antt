-- The bench's claim of BenchList.antt, proved from one act to the next: in a depot as it was set up every tablet's box is held, and stays so through
-- all turns; a tablet that acted believes its box's current value, until another tablet of the box acts. Assumes nothing.
use Rattle.std.specs.Prelude.{◌≡◌, Bool, true, cond, ◌||◌, eqb, ltb, length, drop, get_or, set, ℕ, zero, suc, ◌+◌, ◌-◌, ◌^◌, ◌≤◌, ◌<◌, refl, false, List, [], ◌∷◌, ◌++◌}
use Rattle.std.proofs.Common.{◌∙◌, arith, lit<, length-append, get_or-set_other, get_or-set_same, sym, ap, subst, append_assoc, append-nil, length-set, eq-eqb, ne_eqb, le-ltb}
use Rattle.std.proofs.Math.Bool.{or-true}
use Rattle.std.proofs.lemmas.Bool.{false≢true}
use mathlib.Core.List.{foldl, foldl-append}
use Rattle.std.proofs.Math.Nat.{sub-zero}
use Rattle.forms.specs.Chain.{own_entries}
use Rattle.forms.specs.Entry.{Entry}
use Rattle.forms.specs.Limits.{image_len, max_counters}
use Rattle.forms.specs.Record.{taken}
use Rattle.forms.specs.Terms.{same_id}
use Rattle.forms.specs.declared.confirmation.Confirmation.{Confirmation}
use Rattle.forms.specs.declared.terms.CounterId.{CounterId}
use Rattle.forms.specs.declared.terms.GlobalClock.{GlobalClock}
use Rattle.log_image.specs.Laws.ImageRoundTrip.{decode-encode}
use Rattle.log_image.specs.Sound.{after, base, holds, record_of}
use Rattle.log_image.specs.State.{Record, State, decode, encode}
use Rattle.log_store.proofs.Laws.EachRecordLaws.{holds-snoc}
use Rattle.log_store.specs.Effect.{opened}
use Rattle.log_store.proofs.Laws.RecordOfLaws.{record-before, record-behind}
use Rattle.host.specs.Host.{Settled, current_of, open_call, open_refusal}
use Rattle.host.proofs.Laws.SettledLaws.{settled-done, settled-refused}
use Rattle.console.specs.Step.{yes}
use Rattle.tablets.specs.Act.{Acted, acted}
use Rattle.tablets.specs.Rounds.{Depot, Turn, after_turns, answer_at, nobody, tablet_of, turned, turns_of}
use Rattle.tablets.specs.Tablet.{max_tablets}
use Rattle.tablets.specs.declared.tablet.Tablet.{Tablet}
use Rattle.bench.specs.Bench.{placed, started}
use Rattle.assurance.proofs.Laws.BenchActs.{Acts, Still, act, answer-judged, done-believes, request_by, stale-still}
use Rattle.assurance.specs.BenchList.{ActClaim, BenchClaim, Elsewhere, FleetFits, Open, Proper, RunPasses, set_up}
use Rattle.assurance.proofs.Laws.BenchRaise.{Judged, judged-open, judged-stale}
use Rattle.assurance.proofs.Laws.HostSteps.{Kept, open-steady, start-says, start-steps, steady_kept}

-- ---- tablets by their numbers

-- what holds of every tablet and of none
each_number : (P : Tablet → Type 0) (ts : List Tablet) → ((k : ℕ) → k < length ts → P (get_or ts k nobody)) → P nobody → (k : ℕ) → P (get_or ts k nobody)
each_number P [] all none k = none
each_number P (t ∷ ts) all none zero = all zero (omega arith)
each_number P (t ∷ ts) all none (suc k) = each_number P ts (λ j below. all (suc j) (omega arith)) none k

-- of every tablet, and of one more behind them
pub each_snoc : (P : Tablet → Type 0) (ts : List Tablet) (t : Tablet) → ((k : ℕ) → k < length ts → P (get_or ts k nobody)) → P t
    → (k : ℕ) → k < length (ts ++ (t ∷ [])) → P (get_or (ts ++ (t ∷ [])) k nobody)
each_snoc P [] t all last zero below = last
each_snoc P [] t all last (suc k) below = absurd (omega arith)
each_snoc P (x ∷ ts) t all last zero below = all zero (omega arith)
each_snoc P (x ∷ ts) t all last (suc k) below = each_snoc P ts t (λ j less. all (suc j) (omega arith)) last k (omega arith)

-- of a number's tablet, where one of them was put in another's place
put-at : (P : Tablet → Type 0) (ts : List Tablet) (i k : ℕ) (t : Tablet) → P (get_or ts k nobody) → (k ≡ i → P t) → P (get_or (set ts i t) k nobody)
put-at P [] i k t old new = old
put-at P (x ∷ ts) zero zero t old new = new refl
put-at P (x ∷ ts) zero (suc k) t old new = old
put-at P (x ∷ ts) (suc i) zero t old new = old
put-at P (x ∷ ts) (suc i) (suc k) t old new = put-at P ts i k t old (λ same. new (ap suc same))

-- ---- through turns

-- a depot whose tablets are those of a list, but for what they believe and count, with every box held
pub record Stocked (ts : List Tablet) (d : Depot) : Type 0 where
  pub kept : Kept d.image
  pub many : length d.tablets ≡ length ts
  pub ids : (k : ℕ) → (tablet_of d k).id ≡ (get_or ts k nobody).id
  pub id-fits : (k : ℕ) → (tablet_of d k).id.0 < 2 ^ 32
  pub belief-fits : (k : ℕ) → (tablet_of d k).belief < 2 ^ 32
  pub held : (k : ℕ) → k < length ts → holds (decode d.image).records (tablet_of d k).id ≡ true

-- a tablet believes the current value of its box
unfoldable pub Knows : Depot → ℕ → Type 0
Knows d k = (tablet_of d k).belief ≡ current_of (decode d.image) (tablet_of d k).id

module _ (ts : List Tablet) (d : Depot) (stocked : Stocked ts d) (x : Turn) where
  abbrev actor : Tablet
  actor = tablet_of d x.number

  abbrev done : Acted
  done = acted x.round x.number d.image actor

  acts : Acts d.image actor done
  acts = act d.image stocked.kept x.round x.number actor (stocked.id-fits x.number) (stocked.belief-fits x.number)

  turned-id : (k : ℕ) → (tablet_of (turned d x) k).id ≡ (tablet_of d k).id
  unfolding turned
  turned-id k =
      put-at (λ t. t.id ≡ (tablet_of d k).id) d.tablets x.number k done.tablet refl
      (λ same. acts.id ∙ ap (λ (j : ℕ). (tablet_of d j).id) (sym same))

  pub turned-stocked : Stocked ts (turned d x)
  unfolding turned
  turned-stocked =
      record {
        kept = acts.kept;
        many = length-set d.tablets x.number done.tablet ∙ stocked.many;
        ids = λ k. turned-id k ∙ stocked.ids k;
        id-fits = λ k. subst (λ (id : CounterId). id.0 < 2 ^ 32) (sym (turned-id k)) (stocked.id-fits k);
        belief-fits = λ k.
            put-at (λ t. t.belief < 2 ^ 32) d.tablets x.number k done.tablet (stocked.belief-fits k) (λ same. acts.belief-fits);
        held = λ k below. ap (holds (decode done.image).records) (turned-id k) ∙ acts.holding (tablet_of d k).id ∙ stocked.held k below;
      }

  -- whatever it was answered, the tablet believes the current value
  pub turn-knows : x.number < length ts → Knows (turned d x) x.number
  unfolding turned Knows
  turn-knows below =
      subst (λ (t : Tablet). t.belief ≡ current_of (decode done.image) t.id)
      (sym (get_or-set_same d.tablets x.number done.tablet nobody (omega (arith, below, stocked.many))))
      (acts.believes (stocked.held x.number below) ∙ ap (current_of (decode done.image)) (sym acts.id))

  -- and so does every tablet of another box that did
  pub others-know : (k : ℕ) → k < length ts → ((get_or ts x.number nobody).id.0 ≡ (get_or ts k nobody).id.0 → ⊥) → Knows d k → Knows (turned d x) k
  unfolding turned Knows
  others-know k below apart knows =
      let away : same_id actor.id (tablet_of d k).id ≡ false =
      ne_eqb actor.id.0 (tablet_of d k).id.0
      (λ same. apart (ap (λ (id : CounterId). id.0) (sym (stocked.ids x.number)) ∙ same ∙ ap (λ (id : CounterId). id.0) (stocked.ids k))) in
      subst (λ (t : Tablet). t.belief ≡ current_of (decode done.image) t.id)
      (sym (get_or-set_other d.tablets x.number k done.tablet nobody (λ same. apart (ap (λ (j : ℕ). (get_or ts j nobody).id.0) (sym same)))))
      (knows ∙ sym (acts.others (tablet_of d k).id away (stocked.held k below)))

  -- how its raise is answered
  answers : Judged (decode d.image) (request_by x.round x.number actor) (answer_at d x)
  answers = answer-judged d.image stocked.kept x.round x.number actor (stocked.id-fits x.number) (stocked.belief-fits x.number)

  -- 0 where it believes the current value, and log and clock leave room
  pub knows-passes : x.number < length ts → Knows d x.number → Open d → answer_at d x ≡ 0
  unfolding Knows
  knows-passes below knows room = judged-open answers (stocked.held x.number below) knows room.space room.rises

  -- and 22 where it believes another
  pub unaware-stale : x.number < length ts → (Knows d x.number → ⊥) → answer_at d x ≡ 22
  unfolding Knows
  unaware-stale below unaware = judged-stale answers (stocked.held x.number below) unaware

  -- a turn that is answered 22 leaves clock and values, and a log that is no longer
  pub stale-turn : x.number < length ts → answer_at d x ≡ 22 → Still d.image (turned d x).image
  unfolding turned
  stale-turn below stale =
      stale-still d.image stocked.kept x.round x.number actor (stocked.id-fits x.number) (stocked.belief-fits x.number)
      (stocked.held x.number below) stale

  -- one that is answered 0 makes the new clock the belief
  pub done-turn : x.number < length ts → answer_at d x ≡ 0 → (tablet_of (turned d x) x.number).belief ≡ (decode d.image).clock.0 + 1
  unfolding turned
  done-turn below passes =
      ap (λ (t : Tablet). t.belief) (get_or-set_same d.tablets x.number done.tablet nobody (omega (arith, below, stocked.many)))
      ∙ done-believes d.image stocked.kept x.round x.number actor (stocked.id-fits x.number) (stocked.belief-fits x.number) passes

-- all turns of a list
pub turns-stocked : (ts : List Tablet) (d : Depot) (xs : List Turn) → Stocked ts d → Stocked ts (after_turns d xs)
unfolding after_turns
turns-stocked ts d [] stocked = stocked
turns-stocked ts d (x ∷ xs) stocked = turns-stocked ts (turned d x) xs (turned-stocked ts d stocked x)

turns-know : (ts : List Tablet) (d : Depot) (k : ℕ) (xs : List Turn) → Stocked ts d → k < length ts → Elsewhere ts k xs → Knows d k
    → Knows (after_turns d xs) k
unfolding after_turns Elsewhere
turns-know ts d k [] stocked below elsewhere knows = knows
turns-know ts d k (x ∷ xs) stocked below elsewhere knows =
    turns-know ts (turned d x) k xs (turned-stocked ts d stocked x) below elsewhere.1 (others-know ts d stocked x k below elsewhere.0 knows)

-- ---- the depot as it is set up

-- the tablets placed so far: their boxes are held, all at the start clock, and there is no entry
pub record Begun (start : GlobalClock) (ts : List Tablet) (d : Depot) : Type 0 where
  pub kept : Kept d.image
  pub tablets : d.tablets ≡ ts
  pub clock : (decode d.image).clock ≡ start
  pub empty : (decode d.image).log ≡ []
  pub few : length (decode d.image).records ≤ length ts
  pub all_held : (k : ℕ) → k < length ts → holds (decode d.image).records (get_or ts k nobody).id ≡ true
  pub at-start : (id : CounterId) → holds (decode d.image).records id ≡ true → (record_of (decode d.image).records id).current ≡ start.0

started-begun : (buffer : List ℕ) (clock : GlobalClock) → length buffer ≡ image_len → clock.0 < 2 ^ 32 → Begun clock [] (started buffer clock)
unfolding holds
started-begun buffer clock long small =
    let says = start-says buffer clock long small in
    record {
      kept = (start-steps buffer clock long small).kept;
      tablets = refl;
      clock = ap (λ (st : State). st.clock) says;
      empty = ap (λ (st : State). st.log) says;
      few = subst (λ (st : State). length st.records ≤ 0) (sym says) (omega arith);
      all_held = λ k below. absurd (omega arith);
      at-start = λ id held. absurd (false≢true (sym (ap (λ (st : State). holds st.records id) says) ∙ held));
    }

module _ (clock : GlobalClock) (small : clock.0 < 2 ^ 32) (ts : List Tablet) (d : Depot) (begun : Begun clock ts d) (t : Tablet) (proper : Proper t)
    (room : length ts < max_tablets) where
  abbrev st : State
  st = decode d.image

  -- "value = reading = start clock"
  abbrev opening : Confirmation
  opening = record { id = t.id; value = clock.0; reading = clock }

  none_named : (log : List Entry) → log ≡ [] → own_entries t.id (after (base st) clock log) ≡ 0
  unfolding after own_entries
  none_named log none = ap (λ (l : List Entry). own_entries t.id (after (base st) clock l)) none ∙ go (clock.0 - base st)
    where
      go : (n : ℕ) → own_entries t.id (drop n []) ≡ 0
      go zero = refl
      go (suc n) = refl

  -- a box that is held is not opened again, and every other is opened
  open-answers : open_refusal st opening yes ≡ cond (holds st.records t.id) 18 0
  open-answers =
      let now : st.clock.0 ≡ clock.0 = ap (λ (g : GlobalClock). g.0) begun.clock in
      let named : eqb t.id.0 0 ≡ false = ne_eqb t.id.0 0 proper.counter in
      let low : ltb clock.0 clock.0 ≡ false = le-ltb clock.0 clock.0 (omega arith) in
      let few : eqb (length st.records) max_counters ≡ false =
      ne_eqb (length st.records) max_counters (λ e. let no : ⊥ = omega (arith, e, begun.few, room) in no) in
      let recent : ltb clock.0 (st.clock.0 - length st.log) ≡ false =
      le-ltb clock.0 (st.clock.0 - length st.log) (omega (arith, now)) in
      let past : ltb st.clock.0 clock.0 ≡ false = le-ltb st.clock.0 clock.0 (omega (arith, now)) in
      let equal : eqb clock.0 clock.0 ≡ true = eq-eqb clock.0 clock.0 refl in
      let none : eqb (own_entries t.id (after (base st) clock st.log)) 0 ≡ true = eq-eqb _ 0 (none_named st.log begun.empty) in
      simp (named, low, few, recent, past, equal, none)

  placed-tablets : d.tablets ++ (t ∷ []) ≡ ts ++ (t ∷ [])
  placed-tablets = ap (λ (l : List Tablet). l ++ (t ∷ [])) begun.tablets

  more : length ts + 1 ≡ length (ts ++ (t ∷ []))
  more = sym (length-append ts (t ∷ []))

  pub placed-begun : Begun clock (ts ++ (t ∷ [])) (placed clock d t)
  unfolding placed
  placed-begun = go (holds st.records t.id) refl
    where
      after_open : List ℕ → Depot
      after_open image = record { tablets = d.tablets ++ (t ∷ []); image = image }

      was-held : holds st.records t.id ≡ true → Begun clock (ts ++ (t ∷ [])) (after_open d.image)
      was-held is =
          record {
            kept = begun.kept;
            tablets = placed-tablets;
            clock = begun.clock;
            empty = begun.empty;
            few = omega (arith, begun.few, more);
            all_held = each_snoc (λ x. holds st.records x.id ≡ true) ts t begun.all_held is;
            at-start = begun.at-start;
          }

      next : State
      next = opened st opening

      now-held : Kept (encode next) → decode (encode next) ≡ next → Begun clock (ts ++ (t ∷ [])) (after_open (encode next))
      now-held kept says =
          let new : (id : CounterId) → holds (decode (encode next)).records id ≡ (holds st.records id || same_id t.id id) =
          λ id. ap (λ (x : State). holds x.records id) says ∙ holds-snoc st.records (taken opening) id in
          record {
            kept = kept;
            tablets = placed-tablets;
            clock = ap (λ (x : State). x.clock) says ∙ begun.clock;
            empty = ap (λ (x : State). x.log) says ∙ begun.empty;
            few = omega (arith, begun.few, more, ap (λ (x : State). length x.records) says, length-append st.records (taken opening ∷ []));
            all_held = each_snoc (λ x. holds (decode (encode next)).records x.id ≡ true) ts t
                (λ k below. new (get_or ts k nobody).id ∙ ap (λ (b : Bool). b || same_id t.id (get_or ts k nobody).id) (begun.all_held k below))
                (new t.id
                ∙ ap (λ (b : Bool). holds st.records t.id || b) (eq-eqb t.id.0 t.id.0 refl)
                ∙ or-true (holds st.records t.id));
            at-start = λ id held.
                ap (λ (x : State). (record_of x.records id).current) says
                ∙ at id (holds st.records id) refl (sym (new id) ∙ held);
          }
        where
          at : (id : CounterId) (b : Bool) → holds st.records id ≡ b → (holds st.records id || same_id t.id id) ≡ true
              → (record_of next.records id).current ≡ clock.0
          at id true is either = ap (λ (r : Record). r.current) (record-before st.records (taken opening) id is) ∙ begun.at-start id is
          at id false is either =
              ap (λ (r : Record). r.current)
              (record-behind st.records (taken opening) id is (sym (ap (λ (b : Bool). b || same_id t.id id) is) ∙ either))

      go : (b : Bool) → holds st.records t.id ≡ b → Begun clock (ts ++ (t ∷ [])) (after_open (open_call d.image opening yes).image)
      go true is =
          let number = open-answers ∙ ap (λ (b : Bool). cond {A = ℕ} b 18 0) is in
          subst (λ (r : Settled). Begun clock (ts ++ (t ∷ [])) (after_open r.image))
          (sym (settled-refused d.image (open_refusal st opening yes) (length st.records + 1) next begun.kept.is-sound
          (λ none. let no : ⊥ = omega (arith, number, none) in no)))
          (was-held is)
      go false is =
          let number = open-answers ∙ ap (λ (b : Bool). cond {A = ℕ} b 18 0) is in
          let steady = open-steady d.image begun.kept opening yes (record { id = proper.id-fits; value = small; reading = small }) number in
          subst (λ (r : Settled). Begun clock (ts ++ (t ∷ [])) (after_open r.image))
          (sym (settled-done d.image (open_refusal st opening yes) (length st.records + 1) next begun.kept.is-sound number))
          (now-held (steady_kept next steady) (decode-encode next steady.1))

-- one tablet after the other
all-begun : (clock : GlobalClock) → clock.0 < 2 ^ 32 → (before ts : List Tablet) (d : Depot) → Begun clock before d
    → length before + length ts ≤ max_tablets → ((k : ℕ) → k < length ts → Proper (get_or ts k nobody))
    → Begun clock (before ++ ts) (foldl (placed clock) d ts)
all-begun clock small before [] d begun few proper = subst (λ (l : List Tablet). Begun clock l d) (sym (append-nil before)) begun
all-begun clock small before (t ∷ ts) d begun few proper =
    subst (λ (l : List Tablet). Begun clock l (foldl (placed clock) d (t ∷ ts))) (append_assoc before (t ∷ []) ts)
    (all-begun clock small (before ++ (t ∷ [])) ts (placed clock d t)
    (placed-begun clock small before d begun t (proper zero (omega arith)) (omega arith))
    (omega (arith, length-append before (t ∷ []))) (λ k below. proper (suc k) (omega arith)))

pub set-up-begun : (buffer : List ℕ) (clock : GlobalClock) (ts : List Tablet) → length buffer ≡ image_len → clock.0 < 2 ^ 32 → FleetFits ts
    → Begun clock ts (set_up buffer clock ts)
set-up-begun buffer clock ts long small fleet =
    all-begun clock small [] ts (started buffer clock) (started-begun buffer clock long small) (omega (arith, fleet.few)) fleet.all-proper

-- the depot is ready for turns
pub begun-stocked : (clock : GlobalClock) (ts : List Tablet) (d : Depot) → FleetFits ts → Begun clock ts d → Stocked ts d
begun-stocked clock ts d fleet begun =
    let same : (k : ℕ) → get_or ts k nobody ≡ tablet_of d k = λ k. ap (λ (l : List Tablet). get_or l k nobody) (sym begun.tablets) in
    record {
      kept = begun.kept;
      many = ap length begun.tablets;
      ids = λ k. ap (λ (t : Tablet). t.id) (sym (same k));
      id-fits = λ k.
          subst (λ (t : Tablet). t.id.0 < 2 ^ 32) (same k)
          (each_number (λ t. t.id.0 < 2 ^ 32) ts (λ j below. (fleet.all-proper j below).id-fits) (lit< tt) k);
      belief-fits = λ k.
          subst (λ (t : Tablet). t.belief < 2 ^ 32) (same k)
          (each_number (λ t. t.belief < 2 ^ 32) ts (λ j below. (fleet.all-proper j below).belief-fits) (lit< tt) k);
      held = λ k below. subst (λ (t : Tablet). holds (decode d.image).records t.id ≡ true) (same k) (begun.all_held k below);
    }

-- ---- the claim

-- turns in two parts
turns-append : (d : Depot) (before : List Turn) (x : Turn) (later : List Turn)
    → after_turns d (before ++ (x ∷ later)) ≡ after_turns (turned (after_turns d before) x) later
unfolding after_turns
turns-append d before x later = foldl-append turned d before (x ∷ later)

pub act-claim : ActClaim
act-claim buffer clock ts long small fleet before first between next same below elsewhere =
    let d = set_up buffer clock ts in
    let start : Stocked ts d = begun-stocked clock ts d fleet (set-up-begun buffer clock ts long small fleet) in
    let here = after_turns d before in
    let ready : Stocked ts here = turns-stocked ts d before start in
    let acted-there = turned-stocked ts here ready first in
    let knows : Knows (turned here first) next.number =
    subst (Knows (turned here first)) same (turn-knows ts here ready first (subst (λ (n : ℕ). n < length ts) (sym same) below)) in
    subst (λ (x : Depot). Open x → answer_at x next ≡ 0) (sym (turns-append d before first between))
    (knows-passes ts (after_turns (turned here first) between) (turns-stocked ts (turned here first) between acted-there) next below
    (turns-know ts (turned here first) next.number between acted-there below elsewhere knows))

-- that it was answered 22 is not needed
pub bench-claim : BenchClaim
bench-claim buffer clock ts long small fleet before first between next stale = act-claim buffer clock ts long small fleet before first between next

pub run-passes : RunPasses
run-passes d rounds before next later e =
    ap (λ (n : ℕ). after_turns d (turns_of 0 n d.tablets)) (sub-zero rounds) ∙ ap (after_turns d) e ∙ turns-append d before next later
