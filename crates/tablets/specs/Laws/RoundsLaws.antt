-- Turns and rounds: a turn keeps every tablet's period, so that the turns of a run are known before it begins; a run goes on round by round, and
-- rounds in which nobody acts are passed over. Assumes nothing.
use Rattle.std.specs.Prelude.{◌≡◌, refl, Bool, true, false, cond, ℕ, zero, suc, ◌+◌, ◌-◌, ◌≤◌, ◌<◌, eqb, ltb, length, get_or, set, drop, List, []}
use Rattle.std.specs.Prelude.{◌∷◌, ◌++◌, map}
use Rattle.std.proofs.Common.{sym, ap, ap₂, ◌∙◌, add-one, arith, ltb-true, ltb-false, drop_of_length-le, drop-cons, drop-set-lt, get_or-take}
use mathlib.Core.List.{foldl-append}
use Rattle.std.proofs.Math.Seq.{map-set_same, take-set-lt}
use Rattle.host.specs.declared.answer.Figures.{Figures}
use Rattle.tablets.specs.Act.{Acted, acted, following}
use Rattle.tablets.specs.Laws.Idle.{never, next_round}
use Rattle.tablets.specs.Laws.IdleLaws.{next-later, round-idle}
use Rattle.tablets.specs.Rounds.{Depot, Fleet, Turn, after_rounds, after_turns, depot_of, divides, nobody, tablet_of, tablets_of, turned, turns_from}
use Rattle.tablets.specs.Rounds.{turns_of}
use Rattle.tablets.specs.Tablet.{Tablet}

-- ---- periods stay

cond-period : (b : Bool) (x y : Acted) (p : ℕ) → x.tablet.period ≡ p → y.tablet.period ≡ p → (cond b x y).tablet.period ≡ p
cond-period true x y p e f = e
cond-period false x y p e f = f

period-following : (answer : Figures) (round number : ℕ) (s : List ℕ) (t : Tablet) → (following answer round number s t).tablet.period ≡ t.period
unfolding following
period-following answer round number s t =
    cond-period (eqb answer.number 0) _ _ _ refl
    (cond-period (eqb answer.number 22) _ _ _ refl (cond-period (eqb answer.number 24) _ _ _ refl refl))

period-acted : (round number : ℕ) (s : List ℕ) (t : Tablet) → (acted round number s t).tablet.period ≡ t.period
unfolding acted
period-acted round number s t = period-following _ round number _ t

abbrev pub periods : List Tablet → List ℕ
periods ts = map (λ (t : Tablet). t.period) ts

periods-turned : (d : Depot) (x : Turn) → periods (turned d x).tablets ≡ periods d.tablets
unfolding turned
periods-turned d x =
    map-set_same (λ (t : Tablet). t.period) d.tablets x.number _ nobody
    (period-acted x.round x.number d.image (tablet_of d x.number))

periods-after : (turns : List Turn) (d : Depot) → periods (after_turns d turns).tablets ≡ periods d.tablets
unfolding after_turns
periods-after [] d = refl
periods-after (x ∷ turns) d = periods-after turns (turned d x) ∙ periods-turned d x

-- turns are those of the periods
turns-periods : (round number : ℕ) (ts us : List Tablet) → periods ts ≡ periods us → turns_from round number ts ≡ turns_from round number us
unfolding turns_from
turns-periods round number [] [] e = refl
turns-periods round number [] (u ∷ us) e = let z : ◌≡◌ {A = ℕ} 0 1 = cc in absurd (omega arith)
turns-periods round number (t ∷ ts) [] e = let z : ◌≡◌ {A = ℕ} 0 1 = cc in absurd (omega arith)
turns-periods round number (t ∷ ts) (u ∷ us) e =
    let first : t.period ≡ u.period = cc in
    let others : periods ts ≡ periods us = cc in
    ap₂ (λ (p : ℕ) (rest : List Turn). cond (divides p round) (record { round = round; number = number } ∷ rest) rest) first
    (turns-periods round (suc number) ts us others)

rounds-periods : (n done : ℕ) (ts us : List Tablet) → periods ts ≡ periods us → turns_of done n ts ≡ turns_of done n us
unfolding turns_of
rounds-periods zero done ts us e = refl
rounds-periods (suc n) done ts us e = ap₂ ◌++◌ (turns-periods (suc done) 0 ts us e) (rounds-periods n (suc done) ts us e)

-- ---- a run goes on

-- the first of the rounds that are left, and the others
rounds-next : (done rounds : ℕ) (ts : List Tablet) → done < rounds
    → turns_of done (rounds - done) ts ≡ turns_from (suc done) 0 ts ++ turns_of (suc done) (rounds - suc done) ts
unfolding turns_of
rounds-next done rounds ts h = let left : rounds - done ≡ suc (rounds - suc done) = omega arith in ap (λ (n : ℕ). turns_of done n ts) left

rounds-over : (done rounds : ℕ) (ts : List Tablet) → rounds ≤ done → turns_of done (rounds - done) ts ≡ []
unfolding turns_of
rounds-over done rounds ts h = let none : rounds - done ≡ 0 = omega arith in ap (λ (n : ℕ). turns_of done n ts) none

-- a round in which nobody acts may count as done
round-passed : (done rounds : ℕ) (ts : List Tablet) → turns_from (suc done) 0 ts ≡ []
    → turns_of done (rounds - done) ts ≡ turns_of (suc done) (rounds - suc done) ts
round-passed done rounds ts idle = either (ltb done rounds) refl
  where
    either : (b : Bool) → ltb done rounds ≡ b → turns_of done (rounds - done) ts ≡ turns_of (suc done) (rounds - suc done) ts
    either true e =
        rounds-next done rounds ts (ltb-true done rounds e) ∙ ap (λ (l : List Turn). l ++ turns_of (suc done) (rounds - suc done) ts) idle
    either false e =
        let h : rounds ≤ done = ltb-false done rounds e in
        rounds-over done rounds ts h ∙ sym (rounds-over (suc done) rounds ts (omega arith))

rounds-passed : (k done rounds : ℕ) (ts : List Tablet) → done + k < next_round ts done
    → turns_of done (rounds - done) ts ≡ turns_of (done + k) (rounds - (done + k)) ts
rounds-passed zero done rounds ts h = let same : done ≡ done + 0 = omega arith in ap (λ (n : ℕ). turns_of n (rounds - n) ts) same
rounds-passed (suc k) done rounds ts h =
    let next : suc (done + k) ≡ done + suc k = omega arith in
    rounds-passed k done rounds ts (omega arith)
    ∙ round-passed (done + k) rounds ts (round-idle ts done (suc (done + k)) 0 (omega arith) (omega arith))
    ∙ ap (λ (n : ℕ). turns_of n (rounds - n) ts) next

-- all rounds before the next one with an act may
pub passed_over : (d : Depot) (done rounds : ℕ) → done < never → after_rounds done rounds d ≡ after_rounds (next_round d.tablets done - 1) rounds d
passed_over d done rounds h =
    let next = next_round d.tablets done in
    let later : done < next = next-later d.tablets done h in
    let upto : done + (next - 1 - done) ≡ next - 1 = omega arith in
    ap (after_turns d)
    (rounds-passed (next - 1 - done) done rounds d.tablets (omega arith) ∙ ap (λ (n : ℕ). turns_of n (rounds - n) d.tablets) upto)

-- once a round is taken, the run goes on behind it
pub round-taken : (d e : Depot) (round rounds : ℕ) → 0 < round → round ≤ rounds → e ≡ after_turns d (turns_from round 0 d.tablets)
    → after_rounds (round - 1) rounds d ≡ after_rounds round rounds e
unfolding after_turns
round-taken d e round rounds some within taken =
    let ts = d.tablets in
    let this : suc (round - 1) ≡ round = omega arith in
    let kept : periods ts ≡ periods e.tablets = sym (ap (λ (x : Depot). periods x.tablets) taken ∙ periods-after (turns_from round 0 ts) d) in
    ap (after_turns d)
    (rounds-next (round - 1) rounds ts (omega arith) ∙ ap (λ (n : ℕ). turns_from n 0 ts ++ turns_of n (rounds - n) ts) this)
    ∙ foldl-append turned d (turns_from round 0 ts) (turns_of round (rounds - round) ts)
    ∙ ap₂ after_turns (sym taken) (rounds-periods (rounds - round) round ts e.tablets kept)

-- and past the last round it has ended
pub run-over : (d : Depot) (done rounds : ℕ) → rounds ≤ done → after_rounds done rounds d ≡ d
unfolding after_turns
run-over d done rounds h = ap (after_turns d) (rounds-over done rounds d.tablets h)

-- ---- a round goes on

-- of the tablets from a number on: the first of them, and the others
turns-from : (ts : List Tablet) (round i : ℕ) → i < length ts
    → let rest = turns_from round (i + 1) (drop (i + 1) ts) in
    turns_from round i (drop i ts) ≡ cond (divides (get_or ts i nobody).period round) (record { round = round; number = i } ∷ rest) rest
unfolding turns_from
turns-from ts round i h =
    let first = divides (get_or ts i nobody).period round in
    ap (turns_from round i) (drop-cons ts i nobody h)
    ∙ ap (λ (n : ℕ). cond first (record { round = round; number = i } ∷ turns_from round n (drop n ts)) (turns_from round n (drop n ts)))
    (sym (add-one i))

-- it is not the tablet's turn
pub turn-missed : (d : Depot) (round i : ℕ) → i < length d.tablets → divides (tablet_of d i).period round ≡ false
    → after_turns d (turns_from round i (drop i d.tablets)) ≡ after_turns d (turns_from round (i + 1) (drop (i + 1) d.tablets))
turn-missed d round i h idle =
    let rest = turns_from round (i + 1) (drop (i + 1) d.tablets) in
    ap (after_turns d) (turns-from d.tablets round i h ∙ ap (λ (b : Bool). cond b (record { round = round; number = i } ∷ rest) rest) idle)

-- it is, and the others see what it left
pub turn-taken : (d e : Depot) (round i : ℕ) → i < length d.tablets → divides (tablet_of d i).period round ≡ true
    → e ≡ turned d (record { round = round; number = i })
    → after_turns d (turns_from round i (drop i d.tablets)) ≡ after_turns e (turns_from round (i + 1) (drop (i + 1) e.tablets))
unfolding after_turns turned
turn-taken d e round i h due taken =
    let ts = d.tablets in
    let rest = turns_from round (i + 1) (drop (i + 1) ts) in
    let behind : drop (i + 1) ts ≡ drop (i + 1) e.tablets =
    sym (ap (λ (x : Depot). drop (i + 1) x.tablets) taken ∙ drop-set-lt (i + 1) ts i _ (omega arith)) in
    ap (after_turns d) (turns-from ts round i h ∙ ap (λ (b : Bool). cond b (record { round = round; number = i } ∷ rest) rest) due)
    ∙ ap₂ (λ (x : Depot) (us : List Tablet). after_turns x (turns_from round (i + 1) us)) (sym taken) behind

pub round-over : (d : Depot) (round i : ℕ) → length d.tablets ≤ i → after_turns d (turns_from round i (drop i d.tablets)) ≡ d
unfolding after_turns turns_from
round-over d round i h = ap (λ (ts : List Tablet). after_turns d (turns_from round i ts)) (drop_of_length-le d.tablets h)

-- a fleet in which a tablet has acted
pub fleet-turned : (fleet : Fleet) (s u : List ℕ) (t : Tablet) (round i : ℕ) → i < fleet.count
    → t ≡ (acted round i s (get_or fleet.tablets i nobody)).tablet → u ≡ (acted round i s (get_or fleet.tablets i nobody)).image
    → depot_of (record { tablets = set fleet.tablets i t; count = fleet.count }) u
    ≡ turned (depot_of fleet s) (record { round = round; number = i })
unfolding turned
fleet-turned fleet s u t round i h e f =
    let same : get_or fleet.tablets i nobody ≡ get_or (tablets_of fleet) i nobody = sym (get_or-take fleet.count fleet.tablets i nobody h) in
    ap₂ (λ (ts : List Tablet) (x : List ℕ). record { tablets = ts; image = x }) (take-set-lt fleet.count fleet.tablets i t h)
    (f ∙ ap (λ (x : Tablet). (acted round i s x).image) same)
    ∙ ap (λ (x : Tablet). record { tablets = set (tablets_of fleet) i x; image = (acted round i s (get_or (tablets_of fleet) i nobody)).image })
    (e ∙ ap (λ (x : Tablet). (acted round i s x).tablet) same)
