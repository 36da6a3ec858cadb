-- A tablet's figures of a run are how often it was answered so: none of them reaches its ceiling, since a tablet has at most one turn in a round.
-- Assumes nothing.
use Rattle.std.specs.Prelude.{◌≡◌, Bool, true, false, cond, ◌&&◌, length, get_or, set, ℕ, zero, suc, ◌+◌, ◌-◌, ◌≤◌, ◌<◌, min, refl, List, [], ◌∷◌}
use Rattle.std.specs.Prelude.{◌++◌, eqb}
use Rattle.std.proofs.Common.{sym, ap, ◌∙◌, true≢false, get_or-set_other, get_or-set_same, eqb-true, ne_eqb, arith}
use Rattle.std.proofs.lemmas.Bool.{eqb-false}
use Rattle.forms.specs.Limits.{max_word}
use Rattle.tablets.specs.Act.{Acted, Renewed, acted, following, renewed, tried}
use Rattle.tablets.specs.Rounds.{Depot, Turn, after_rounds, after_turns, answer_at, divides, nobody, tablet_of, turned, turns_from, turns_of}
use Rattle.tablets.specs.Laws.RoundsLength.{length-turned}
use Rattle.tablets.specs.Tablet.{Tablet, adopting, one_more, for_proof, nonce_for, refused_full, refused_stale, succeeded}

-- how many of some turns, from a depot on, are a tablet's and are answered by a number
unfoldable pub answers_of : ℕ → ℕ → Depot → List Turn → ℕ
answers_of n k d [] = 0
answers_of n k d (x ∷ xs) = cond {A = ℕ} (eqb x.number k && eqb (answer_at d x) n) 1 0 + answers_of n k (turned d x) xs

-- ---- an act

-- a figure counts the acts whose raise is answered by a number
abbrev Counts : (Tablet → ℕ) → ℕ → Type 0
Counts figure n =
    (round number : ℕ) (s : List ℕ) (t : Tablet)
    → figure (acted round number s t).tablet ≡ cond (eqb (tried round number s t).figures.number n) (one_more (figure t)) (figure t)

module _ (round number : ℕ) (s : List ℕ) (t : Tablet) where
  abbrev answer : ℕ
  answer = (tried round number s t).figures.number

  abbrev after : List ℕ
  after = (tried round number s t).image

  abbrev renewal : Renewed
  renewal = renewed after (nonce_for for_proof round number) t.id t.belief

  -- by whether the answer is 0, 22 or 24
  abbrev ways : Bool → Bool → Bool → Acted
  ways done stale full =
      cond done (record { tablet = succeeded t (tried round number s t).figures.value; image = after })
      (cond stale (record { tablet = adopting (refused_stale t) renewal.belief; image = renewal.image })
      (cond full (record { tablet = refused_full t; image = renewal.image })
      (record { tablet = t; image = after })))

  abbrev told-done : Bool
  told-done = eqb answer 0

  abbrev told-stale : Bool
  told-stale = eqb answer 22

  abbrev told-full : Bool
  told-full = eqb answer 24

  acted-ways : acted round number s t ≡ ways told-done told-stale told-full
  unfolding acted following
  acted-ways = refl

  -- an answer is one number
  one_answer : (m n : ℕ) → (m ≡ n → ⊥) → eqb answer m ≡ true → eqb answer n ≡ false
  one_answer m n other e = ne_eqb answer n (λ same. other (sym (eqb-true answer m e) ∙ same))

  raises-by : (a b c : Bool) → (ways a b c).tablet.raises ≡ cond a (one_more t.raises) t.raises
  raises-by true b c = refl
  raises-by false true c = refl
  raises-by false false true = refl
  raises-by false false false = refl

  stale-by : (a b c : Bool) → (a ≡ true → b ≡ false) → (ways a b c).tablet.stale ≡ cond b (one_more t.stale) t.stale
  stale-by true true c apart = absurd (true≢false (apart refl))
  stale-by true false c apart = refl
  stale-by false true c apart = refl
  stale-by false false true apart = refl
  stale-by false false false apart = refl

  full_by : (a b c : Bool) → (a ≡ true → c ≡ false) → (b ≡ true → c ≡ false) → (ways a b c).tablet.full ≡ cond c (one_more t.full) t.full
  full_by true b true apart other = absurd (true≢false (apart refl))
  full_by true b false apart other = refl
  full_by false true true apart other = absurd (true≢false (other refl))
  full_by false true false apart other = refl
  full_by false false true apart other = refl
  full_by false false false apart other = refl

  -- each figure by its own answer
  raises-acted : (acted round number s t).tablet.raises ≡ cond told-done (one_more t.raises) t.raises
  raises-acted = ap (λ (a : Acted). a.tablet.raises) acted-ways ∙ raises-by told-done told-stale told-full

  stale-acted : (acted round number s t).tablet.stale ≡ cond told-stale (one_more t.stale) t.stale
  stale-acted = ap (λ (a : Acted). a.tablet.stale) acted-ways ∙ stale-by told-done told-stale told-full (one_answer 0 22 (λ e. omega (arith, e)))

  full-acted : (acted round number s t).tablet.full ≡ cond told-full (one_more t.full) t.full
  full-acted =
      ap (λ (a : Acted). a.tablet.full) acted-ways
      ∙ full_by told-done told-stale told-full (one_answer 0 24 (λ e. omega (arith, e))) (one_answer 22 24 (λ e. omega (arith, e)))

-- ---- turns

module _ (figure : Tablet → ℕ) (n : ℕ) (counts : Counts figure n) (k : ℕ) where
  -- one turn: the figure of the tablet that acts may rise, and every other stays
  turn-counts : (d : Depot) (x : Turn) → k < length d.tablets
      → figure (tablet_of (turned d x) k)
      ≡ cond (eqb x.number k && eqb (answer_at d x) n) (one_more (figure (tablet_of d k))) (figure (tablet_of d k))
  unfolding turned
  turn-counts d x below = go (eqb x.number k) refl
    where
      new : Tablet
      new = (acted x.round x.number d.image (tablet_of d x.number)).tablet

      go : (b : Bool) → eqb x.number k ≡ b
          → figure (get_or (set d.tablets x.number new) k nobody)
          ≡ cond (b && eqb (answer_at d x) n) (one_more (figure (tablet_of d k))) (figure (tablet_of d k))
      go true e =
          let own : x.number ≡ k = eqb-true x.number k e in
          ap (λ (j : ℕ). figure (get_or (set d.tablets x.number new) j nobody)) (sym own)
          ∙ ap figure (get_or-set_same d.tablets x.number new nobody (omega (arith, own, below)))
          ∙ counts x.round x.number d.image (tablet_of d x.number)
          ∙ ap (λ (j : ℕ). cond (eqb (answer_at d x) n) (one_more (figure (tablet_of d j))) (figure (tablet_of d j))) own
      go false e =
          ap figure (get_or-set_other d.tablets x.number k new nobody (λ same. eqb-false x.number k e (sym same)))

  -- all of them
  turns-count : (xs : List Turn) (d : Depot) → k < length d.tablets → figure (tablet_of d k) ≤ max_word
      → figure (tablet_of (after_turns d xs) k) ≡ min (figure (tablet_of d k) + answers_of n k d xs) max_word
  unfolding after_turns answers_of
  turns-count [] d below low = omega arith
  turns-count (x ∷ xs) d below low =
      go (eqb x.number k && eqb (answer_at d x) n) (turn-counts d x below)
      (turns-count xs (turned d x) (omega (arith, length-turned d x, below)))
    where
      rest : ℕ
      rest = answers_of n k (turned d x) xs

      go : (b : Bool) → figure (tablet_of (turned d x) k) ≡ cond b (one_more (figure (tablet_of d k))) (figure (tablet_of d k))
          → (figure (tablet_of (turned d x) k) ≤ max_word
          → figure (tablet_of (after_turns (turned d x) xs) k) ≡ min (figure (tablet_of (turned d x) k) + rest) max_word)
          → figure (tablet_of (after_turns (turned d x) xs) k) ≡ min (figure (tablet_of d k) + (cond {A = ℕ} b 1 0 + rest)) max_word
      go true e further = omega (arith, further (omega (arith, e)), e)
      go false e further = omega (arith, further (omega (arith, e, low)), e)

-- ---- a tablet's turns

-- how many of some turns are a tablet's
unfoldable turns_by : ℕ → List Turn → ℕ
turns_by k [] = 0
turns_by k (x ∷ xs) = cond {A = ℕ} (eqb x.number k) 1 0 + turns_by k xs

-- not more of them are answered by a number
answers-few : (n k : ℕ) (d : Depot) (xs : List Turn) → answers_of n k d xs ≤ turns_by k xs
unfolding answers_of turns_by
answers-few n k d [] = omega arith
answers-few n k d (x ∷ xs) = go (eqb x.number k) (eqb (answer_at d x) n) (answers-few n k (turned d x) xs)
  where
    go : (a b : Bool) → answers_of n k (turned d x) xs ≤ turns_by k xs
        → cond {A = ℕ} (a && b) 1 0 + answers_of n k (turned d x) xs ≤ cond {A = ℕ} a 1 0 + turns_by k xs
    go true true few = omega (arith, few)
    go true false few = omega (arith, few)
    go false b few = omega (arith, few)

turns-append : (k : ℕ) (xs ys : List Turn) → turns_by k (xs ++ ys) ≡ turns_by k xs + turns_by k ys
unfolding turns_by
turns-append k [] ys = omega arith
turns-append k (x ∷ xs) ys = omega (arith, turns-append k xs ys)

-- at most one in a round, and none of a number that is past
round-few : (k round number : ℕ) (ts : List Tablet) → (turns_by k (turns_from round number ts) ≤ 1)
    × (k < number → turns_by k (turns_from round number ts) ≡ 0)
unfolding turns_by turns_from
round-few k round number [] = (omega arith, λ past. refl)
round-few k round number (t ∷ ts) = go (divides t.period round) (eqb number k) refl (round-few k round (suc number) ts)
  where
    rest : List Turn
    rest = turns_from round (suc number) ts

    go : (due own : Bool) → eqb number k ≡ own → (turns_by k rest ≤ 1) × (k < suc number → turns_by k rest ≡ 0)
        → (turns_by k (cond due (record { round = round; number = number } ∷ rest) rest) ≤ 1)
        × (k < number → turns_by k (cond due (record { round = round; number = number } ∷ rest) rest) ≡ 0)
    go false own e few = (few.0, λ past. few.1 (omega (arith, past)))
    go true true e few =
        let here : number ≡ k = eqb-true number k e in
        let one : turns_by k (record { round = round; number = number } ∷ rest) ≡ 1 + turns_by k rest =
        ap (λ (b : Bool). cond {A = ℕ} b 1 0 + turns_by k rest) e in
        (omega (arith, one, few.1 (omega (arith, here))), λ past. absurd (omega (arith, here, past)))
    go true false e few =
        let none : turns_by k (record { round = round; number = number } ∷ rest) ≡ 0 + turns_by k rest =
        ap (λ (b : Bool). cond {A = ℕ} b 1 0 + turns_by k rest) e in
        (omega (arith, none, few.0), λ past. omega (arith, none, few.1 (omega (arith, past))))

rounds-few : (k n done : ℕ) (ts : List Tablet) → turns_by k (turns_of done n ts) ≤ n
unfolding turns_of turns_by
rounds-few k zero done ts = omega arith
rounds-few k (suc n) done ts =
    omega (
      arith,
      turns-append k (turns_from (suc done) 0 ts) (turns_of (suc done) n ts),
      (round-few k (suc done) 0 ts).0,
      rounds-few k n (suc done) ts,
    )

-- ---- the figures of a run

-- a tablet that has not acted before it, and as many rounds as a figure of 32 bits can say
module _ (d : Depot) (k : ℕ) (rounds : ℕ) (below : k < length d.tablets) (sayable : rounds ≤ max_word) where
  abbrev turns : List Turn
  turns = turns_of 0 (rounds - 0) d.tablets

  told : (figure : Tablet → ℕ) (n : ℕ) → Counts figure n → figure (tablet_of d k) ≡ 0
      → figure (tablet_of (after_rounds 0 rounds d) k) ≡ answers_of n k d turns
  told figure n counts none =
      turns-count figure n counts k turns d below (omega (arith, none))
      ∙ omega (arith, none, sayable, answers-few n k d turns, rounds-few k (rounds - 0) 0 d.tablets)

  -- "raises made, answers 22, answers 24"
  pub raises-told : (tablet_of d k).raises ≡ 0 → (tablet_of (after_rounds 0 rounds d) k).raises ≡ answers_of 0 k d turns
  raises-told = told (λ t. t.raises) 0 raises-acted

  pub stale-told : (tablet_of d k).stale ≡ 0 → (tablet_of (after_rounds 0 rounds d) k).stale ≡ answers_of 22 k d turns
  stale-told = told (λ t. t.stale) 22 stale-acted

  pub full-told : (tablet_of d k).full ≡ 0 → (tablet_of (after_rounds 0 rounds d) k).full ≡ answers_of 24 k d turns
  full-told = told (λ t. t.full) 24 full-acted
