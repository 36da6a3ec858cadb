-- The claim of BenchInput.antt, proved along an input's lines: what each line prints where the bench stands, which tablets it adds, and that every
-- input has its course. Figures that the grammar reads fit 32 bits, so that the bench's claim is about every input. Assumes nothing.
use Rattle.std.specs.Prelude.{◌≡◌, Bool, true, false, cond, ◌||◌, ◌⊎◌, eqb, length, replicate, ℕ, zero, suc, ◌+◌, ◌-◌, ◌^◌, ◌<◌, refl, List, [], ◌∷◌, ◌++◌, Option, Some, None}
use Rattle.std.proofs.Common.{subst, ◌∙◌, inl, inr, length-append, sym, ap, append_assoc, append-nil, arith}
use mathlib.Core.List.{flatten, foldl, foldl-append}
use Rattle.std.proofs.lemmas.List.{length-replicate}
use Rattle.std.proofs.lemmas.Bool.{eqb-false}
use Rattle.forms.specs.Bytes.{same}
use Rattle.forms.specs.Laws.TestsLaws.{neither}
use Rattle.forms.specs.Limits.{image_len}
use Rattle.forms.specs.declared.terms.CounterId.{CounterId}
use Rattle.forms.specs.declared.terms.GlobalClock.{GlobalClock}
use Rattle.grammar.specs.Command.{arguments_of, start_name, words}
use Rattle.grammar.specs.Order.{order_by, order_named, order_of, run_name, tablet_name}
use Rattle.grammar.specs.declared.command.Arguments.{Arguments}
use Rattle.grammar.specs.declared.order.Order.{Order}
use Rattle.console.specs.Lines.{Answered, Pending, within, over, lines, pending_for, transcript}
use Rattle.tablets.specs.Rounds.{Depot, after_rounds}
use Rattle.tablets.specs.Tablet.{blank}
use Rattle.tablets.specs.declared.tablet.Tablet.{Tablet}
use Rattle.bench.specs.Bench.{Standing, line_ordered, no_order, ordered, passed_over, pending_order, placed, printed, refused_tablet, silent, started}
use Rattle.bench.specs.Laws.OrderLaws.{room_for}
use Rattle.bench.specs.Result.{result_text}
use Rattle.bench.specs.declared.bench.Stage.{Stage}
use Rattle.assurance.specs.BenchInput.{Course, First, InputActs, InputClaim, Never, Suited, ahead_text, between_text, fleet_of, no_orders, order_in, one-run, text_of, not-run, not-started, with_line}
use Rattle.assurance.specs.BenchList.{FleetFits, Proper, set_up}
use Rattle.assurance.proofs.Laws.BenchProof.{bench-claim, each_snoc}
use Rattle.assurance.proofs.Laws.ProgramLines.{ArgumentsFit, arguments-fit}

-- ---- figures

abbrev OrderFits : Order → Type 0
OrderFits (Order.Start clock) = clock.0 < 2 ^ 32
OrderFits (Order.Tablet id period belief) = (id.0 < 2 ^ 32) × (belief < 2 ^ 32)
OrderFits (Order.Run rounds) = Unit
OrderFits Order.Other = Unit

choice-fits : (t : Bool) (x y : Order) → OrderFits x → OrderFits y → OrderFits (cond t x y)
choice-fits true x y fits others = fits
choice-fits false x y fits others = others

named-fits : (name : List ℕ) (a : Option Arguments) → ArgumentsFit a → OrderFits (order_named name a)
named-fits name (Some (Arguments.One a)) fits = choice-fits (same name start_name) _ _ fits (choice-fits (same name run_name) (Order.Run a) Order.Other tt tt)
named-fits name (Some (Arguments.Two a b)) fits = tt
named-fits name (Some (Arguments.Three a b c)) fits = choice-fits (same name tablet_name) _ Order.Other (fits.0, fits.2) tt
named-fits name None fits = tt

words-fit : (ws : List (List ℕ)) → OrderFits (order_by ws)
words-fit [] = tt
words-fit (name ∷ figures) = named-fits name (arguments_of figures) (arguments-fit figures)

pending-fits : (line : Pending) → OrderFits (pending_order line)
unfolding order_of
pending-fits (within line) = words-fit (words line)
pending-fits over = tt

-- every line's figures fit
line-fits : (line : List ℕ) → OrderFits (order_in line)
line-fits line = pending-fits (pending_for line)

-- ---- the tablets

none-fit : FleetFits []
none-fit = record { few = omega arith; all-proper = λ k below. absurd (omega arith) }

-- with one line more
with-line-fits : (ts : List Tablet) → FleetFits ts → (o : Order) → OrderFits o → FleetFits (with_line ts o)
with-line-fits ts fits (Order.Start clock) figures = fits
with-line-fits ts fits (Order.Tablet id period belief) figures = go (refused_tablet ts id period) refl
  where
    go : (b : Bool) → refused_tablet ts id period ≡ b → FleetFits (cond b ts (ts ++ (blank id period belief ∷ [])))
    go true e = fits
    go false e =
        let box : eqb id.0 0 ≡ false = (neither _ _ (neither (eqb id.0 0 || eqb period 0) _ e).0).0 in
        record {
          few = simp length-append (omega (arith, room_for ts id period e));
          all-proper = each_snoc Proper ts (blank id period belief) fits.all-proper
              (record { counter = eqb-false id.0 0 box; id-fits = figures.0; belief-fits = figures.1 });
        }
with-line-fits ts fits (Order.Run rounds) figures = fits
with-line-fits ts fits Order.Other figures = fits

-- the tablets that some lines give behind others
abbrev fleet_from : List Tablet → List (List ℕ) → List Tablet
fleet_from ts ls = foldl (λ l line. with_line l (order_in line)) ts ls

fleet-fits : (ts : List Tablet) (ls : List (List ℕ)) → FleetFits ts → FleetFits (fleet_from ts ls)
fleet-fits ts [] fits = fits
fleet-fits ts (line ∷ ls) fits = fleet-fits (with_line ts (order_in line)) ls (with-line-fits ts fits (order_in line) (line-fits line))

-- placed one after the other
placed-tablets : (clock : GlobalClock) (d : Depot) (ts : List Tablet) → (foldl (placed clock) d ts).tablets ≡ d.tablets ++ ts
unfolding placed
placed-tablets clock d [] = sym (append-nil d.tablets)
placed-tablets clock d (t ∷ ts) = placed-tablets clock (placed clock d t) ts ∙ append_assoc d.tablets (t ∷ []) ts

-- ---- what some lines print

orders-append : (j k : ℕ) → no_orders (j + k) ≡ no_orders j ++ no_orders k
unfolding flatten
orders-append zero k =
    let same : 0 + k ≡ k = omega arith in
    ap no_orders same
orders-append (suc j) k =
    let next : suc j + k ≡ suc (j + k) = omega arith in
    ap no_orders next ∙ ap (λ (l : List ℕ). no_order ++ l) (orders-append j k)

-- a line by its order
line-printed : (b : Standing) (line : List ℕ) (ls : List (List ℕ)) {o : Order} → order_in line ≡ o
    → transcript line_ordered b (line ∷ ls) ≡ (ordered b o).text ++ transcript line_ordered (ordered b o).state ls
unfolding transcript line_ordered
line-printed b line ls e = ap (λ (o : Order). (ordered b o).text ++ transcript line_ordered (ordered b o).state ls) e

-- ahead of the start
abbrev unset : Depot → Standing
unset d = record { stage = Stage.New; depot = d }

new-passed : (d : Depot) (o : Order) → ((clock : GlobalClock) → o ≡ Order.Start clock → ⊥) → ordered (unset d) o ≡ passed_over (unset d)
unfolding ordered
new-passed d (Order.Start clock) other = absurd (other clock refl)
new-passed d (Order.Tablet id period belief) other = refl
new-passed d (Order.Run rounds) other = refl
new-passed d Order.Other other = refl

ahead-printed : (d : Depot) (ahead rest : List (List ℕ)) → Never Order.Start ahead
    → transcript line_ordered (unset d) (ahead ++ rest) ≡ ahead_text ahead ++ transcript line_ordered (unset d) rest
unfolding Never flatten
ahead-printed d [] rest none = refl
ahead-printed d (line ∷ ls) rest none =
    line-printed (unset d) line (ls ++ rest) refl
    ∙ ap (λ (a : Answered Standing). a.text ++ transcript line_ordered a.state (ls ++ rest)) (new-passed d (order_in line) none.0)
    ∙ ap (λ (l : List ℕ). no_order ++ l) (ahead-printed d ls rest none.1)

-- behind the run
abbrev over-with : Depot → Standing
over-with d = record { stage = Stage.Ran; depot = d }

ran-passed : (d : Depot) (o : Order) → ordered (over-with d) o ≡ passed_over (over-with d)
unfolding ordered
ran-passed d (Order.Start clock) = refl
ran-passed d (Order.Tablet id period belief) = refl
ran-passed d (Order.Run rounds) = refl
ran-passed d Order.Other = refl

behind-printed : (d : Depot) (ls : List (List ℕ)) → transcript line_ordered (over-with d) ls ≡ no_orders (length ls)
unfolding transcript flatten
behind-printed d [] = refl
behind-printed d (line ∷ ls) =
    line-printed (over-with d) line ls refl
    ∙ ap (λ (a : Answered Standing). a.text ++ transcript line_ordered a.state ls) (ran-passed d (order_in line))
    ∙ ap (λ (l : List ℕ). no_order ++ l) (behind-printed d ls)

-- between the two, on any buffer
module _ (buffer : List ℕ) (clock : GlobalClock) where
  -- with such tablets
  abbrev holding : List Tablet → Standing
  holding ts = record { stage = Stage.Started clock; depot = set_up buffer clock ts }

  -- a line's answer: so many lines `27 0`, one where it adds no tablet and none where it adds one
  pub record Answers (ts : List Tablet) (o : Order) : Type 0 where
    pub many : ℕ
    pub answer : ordered (holding ts) o ≡ record { state = holding (with_line ts o); text = no_orders many }
    pub sum : many + length (with_line ts o) ≡ suc (length ts)

  -- a tablet
  tablet-answers : (ts : List Tablet) (id : CounterId) (period belief : ℕ) → Answers ts (Order.Tablet id period belief)
  unfolding ordered flatten
  tablet-answers ts id period belief = go (refused_tablet ts id period) refl
    where
      t : Tablet
      t = blank id period belief

      there : (set_up buffer clock ts).tablets ≡ ts
      there = placed-tablets clock (started buffer clock) ts

      by-test : Bool → Answered Standing
      by-test b = cond b (passed_over (holding ts)) (silent (Stage.Started clock) (placed clock (set_up buffer clock ts) t))

      answered : {b : Bool} → refused_tablet ts id period ≡ b → ordered (holding ts) (Order.Tablet id period belief) ≡ by-test b
      answered e = ap (λ (l : List Tablet). by-test (refused_tablet l id period)) there ∙ ap by-test e

      with_it : {b : Bool} → refused_tablet ts id period ≡ b → cond b ts (ts ++ (t ∷ [])) ≡ with_line ts (Order.Tablet id period belief)
      with_it e = ap (λ (b : Bool). cond b ts (ts ++ (t ∷ []))) (sym e)

      go : (b : Bool) → refused_tablet ts id period ≡ b → Answers ts (Order.Tablet id period belief)
      go true e =
          record {
            many = 1;
            answer = answered e ∙ ap (λ (l : List Tablet). record { state = holding l; text = no_orders 1 }) (with_it e);
            sum = omega (arith, ap length (with_it e));
          }
      go false e =
          record {
            many = 0;
            answer = answered e
                ∙ ap (λ (d : Depot). silent (Stage.Started clock) d) (sym (foldl-append (placed clock) (started buffer clock) ts (t ∷ [])))
                ∙ ap (λ (l : List Tablet). record { state = holding l; text = [] }) (with_it e);
            sum = omega (arith, ap length (with_it e), length-append ts (t ∷ []));
          }

  line-answers : (ts : List Tablet) (o : Order) → ((rounds : ℕ) → o ≡ Order.Run rounds → ⊥) → Answers ts o
  unfolding ordered flatten
  line-answers ts (Order.Start c) other = record { many = 1; answer = refl; sum = omega arith }
  line-answers ts (Order.Tablet id period belief) other = tablet-answers ts id period belief
  line-answers ts (Order.Run rounds) other = absurd (other rounds refl)
  line-answers ts Order.Other other = record { many = 1; answer = refl; sum = omega arith }

  -- what some lines print, and the tablets that they add
  pub record Prints (ts : List Tablet) (ls rest : List (List ℕ)) : Type 0 where
    pub many : ℕ
    pub text : transcript line_ordered (holding ts) (ls ++ rest) ≡ no_orders many ++ transcript line_ordered (holding (fleet_from ts ls)) rest
    pub sum : many + length (fleet_from ts ls) ≡ length ls + length ts

  lines-print : (ts : List Tablet) (ls rest : List (List ℕ)) → Never Order.Run ls → Prints ts ls rest
  unfolding Never flatten
  lines-print ts [] rest none = record { many = 0; text = refl; sum = omega arith }
  lines-print ts (line ∷ ls) rest none =
      let one : Answers ts (order_in line) = line-answers ts (order_in line) none.0 in
      let on : Prints (with_line ts (order_in line)) ls rest = lines-print (with_line ts (order_in line)) ls rest none.1 in
      let last : List ℕ = transcript line_ordered (holding (fleet_from ts (line ∷ ls))) rest in
      record {
        many = one.many + on.many;
        text = line-printed (holding ts) line (ls ++ rest) refl
            ∙ ap (λ (a : Answered Standing). a.text ++ transcript line_ordered a.state (ls ++ rest)) one.answer
            ∙ ap (λ (l : List ℕ). no_orders one.many ++ l) on.text
            ∙ sym (append_assoc (no_orders one.many) (no_orders on.many) last)
            ∙ ap (λ (l : List ℕ). l ++ last) (sym (orders-append one.many on.many));
        sum = omega (arith, one.sum, on.sum);
      }

  between-printed : (between rest : List (List ℕ)) → Never Order.Run between
      → transcript line_ordered (holding []) (between ++ rest) ≡ between_text between ++ transcript line_ordered (holding (fleet_of between)) rest
  between-printed between rest none =
      let all : Prints [] between rest = lines-print [] between rest none in
      let left : all.many ≡ length between - length (fleet_of between) = omega (arith, all.sum) in
      all.text ∙ ap (λ (n : ℕ). no_orders n ++ transcript line_ordered (holding (fleet_of between)) rest) left

  -- the start and the run themselves
  start-printed : (line : List ℕ) (rest : List (List ℕ)) → order_in line ≡ Order.Start clock
      → transcript line_ordered (unset (record { tablets = []; image = buffer })) (line ∷ rest) ≡ transcript line_ordered (holding []) rest
  unfolding ordered
  start-printed line rest e = line-printed (unset (record { tablets = []; image = buffer })) line rest e

  run-printed : (ts : List Tablet) (line : List ℕ) (rounds : ℕ) (behind : List (List ℕ)) → order_in line ≡ Order.Run rounds
      → transcript line_ordered (holding ts) (line ∷ behind)
      ≡ result_text (after_rounds 0 rounds (set_up buffer clock ts)).tablets ++ no_orders (length behind)
  unfolding ordered
  run-printed ts line rounds behind e =
      let d : Depot = after_rounds 0 rounds (set_up buffer clock ts) in
      line-printed (holding ts) line behind e ∙ ap (λ (l : List ℕ). result_text d.tablets ++ l) (behind-printed d behind)

-- ---- an input's course

-- the first line that is such an order, or there is none
first-or-never : {A : Type 0} (order : A → Order) → ((o : Order) → ((figure : A) × (o ≡ order figure)) ⊎ ((figure : A) → o ≡ order figure → ⊥))
    → (ls : List (List ℕ)) → First order ls ⊎ Never order ls
unfolding Never
first-or-never order decide [] = inr tt
first-or-never {A} order decide (line ∷ ls) = go (decide (order_in line)) (first-or-never order decide ls)
  where
    go : ((figure : A) × (order_in line ≡ order figure)) ⊎ ((figure : A) → order_in line ≡ order figure → ⊥) → First order ls ⊎ Never order ls
        → First order (line ∷ ls) ⊎ Never order (line ∷ ls)
    go (inl here) later = inl (record { ahead = []; line = line; figure = here.0; behind = ls; whole = refl; none_ahead = tt; orders = here.1 })
    go (inr other) (inl f) =
        inl
        (record {
          ahead = line ∷ f.ahead;
          line = f.line;
          figure = f.figure;
          behind = f.behind;
          whole = ap (λ (l : List (List ℕ)). line ∷ l) f.whole;
          none_ahead = (other, f.none_ahead);
          orders = f.orders;
        })
    go (inr other) (inr none) = inr (other, none)

-- a start, or none
is-start : (o : Order) → ((clock : GlobalClock) × (o ≡ Order.Start clock)) ⊎ ((clock : GlobalClock) → o ≡ Order.Start clock → ⊥)
is-start (Order.Start clock) = inl (clock, refl)
is-start (Order.Tablet id period belief) = inr (λ c e. let z : ◌≡◌ {A = ℕ} 0 1 = cc in omega arith)
is-start (Order.Run rounds) = inr (λ c e. let z : ◌≡◌ {A = ℕ} 0 1 = cc in omega arith)
is-start Order.Other = inr (λ c e. let z : ◌≡◌ {A = ℕ} 0 1 = cc in omega arith)

is-run : (o : Order) → ((rounds : ℕ) × (o ≡ Order.Run rounds)) ⊎ ((rounds : ℕ) → o ≡ Order.Run rounds → ⊥)
is-run (Order.Start clock) = inr (λ r e. let z : ◌≡◌ {A = ℕ} 0 1 = cc in omega arith)
is-run (Order.Tablet id period belief) = inr (λ r e. let z : ◌≡◌ {A = ℕ} 0 1 = cc in omega arith)
is-run (Order.Run rounds) = inl (rounds, refl)
is-run Order.Other = inr (λ r e. let z : ◌≡◌ {A = ℕ} 0 1 = cc in omega arith)

course : (ls : List (List ℕ)) → Course ls
course ls = from_start (first-or-never Order.Start is-start ls)
  where
    from-run : (start : First Order.Start ls) → First Order.Run start.behind ⊎ Never Order.Run start.behind → Course ls
    from-run start (inl run) = one-run start run
    from-run start (inr none) = not-run start none

    from_start : First Order.Start ls ⊎ Never Order.Start ls → Course ls
    from_start (inl start) = from-run start (first-or-never Order.Run is-run start.behind)
    from_start (inr none) = not-started none

-- ---- the claim

-- up to the start and it
up-to-start : (buffer : List ℕ) (ls : List (List ℕ)) (start : First Order.Start ls)
    → transcript line_ordered (unset (record { tablets = []; image = buffer })) ls
    ≡ ahead_text start.ahead ++ transcript line_ordered (holding buffer start.figure []) start.behind
up-to-start buffer ls start =
    let fresh : Depot = record { tablets = []; image = buffer } in
    ap (transcript line_ordered (unset fresh)) start.whole
    ∙ ahead-printed fresh start.ahead (start.line ∷ start.behind) start.none_ahead
    ∙ ap (λ (l : List ℕ). ahead_text start.ahead ++ l) (start-printed buffer start.figure start.line start.behind start.orders)

-- and the lines behind it, on any buffer
module _ (buffer : List ℕ) (ls : List (List ℕ)) where
  abbrev first : Standing
  first = unset (record { tablets = []; image = buffer })

  not-started-printed : Never Order.Start ls → transcript line_ordered first ls ≡ ahead_text ls
  unfolding transcript
  not-started-printed none =
      ap (transcript line_ordered first) (sym (append-nil ls))
      ∙ ahead-printed first.depot ls [] none
      ∙ append-nil (ahead_text ls)

  not-run-printed : (start : First Order.Start ls) → Never Order.Run start.behind
      → transcript line_ordered first ls ≡ ahead_text start.ahead ++ between_text start.behind
  unfolding transcript
  not-run-printed start none =
      let here : List (List ℕ) = start.behind in
      up-to-start buffer ls start
      ∙ ap (λ (l : List ℕ). ahead_text start.ahead ++ l)
      (ap (transcript line_ordered (holding buffer start.figure [])) (sym (append-nil here))
      ∙ between-printed buffer start.figure here [] none
      ∙ append-nil (between_text here))

  run-course-printed : (start : First Order.Start ls) (run : First Order.Run start.behind)
      → transcript line_ordered first ls
      ≡ ahead_text start.ahead
      ++ (between_text run.ahead
      ++ (result_text (after_rounds 0 run.figure (set_up buffer start.figure (fleet_of run.ahead))).tablets ++ no_orders (length run.behind)))
  run-course-printed start run =
      let between : List (List ℕ) = run.ahead in
      up-to-start buffer ls start
      ∙ ap (λ (l : List ℕ). ahead_text start.ahead ++ l)
      (ap (transcript line_ordered (holding buffer start.figure [])) run.whole
      ∙ between-printed buffer start.figure between (run.line ∷ run.behind) run.none_ahead
      ∙ ap (λ (l : List ℕ). between_text between ++ l)
      (run-printed buffer start.figure (fleet_of between) run.line run.figure run.behind run.orders))

-- the buffer that the bench begins with
abbrev zeros : List ℕ
zeros = replicate {A = ℕ} image_len 0

course-printed : (input : List ℕ) (c : Course (lines input)) → printed input ≡ text_of c
course-printed input (not-started none) = not-started-printed zeros (lines input) none
course-printed input (not-run start none) = not-run-printed zeros (lines input) start none
course-printed input (one-run start run) = run-course-printed zeros (lines input) start run

-- what the lines of a start and of tablets have as figures
start_fits : {ls : List (List ℕ)} (start : First Order.Start ls) → start.figure.0 < 2 ^ 32
start_fits start = subst OrderFits start.orders (line-fits start.line)

course-suited : {ls : List (List ℕ)} (c : Course ls) → Suited c
course-suited (not-started none) = tt
course-suited (not-run start none) = tt
course-suited (one-run start run) = (start_fits start, fleet-fits [] run.ahead none-fit)

pub input-claim : InputClaim
input-claim input = (course (lines input), λ c. (course-printed input c, course-suited c))

pub input-acts : InputActs
input-acts input start run =
    bench-claim zeros start.figure (fleet_of run.ahead) (length-replicate {A = ℕ} image_len 0) (start_fits start) (fleet-fits [] run.ahead none-fit)
