-- Laws of the number of a counter's raises: ranges that adjoin, ranges in which none counts, that the value moves exactly where the number is
-- not 0, and that the walk along the clock counts it. Assumes nothing.
use Rattle.std.specs.Prelude.{◌≡◌, Bool, List, ℕ, zero, suc, ◌+◌, ◌-◌, ◌≤◌, ◌<◌, refl, true, false, cond}
use Rattle.std.proofs.Common.{◌∙◌, add-zero, sym, ap, ap₂, arith}
use Rattle.std.proofs.Math.Decide.{dec_le}
use Rattle.forms.specs.Chain.{raised_running}
use Rattle.forms.specs.declared.running.Running.{Running}
use Rattle.forms.specs.declared.terms.CounterId.{CounterId}
use Rattle.forms.specs.declared.terms.GlobalClock.{GlobalClock}
use Rattle.forms.specs.Terms.{global_clock}
use Rattle.history.specs.History.{HistoryEvent}
use Rattle.history.specs.Openings.{number_of, openings_between}
use Rattle.history.specs.Value.{Signatures, counts, value_at}
use Rattle.history.proofs.Laws.ValueLaws.{value_at-largest, value_at-within, value_at-walks-on}
use Rattle.history.specs.Laws.Walk.{pass, pass_running, clock_walk}
use Rattle.history.proofs.Laws.WalkLaws.{walk-last, walk-part, walk-still}

module _ (counting : GlobalClock → Bool) where
  -- k readings and then m
  number_append : (g k m : ℕ) → number_of counting g (k + m) ≡ number_of counting g k + number_of counting (g + k) m
  unfolding number_of
  number_append g k zero = ap (number_of counting g) (add-zero k) ∙ sym (add-zero (number_of counting g k))
  number_append g k (suc m) =
      let shifted : k + suc m ≡ suc (k + m) = omega arith in
      let same : g + suc (k + m) ≡ g + k + suc m = omega arith in
      ap (number_of counting g) shifted
      ∙ ap₂ (λ (n t : ℕ). n + cond (counting (global_clock t)) 1 0) (number_append g k m) same
      ∙ sum (number_of counting g k) (number_of counting (g + k) m) (cond (counting (global_clock (g + k + suc m))) 1 0)
    where
      sum : (a b c : ℕ) → a + b + c ≡ a + (b + c)
      sum a b c = omega arith

  -- none of them counts
  number-none : (g k : ℕ) → ((t : GlobalClock) → g < t.0 → t.0 ≤ g + k → counting t ≡ false) → number_of counting g k ≡ 0
  unfolding number_of
  number-none g zero none = refl
  number-none g (suc k) none =
      ap₂ (λ (n : ℕ) (b : Bool). n + cond b 1 0) (number-none g k (λ t above within. none t above (omega arith)))
      (none (global_clock (g + suc k)) (omega arith) (omega arith))

  -- and so where the number is 0
  none_number : (g k : ℕ) → number_of counting g k ≡ 0 → (t : GlobalClock) → g < t.0 → t.0 ≤ g + k → counting t ≡ false
  unfolding number_of
  none_number g zero zeroes t above within = absurd (omega arith)
  none_number g (suc k) zeroes t above within =
      from (dec_le t.0 (g + k)) (λ inside. none_number g k (omega (arith, zeroes)) t above inside)
    where
      last : (b : Bool) → number_of counting g k + cond b 1 0 ≡ 0 → b ≡ false
      last true some = absurd (omega arith)
      last false none = refl

      from : Dec (t.0 ≤ g + k) → (t.0 ≤ g + k → counting t ≡ false) → counting t ≡ false
      from (yes inside) earlier = earlier inside
      from (no outside) earlier =
          ap (λ (n : ℕ). counting (global_clock n)) (let same : t.0 ≡ g + suc k = omega arith in same)
          ∙ last (counting (global_clock (g + suc k))) zeroes

  -- the walk along the clock: its count, and its value alone
  number-walk : (r : Running) (reading : GlobalClock) (k : ℕ)
      → (clock_walk (pass_running counting) r reading k).openings ≡ r.openings + number_of counting reading.0 k
  unfolding clock_walk number_of
  number-walk r reading zero = sym (add-zero r.openings)
  number-walk r reading (suc k) =
      let next = global_clock (reading.0 + suc k) in
      ap (λ (q : Running). q.openings) (walk-last (pass_running counting) r reading k)
      ∙ one (clock_walk (pass_running counting) r reading k) next (counting next)
      ∙ ap (λ (n : ℕ). n + cond (counting next) 1 0) (number-walk r reading k)
      ∙ sum r.openings (number_of counting reading.0 k) (cond (counting next) 1 0)
    where
      one : (q : Running) (t : GlobalClock) (b : Bool) → (cond b (raised_running q t) q).openings ≡ q.openings + cond b 1 0
      one q t true = refl
      one q t false = sym (add-zero q.openings)

      sum : (a b c : ℕ) → a + b + c ≡ a + (b + c)
      sum a b c = omega arith

  pub running-walk : (r : Running) (reading : GlobalClock) (k : ℕ)
      → clock_walk (pass_running counting) r reading k
      ≡ record { value = clock_walk (pass counting) r.value reading k; openings = r.openings + number_of counting reading.0 k }
  running-walk r reading k =
      ap₂ (λ (v n : ℕ). record { value = v; openings = n })
      (walk-part (λ (q : Running). q.value) (pass_running counting) (pass counting) (λ q t. value_of q t (counting t)) r reading k)
      (number-walk r reading k)
    where
      value_of : (q : Running) (t : GlobalClock) (b : Bool) → (cond b (raised_running q t) q).value ≡ cond b t.0 q.value
      value_of q t true = refl
      value_of q t false = refl

module _ (signed : Signatures) (id : CounterId) (first : GlobalClock) (es : List HistoryEvent) where
  -- the numbers of two ranges that adjoin add up
  pub openings-append : (a b c : GlobalClock) → a.0 ≤ b.0 → b.0 ≤ c.0
      → openings_between signed id first es a c ≡ openings_between signed id first es a b + openings_between signed id first es b c
  unfolding openings_between
  openings-append a b c low high =
      let counting = counts signed id first es in
      let whole : c.0 - a.0 ≡ (b.0 - a.0) + (c.0 - b.0) = omega arith in
      let there : a.0 + (b.0 - a.0) ≡ b.0 = omega arith in
      ap (number_of counting a.0) whole
      ∙ number_append counting a.0 (b.0 - a.0) (c.0 - b.0)
      ∙ ap (λ (g : ℕ). number_of counting a.0 (b.0 - a.0) + number_of counting g (c.0 - b.0)) there

  -- the number is 0 exactly where no reading of the range counts
  pub openings-none : (a b : GlobalClock) → a.0 ≤ b.0 → ((t : GlobalClock) → a.0 < t.0 → t.0 ≤ b.0 → counts signed id first es t ≡ false)
      → openings_between signed id first es a b ≡ 0
  unfolding openings_between
  openings-none a b order none = number-none (counts signed id first es) a.0 (b.0 - a.0) (λ t above within. none t above (omega arith))

  pub none-opened : (a b : GlobalClock) → a.0 ≤ b.0 → openings_between signed id first es a b ≡ 0
      → (t : GlobalClock) → a.0 < t.0 → t.0 ≤ b.0 → counts signed id first es t ≡ false
  unfolding openings_between
  none-opened a b order zeroes t above within = none_number (counts signed id first es) a.0 (b.0 - a.0) zeroes t above (omega arith)

  -- the value moves exactly where the number is not 0
  pub value_stays : (opened a b : GlobalClock) → opened.0 ≤ a.0 → a.0 ≤ b.0 → openings_between signed id first es a b ≡ 0
      → value_at signed id first es opened b ≡ value_at signed id first es opened a
  value_stays opened a b low order zeroes =
      let counting = counts signed id first es in
      let k = b.0 - a.0 in
      let there : a.0 + k ≡ b.0 = omega arith in
      ap (λ (n : ℕ). value_at signed id first es opened (global_clock n)) (sym there)
      ∙ value_at-walks-on signed id first es opened a k low
      ∙ walk-still (pass counting) (value_at signed id first es opened a) a k
      (λ t above within. ap (λ (c : Bool). cond c t.0 (value_at signed id first es opened a)) (none-opened a b order zeroes t above (omega arith)))

  pub still-value : (opened a b : GlobalClock) → opened.0 ≤ a.0 → a.0 ≤ b.0
      → value_at signed id first es opened b ≡ value_at signed id first es opened a → openings_between signed id first es a b ≡ 0
  still-value opened a b low order same =
      let largest = value_at-largest signed id first es opened b (omega arith) in
      let inside = value_at-within signed id first es opened a low in
      openings-none a b order (λ t above within. largest.above t (omega (arith, same, inside.1)) within)
