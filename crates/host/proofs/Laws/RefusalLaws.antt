-- What a call that is not refused has passed: number 0 means that no row's test holds. One record of it for each call that has rows and may
-- write: all but start and read. Assumes nothing.
use Rattle.std.specs.Prelude.{◌≡◌, refl, ℕ, ◌+◌, ◌-◌, ◌≤◌, Bool, true, false, not, cond, eqb, ltb, List, length}
use Rattle.std.proofs.Common.{sym, ap, ◌∙◌, eqb-true, eq-eqb, ltb-false}
use Rattle.std.proofs.lemmas.Bool.{false≢true, eqb-false, not-false}
use Rattle.forms.specs.Chain.{own_entries}
use Rattle.forms.specs.Entry.{units}
use Rattle.forms.specs.Limits.{max_word, nonce_len, max_counters, max_units}
use Rattle.forms.specs.Request.{names}
use Rattle.forms.specs.declared.confirmation.Confirmation.{Confirmation}
use Rattle.forms.specs.declared.request.Request.{Request}
use Rattle.forms.specs.declared.terms.CounterId.{CounterId}
use Rattle.forms.specs.declared.terms.GlobalClock.{GlobalClock}
use Rattle.forms.specs.Laws.TestsLaws.{neither}
use Rattle.log_image.specs.State.{State}
use Rattle.log_image.specs.Sound.{holds, base, after}
use Rattle.host.specs.Host.{held_of, current_of, logged_value, open_refusal, tick_refusal, request_refusal, confirm_refusal, close_refusal, prove_refusal, last_refusal, has_entry, entries_of}

-- where a table gives 0, a first row with another number was passed over, and the rest gives 0
pub refusal-passed : (test : Bool) (number others : ℕ) → not (eqb number 0) ≡ true → cond test number others ≡ 0 → (test ≡ false) × (others ≡ 0)
refusal-passed true number others refuses e = absurd (false≢true (ap not (sym (eq-eqb number 0 e)) ∙ refuses))
refusal-passed false number others refuses e = (refl, e)

-- ---- open: 15, 16, 18, 19, 20, 21, 28

pub record OpenPassed (st : State) (c : Confirmation) (verdict : ℕ) : Type 0 where
  pub agreed : verdict ≡ 1
  pub named : c.id.0 ≡ 0 → ⊥
  pub low : c.value ≤ c.reading.0
  pub unheld : holds st.records c.id ≡ false
  pub room : length st.records ≡ max_counters → ⊥
  pub recent : st.clock.0 - length st.log ≤ c.reading.0
  pub past : c.reading.0 ≤ st.clock.0
  pub equal : c.value ≡ c.reading.0
  pub unnamed : own_entries c.id (after (base st) c.reading st.log) ≡ 0

pub open-passed : (st : State) (c : Confirmation) (verdict : ℕ) → open_refusal st c verdict ≡ 0 → OpenPassed st c verdict
open-passed st c verdict e =
    let a = refusal-passed _ 15 _ refl e in
    let b = refusal-passed _ 16 _ refl a.1 in
    let d = refusal-passed _ 18 _ refl b.1 in
    let f = refusal-passed _ 19 _ refl d.1 in
    let g = refusal-passed _ 20 _ refl f.1 in
    let h = refusal-passed _ 21 _ refl g.1 in
    let k = refusal-passed _ 28 _ refl h.1 in
    record {
      agreed = eqb-true verdict 1 (not-false _ a.0);
      named = eqb-false c.id.0 0 (neither _ _ b.0).0;
      low = ltb-false c.reading.0 c.value (neither (eqb c.id.0 0) _ b.0).1;
      unheld = d.0;
      room = eqb-false (length st.records) max_counters f.0;
      recent = ltb-false c.reading.0 (st.clock.0 - length st.log) g.0;
      past = ltb-false st.clock.0 c.reading.0 (neither _ _ h.0).0;
      equal = eqb-true c.value c.reading.0 (not-false _ (neither (ltb st.clock.0 c.reading.0) _ h.0).1);
      unnamed = eqb-true (own_entries c.id (after (base st) c.reading st.log)) 0 (not-false _ k.0);
    }

-- ---- tick: 16, 24, 25

pub record TickPassed (st : State) (nonce : List ℕ) : Type 0 where
  pub long : length nonce ≡ nonce_len
  pub room : units st.log ≡ max_units → ⊥
  pub running : st.clock.0 ≡ max_word → ⊥

pub tick-passed : (st : State) (nonce : List ℕ) → tick_refusal st nonce ≡ 0 → TickPassed st nonce
tick-passed st nonce e =
    let a = refusal-passed _ 16 _ refl e in
    let b = refusal-passed _ 24 _ refl a.1 in
    let d = refusal-passed _ 25 _ refl b.1 in
    record {
      long = eqb-true (length nonce) nonce_len (not-false _ a.0);
      room = eqb-false (units st.log) max_units b.0;
      running = eqb-false st.clock.0 max_word d.0;
    }

-- ---- one request of a batch: 15, 16, 17, 29, 22, 24, 25

pub record RequestPassed (st : State) (before : List Request) (q : Request) (verdict : ℕ) : Type 0 where
  pub agreed : verdict ≡ 1
  pub named : q.id.0 ≡ 0 → ⊥
  pub held : holds st.records q.id ≡ true
  pub alone : names q.id before ≡ false
  pub current : q.before ≡ current_of st q.id
  pub room : units st.log + length before ≡ max_units → ⊥
  pub running : st.clock.0 ≡ max_word → ⊥

pub request-passed : (st : State) (before : List Request) (q : Request) (verdict : ℕ) → request_refusal st before q verdict ≡ 0
    → RequestPassed st before q verdict
request-passed st before q verdict e =
    let a = refusal-passed _ 15 _ refl e in
    let b = refusal-passed _ 16 _ refl a.1 in
    let d = refusal-passed _ 17 _ refl b.1 in
    let f = refusal-passed _ 29 _ refl d.1 in
    let g = refusal-passed _ 22 _ refl f.1 in
    let h = refusal-passed _ 24 _ refl g.1 in
    let k = refusal-passed _ 25 _ refl h.1 in
    record {
      agreed = eqb-true verdict 1 (not-false _ a.0);
      named = eqb-false q.id.0 0 b.0;
      held = not-false _ d.0;
      alone = f.0;
      current = eqb-true q.before (current_of st q.id) (not-false _ g.0);
      room = eqb-false (units st.log + length before) max_units h.0;
      running = eqb-false st.clock.0 max_word k.0;
    }

-- ---- prove: 16, 17, 26

pub record ProvePassed (st : State) (nonce : List ℕ) (id : CounterId) (len room : ℕ) : Type 0 where
  pub named : id.0 ≡ 0 → ⊥
  pub long : length nonce ≡ nonce_len
  pub held : holds st.records id ≡ true
  pub fits : len ≤ room

pub prove-passed : (st : State) (nonce : List ℕ) (id : CounterId) (len room : ℕ) → prove_refusal st nonce id len room ≡ 0 → ProvePassed st nonce id len room
prove-passed st nonce id len room e =
    let a = refusal-passed _ 16 _ refl e in
    let b = refusal-passed _ 17 _ refl a.1 in
    let d = refusal-passed _ 26 _ refl b.1 in
    record {
      named = eqb-false id.0 0 (neither _ _ a.0).0;
      long = eqb-true (length nonce) nonce_len (not-false _ (neither (eqb id.0 0) _ a.0).1);
      held = not-false _ b.0;
      fits = ltb-false room len d.0;
    }

-- ---- last: 16, 17, 23, 26

pub record LastPassed (st : State) (id : CounterId) (t : GlobalClock) (len room : ℕ) : Type 0 where
  pub named : id.0 ≡ 0 → ⊥
  pub held : holds st.records id ≡ true
  pub has : has_entry id t (entries_of st id) ≡ true
  pub fits : len ≤ room

pub last-passed : (st : State) (id : CounterId) (t : GlobalClock) (len room : ℕ) → last_refusal st id t len room ≡ 0 → LastPassed st id t len room
last-passed st id t len room e =
    let a = refusal-passed _ 16 _ refl e in
    let b = refusal-passed _ 17 _ refl a.1 in
    let d = refusal-passed _ 23 _ refl b.1 in
    let f = refusal-passed _ 26 _ refl d.1 in
    record {
      named = eqb-false id.0 0 a.0;
      held = not-false _ b.0;
      has = not-false _ d.0;
      fits = ltb-false room len f.0;
    }

-- ---- confirm: 15, 16, 17, 20, 21

pub record ConfirmPassed (st : State) (c : Confirmation) (verdict : ℕ) : Type 0 where
  pub agreed : verdict ≡ 1
  pub named : c.id.0 ≡ 0 → ⊥
  pub low : c.value ≤ c.reading.0
  pub held : holds st.records c.id ≡ true
  pub later : (held_of st c.id).reading.0 ≤ c.reading.0
  pub past : c.reading.0 ≤ st.clock.0
  pub value : c.value ≡ logged_value st c.id c.reading

pub confirm-passed : (st : State) (c : Confirmation) (verdict : ℕ) → confirm_refusal st c verdict ≡ 0 → ConfirmPassed st c verdict
confirm-passed st c verdict e =
    let a = refusal-passed _ 15 _ refl e in
    let b = refusal-passed _ 16 _ refl a.1 in
    let d = refusal-passed _ 17 _ refl b.1 in
    let f = refusal-passed _ 20 _ refl d.1 in
    let g = refusal-passed _ 21 _ refl f.1 in
    record {
      agreed = eqb-true verdict 1 (not-false _ a.0);
      named = eqb-false c.id.0 0 (neither _ _ b.0).0;
      low = ltb-false c.reading.0 c.value (neither (eqb c.id.0 0) _ b.0).1;
      held = not-false _ d.0;
      later = ltb-false c.reading.0 (held_of st c.id).reading.0 f.0;
      past = ltb-false st.clock.0 c.reading.0 (neither _ _ g.0).0;
      value = eqb-true c.value (logged_value st c.id c.reading) (not-false _ (neither (ltb st.clock.0 c.reading.0) _ g.0).1);
    }

-- ---- close: 15, 16, 17, 21, 22

pub record ClosePassed (st : State) (c : Confirmation) (verdict : ℕ) : Type 0 where
  pub agreed : verdict ≡ 1
  pub named : c.id.0 ≡ 0 → ⊥
  pub low : c.value ≤ c.reading.0
  pub held : holds st.records c.id ≡ true
  pub now : c.reading.0 ≡ st.clock.0
  pub current : c.value ≡ current_of st c.id

pub close_passed : (st : State) (c : Confirmation) (verdict : ℕ) → close_refusal st c verdict ≡ 0 → ClosePassed st c verdict
close_passed st c verdict e =
    let a = refusal-passed _ 15 _ refl e in
    let b = refusal-passed _ 16 _ refl a.1 in
    let d = refusal-passed _ 17 _ refl b.1 in
    let f = refusal-passed _ 21 _ refl d.1 in
    let g = refusal-passed _ 22 _ refl f.1 in
    record {
      agreed = eqb-true verdict 1 (not-false _ a.0);
      named = eqb-false c.id.0 0 (neither _ _ b.0).0;
      low = ltb-false c.reading.0 c.value (neither (eqb c.id.0 0) _ b.0).1;
      held = not-false _ d.0;
      now = eqb-true c.reading.0 st.clock.0 (not-false _ f.0);
      current = eqb-true c.value (current_of st c.id) (not-false _ g.0);
    }
