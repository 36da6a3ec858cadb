-- The confirmation of a tablet's act is taken: on a sound state the host refuses no confirmation of a held counter's current value at the clock, and
-- such a one the tablet makes of what the desk shows. Document 02, Note 8: "on 22 it proves, has the desk judge, confirms and adopts the value. On 24
-- it proves and confirms only". Assumes nothing.
use Rattle.std.specs.Prelude.{◌≡◌, Bool, true, false, ◌⊎◌, eqb, ltb, length, ℕ, ◌+◌, ◌-◌, ◌^◌, ◌≤◌, ◌<◌, refl, List, [], ◌∷◌, drop}
use Rattle.std.proofs.Common.{sym, ap₂, subst, ◌∙◌, inl, inr, arith, eqb-true, eq-eqb, ne_eqb, le-ltb, ap, length-drop, drop_of_length-le}
use Rattle.forms.specs.Bytes.{Bytes}
use Rattle.forms.specs.Chain.{running_after, value_after}
use Rattle.forms.specs.Entry.{Entry}
use Rattle.forms.specs.Laws.ChainLaws.{step_other, step-own, value-cons, value_step}
use Rattle.forms.specs.Laws.TestsLaws.{both}
use Rattle.forms.specs.Limits.{nonce_len}
use Rattle.forms.specs.Request.{names}
use Rattle.forms.specs.declared.confirmation.Confirmation.{Confirmation}
use Rattle.forms.specs.declared.terms.CounterId.{CounterId}
use Rattle.forms.specs.declared.terms.GlobalClock.{GlobalClock}
use Rattle.log_image.specs.Sound.{after, base, consecutive, holds, record_of}
use Rattle.log_image.specs.State.{State, decode}
use Rattle.host.specs.Host.{Settled, confirm_refusal, current_of, entries_of, held_of, prove_call, logged_value}
use Rattle.host.proofs.Laws.HeldLaws.{Held, entries-consecutive, held-within, later-end}
use Rattle.host.proofs.Laws.SettledLaws.{settled-done}
use Rattle.host.proofs.Laws.SoundParts.{SoundState, chain-end, sound-parts}
use Rattle.console.specs.Step.{empty_output, yes}
use Rattle.tablets.specs.Act.{Acted, Renewed, acted, following, renewed, tried}
use Rattle.tablets.specs.Rounds.{Depot, after_turns, tablet_of}
use Rattle.tablets.specs.Tablet.{for_proof, nonce_for}
use Rattle.tablets.specs.declared.tablet.Tablet.{Tablet}
use Rattle.assurance.specs.BenchList.{ConfirmClaim, Confirms, confirm_of, set_up}
use Rattle.assurance.proofs.Laws.BenchActs.{Still, acted-refused, answer-judged, answer-own, held-some, proof-accepted, renewed-belief, renewed-shows, tried-refused, written-still}
use Rattle.assurance.proofs.Laws.BenchProof.{Stocked, begun-stocked, set-up-begun, turns-stocked}
use Rattle.assurance.proofs.Laws.BenchRaise.{judged-full, nonce-bytes, nonce-long}
use Rattle.assurance.proofs.Laws.HostSteps.{Kept, kept-steady}

-- ---- a held counter's current value

-- a value not above a reading is not above the last of the entries behind it
value-past : (id : CounterId) (value reading : ℕ) (es : List Entry) → consecutive reading es ≡ true → value ≤ reading
    → value_after id value es ≤ reading + length es
unfolding consecutive value_after running_after
value-past id value reading [] steps low = omega arith
value-past id value reading (e ∷ es) steps low =
    let parts = both (eqb e.reading.0 (reading + 1)) (consecutive (reading + 1) es) steps in
    let here : e.reading.0 ≡ reading + 1 = eqb-true e.reading.0 (reading + 1) parts.0 in
    let on : value_after id (value_step id value e) es ≤ reading + 1 + length es =
    value-past id (value_step id value e) (reading + 1) es parts.1 (go here (names id e.requests) refl) in
    omega (arith, value-cons id value e es, on)
  where
    go : e.reading.0 ≡ reading + 1 → (b : Bool) → names id e.requests ≡ b → value_step id value e ≤ reading + 1
    go here true own = omega (arith, step-own id value e own, here)
    go here false other = omega (arith, step_other id value e other)

module _ (st : State) (id : CounterId) (sound : SoundState st) (held : holds st.records id ≡ true) where
  within : Held st id
  within = held-within st id sound held

  -- it is not above the clock
  current-past : current_of st id ≤ st.clock.0
  unfolding after
  current-past =
      let c : Confirmation = held_of st id in
      let k : ℕ = c.reading.0 - base st in
      let low : c.value ≤ c.reading.0 = within.low in
      let end = chain-end (base st) st.log (record_of st.records id) in
      let last = value-past c.id c.value c.reading.0 (entries_of st id) (entries-consecutive st id sound held) low in
      omega (arith, last, end, length-drop k st.log, sound.span, within.after-base, within.past)

  -- and is its value at the clock
  current-now : logged_value st id st.clock ≡ current_of st id
  unfolding after value_after running_after
  current-now =
      let none : drop (st.clock.0 - base st) st.log ≡ [] = drop_of_length-le st.log {i = st.clock.0 - base st} (omega (arith, sound.span)) in
      ap (value_after id (logged_value st id st.clock)) (sym none) ∙ later-end st id st.clock sound held within.past

  -- so that the host takes it as confirmed at the clock
  now-taken : (id.0 ≡ 0 → ⊥) → confirm_refusal st (record { id = id; value = current_of st id; reading = st.clock }) yes ≡ 0
  now-taken some =
      let c : ℕ = st.clock.0 in
      let named : eqb id.0 0 ≡ false = ne_eqb id.0 0 some in
      let low : ltb c (current_of st id) ≡ false = le-ltb c (current_of st id) current-past in
      let later : ltb c (held_of st id).reading.0 ≡ false = le-ltb c (held_of st id).reading.0 within.past in
      let past : ltb c c ≡ false = le-ltb c c (omega arith) in
      let equal : eqb (current_of st id) (logged_value st id st.clock) ≡ true = eq-eqb (current_of st id) (logged_value st id st.clock) (sym current-now) in
      simp (named, low, held, later, past, equal)

-- ---- on an image

module _ (s : List ℕ) (kept : Kept s) (id : CounterId) (id-fits : id.0 < 2 ^ 32) (held : holds (decode s).records id ≡ true)
    (nonce : List ℕ) (bytes : Bytes nonce) (long : length nonce ≡ nonce_len) where
  -- the proof that was written before leaves value and clock
  pub confirm-taken : (confirm_of s nonce id).figures.number ≡ 0
  confirm-taken =
      let image : List ℕ = (prove_call s nonce id (length empty_output)).image in
      let still : Still s image = written-still s kept id id-fits held nonce bytes long in
      let x : State = decode image in
      let passes = now-taken x id (sound-parts x (kept-steady image still.kept).0) (still.holding id ∙ held) (held-some s kept id held) in
      let same = ap₂ (λ (v : ℕ) (g : GlobalClock). confirm_refusal x (record { id = id; value = v; reading = g }) yes) (still.current id held) still.clock in
      ap (λ (r : Settled). r.figures.number) (settled-done image _ _ _ still.kept.is-sound (sym same ∙ passes))

-- ---- an act

module _ (s : List ℕ) (kept : Kept s) (round number : ℕ) (t : Tablet) (id-fits : t.id.0 < 2 ^ 32) (belief-fits : t.belief < 2 ^ 32)
    (held : holds (decode s).records t.id ≡ true) where
  abbrev nonce : List ℕ
  nonce = nonce_for for_proof round number

  abbrev Done : List ℕ → Acted → Type 0
  Done image after = Confirms image nonce t.id after

  -- what comes about, from an image and a belief that the act leaves
  confirmed : (after : Acted) → after.image ≡ (renewed s nonce t.id t.belief).image → after.tablet.belief ≡ current_of (decode s) t.id
      → Done s after
  confirmed after left believed =
      let bytes = nonce-bytes for_proof round number in
      let long = nonce-long for_proof round number in
      record {
        accepted = proof-accepted s kept t.id id-fits held nonce bytes long;
        taken = confirm-taken s kept t.id id-fits held nonce bytes long;
        left = left ∙ ap (λ (r : Renewed). r.image) (renewed-shows s kept t.id id-fits held nonce bytes long t.belief);
        believed = believed;
      }

  -- the act by its refusal: the raise leaves the image as it was
  by-refusal : {n : ℕ} → (n ≡ 0 → ⊥) → (tried round number s t).figures.number ≡ n → Done s (following (record { number = n; value = 0 }) round number s t)
      → Done (tried round number s t).image (acted round number s t)
  by-refusal some e done =
      let own = sym (answer-own s kept round number t id-fits belief-fits) ∙ e in
      let image = ap (λ (r : Settled). r.image) (tried-refused s kept round number t id-fits belief-fits (λ none. some (sym own ∙ none))) in
      subst (λ (l : List ℕ). Done l (acted round number s t)) (sym image)
      (subst (Done s) (sym (acted-refused s kept round number t id-fits belief-fits some own)) done)

  pub refused-confirms : ((tried round number s t).figures.number ≡ 22) ⊎ ((tried round number s t).figures.number ≡ 24)
      → Done (tried round number s t).image (acted round number s t)
  unfolding following
  refused-confirms (inl e) =
      by-refusal (λ none. omega arith) e
      (confirmed _ refl
      (renewed-belief s kept t.id id-fits held nonce (nonce-bytes for_proof round number) (nonce-long for_proof round number) t.belief))
  refused-confirms (inr e) =
      by-refusal (λ none. omega arith) e
      (confirmed _ refl (judged-full (answer-judged s kept round number t id-fits belief-fits) e))

-- ---- the claim

pub confirm-claim : ConfirmClaim
confirm-claim buffer clock ts long small fleet before next below answer =
    let d : Depot = set_up buffer clock ts in
    let there : Stocked ts (after_turns d before) =
    turns-stocked ts d before (begun-stocked clock ts d fleet (set-up-begun buffer clock ts long small fleet)) in
    refused-confirms (after_turns d before).image there.kept next.round next.number (tablet_of (after_turns d before) next.number)
    (there.id-fits next.number) (there.belief-fits next.number) (there.held next.number below) answer
