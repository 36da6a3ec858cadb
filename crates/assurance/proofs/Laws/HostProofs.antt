-- The proofs that an honest host sets out are accepted: from a sound state, all verdicts yes, `prove`'s shows the counter's current value and
-- openings at the clock, and `last`'s shows the t asked for and the number of the counter's entries up to it. Document 01, "The host"; the
-- host's half of demand 3, at one state. Assumes nothing.
use Rattle.std.specs.Prelude.{ℕ, zero, suc, ◌+◌, ◌-◌, ◌^◌, ◌≤◌, ◌<◌, ◌≡◌, Bool, true, false, cond, ◌&&◌, ◌||◌, List, [], ◌∷◌, ◌++◌, eqb, take, drop, refl, length}
use Rattle.desk_table.specs.Answer.{shows}
use Rattle.std.proofs.Common.{sym, ◌∙◌, true≢false, arith, length-append, take-append-drop, eqb-true, ne_eqb, ap, ap₂, zero-add, length-drop}
use Rattle.std.proofs.lemmas.Bool.{false≢true}
use Rattle.std.proofs.Math.Bool.{and-false}
use Rattle.forms.specs.Chain.{from_value, running_after, value_after, chains, own_entries}
use Rattle.forms.specs.Laws.ChainLaws.{chains-append, openings-counted, value-snoc, step-own}
use Rattle.forms.specs.Entry.{Entry, units}
use Rattle.forms.specs.Laws.EntryLaws.{EntryFits, EntriesFit, units-append}
use Rattle.forms.specs.Limits.{nonce_len}
use Rattle.forms.specs.Laws.LogLaws.{Counted}
use Rattle.forms.specs.Request.{RequestsFit, names, nonce_of}
use Rattle.forms.specs.Laws.TestsLaws.{both}
use Rattle.forms.specs.Terms.{global_clock, same_id}
use Rattle.forms.specs.declared.confirmation.Confirmation.{Confirmation}
use Rattle.forms.specs.declared.request.Request.{Request}
use Rattle.forms.specs.declared.terms.CounterId.{CounterId}
use Rattle.forms.specs.declared.terms.GlobalClock.{GlobalClock}
use Rattle.validity.specs.Proof.{proof_bytes}
use Rattle.desk_table.specs.Desk.{all_yes, verified}
use Rattle.log_image.specs.Laws.FitLaws.{entries-fit-drop, entries-fit-take, counted-drop, units-drop}
use Rattle.log_image.specs.Laws.ImageRoundTrip.{StateFits}
use Rattle.log_image.specs.State.{State}
use Rattle.log_image.specs.Sound.{holds, consecutive, base, proper, all_proper, after, ending, sound_state}
use Rattle.log_image.specs.Laws.LookupLaws.{zero-unheld}
use Rattle.host.proofs.Laws.HeldLaws.{Held, held-within, held-chains, entries-consecutive}
use Rattle.host.specs.Host.{held_of, entries_of, running_of, has_entry, request_nonce, proof_of, last_entries, last_of}
use Rattle.host.proofs.Laws.LogEndsLaws.{proper-drop}
use Rattle.host.proofs.Laws.SoundParts.{SoundState, sound-parts}
use Rattle.assurance.proofs.Laws.AcceptLaws.{SetOut, read-accepted, increment-accepted}

-- ---- some of the entries

-- the first of consecutive entries are consecutive
pub consecutive-take : (g : ℕ) (es : List Entry) (k : ℕ) → consecutive g es ≡ true → consecutive g (take k es) ≡ true
unfolding consecutive
consecutive-take g es zero steps = refl
consecutive-take g [] (suc k) steps = refl
consecutive-take g (e ∷ es) (suc k) steps =
    let parts = both (eqb e.reading.0 (g + 1)) (consecutive (g + 1) es) steps in
    ap₂ ◌&&◌ parts.0 (consecutive-take (g + 1) es k parts.1)

-- the first of proper entries are proper
proper-take : (k : ℕ) (es : List Entry) → all_proper es ≡ true → all_proper (take k es) ≡ true
unfolding all_proper
proper-take zero es are = refl
proper-take (suc k) [] are = refl
proper-take (suc k) (e ∷ es) are =
    let parts = both (proper e) (all_proper es) are in
    ap₂ ◌&&◌ parts.0 (proper-take k es parts.1)

-- the first of entries that keep the limits do so too
counted-take : (k : ℕ) (es : List Entry) → Counted es → Counted (take k es)
counted-take zero es counted = Counted.none
counted-take (suc k) [] counted = Counted.none
counted-take (suc k) (e ∷ es) (Counted.one_more low counted) = Counted.one_more low (counted-take k es counted)

units-take : (k : ℕ) (es : List Entry) → units (take k es) ≤ units es
units-take k es = omega (arith, ap units (take-append-drop k es), units-append (take k es) (drop k es))

-- the first of entries that chain do so too
pub chains-take : (id : CounterId) (value : ℕ) (es : List Entry) (k : ℕ) → chains id value es ≡ true → chains id value (take k es) ≡ true
chains-take id value es k chain =
    (both (chains id value (take k es)) (chains id (value_after id value (take k es)) (drop k es))
    (sym (chains-append id value (take k es) (drop k es)) ∙ ap (chains id value) (take-append-drop k es) ∙ chain)).0

-- a proof up to an earlier entry
pub set-out-take : (id : CounterId) (c : Confirmation) (es : List Entry) (k : ℕ) → SetOut id c es → SetOut id c (take k es)
set-out-take id c es k set_out =
    record {
      own = set_out.own;
      low = set_out.low;
      fits = set_out.fits;
      few = omega (arith, units-take k es, set_out.few);
      counted = counted-take k es set_out.counted;
      entries_fit = entries-fit-take k es set_out.entries_fit;
      all-proper = proper-take k es set_out.all-proper;
      steps = consecutive-take c.reading.0 es k set_out.steps;
      chain = chains-take id c.value es k set_out.chain;
    }

-- ---- the entry asked for

-- where the counter's entry with reading t is, among entries consecutive from g: it ends those up to t
record Found (id : CounterId) (t : GlobalClock) (g : ℕ) (es : List Entry) : Type 0 where
  front : List Entry
  last : Entry
  later : g < t.0
  cut : take (t.0 - g) es ≡ front ++ (last ∷ [])
  own : names id last.requests ≡ true
  reads : last.reading ≡ t
  asked : nonce_of id last.requests ≡ request_nonce id t es
  fits : EntryFits last

-- it is there where the host finds it
found : (id : CounterId) (t : GlobalClock) (g : ℕ) (es : List Entry) → EntriesFit es → consecutive g es ≡ true → has_entry id t es ≡ true → Found id t g es
unfolding has_entry consecutive request_nonce
found id t g [] fit steps has = absurd (false≢true has)
found id t g (e ∷ es) (EntriesFit.one_more fits more) steps has =
    let parts = both (eqb e.reading.0 (g + 1)) (consecutive (g + 1) es) steps in
    go (eqb-true e.reading.0 (g + 1) parts.0) (names id e.requests && eqb e.reading.0 t.0) refl has
    (λ among. found id t (g + 1) es more parts.1 among)
  where
    go : e.reading.0 ≡ g + 1 → (here : Bool) → (names id e.requests && eqb e.reading.0 t.0) ≡ here → (here || has_entry id t es) ≡ true
        → (has_entry id t es ≡ true → Found id t (g + 1) es) → Found id t g (e ∷ es)
    go next true is has others =
        let same = both (names id e.requests) (eqb e.reading.0 t.0) is in
        let reads : e.reading.0 ≡ t.0 = eqb-true e.reading.0 t.0 same.1 in
        let one : t.0 - g ≡ 1 = omega arith in
        record {
          front = [];
          last = e;
          later = omega arith;
          cut = ap (λ (k : ℕ). take k (e ∷ es)) one;
          own = same.0;
          reads = ap global_clock reads;
          asked = sym (ap (λ (b : Bool). cond b (nonce_of id e.requests) (request_nonce id t es)) is);
          fits = fits;
        }
    go next false is has others =
        let there = others has in
        let one-more-in : t.0 - g ≡ suc (t.0 - (g + 1)) = omega (arith, there.later) in
        record {
          front = e ∷ there.front;
          last = there.last;
          later = omega (arith, there.later);
          cut = ap (λ (k : ℕ). take k (e ∷ es)) one-more-in ∙ ap (λ (l : List Entry). e ∷ l) there.cut;
          own = there.own;
          reads = there.reads;
          asked = there.asked ∙ sym (ap (λ (b : Bool). cond b (nonce_of id e.requests) (request_nonce id t es)) is);
          fits = there.fits;
        }

-- so there are some up to t
pub found_some : (id : CounterId) (t : GlobalClock) (g : ℕ) (es : List Entry) → EntriesFit es → consecutive g es ≡ true → has_entry id t es ≡ true
    → 1 ≤ length (take (t.0 - g) es)
found_some id t g es fit steps has =
    let f = found id t g es fit steps has in
    omega (arith, ap length f.cut ∙ length-append f.front (f.last ∷ []))

-- the nonce of a request that fits has its length
nonce-long : (id : CounterId) (rs : List Request) → RequestsFit rs → names id rs ≡ true → length (nonce_of id rs) ≡ nonce_len
unfolding names nonce_of
nonce-long id [] RequestsFit.none named = absurd (false≢true named)
nonce-long id (r ∷ rs) (RequestsFit.one_more fits more) named = go (same_id r.id id) named (λ among. nonce-long id rs more among)
  where
    go : (b : Bool) → (b || names id rs) ≡ true → (names id rs ≡ true → length (nonce_of id rs) ≡ nonce_len)
        → length (cond b r.nonce (nonce_of id rs)) ≡ nonce_len
    go true is others = fits.nonce
    go false is others = others is

-- no entry up to an earlier reading is the one with reading t
request-later : (id : CounterId) (t : GlobalClock) (g : ℕ) (es : List Entry) (k : ℕ) → consecutive g es ≡ true → g + k < t.0
    → request_nonce id t (drop k es) ≡ request_nonce id t es
unfolding consecutive request_nonce
request-later id t g es zero steps less = refl
request-later id t g [] (suc k) steps less = refl
request-later id t g (e ∷ es) (suc k) steps less =
    let parts = both (eqb e.reading.0 (g + 1)) (consecutive (g + 1) es) steps in
    let next : e.reading.0 ≡ g + 1 = eqb-true e.reading.0 (g + 1) parts.0 in
    let other : (names id e.requests && eqb e.reading.0 t.0) ≡ false =
    ap (λ (b : Bool). names id e.requests && b) (ne_eqb e.reading.0 t.0 (λ same. omega arith)) ∙ and-false (names id e.requests) in
    request-later id t (g + 1) es k parts.1 (omega arith)
    ∙ sym (ap (λ (b : Bool). cond b (nonce_of id e.requests) (request_nonce id t es)) other)

-- ---- the proofs set out from a sound state

module _ (st : State) (id : CounterId) (sound : sound_state st ≡ true) (fits : StateFits st) (id-fits : id.0 < 2 ^ 32) (held : holds st.records id ≡ true) where
  parts : SoundState st
  parts = sound-parts st sound

  -- what soundness says of the counter's record
  mine : Held st id
  mine = held-within st id parts held

  -- a held counter is not 0
  counter-some : id.0 ≡ 0 → ⊥
  counter-some zero-id = true≢false (sym held ∙ zero-unheld st.records id parts.differ zero-id)

  -- how many entries stand after its held reading
  pub entries-count : st.clock.0 ≡ (held_of st id).reading.0 + length (entries_of st id)
  unfolding after
  entries-count = simp length-drop (omega (arith, mine.after-base, mine.past, parts.span))

  -- they are what a proof for the counter says
  pub entries-set-out : SetOut id (held_of st id) (entries_of st id)
  unfolding after
  entries-set-out =
      let same : (held_of st id).id.0 ≡ id.0 = ap (λ (i : CounterId). i.0) mine.own in
      record {
        own = mine.own;
        low = mine.low;
        fits = record { id = omega arith; value = omega (arith, mine.low, mine.past, fits.clock); reading = omega (arith, mine.past, fits.clock) };
        few = omega (arith, units-drop ((held_of st id).reading.0 - base st) st.log, fits.units);
        counted = counted-drop ((held_of st id).reading.0 - base st) st.log fits.counted;
        entries_fit = entries-fit-drop ((held_of st id).reading.0 - base st) st.log fits.log;
        all-proper = proper-drop ((held_of st id).reading.0 - base st) st.log parts.proper;
        steps = entries-consecutive st id parts held;
        chain = held-chains st id parts held;
      }

  -- the desk accepts what `prove` sets out, and shows the end of the counter's chain at the clock
  pub prove-accepted : (nonce : List ℕ) → length nonce ≡ nonce_len
      → verified (proof_bytes (proof_of st nonce id)) (all_yes (proof_of st nonce id)) id nonce ≡ shows (running_of st id) st.clock
  unfolding ending
  prove-accepted nonce long =
      read-accepted id nonce (held_of st id) (entries_of st id) entries-set-out (record { counter = counter-some; long = long })
      (record { reading = st.clock; nonce = nonce }) refl entries-count fits.clock
      ∙ ap (λ (i : CounterId). shows (running_after i (from_value (held_of st id).value) (entries_of st id)) st.clock) (sym mine.own)

  -- the desk accepts what `last` sets out for the nonce of the counter's request in entry t, and shows t and the number of the counter's
  -- entries up to it
  pub last-accepted : (t : GlobalClock) → has_entry id t (entries_of st id) ≡ true
      → verified (proof_bytes (last_of st id t)) (all_yes (last_of st id t)) id (request_nonce id t st.log)
      ≡ shows (record { value = t.0; openings = own_entries id (last_entries st id t) }) t
  unfolding after value_after
  last-accepted t has =
      let set_out = entries-set-out in
      let f = found id t (held_of st id).reading.0 (entries_of st id) set_out.entries_fit set_out.steps has in
      let c = held_of st id in
      let later : base st + (c.reading.0 - base st) < t.0 = omega (arith, mine.after-base, f.later) in
      let asked : nonce_of id f.last.requests ≡ request_nonce id t st.log =
      f.asked ∙ request-later id t (base st) st.log (c.reading.0 - base st) parts.steps later in
      let value : value_after id c.value (last_entries st id t) ≡ t.0 =
      ap (value_after id c.value) f.cut
      ∙ value-snoc id c.value f.front f.last
      ∙ step-own id (value_after id c.value f.front) f.last f.own
      ∙ ap (λ (g : GlobalClock). g.0) f.reads in
      increment-accepted id (request_nonce id t st.log) c (last_entries st id t)
      (set-out-take id c (entries_of st id) (t.0 - c.reading.0) set_out)
      (record { counter = counter-some; long = ap length (sym asked) ∙ nonce-long id f.last.requests f.fits.requests f.own })
      f.front f.last f.cut f.own asked
      ∙ ap₂ shows
      (ap₂ (λ (v n : ℕ). record { value = v; openings = n }) value (openings-counted id (from_value c.value) (last_entries st id t) ∙ zero-add (own_entries id (last_entries st id t))))
      f.reads
