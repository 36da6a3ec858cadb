-- A confirmation that tells the value which a history gives its counter; a later one that the host takes for its counter tells it too, whatever a desk
-- said of it: the entries between the two are the history's. Assumes nothing.
use Rattle.std.specs.Prelude.{ℕ, ◌+◌, ◌-◌, ◌^◌, ◌≤◌, ◌<◌, ◌≡◌, refl, Bool, true, false, not, cond, ◌&&◌, ◌||◌, eqb, List, [], ◌∷◌, ◌++◌, length, take}
use Rattle.std.proofs.Common.{◌∙◌, arith, eqb-true, sym, ap, subst, length-take}
use Rattle.std.proofs.lemmas.Bool.{false≢true, not-true}
use Rattle.forms.specs.Chain.{running_after, value_after}
use Rattle.forms.specs.Laws.ChainLaws.{value-cons, value_step, step-own, step_other}
use Rattle.forms.specs.Entry.{Entry}
use Rattle.forms.specs.Request.{names, nonce_of, before_of, names_twice}
use Rattle.forms.specs.Terms.{counter_id, global_clock, same_id}
use Rattle.forms.specs.Laws.TermsLaws.{same_id_lem}
use Rattle.forms.specs.Laws.TestsLaws.{both}
use Rattle.forms.specs.declared.confirmation.Confirmation.{Confirmation}
use Rattle.forms.specs.declared.request.Request.{Request}
use Rattle.forms.specs.declared.terms.CounterId.{CounterId}
use Rattle.forms.specs.declared.terms.GlobalClock.{GlobalClock}
use Rattle.digest.specs.Seal.{is_sealed}
use Rattle.history.specs.History.{HistoryEvent, list, read, clock_after, made}
use Rattle.history.proofs.Laws.HistoryLaws.{clock-never-falls}
use Rattle.history.proofs.Laws.ReadLaws.{read-keeps-clock, read-keeps-value}
use Rattle.history.specs.Value.{Signatures, counts, value_at}
use Rattle.history.proofs.Laws.ValueLaws.{signed-once, made-counts, value_at-stays, value_at-walks-on}
use Rattle.history.specs.Laws.Walk.{pass, clock_walk}
use Rattle.log_image.specs.Sound.{base, after, consecutive, proper, all_proper, holds, sound_state}
use Rattle.log_image.specs.Laws.ImageRoundTrip.{StateFits}
use Rattle.log_image.specs.State.{State}
use Rattle.log_store.proofs.Laws.EachRecordLaws.{Each, each-drop, each_take}
use Rattle.host.proofs.Laws.HeldLaws.{held-within, entries-consecutive}
use Rattle.host.specs.Host.{held_of, entries_of, logged_value}
use Rattle.host.proofs.Laws.LogEndsLaws.{proper-drop}
use Rattle.host.proofs.Laws.SoundParts.{sound-parts}
use Rattle.assurance.specs.DeskList.{Item, request_of, Opening}
use Rattle.assurance.proofs.Laws.HostProofs.{consecutive-take, entries-count}
use Rattle.assurance.proofs.Laws.ServerLaws.{Certified}
use Rattle.assurance.specs.ServerList.{AllSigned, Tells}
use Rattle.assurance.proofs.Laws.ValuedLaws.{valued_same}

-- the counter's request among signed ones is signed
pub among-signed : (signed : Signatures) (id : CounterId) (qs : List Request) → AllSigned signed qs → names id qs ≡ true
    → signed (record { nonce = nonce_of id qs; id = id; before = before_of id qs }) ≡ true
unfolding names nonce_of before_of
among-signed signed id [] all named = absurd (false≢true named)
among-signed signed id (q ∷ qs) all named = go (same_id q.id id) refl named (among-signed signed id qs all.1)
  where
    go : (own : Bool) → same_id q.id id ≡ own → (own || names id qs) ≡ true
        → (names id qs ≡ true → signed (record { nonce = nonce_of id qs; id = id; before = before_of id qs }) ≡ true)
        → signed (record { nonce = cond own q.nonce (nonce_of id qs); id = id; before = cond own q.before (before_of id qs) }) ≡ true
    go true own here others = ap (λ (i : CounterId). signed (record { nonce = q.nonce; id = i; before = q.before })) (sym (same_id_lem q.id id own)) ∙ all.0
    go false own here others = others here

-- ---- entries along the clock

-- the value along consecutive entries is the walk over their readings, where a reading counts exactly if its entry names the counter
entries-walk : (counting : GlobalClock → Bool) (id : CounterId) (g value : ℕ) (es : List Entry) → consecutive g es ≡ true
    → Each (λ e. counting e.reading ≡ names id e.requests) es → value_after id value es ≡ clock_walk (pass counting) value (global_clock g) (length es)
unfolding consecutive clock_walk value_after running_after
entries-walk counting id g value [] steps each = refl
entries-walk counting id g value (e ∷ es) steps (Each.more here others) =
    let parts = both (eqb e.reading.0 (g + 1)) (consecutive (g + 1) es) steps in
    let at : e.reading ≡ global_clock (g + 1) = ap global_clock (eqb-true e.reading.0 (g + 1) parts.0) in
    let stepped : value_step id value e ≡ pass counting value (global_clock (g + 1)) =
    one (names id e.requests) refl ∙ ap (λ (b : Bool). cond b e.reading.0 value) (sym here) ∙ ap (λ (t : GlobalClock). pass counting value t) at in
    value-cons id value e es
    ∙ ap (λ (v : ℕ). value_after id v es) stepped
    ∙ entries-walk counting id (g + 1) (pass counting value (global_clock (g + 1))) es parts.1 others
  where
    one : (b : Bool) → names id e.requests ≡ b → value_step id value e ≡ cond (names id e.requests) e.reading.0 value
    one true named = step-own id value e named ∙ sym (ap (λ (c : Bool). cond c e.reading.0 value) named)
    one false named = step_other id value e named ∙ sym (ap (λ (c : Bool). cond c e.reading.0 value) named)

module _ (first : GlobalClock) (signed : Signatures) (D : List Item) where
  -- the history counts a certified entry's reading for a counter exactly if the entry names it
  certified-counts : (h : List HistoryEvent) (id : CounterId) (e : Entry) → proper e ≡ true → Certified first signed h e
      → counts signed id first h e.reading ≡ names id e.requests
  certified-counts h id e is-proper c =
      let parts = both (is_sealed e) (not (names_twice e.requests) && not (names (counter_id 0) e.requests)) is-proper in
      let once = not-true (names_twice e.requests) (both (not (names_twice e.requests)) (not (names (counter_id 0) e.requests)) parts.1).0 in
      made-counts signed id first h e.reading (made (list e.requests c.carried.0)) c.carried.1
      ∙ signed-once signed id e.requests once
      ∙ all (names id e.requests) refl
    where
      all : (b : Bool) → names id e.requests ≡ b → (b && signed (request_of id e)) ≡ b
      all true named = among-signed signed id e.requests c.all-signed named
      all false named = refl

  each_counts : (h : List HistoryEvent) (id : CounterId) (es : List Entry) → all_proper es ≡ true → Each (Certified first signed h) es
      → Each (λ e. counts signed id first h e.reading ≡ names id e.requests) es
  unfolding all_proper
  each_counts h id [] are Each.done = Each.done
  each_counts h id (e ∷ es) are (Each.more c cs) =
      let parts = both (proper e) (all_proper es) are in
      Each.more (certified-counts h id e parts.0 c) (each_counts h id es parts.1 cs)

  -- ---- a history that grows

  pub tells-stays : (h fs : List HistoryEvent) (k : Confirmation) → Tells first signed D h k → Tells first signed D (h ++ fs) k
  tells-stays h fs k (past, valued) = (
    omega (arith, past, clock-never-falls first h fs),
    valued_same first signed D h (h ++ fs) k.id k.reading k.value
        (λ opened. sym (value_at-stays signed k.id first h opened fs k.reading past)) valued,
  )

  -- without its end, where the clock had come to the reading
  pub tells-before : (h fs : List HistoryEvent) (k : Confirmation) → k.reading.0 ≤ (clock_after first h).0 → Tells first signed D (h ++ fs) k
      → Tells first signed D h k
  tells-before h fs k reached (past, valued) = (
    reached,
    valued_same first signed D (h ++ fs) h k.id k.reading k.value
        (λ opened. value_at-stays signed k.id first h opened fs k.reading reached) valued,
  )

  -- with a clock read among its events
  pub tells-read : (h fs : List HistoryEvent) (nonce : List ℕ) (k : Confirmation) → Tells first signed D (h ++ fs) k
      → Tells first signed D ((h ++ (read nonce ∷ [])) ++ fs) k
  tells-read h fs nonce k (past, valued) = (
    subst (λ (t : GlobalClock). k.reading.0 ≤ t.0) (sym (read-keeps-clock first h fs nonce)) past,
    valued_same first signed D (h ++ fs) ((h ++ (read nonce ∷ [])) ++ fs) k.id k.reading k.value
        (λ opened. sym (read-keeps-value first h fs nonce signed k.id opened k.reading)) valued,
  )

  -- ---- a confirmation that the host takes

  -- one with the value that the host has for its counter at its reading
  pub confirm-tells : (h : List HistoryEvent) (st : State) (k : Confirmation) → sound_state st ≡ true → StateFits st → k.id.0 < 2 ^ 32
      → holds st.records k.id ≡ true → st.clock ≡ clock_after first h → Each (Certified first signed h) st.log
      → (held_of st k.id).reading.0 ≤ k.reading.0 → k.reading.0 ≤ st.clock.0 → k.value ≡ logged_value st k.id k.reading
      → Tells first signed D h (held_of st k.id) → Tells first signed D h k
  unfolding after
  confirm-tells h st k sound fits small held clock log later past value tells =
      let id = k.id in
      let c = held_of st id in
      let v = tells.1 in
      let n = k.reading.0 - c.reading.0 in
      let es = take n (entries_of st id) in
      let parts = sound-parts st sound in
      let own : c.id ≡ id = (held-within st id parts held).own in
      let counting = counts signed id first h in
      let count : length es ≡ n = length-take n (entries_of st id) ∙ (omega (arith, entries-count st id sound fits small held)) in
      let each : Each (λ e. counts signed id first h e.reading ≡ names id e.requests) es =
      each_take n (each_counts h id (entries_of st id) (proper-drop (c.reading.0 - base st) st.log parts.proper)
      (each-drop (c.reading.0 - base st) log)) in
      let walked : logged_value st id k.reading ≡ clock_walk (pass counting) c.value c.reading n =
      entries-walk counting id c.reading.0 c.value es (consecutive-take c.reading.0 (entries_of st id) n (entries-consecutive st id parts held)) each
      ∙ ap (clock_walk (pass counting) c.value c.reading) count in
      let told : c.value ≡ value_at signed id first h v.opening.reading c.reading =
      v.given ∙ ap (λ (i : CounterId). value_at signed i first h v.opening.reading c.reading) own in
      let reach : global_clock (c.reading.0 + n) ≡ k.reading = ap global_clock (omega arith) in (
        subst (λ (t : GlobalClock). k.reading.0 ≤ t.0) clock past,
        record {
          place = v.place;
          opening = v.opening;
          opens = subst (λ (i : CounterId). Opening D i v.place v.opening) own v.opens;
          within = omega (arith, v.within);
          given =
              value ∙ walked
              ∙ ap (λ (w : ℕ). clock_walk (pass counting) w c.reading n) told
              ∙ sym (value_at-walks-on signed id first h v.opening.reading c.reading n v.within)
              ∙ ap (value_at signed id first h v.opening.reading) reach;
        },
      )
