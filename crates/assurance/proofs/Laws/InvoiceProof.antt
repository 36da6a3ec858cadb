-- The figure in a counter's record is the number of proofs written for it since its opening: the claim of Invoice.antt, proved call by call. What a
-- call makes of a figure is said of the states before and after it. Assumes nothing.
use Rattle.std.specs.Prelude.{ℕ, ◌+◌, ◌^◌, ◌<◌, min, ◌≡◌, Bool, true, false, cond, ◌||◌, eqb, length, refl, List, [], ◌∷◌}
use Rattle.std.proofs.Common.{sym, ap, subst, ◌∙◌, true≢false, arith, eqb-true}
use Rattle.std.proofs.lemmas.Bool.{false≢true, eqb-false}
use Rattle.std.proofs.Math.Bool.{or-false}
use Rattle.forms.specs.Bytes.{Bytes}
use Rattle.forms.specs.Limits.{max_word, image_len}
use Rattle.forms.specs.Record.{taken}
use Rattle.forms.specs.Terms.{global_clock, same_id}
use Rattle.forms.specs.Laws.TermsLaws.{same_id_lem}
use Rattle.forms.specs.declared.confirmation.Confirmation.{Confirmation}
use Rattle.forms.specs.declared.request.Request.{Request}
use Rattle.forms.specs.declared.terms.CounterId.{CounterId}
use Rattle.forms.specs.declared.terms.GlobalClock.{GlobalClock}
use Rattle.log_image.specs.Laws.ImageRoundTrip.{decode-encode, sound-decode}
use Rattle.log_image.specs.Sound.{holds, distinct, record_of}
use Rattle.log_image.specs.State.{Record, State, decode}
use Rattle.log_store.proofs.Laws.EachRecordLaws.{Keeps, held_keeps, raise-keeps, confirmation-keeps, holds-updated, holds-snoc}
use Rattle.log_store.specs.Effect.{updated, proved, raised_to, raised_by, confirmed_by, opened, raised, incremented, advanced}
use Rattle.log_store.proofs.Laws.RecordOfLaws.{record-updated, record-before, record-behind, holds-taken, holds-left, record-left}
use Rattle.host.proofs.Laws.DoneLaws.{settled-passed, value-given}
use Rattle.host.specs.Host.{Settled, ticked, none_held, counted, closed_state, answered, settled, start_call, increment_call, read_call, open_refusal, tick_refusal, batch_refusal, asked, judged_batch, prove_refusal, last_refusal, confirm_refusal, close_refusal}
use Rattle.host.proofs.Laws.RefusalLaws.{open-passed, close_passed}
use Rattle.host.proofs.Laws.SettledLaws.{settled-refused, settled-done}
use Rattle.host.proofs.Laws.SoundParts.{sound-parts}
use Rattle.host.specs.declared.answer.Figures.{Figures}
use Rattle.assurance.specs.HostList.{HostCall, settled_by, Widths}
use Rattle.assurance.proofs.Laws.HostSteps.{Kept, Steady, start-says, start-steps, open-steady, tick-steady, batch-steady, counted-steady, confirm-steady, close-steady, call-steps}
use Rattle.assurance.specs.Invoice.{counted_by, counted_after, is_for, Invoiced, Counts, InvoiceClaim}

-- ---- a figure from one state to the next

-- the figure in a state
abbrev Figure : CounterId → ℕ → List Record → Type 0
Figure id n rs = holds rs id ≡ true → (record_of rs id).proofs ≡ min n max_word

-- held or not held as before, with the figure as before
abbrev Same : CounterId → List Record → List Record → Type 0
Same id before rs = (holds rs id ≡ holds before id) × (holds before id ≡ true → (record_of rs id).proofs ≡ (record_of before id).proofs)

same-figure : (id : CounterId) (n : ℕ) (before rs : List Record) → Same id before rs → Figure id n before → Figure id n rs
same-figure id n before rs same figure held = let was = sym same.0 ∙ held in same.1 was ∙ figure was

-- a record rewritten whose figure stays
updated-same : (id own : CounterId) (change : Record → Record) → Keeps own change → ((r : Record) → (change r).proofs ≡ r.proofs) → (rs : List Record)
    → Same id rs (updated rs own change)
updated-same id own change keeps figure rs = (holds-updated own change keeps rs id, λ held. ap (λ (r : Record). r.proofs) (record-updated own change keeps rs id held) ∙ go (same_id own id))
  where
    go : (b : Bool) → (cond b (change (record_of rs id)) (record_of rs id)).proofs ≡ (record_of rs id).proofs
    go true = figure (record_of rs id)
    go false = refl

-- the records of the counters that some requests raise
raised-same : (id : CounterId) (reading : GlobalClock) (qs : List Request) (rs : List Record) → Same id rs (raised_by qs reading rs)
unfolding raised_by
raised-same id reading [] rs = (refl, λ held. refl)
raised-same id reading (q ∷ qs) rs =
    let first = updated-same id q.id (raised_to reading) (held_keeps q.id (raised_to reading) (raise-keeps reading)) (λ r. refl) rs in
    let others = raised-same id reading qs (updated rs q.id (raised_to reading)) in
    (others.0 ∙ first.0, λ held. others.1 (first.0 ∙ held) ∙ first.1 held)

-- ---- the states of a call that is not refused

module _ (id : CounterId) (n : ℕ) where
  -- what is said of the records before and after it, by whether it is for the counter, and by how many proofs are counted then
  abbrev Told : Bool → ℕ → List Record → List Record → Type 0
  Told own m before rs = Figure id m rs × (own ≡ false → Same id before rs)

  -- one after which every figure stays
  stays : (own : Bool) (before rs : List Record) → Same id before rs → Figure id n before → Told own n before rs
  stays own before rs same figure = (same-figure id n before rs same figure, λ other. same)

  -- one that is told by whether it is for the counter
  told : (own : Bool) (m : ℕ) (before rs : List Record) → (own ≡ true → Figure id m rs) → (own ≡ false → Same id before rs) → Figure id n before
      → Told own (cond own m n) before rs
  told true m before rs mine others figure = (mine refl, λ other. absurd (true≢false other))
  told false m before rs mine others figure = (same-figure id n before rs (others refl) figure, others)

  -- a record behind the others begins with no proof counted
  open_told : (st : State) (c : Confirmation) → holds st.records c.id ≡ false → Figure id n st.records
      → Told (same_id c.id id) (cond (same_id c.id id) 0 n) st.records (opened st c).records
  open_told st c unheld =
      told (same_id c.id id) 0 st.records (opened st c).records
      (λ own held. ap (λ (r : Record). r.proofs) (record-behind st.records (taken c) id (ap (holds st.records) (sym (same_id_lem c.id id own)) ∙ unheld) own))
      (λ other. (
        holds-snoc st.records (taken c) id ∙ ap (λ (b : Bool). holds st.records id || b) other ∙ or-false (holds st.records id),
        λ held. ap (λ (r : Record). r.proofs) (record-before st.records (taken c) id held),
      ))

  -- one proof more in the counter's own record
  counted-told : (st : State) (own : CounterId) → Figure id n st.records
      → Told (same_id own id) (cond (same_id own id) (n + 1) n) st.records (counted st own).records
  counted-told st own figure = told (same_id own id) (n + 1) rs (updated rs own proved) mine others figure
    where
      rs : List Record
      rs = st.records

      keeps : Keeps own proved
      keeps = held_keeps own proved (λ r. refl)

      after : (b : Bool) → same_id own id ≡ b → holds rs id ≡ true → record_of (updated rs own proved) id ≡ cond b (proved (record_of rs id)) (record_of rs id)
      after b e held = record-updated own proved keeps rs id held ∙ ap (λ (x : Bool). cond x (proved (record_of rs id)) (record_of rs id)) e

      mine : same_id own id ≡ true → Figure id (n + 1) (updated rs own proved)
      mine e held =
          let was = sym (holds-updated own proved keeps rs id) ∙ held in
          let old = figure was in
          ap (λ (r : Record). r.proofs) (after true e was) ∙ omega (arith, old)

      others : same_id own id ≡ false → Same id rs (updated rs own proved)
      others e = (holds-updated own proved keeps rs id, λ held. ap (λ (r : Record). r.proofs) (after false e held))

  -- the clock alone, or an entry too
  tick-same : (st : State) → Same id st.records (ticked st).records
  tick-same st = go (none_held st)
    where
      go : (b : Bool) → Same id st.records (cond b (advanced st) (raised st [])).records
      go true = (refl, λ held. refl)
      go false = (refl, λ held. refl)

  -- a record taken out
  close-told : (st : State) (own : CounterId) → distinct st.records ≡ true → Figure id n st.records
      → Told (same_id own id) n st.records (closed_state st own).records
  close-told st own differ figure = go (same_id own id) refl
    where
      go : (b : Bool) → same_id own id ≡ b → Told b n st.records (closed_state st own).records
      go true e = (
        λ held. absurd (false≢true (sym (ap (holds (closed_state st own).records) (sym (same_id_lem own id e)) ∙ holds-taken own st.records differ) ∙ held)),
        λ other. absurd (true≢false other),
      )
      go false e = stays false st.records (closed_state st own).records
          (holds-left own id e st.records, λ held. ap (λ (r : Record). r.proofs) (record-left own id e st.records)) figure

-- ---- start leaves no counter held

start-records : (s : List ℕ) (clock : GlobalClock) → length s ≡ image_len → clock.0 < 2 ^ 32 → (decode (start_call s clock).image).records ≡ []
start-records s clock long small = ap (λ (st : State). st.records) (start-says s clock long small)

none-figure : (id : CounterId) (m : ℕ) (rs : List Record) → rs ≡ [] → Figure id m rs
unfolding holds
none-figure id m rs none held = absurd (false≢true (sym (ap (λ (l : List Record). holds l id) none) ∙ held))

-- ---- every call

module _ (id : CounterId) (n : ℕ) (s : List ℕ) (kept : Kept s) (figure : Figure id n (decode s).records) where
  -- what is said of what a call leaves, refused or not
  abbrev After : Bool → ℕ → Settled → Type 0
  After own m r =
      Figure id (cond (eqb r.figures.number 0) m n) (decode r.image).records × (own ≡ false → Same id (decode s).records (decode r.image).records)

  -- a refusal leaves the image, and success leaves that of the next state
  settled-after : (own : Bool) (m number value : ℕ) (next : State) → (number ≡ 0 → Steady next) → (number ≡ 0 → Told id n own m (decode s).records next.records)
      → After own m (settled s number value next)
  settled-after own m number value next steady told = go (eqb number 0) refl
    where
      go : (b : Bool) → eqb number 0 ≡ b → After own m (settled s number value next)
      go true is =
          let none : number ≡ 0 = eqb-true number 0 is in
          subst (After own m) (sym (settled-done s number value next kept.is-sound none))
          (subst (λ (st : State). Told id n own m (decode s).records st.records) (sym (decode-encode next (steady none).1)) (told none))
      go false is =
          subst (After own m) (sym (settled-refused s number value next kept.is-sound (eqb-false number 0 is)))
          (subst (λ (b : Bool). Figure id (cond b m n) (decode s).records) (sym is) figure, λ other. (refl, λ held. refl))

  -- the same of one whose next state has every figure
  settled-stays : (own : Bool) (number value : ℕ) (next : State) → (number ≡ 0 → Steady next) → (number ≡ 0 → Same id (decode s).records next.records)
      → After own n (settled s number value next)
  settled-stays own number value next steady same =
      settled-after own n number value next steady (λ none. stays id n own (decode s).records next.records (same none) figure)

  -- a call that leaves the image: read, and a batch of which no request passes
  left_after : (own : Bool) (f : Figures) → After own n (record { figures = f; image = s })
  left_after own f = (go (eqb f.number 0), λ other. (refl, λ held. refl))
    where
      go : (b : Bool) → Figure id (cond b n n) (decode s).records
      go true = figure
      go false = figure

  -- a batch
  increment-after : (requests verdicts : List ℕ) → Bytes requests → After false n (increment_call s requests verdicts)
  unfolding increment_call
  increment-after requests verdicts bytes = go (eqb (length qs) 0) refl
    where
      qs : List Request
      qs = (judged_batch (decode s) (asked requests verdicts)).passed

      number : ℕ
      number = batch_refusal requests verdicts

      go : (b : Bool) → eqb (length qs) 0 ≡ b
          → After false n (cond {A = Settled} b (record { figures = answered s number 0; image = s }) (settled s number ((decode s).clock.0 + 1) (incremented (decode s) qs)))
      go true is = left_after false (answered s number 0)
      go false is =
          settled-stays false number ((decode s).clock.0 + 1) (incremented (decode s) qs)
          (batch-steady s kept requests verdicts bytes (eqb-false (length qs) 0 is))
          (λ none. raised-same id (global_clock ((decode s).clock.0 + 1)) qs (decode s).records)

  call-after : (c : HostCall) → Widths c → After (is_for c id) (counted_by id n c) (settled_by s c)
  call-after (HostCall.start clock) widths = (none-figure id _ _ (start-records s clock kept.long widths), λ other. absurd (true≢false other))
  call-after (HostCall.«open» c verdict) widths =
      settled-after _ _ (open_refusal (decode s) c verdict) _ _ (open-steady s kept c verdict widths)
      (λ none. open_told id n (decode s) c (open-passed (decode s) c verdict none).unheld figure)
  call-after (HostCall.tick nonce) widths =
      settled-stays _ (tick_refusal (decode s) nonce) _ _ (tick-steady s kept nonce) (λ none. tick-same id n (decode s))
  call-after (HostCall.increment requests verdicts) widths = increment-after requests verdicts widths
  call-after (HostCall.read own) widths = left_after (same_id own id) (record { number = (read_call s own).number; value = (read_call s own).value })
  call-after (HostCall.prove nonce own output) widths =
      settled-after _ _ (prove_refusal (decode s) nonce own _ (length output)) _ _ (λ none. counted-steady s kept own) (λ none. counted-told id n (decode s) own figure)
  call-after (HostCall.last own t output) widths =
      settled-after _ _ (last_refusal (decode s) own t _ (length output)) _ _ (λ none. counted-steady s kept own) (λ none. counted-told id n (decode s) own figure)
  call-after (HostCall.confirm c verdict) widths =
      settled-stays _ (confirm_refusal (decode s) c verdict) _ _ (confirm-steady s kept c verdict widths)
      (λ none. updated-same id c.id (confirmed_by c) (confirmation-keeps c) (λ r. refl) (decode s).records)
  call-after (HostCall.close c verdict) widths =
      settled-after _ _ (close_refusal (decode s) c verdict) _ _ (close-steady s kept c verdict)
      (λ none. close-told id n (decode s) c.id (sound-parts (decode s) (sound-decode s kept.is-sound)).differ figure)

  -- the close of the counter answers with its figure
  close-invoiced : (c : Confirmation) (verdict : ℕ) → Invoiced id n s (HostCall.close c verdict)
  close-invoiced c verdict own done =
      let st : State = decode s in
      let number = close_refusal st c verdict in
      let value = (record_of st.records c.id).proofs in
      let next = closed_state st c.id in
      let same = same_id_lem c.id id own in
      let held = (close_passed st c verdict (settled-passed s number value next done).1).held in
      value-given s number value next done
      ∙ ap (λ (x : CounterId). (record_of st.records x).proofs) same
      ∙ figure (ap (holds st.records) (sym same) ∙ held)

  call-invoiced : (c : HostCall) → Invoiced id n s c
  call-invoiced (HostCall.close c verdict) = close-invoiced c verdict
  call-invoiced (HostCall.prove nonce own output) = tt
  call-invoiced (HostCall.last own t output) = tt
  call-invoiced (HostCall.«open» c verdict) = tt
  call-invoiced (HostCall.start clock) = tt
  call-invoiced (HostCall.tick nonce) = tt
  call-invoiced (HostCall.increment requests verdicts) = tt
  call-invoiced (HostCall.read own) = tt
  call-invoiced (HostCall.confirm c verdict) = tt

-- ---- the list

kept-counts : (id : CounterId) (n : ℕ) (s : List ℕ) (cs : List HostCall) → Kept s → Figure id n (decode s).records → Counts id n s cs
unfolding Counts
kept-counts id n s [] kept figure = figure
kept-counts id n s (c ∷ cs) kept figure = (
  figure,
  λ widths.
      let after = call-after id n s kept figure c widths in
      (after.1, call-invoiced id n s kept figure c, kept-counts id (counted_after id n s c) (settled_by s c).image cs (call-steps s kept c widths).kept after.0),
)

-- what the invoice rests on
pub invoice-claim : InvoiceClaim
invoice-claim buffer clock cs id long small =
    kept-counts id 0 (start_call buffer clock).image cs (start-steps buffer clock long small).kept
    (none-figure id 0 _ (start-records buffer clock long small))
