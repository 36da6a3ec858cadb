-- A place in a worked list of calls: the image there, and the state that it says. Each call on it is worked out on the state alone. Assumes
-- nothing.
use Rattle.std.specs.Prelude.{ℕ, ◌+◌, ◌-◌, ◌<◌, ◌≡◌, List, length, take}
use Rattle.std.proofs.Common.{sym, ap, ap₂, subst, ◌∙◌, lit<}
use Rattle.forms.specs.Bytes.{Bytes}
use Rattle.forms.specs.Laws.EntryLaws.{EntriesFit}
use Rattle.forms.specs.Confirmation.{ConfirmationFits}
use Rattle.forms.specs.Terms.{counter_id, global_clock}
use Rattle.forms.specs.declared.confirmation.Confirmation.{Confirmation}
use Rattle.forms.specs.declared.request.Request.{Request}
use Rattle.forms.specs.declared.running.Running.{Running}
use Rattle.forms.specs.declared.terms.CounterId.{CounterId}
use Rattle.forms.specs.declared.terms.GlobalClock.{GlobalClock}
use Rattle.validity.specs.Proof.{fields_len, log_offset}
use Rattle.validity.specs.declared.proof.Kind.{Kind}
use Rattle.log_image.specs.Laws.FitLaws.{start_fits, entries-fit-drop, entries-fit-take}
use Rattle.log_image.specs.Laws.ImageRoundTrip.{decode-encode, decode-fits, sound-laid-out}
use Rattle.log_image.specs.Sound.{base, after, record_of}
use Rattle.log_image.specs.State.{State, decode}
use Rattle.log_store.specs.Effect.{started, opened, incremented}
use Rattle.host.specs.Host.{Settled, held_of, entries_of, open_refusal, tick_refusal, batch_refusal, asked, judged_batch, prove_refusal, last_refusal, confirm_refusal, close_refusal, read_refusal, running_of, ticked, counted, confirmed_state, closed_state, proof_of, last_entries, last_of, prove_output, answered, settled, start_call}
use Rattle.host.proofs.Laws.RaiseLaws.{started-sound}
use Rattle.host.proofs.Laws.SettledLaws.{answered-done, settled-done}
use Rattle.host.specs.declared.answer.Figures.{Figures}
use Rattle.assurance.specs.HostList.{HostCall, settled_by, Taken, read_running, Fair}
use Rattle.worked_lists.specs.Worked.HostListWitness.{byte_nonce, blank, start-image, lens_of, log-length, batch-settled}
use Rattle.assurance.proofs.Laws.HostSteps.{Kept, Steady, steady_kept, open-steady, tick-steady, batch-steady, counted-steady, confirm-steady, close-steady}

-- an image that every call may be handed, and the state that it says
pub record IsImageOf (s : List ℕ) (st : State) : Type 0 where
  pub kept : Kept s
  pub says : decode s ≡ st

-- a call there that is not refused: what it answers, and where it leads
pub record Done (r : Settled) (value : ℕ) (next : State) : Type 0 where
  pub answers : r.figures ≡ record { number = 0; value = value }
  pub leads : IsImageOf r.image next

pub done : {s : List ℕ} {st : State} (number value : State → ℕ) (next : State → State) {to : State} → IsImageOf s st → number st ≡ 0 → Steady (next (decode s)) → next st ≡ to
    → Done (settled s (number (decode s)) (value (decode s)) (next (decode s))) (value st) to
done {s} {st} number value next {to} here none steady becomes =
    let e = settled-done s (number (decode s)) (value (decode s)) (next (decode s)) here.kept.is-sound (ap number here.says ∙ none) in
    record {
      answers = ap (λ (r : Settled). r.figures) e ∙ ap (λ (x : State). record { number = 0; value = value x }) here.says;
      leads = subst (λ (image : List ℕ). IsImageOf image to) (sym (ap (λ (r : Settled). r.image) e))
          (record { kept = steady_kept (next (decode s)) steady; says = decode-encode (next (decode s)) steady.1 ∙ ap next here.says ∙ becomes });
    }

-- its log fits
stands-fit : {s : List ℕ} {st : State} → IsImageOf s st → EntriesFit st.log
stands-fit {s} here =
    subst (λ (x : State). EntriesFit x.log) here.says (decode-fits s here.kept.bytes (sound-laid-out s here.kept.is-sound)).log

-- ---- the first place

-- the image of a start at 100
unfoldable pub begun-image : List ℕ
begun-image = (start_call blank (global_clock 100)).image

pub begun-here : IsImageOf begun-image (started (global_clock 100))
unfolding begun-image
begun-here =
    let begun : State = started (global_clock 100) in
    let fits = start_fits (global_clock 100) (lit< tt) in
    subst (λ (image : List ℕ). IsImageOf image begun) (sym start-image)
    (record { kept = steady_kept begun (started-sound (global_clock 100), fits); says = decode-encode begun fits })

-- ---- the calls of more than one list

-- a confirmation of a counter with a value that is its reading
abbrev pub signed : CounterId → ℕ → Confirmation
signed id t = record { id = id; value = t; reading = global_clock t }

pub confirmed-fits : (id t : ℕ) → id < 4294967296 → t < 4294967296 → ConfirmationFits (signed (counter_id id) t)
confirmed-fits id t small low = record { id = small; value = low; reading = low }

abbrev pub opening : CounterId → ℕ → HostCall
opening id t = HostCall.«open» (signed id t) 1

pub opens : {s : List ℕ} {st to : State} (id : CounterId) (t : ℕ) → ConfirmationFits (signed id t) → IsImageOf s st → open_refusal st (signed id t) 1 ≡ 0
    → opened st (signed id t) ≡ to → Done (settled_by s (opening id t)) (length st.records + 1) to
opens {s} {st} id t fits here none becomes =
    done (λ x. open_refusal x (signed id t) 1) (λ x. length x.records + 1) (λ x. opened x (signed id t)) here none
    (open-steady s here.kept (signed id t) 1 fits (ap (λ (x : State). open_refusal x (signed id t) 1) here.says ∙ none)) becomes

-- a batch of which some requests pass
pub raises : {s : List ℕ} {st to : State} (requests verdicts : List ℕ) (qs : List Request) → Bytes requests → IsImageOf s st → batch_refusal requests verdicts ≡ 0
    → (judged_batch st (asked requests verdicts)).passed ≡ qs → (length qs ≡ 0 → ⊥) → incremented st qs ≡ to
    → Done (settled_by s (HostCall.increment requests verdicts)) (st.clock.0 + 1) to
raises {s} {st} {to} requests verdicts qs bytes here whole pass some becomes =
    let passed = ap (λ (x : State). (judged_batch x (asked requests verdicts)).passed) here.says ∙ pass in
    let steady = subst (λ (l : List Request). Steady (incremented (decode s) l)) passed
    (batch-steady s here.kept requests verdicts bytes (λ none. some (ap length (sym passed) ∙ none)) whole) in
    subst (λ (r : Settled). Done r (st.clock.0 + 1) to) (sym (batch-settled s requests verdicts qs passed some))
    (done (λ x. batch_refusal requests verdicts) (λ x. x.clock.0 + 1) (λ x. incremented x qs) here whole steady becomes)

-- the length of a proof, from its entries'
abbrev pub prove_len : CounterId → State → ℕ
prove_len id st = log_offset Kind.Read + lens_of (entries_of st id)

pub prove-length : {s : List ℕ} {st : State} (b : ℕ) (id : CounterId) → IsImageOf s st → fields_len (proof_of st (byte_nonce b) id) ≡ prove_len id st
unfolding after
prove-length {s} {st} b id here =
    ap (λ (n : ℕ). log_offset Kind.Read + n)
    (log-length (entries_of st id) (entries-fit-drop ((held_of st id).reading.0 - base st) st.log (stands-fit here)))

pub proves : {s : List ℕ} {st to : State} (b : ℕ) (id : CounterId) (output : List ℕ) → IsImageOf s st
    → prove_refusal st (byte_nonce b) id (prove_len id st) (length output) ≡ 0 → counted st id ≡ to
    → Done (settled_by s (HostCall.prove (byte_nonce b) id output)) (prove_len id st) to
proves {s} {st} {to} b id output here none becomes =
    let len : State → ℕ = λ x. fields_len (proof_of x (byte_nonce b) id) in
    let long = prove-length b id here in
    subst (λ (n : ℕ). Done (settled_by s (HostCall.prove (byte_nonce b) id output)) n to) long
    (done (λ x. prove_refusal x (byte_nonce b) id (len x) (length output)) len (λ x. counted x id) here
    (ap (λ (n : ℕ). prove_refusal st (byte_nonce b) id n (length output)) long ∙ none) (counted-steady s here.kept id) becomes)

-- the same of a proof up to t
abbrev pub last_len : CounterId → GlobalClock → State → ℕ
last_len id t st = log_offset Kind.Increment + lens_of (last_entries st id t)

pub lasts : {s : List ℕ} {st to : State} (id : CounterId) (t : GlobalClock) (output : List ℕ) → IsImageOf s st
    → last_refusal st id t (last_len id t st) (length output) ≡ 0 → counted st id ≡ to → Done (settled_by s (HostCall.last id t output)) (last_len id t st) to
unfolding after
lasts {s} {st} {to} id t output here none becomes =
    let len : State → ℕ = λ x. fields_len (last_of x id t) in
    let log : EntriesFit st.log = stands-fit here in
    let long : len st ≡ last_len id t st = ap (λ (n : ℕ). log_offset Kind.Increment + n)
    (log-length (last_entries st id t)
    (entries-fit-take (t.0 - (held_of st id).reading.0) _ (entries-fit-drop ((held_of st id).reading.0 - base st) st.log log))) in
    subst (λ (n : ℕ). Done (settled_by s (HostCall.last id t output)) n to) long
    (done (λ x. last_refusal x id t (len x) (length output)) len (λ x. counted x id) here
    (ap (λ (n : ℕ). last_refusal st id t n (length output)) long ∙ none) (counted-steady s here.kept id) becomes)

pub ticks : {s : List ℕ} {st to : State} (b : ℕ) → IsImageOf s st → tick_refusal st (byte_nonce b) ≡ 0 → ticked st ≡ to
    → Done (settled_by s (HostCall.tick (byte_nonce b))) (st.clock.0 + 1) to
ticks {s} {st} b here none becomes =
    done (λ x. tick_refusal x (byte_nonce b)) (λ x. x.clock.0 + 1) ticked here none
    (tick-steady s here.kept (byte_nonce b) (ap (λ (x : State). tick_refusal x (byte_nonce b)) here.says ∙ none)) becomes

-- a confirmation in place of the held one
pub confirms : {s : List ℕ} {st to : State} (k : Confirmation) → ConfirmationFits k → IsImageOf s st → confirm_refusal st k 1 ≡ 0 → confirmed_state st k ≡ to
    → Done (settled_by s (HostCall.confirm k 1)) (length (confirmed_state st k).log) to
confirms {s} {st} k fits here none becomes =
    done (λ x. confirm_refusal x k 1) (λ x. length (confirmed_state x k).log) (λ x. confirmed_state x k) here none
    (confirm-steady s here.kept k 1 fits (ap (λ (x : State). confirm_refusal x k 1) here.says ∙ none)) becomes

abbrev pub closing : CounterId → ℕ → HostCall
closing id t = HostCall.close (signed id t) 1

pub closes : {s : List ℕ} {st to : State} (k : Confirmation) → IsImageOf s st → close_refusal st k 1 ≡ 0 → closed_state st k.id ≡ to
    → Done (settled_by s (HostCall.close k 1)) (record_of st.records k.id).proofs to
closes {s} {st} k here none becomes =
    done (λ x. close_refusal x k 1) (λ x. (record_of x.records k.id).proofs) (λ x. closed_state x k.id) here none
    (close-steady s here.kept k 1 (ap (λ (x : State). close_refusal x k 1) here.says ∙ none)) becomes

-- ---- what a proof shows

-- where the state is known, so is what read gives there
pub reads : {s : List ℕ} {st : State} (id : CounterId) → IsImageOf s st → read_refusal st id ≡ 0 → read_running s id ≡ running_of st id
reads {s} {st} id here none =
    let part-is : (part : Running → ℕ)
    → answered s (read_refusal (decode s) id) (part (running_of (decode s) id)) ≡ record { number = 0; value = part (running_of st id) } = λ part.
    ap (λ (x : State). answered s (read_refusal x id) (part (running_of x id))) here.says
    ∙ answered-done s (read_refusal st id) (part (running_of st id)) here.kept.is-sound none in
    ap₂ (λ (f g : Figures). record { value = f.value; openings = g.value }) (part-is (λ r. r.value)) (part-is (λ r. r.openings))

-- and all that the host's claim says of a proof
pub shows : {s : List ℕ} {st : State} {value : ℕ} {to : State} (b : ℕ) (id : CounterId) (output : List ℕ) (running : Running) → IsImageOf s st
    → Done (settled_by s (HostCall.prove (byte_nonce b) id output)) value to → Fair s (HostCall.prove (byte_nonce b) id output) → read_refusal st id ≡ 0
    → running_of st id ≡ running → Taken (take value (prove_output s (byte_nonce b) id output)) (proof_of st (byte_nonce b) id) id (byte_nonce b) running st.clock
shows {s} {st} {value} b id output running here proved fair none runs =
    let proof : ℕ → List ℕ = λ n. take n (prove_output s (byte_nonce b) id output) in
    subst (λ (x : State). Taken (proof value) (proof_of x (byte_nonce b) id) id (byte_nonce b) running x.clock) here.says
    (subst (λ (r : Running). Taken (proof value) (proof_of (decode s) (byte_nonce b) id) id (byte_nonce b) r (decode s).clock) (reads id here none ∙ runs)
    (subst (λ (n : ℕ). Taken (proof n) (proof_of (decode s) (byte_nonce b) id) id (byte_nonce b) (read_running s id) (decode s).clock)
    (ap (λ (f : Figures). f.value) proved.answers)
    (fair (ap (λ (f : Figures). f.number) proved.answers)).1))
