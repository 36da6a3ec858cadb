-- Each call of the host leaves an image that is kept: bytes, sound, and of an image's length. So no call along a list finds the image
-- unsound. Document 01, "The host"; the host's half of demand 3. Assumes nothing.
use Rattle.std.specs.Prelude.{ℕ, ◌+◌, ◌-◌, ◌^◌, ◌<◌, ◌≡◌, Bool, true, false, not, cond, ◌&&◌, eqb, length, refl, List, [], ◌∷◌}
use Rattle.std.proofs.Common.{sym, ap, subst, ◌∙◌, arith, lit<, eqb-true, eq-eqb}
use Rattle.std.proofs.lemmas.Bool.{eqb-false, not-true}
use Rattle.forms.specs.Bytes.{Bytes}
use Rattle.forms.specs.Checks.{Row, first_answer}
use Rattle.forms.specs.Entry.{units}
use Rattle.forms.specs.Limits.{max_word, image_len, max_units}
use Rattle.forms.specs.Confirmation.{ConfirmationFits}
use Rattle.forms.specs.Laws.TestsLaws.{both}
use Rattle.forms.specs.Record.{taken}
use Rattle.forms.specs.Terms.{global_clock}
use Rattle.forms.specs.Request.{RequestsFit}
use Rattle.forms.specs.declared.confirmation.Confirmation.{Confirmation}
use Rattle.forms.specs.declared.request.Request.{Request}
use Rattle.forms.specs.declared.terms.CounterId.{CounterId}
use Rattle.forms.specs.declared.terms.GlobalClock.{GlobalClock}
use Rattle.validity.specs.Proof.{fields_len}
use Rattle.log_image.specs.Laws.FitLaws.{start_fits, store-clock-fits, append-record-fits, drop-entries-fits}
use Rattle.log_image.specs.Laws.ImageRoundTrip.{StateFits, length-encode, encode-bytes, encode-sound, decode-encode, decode-fits, sound-decode, sound-laid-out}
use Rattle.log_image.specs.Sound.{base, sound_state, sound}
use Rattle.log_image.specs.State.{State, decode, encode}
use Rattle.log_store.proofs.Laws.RemoveStores.{without-fits}
use Rattle.log_store.proofs.Laws.RecordStores.{replaced_state, replaced-fits}
use Rattle.log_store.specs.Effect.{started, opened, raised, incremented, advanced, with_records, without}
use Rattle.log_store.proofs.Laws.RaiseStores.{raised-fits}
use Rattle.host.proofs.Laws.CloseLaws.{closed-sound}
use Rattle.host.proofs.Laws.ConfirmLaws.{confirmed-sound}
use Rattle.host.proofs.Laws.CountLaws.{counted-sound, counted-fits}
use Rattle.host.proofs.Laws.FittingLaws.{clock-runs, entry-room, record-room}
use Rattle.host.specs.Host.{Settled, open_refusal, tick_refusal, bad_batch, batch_refusal, asked, judged_batch, confirm_refusal, close_refusal, open_rows, tick_rows, read_rows, prove_rows, last_rows, confirm_rows, close_rows, none_held, ticked, counted, confirmed_state, closed_state, answered, settled, start_call, increment_call, read_refusal, current_of, proof_of, last_of, prove_refusal, last_refusal, read_call}
use Rattle.host.proofs.Laws.BatchLaws.{batch-fits}
use Rattle.host.proofs.Laws.OpenLaws.{opened-sound}
use Rattle.host.proofs.Laws.RaiseLaws.{started-sound, incremented-sound, ticked-sound}
use Rattle.host.proofs.Laws.RefusalLaws.{open-passed, tick-passed, close_passed}
use Rattle.host.proofs.Laws.SettledLaws.{settled-refused, settled-done}
use Rattle.assurance.specs.HostList.{HostCall, settled_by, Widths}

-- ---- what is kept

-- an image that every call may be handed
pub record Kept (s : List ℕ) : Type 0 where
  pub bytes : Bytes s
  pub is-sound : sound s ≡ true
  pub long : length s ≡ image_len

-- a state whose image is such a one
abbrev pub Steady : State → Type 0
Steady st = (sound_state st ≡ true) × StateFits st

pub steady_kept : (st : State) → Steady st → Kept (encode st)
steady_kept st steady =
    record { bytes = encode-bytes st steady.1; is-sound = encode-sound st steady.1 steady.0; long = length-encode st steady.1 }

-- and the state of such an image
pub kept-steady : (s : List ℕ) → Kept s → Steady (decode s)
kept-steady s kept = (sound-decode s kept.is-sound, decode-fits s kept.bytes (sound-laid-out s kept.is-sound))

-- a call that did not find the image unsound, and that leaves one that is kept
pub record Steps (r : Settled) : Type 0 where
  pub found-sound : r.figures.number ≡ 14 → ⊥
  pub kept : Kept r.image

-- a refusal leaves the image, and success leaves that of the next state
settled-steps : (s : List ℕ) (number value : ℕ) (next : State) → Kept s → (number ≡ 14 → ⊥) → (number ≡ 0 → Steady next)
    → Steps (settled s number value next)
settled-steps s number value next kept other steady = go (eqb number 0) refl
  where
    go : (b : Bool) → eqb number 0 ≡ b → Steps (settled s number value next)
    go true is =
        let none : number ≡ 0 = eqb-true number 0 is in
        subst Steps (sym (settled-done s number value next kept.is-sound none))
        (record { found-sound = λ e. omega arith; kept = steady_kept next (steady none) })
    go false is =
        subst Steps (sym (settled-refused s number value next kept.is-sound (eqb-false number 0 is)))
        (record { found-sound = other; kept = kept })

-- ---- no refusal is 14

-- the rows of a table give other numbers
abbrev pub apart : List (Row ℕ) → Bool
apart [] = true
apart (row ∷ rows) = not (eqb row.answer 14) && apart rows

-- so that the first whose test holds does too, and 0 where there is none
pub rows_other : (rows : List (Row ℕ)) → apart rows ≡ true → first_answer rows 0 ≡ 14 → ⊥
rows_other [] others e = omega arith
rows_other (row ∷ rows) others e =
    let parts = both (not (eqb row.answer 14)) (apart rows) others in
    go row.test parts.0 (rows_other rows parts.1) e
  where
    go : (b : Bool) → not (eqb row.answer 14) ≡ true → (first_answer rows 0 ≡ 14 → ⊥) → cond b row.answer (first_answer rows 0) ≡ 14 → ⊥
    go true own rest e = eqb-false row.answer 14 (not-true (eqb row.answer 14) own) e
    go false own rest e = rest e

-- ---- start

-- on a buffer of an image's length it is not refused
pub start-settled : (s : List ℕ) (clock : GlobalClock) → length s ≡ image_len
    → start_call s clock ≡ record { figures = record { number = 0; value = clock.0 }; image = encode (started clock) }
unfolding start_call
start-settled s clock long =
    ap (λ (b : Bool). cond {A = Settled} b
    (record { figures = record { number = 0; value = clock.0 }; image = encode (started clock) })
    (record { figures = record { number = 14; value = 0 }; image = s }))
    (eq-eqb (length s) image_len long)

pub start-steps : (s : List ℕ) (clock : GlobalClock) → length s ≡ image_len → clock.0 < 2 ^ 32 → Steps (start_call s clock)
start-steps s clock long small =
    subst Steps (sym (start-settled s clock long))
    (record { found-sound = λ e. omega arith; kept = steady_kept (started clock) (started-sound clock, start_fits clock small) })

-- the image that it leaves
pub start-stores : (s : List ℕ) (clock : GlobalClock) → length s ≡ image_len → (start_call s clock).image ≡ encode (started clock)
start-stores s clock long = ap (λ (r : Settled). r.image) (start-settled s clock long)

-- it says its state
pub start-says : (s : List ℕ) (clock : GlobalClock) → length s ≡ image_len → clock.0 < 2 ^ 32 → decode (start_call s clock).image ≡ started clock
start-says s clock long small = ap decode (start-stores s clock long) ∙ decode-encode (started clock) (start_fits clock small)

-- ---- the next state of a call that is not refused

module _ (s : List ℕ) (kept : Kept s) where
  state-sound : sound_state (decode s) ≡ true
  state-sound = (kept-steady s kept).0

  state-fits : StateFits (decode s)
  state-fits = (kept-steady s kept).1

  pub open-steady : (c : Confirmation) (verdict : ℕ) → ConfirmationFits c → open_refusal (decode s) c verdict ≡ 0 → Steady (opened (decode s) c)
  open-steady c verdict fits none =
      let p = open-passed (decode s) c verdict none in
      (opened-sound (decode s) c verdict state-sound none, append-record-fits (decode s) state-fits (taken c) (record { held = fits; current = fits.value; proofs = lit< tt }) (record-room s kept.bytes kept.is-sound p.room))

  pub tick-steady : (nonce : List ℕ) → tick_refusal (decode s) nonce ≡ 0 → Steady (ticked (decode s))
  tick-steady nonce none = (ticked-sound (decode s) state-sound, go (none_held (decode s)))
    where
      running : (decode s).clock.0 < max_word
      running = clock-runs s kept.bytes kept.is-sound (tick-passed (decode s) nonce none).running

      room : units (decode s).log < max_units
      room = entry-room s kept.bytes kept.is-sound (tick-passed (decode s) nonce none).room

      go : (b : Bool) → StateFits (cond b (advanced (decode s)) (raised (decode s) []))
      go true = store-clock-fits (decode s) state-fits (global_clock ((decode s).clock.0 + 1)) (omega (arith, running))
      go false = raised-fits (decode s) [] state-fits RequestsFit.none (omega arith) running (omega (arith, room))

  -- a batch of which some request passes
  pub batch-steady : (requests verdicts : List ℕ) → Bytes requests → (length (judged_batch (decode s) (asked requests verdicts)).passed ≡ 0 → ⊥)
      → batch_refusal requests verdicts ≡ 0 → Steady (incremented (decode s) (judged_batch (decode s) (asked requests verdicts)).passed)
  batch-steady requests verdicts bytes none-not none = (
    incremented-sound (decode s) (asked requests verdicts) state-sound some,
    batch-fits (decode s) requests verdicts state-fits bytes (whole (bad_batch requests verdicts) none) some,
  )
    where
      some : 0 < length (judged_batch (decode s) (asked requests verdicts)).passed
      some = omega (arith, none-not)

      whole : (b : Bool) → cond {A = ℕ} b 16 0 ≡ 0 → b ≡ false
      whole true e = absurd (omega arith)
      whole false e = refl

  pub counted-steady : (id : CounterId) → Steady (counted (decode s) id)
  counted-steady id = (counted-sound (decode s) id state-sound, counted-fits (decode s) id state-fits)

  pub confirm-steady : (c : Confirmation) (verdict : ℕ) → ConfirmationFits c → confirm_refusal (decode s) c verdict ≡ 0 → Steady (confirmed_state (decode s) c)
  confirm-steady c verdict fits none =
      let st : State = decode s in
      let next : State = replaced_state st c in
      (confirmed-sound st c verdict state-sound none, drop-entries-fits next (replaced-fits st c state-fits fits) (base next - base st))

  pub close-steady : (c : Confirmation) (verdict : ℕ) → close_refusal (decode s) c verdict ≡ 0 → Steady (closed_state (decode s) c.id)
  close-steady c verdict none =
      let st : State = decode s in
      let next : State = with_records st (without st.records c.id) in
      (closed-sound st c.id state-sound, drop-entries-fits next (without-fits st c.id state-fits (close_passed st c verdict none).held) (base next - base st))

  -- read answers as a call that stores
  read-other : (id : CounterId) → (read_call s id).number ≡ 14 → ⊥
  unfolding settled
  read-other id =
      (settled-steps s (read_refusal (decode s) id) (current_of (decode s) id) (decode s) kept (rows_other (read_rows (decode s) id) refl)
      (λ none. kept-steady s kept)).found-sound

  -- a batch of which no request passes answers as a call that stores nothing
  increment-steps : (requests verdicts : List ℕ) → Bytes requests → Steps (increment_call s requests verdicts)
  unfolding increment_call settled
  increment-steps requests verdicts bytes = go (eqb (length qs) 0) refl
    where
      qs : List Request
      qs = (judged_batch (decode s) (asked requests verdicts)).passed

      number : ℕ
      number = batch_refusal requests verdicts

      -- as a whole it is refused by 16 alone
      other : (b : Bool) → cond {A = ℕ} b 16 0 ≡ 14 → ⊥
      other true e = omega arith
      other false e = omega arith

      go : (b : Bool) → eqb (length qs) 0 ≡ b
          → Steps (cond {A = Settled} b (record { figures = answered s number 0; image = s }) (settled s number ((decode s).clock.0 + 1) (incremented (decode s) qs)))
      go true is =
          record { found-sound = (settled-steps s number 0 (decode s) kept (other (bad_batch requests verdicts)) (λ none. kept-steady s kept)).found-sound; kept = kept }
      go false is =
          settled-steps s number ((decode s).clock.0 + 1) (incremented (decode s) qs) kept (other (bad_batch requests verdicts))
          (batch-steady requests verdicts bytes (eqb-false (length qs) 0 is))

  -- ---- every call

  pub call-steps : (c : HostCall) → Widths c → Steps (settled_by s c)
  call-steps (HostCall.start clock) widths = start-steps s clock kept.long widths
  call-steps (HostCall.«open» c verdict) widths =
      settled-steps s (open_refusal (decode s) c verdict) _ _ kept
      (rows_other (open_rows (decode s) c verdict) refl)
      (open-steady c verdict widths)
  call-steps (HostCall.tick nonce) widths =
      settled-steps s (tick_refusal (decode s) nonce) _ _ kept
      (rows_other (tick_rows (decode s) nonce) refl)
      (tick-steady nonce)
  call-steps (HostCall.increment requests verdicts) widths = increment-steps requests verdicts widths
  call-steps (HostCall.read id) widths = record { found-sound = read-other id; kept = kept }
  call-steps (HostCall.prove nonce id output) widths =
      settled-steps s (prove_refusal (decode s) nonce id _ (length output)) _ _ kept
      (rows_other (prove_rows (decode s) nonce id (fields_len (proof_of (decode s) nonce id)) (length output)) refl)
      (λ none. counted-steady id)
  call-steps (HostCall.last id t output) widths =
      settled-steps s (last_refusal (decode s) id t _ (length output)) _ _ kept
      (rows_other (last_rows (decode s) id t (fields_len (last_of (decode s) id t)) (length output)) refl)
      (λ none. counted-steady id)
  call-steps (HostCall.confirm c verdict) widths =
      settled-steps s (confirm_refusal (decode s) c verdict) _ _ kept
      (rows_other (confirm_rows (decode s) c verdict) refl)
      (confirm-steady c verdict widths)
  call-steps (HostCall.close c verdict) widths =
      settled-steps s (close_refusal (decode s) c verdict) _ _ kept
      (rows_other (close_rows (decode s) c verdict) refl)
      (close-steady c verdict)
