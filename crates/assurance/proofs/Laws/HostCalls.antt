-- The proofs of the host's calls: where `prove` or `last` on an image is not refused, the desk accepts the proof set out, all verdicts yes, and
-- shows value and openings that `read` gives on that image or, for `last`, the t asked for and the number of the counter's entries up to it.
-- Document 01, "The host". Assumes nothing.
use Rattle.std.specs.Prelude.{ℕ, ◌^◌, ◌<◌, ◌≡◌, Bool, true, not, cond, List}
use Rattle.desk_table.specs.Answer.{shows}
use Rattle.std.proofs.Common.{sym, ap, ap₂, ◌∙◌, ne_eqb}
use Rattle.forms.specs.Bytes.{Bytes}
use Rattle.forms.specs.Laws.TestsLaws.{both}
use Rattle.forms.specs.declared.running.Running.{Running}
use Rattle.forms.specs.declared.terms.CounterId.{CounterId}
use Rattle.forms.specs.declared.terms.GlobalClock.{GlobalClock}
use Rattle.validity.specs.Proof.{proof_bytes, fields_len}
use Rattle.desk_table.specs.Desk.{all_yes, verified}
use Rattle.log_image.specs.Laws.ImageRoundTrip.{StateFits, decode-fits}
use Rattle.log_image.specs.State.{State, decode}
use Rattle.log_image.specs.Sound.{holds, laid_out, sound_state, sound}
use Rattle.host.specs.Host.{request_nonce, running_of, answered, proof_of, last_of, prove_refusal, last_refusal, read_refusal, counted, read_call, prove_call, last_call}
use Rattle.host.proofs.Laws.DoneLaws.{settled-passed}
use Rattle.host.proofs.Laws.RefusalLaws.{prove-passed, last-passed}
use Rattle.host.proofs.Laws.SettledLaws.{answered-done}
use Rattle.host.specs.declared.answer.Figures.{Figures}
use Rattle.assurance.specs.HostList.{read_running, last_running}
use Rattle.assurance.proofs.Laws.HostProofs.{prove-accepted, last-accepted}

module _ (s : List ℕ) (bytes : Bytes s) (id : CounterId) (id-fits : id.0 < 2 ^ 32) where
  -- a sound image says a sound state that fits
  state-sound : sound s ≡ true → (sound_state (decode s) ≡ true) × StateFits (decode s)
  unfolding sound
  state-sound is =
      let parts = both (laid_out s) (sound_state (decode s)) is in
      (parts.1, decode-fits s bytes parts.0)

  -- `read` on an image where the counter is held gives the end of its chain
  read-answers : sound s ≡ true → (id.0 ≡ 0 → ⊥) → holds (decode s).records id ≡ true
      → ((read_call s id).number ≡ 0) × (read_running s id ≡ running_of (decode s) id)
  read-answers is some held =
      let passes : read_refusal (decode s) id ≡ 0 =
      ap₂ (λ (a b : Bool). cond {A = ℕ} a 16 (cond {A = ℕ} (not b) 17 0)) (ne_eqb id.0 0 some) held in
      let e : (v : ℕ) → answered s (read_refusal (decode s) id) v ≡ record { number = 0; value = v } = λ v. answered-done s (read_refusal (decode s) id) v is passes in
      let running = running_of (decode s) id in (
        ap (λ (f : Figures). f.number) (e running.value),
        ap₂ (λ (f g : Figures). record { value = f.value; openings = g.value }) (e running.value) (e running.openings),
      )

  -- `prove`: the desk shows what `read` gives on the same image, at its clock
  pub prove-call-accepted : (nonce : List ℕ) (room : ℕ) → (prove_call s nonce id room).figures.number ≡ 0
      → ((read_call s id).number ≡ 0)
      × (verified (proof_bytes (proof_of (decode s) nonce id)) (all_yes (proof_of (decode s) nonce id)) id nonce
      ≡ shows (read_running s id) (decode s).clock)
  prove-call-accepted nonce room e =
      let st : State = decode s in
      let len : ℕ = fields_len (proof_of st nonce id) in
      let passed = settled-passed s (prove_refusal st nonce id len room) len (counted st id) e in
      let rows = prove-passed st nonce id len room passed.1 in
      let state = state-sound passed.0 in
      let given = read-answers passed.0 rows.named rows.held in (
        given.0,
        prove-accepted st id state.0 state.1 id-fits rows.held nonce rows.long
            ∙ ap (λ (r : Running). shows r st.clock) (sym given.1),
      )

  -- `last`: the desk shows the t asked for
  pub last-call-accepted : (t : GlobalClock) (room : ℕ) → (last_call s id t room).figures.number ≡ 0
      → verified (proof_bytes (last_of (decode s) id t)) (all_yes (last_of (decode s) id t)) id (request_nonce id t (decode s).log)
      ≡ shows (last_running s id t) t
  last-call-accepted t room e =
      let st : State = decode s in
      let len : ℕ = fields_len (last_of st id t) in
      let passed = settled-passed s (last_refusal st id t len room) len (counted st id) e in
      let rows = last-passed st id t len room passed.1 in
      let state = state-sound passed.0 in
      last-accepted st id state.0 state.1 id-fits rows.held t rows.has
