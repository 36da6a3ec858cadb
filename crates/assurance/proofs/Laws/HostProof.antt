-- The host's half of demand 3, proved: from the image of a start that succeeded, along every list of calls, no call finds the image unsound,
-- and the desk accepts each proof that prove or last writes. Document 01, "The two lists of demand 3". Assumes nothing.
use Rattle.std.specs.Prelude.{ℕ, ◌^◌, ◌<◌, ◌≡◌, Bool, cond, List, [], ◌∷◌, ◌++◌, length, take, drop}
use Rattle.std.proofs.Common.{ap, ap₂, ◌∙◌, take_at, eq-eqb}
use Rattle.forms.specs.Entry.{log_bytes}
use Rattle.forms.specs.declared.running.Running.{Running}
use Rattle.forms.specs.declared.terms.CounterId.{CounterId}
use Rattle.forms.specs.declared.terms.GlobalClock.{GlobalClock}
use Rattle.validity.specs.Proof.{Fields, fields_len, proof_bytes}
use Rattle.desk_table.specs.Answer.{figures, shows}
use Rattle.desk_table.specs.Desk.{all_yes, verified}
use Rattle.log_image.specs.State.{State, decode}
use Rattle.host.specs.Host.{request_nonce, held_of, entries_of, last_entries, proof_of, last_of, prove_refusal, last_refusal, counted, start_call, prove_call, last_call, output_for}
use Rattle.host.proofs.Laws.DoneLaws.{settled-passed, value-given}
use Rattle.host.proofs.Laws.RefusalLaws.{prove-passed}
use Rattle.host.specs.declared.answer.Figures.{Figures}
use Rattle.assurance.proofs.Laws.AcceptLaws.{read_length, increment-length}
use Rattle.assurance.proofs.Laws.HostCalls.{prove-call-accepted, last-call-accepted}
use Rattle.assurance.specs.HostList.{HostCall, settled_by, Widths, Taken, last_running, Fair, Runs, HostClaim}
use Rattle.assurance.proofs.Laws.HostSteps.{Kept, start-steps, call-steps}

-- ---- the output of a call that is not refused

-- it begins with the proof, so that at its length the desk gets what was set out
output-taken : (r : Figures) (fields : Fields) (output : List ℕ) (id : CounterId) (nonce : List ℕ) (shown : Running) (closing : GlobalClock)
    → r.number ≡ 0 → r.value ≡ fields_len fields → length (proof_bytes fields) ≡ fields_len fields
    → verified (proof_bytes fields) (all_yes fields) id nonce ≡ shows shown closing
    → Taken (take r.value (output_for r fields output)) fields id nonce shown closing
unfolding output_for
output-taken r fields output id nonce shown closing done at long accepted =
    let len : ℕ = fields_len fields in
    let same : take r.value (output_for r fields output) ≡ proof_bytes fields =
    ap₂ (λ (n : ℕ) (b : Bool). take n (cond b (proof_bytes fields ++ drop len output) output)) at (eq-eqb r.number 0 done)
    ∙ take_at (proof_bytes fields) (drop len output) len long in
    record {
      set_out = same;
      accepted = ap (λ (l : List ℕ). figures (verified l (all_yes fields) id nonce)) same ∙ ap figures accepted;
    }

-- ---- each call

module _ (s : List ℕ) (kept : Kept s) where
  -- prove shows what read gives on the same image
  pub prove-fair : (nonce : List ℕ) (id : CounterId) (output : List ℕ) → id.0 < 2 ^ 32 → Fair s (HostCall.prove nonce id output)
  prove-fair nonce id output id-fits e =
      let st : State = decode s in
      let fields : Fields = proof_of st nonce id in
      let len : ℕ = fields_len fields in
      let number : ℕ = prove_refusal st nonce id len (length output) in
      let rows = prove-passed st nonce id len (length output) (settled-passed s number len (counted st id) e).1 in
      let long : length (proof_bytes fields) ≡ len =
      read_length (held_of st id) (record { reading = st.clock; nonce = nonce }) (length (entries_of st id)) (log_bytes (entries_of st id)) rows.long in
      let there = prove-call-accepted s kept.bytes id id-fits nonce (length output) e in (
        there.0,
        output-taken (prove_call s nonce id (length output)).figures fields output id nonce _ st.clock e
            (value-given s number len (counted st id) e) long there.1,
      )

  -- last shows the t asked for, and counts up to it
  pub last-fair : (id : CounterId) (t : GlobalClock) (output : List ℕ) → id.0 < 2 ^ 32 → Fair s (HostCall.last id t output)
  last-fair id t output id-fits e =
      let st : State = decode s in
      let fields : Fields = last_of st id t in
      let len : ℕ = fields_len fields in
      let entries = last_entries st id t in
      let long : length (proof_bytes fields) ≡ len = increment-length (held_of st id) (length entries) (log_bytes entries) in
      output-taken (last_call s id t (length output)).figures fields output id (request_nonce id t st.log) (last_running s id t) t e
      (value-given s (last_refusal st id t len (length output)) len (counted st id) e) long
      (last-call-accepted s kept.bytes id id-fits t (length output) e)

  -- nothing is claimed of the values that other calls show
  call-fair : (c : HostCall) → Widths c → Fair s c
  call-fair (HostCall.start clock) widths = tt
  call-fair (HostCall.«open» c verdict) widths = tt
  call-fair (HostCall.tick nonce) widths = tt
  call-fair (HostCall.increment requests verdicts) widths = tt
  call-fair (HostCall.read id) widths = tt
  call-fair (HostCall.prove nonce id output) widths = prove-fair nonce id output widths.1
  call-fair (HostCall.last id t output) widths = last-fair id t output widths
  call-fair (HostCall.confirm c verdict) widths = tt
  call-fair (HostCall.close c verdict) widths = tt

-- ---- the list

-- every call hands on an image that is kept
kept-runs : (s : List ℕ) (cs : List HostCall) → Kept s → Runs s cs
unfolding Runs
kept-runs s [] kept = tt
kept-runs s (c ∷ cs) kept = λ widths.
    let step = call-steps s kept c widths in
    (call-fair s kept c widths, step.found-sound, kept-runs (settled_by s c).image cs step.kept)

-- demand 3, the host's half
pub host-claim : HostClaim
host-claim buffer clock cs long small = kept-runs (start_call buffer clock).image cs (start-steps buffer clock long small).kept
