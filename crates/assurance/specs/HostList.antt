-- The host's half of demand 3, as a statement: document 01, "The two lists of demand 3", with document 02's close and batches among the
-- calls.
-- Definitions alone; the proof stands in files of its own. Assumes nothing.
use Rattle.std.specs.Prelude.{ℕ, ◌^◌, ◌<◌, ◌≡◌, List, [], ◌∷◌, length, take}
use Rattle.forms.specs.Bytes.{Bytes}
use Rattle.forms.specs.Chain.{own_entries}
use Rattle.forms.specs.Limits.{image_len}
use Rattle.forms.specs.Confirmation.{ConfirmationFits}
use Rattle.forms.specs.declared.confirmation.Confirmation.{Confirmation}
use Rattle.forms.specs.declared.running.Running.{Running}
use Rattle.forms.specs.declared.terms.CounterId.{CounterId}
use Rattle.forms.specs.declared.terms.GlobalClock.{GlobalClock}
use Rattle.validity.specs.Proof.{Fields, proof_bytes}
use Rattle.desk_table.specs.Answer.{figures}
use Rattle.desk_table.specs.Desk.{all_yes, verified}
use Rattle.log_image.specs.State.{decode}
use Rattle.host.specs.Host.{request_nonce, Settled, start_call, open_call, tick_call, increment_call, read_call, prove_call, last_call, confirm_call, close_call, proof_of, last_entries, last_of, prove_output, last_output}

-- ---- the list

-- a call of the host: what it is handed beside the image. "Proofs go to outputs of their own"; verdicts, nonces and outputs are any.
pub data HostCall : Type 0 where
  start : GlobalClock → HostCall
  «open» : Confirmation → ℕ → HostCall
  tick : List ℕ → HostCall
  increment : List ℕ → List ℕ → HostCall
  read : CounterId → HostCall
  prove : List ℕ → CounterId → List ℕ → HostCall
  last : CounterId → GlobalClock → List ℕ → HostCall
  confirm : Confirmation → ℕ → HostCall
  close : Confirmation → ℕ → HostCall

-- what a call answers and the image after it, by the definitions that the host's contracts cite
abbrev pub settled_by : List ℕ → HostCall → Settled
settled_by s (start clock) = start_call s clock
settled_by s («open» c verdict) = open_call s c verdict
settled_by s (tick nonce) = tick_call s nonce
settled_by s (increment requests verdicts) = increment_call s requests verdicts
settled_by s (read id) = record { figures = record { number = (read_call s id).number; value = (read_call s id).value }; image = s }
settled_by s (prove nonce id output) = prove_call s nonce id (length output)
settled_by s (last id t output) = last_call s id t (length output)
settled_by s (confirm c verdict) = confirm_call s c verdict
settled_by s (close c verdict) = close_call s c verdict

-- the widths of what a call is handed, which the code's types give: numbers of 32 bits, nonces and requests of bytes
abbrev pub Widths : HostCall → Type 0
Widths (start clock) = clock.0 < 2 ^ 32
Widths («open» c verdict) = ConfirmationFits c
Widths (tick nonce) = Bytes nonce
Widths (increment requests verdicts) = Bytes requests
Widths (read id) = id.0 < 2 ^ 32
Widths (prove nonce id output) = Bytes nonce × (id.0 < 2 ^ 32)
Widths (last id t output) = id.0 < 2 ^ 32
Widths (confirm c verdict) = ConfirmationFits c
Widths (close c verdict) = ConfirmationFits c

-- ---- what is claimed of a call

-- "The desk gets a proof at its length, a verdict list of ones, its box and its nonce": the bytes are those written from the fields set out,
-- and the desk accepts them, showing a value and openings, and the reading that they close on
pub record Taken (proof : List ℕ) (fields : Fields) (id : CounterId) (nonce : List ℕ) (shown : Running) (closing : GlobalClock) : Type 0 where
  pub set_out : proof ≡ proof_bytes fields
  pub accepted : figures (verified proof (all_yes fields) id nonce)
      ≡ record { number = 0; value = shown.value; closing = closing.0; place = 0; openings = shown.openings }

-- value and openings that read gives
abbrev pub read_running : List ℕ → CounterId → Running
read_running s id = record { value = (read_call s id).value; openings = (read_call s id).openings }

-- t, and the number of the counter's entries after its held reading up to t
abbrev pub last_running : List ℕ → CounterId → GlobalClock → Running
last_running s id t = record { value = t.0; openings = own_entries id (last_entries (decode s) id t) }

-- each prove or last that is not refused. "The read compared is on the image that the writing call got"; last shows t and counts up to it,
-- with the nonce "of the box's request in entry t"
abbrev pub Fair : List ℕ → HostCall → Type 0
Fair s (prove nonce id output) =
    let r = (prove_call s nonce id (length output)).figures in
    r.number ≡ 0
    → ((read_call s id).number ≡ 0)
    × Taken (take r.value (prove_output s nonce id output)) (proof_of (decode s) nonce id) id nonce (read_running s id) (decode s).clock
Fair s (last id t output) =
    let r = (last_call s id t (length output)).figures in
    r.number ≡ 0 → Taken (take r.value (last_output s id t output)) (last_of (decode s) id t) id (request_nonce id t (decode s).log) (last_running s id t) t
Fair s (start clock) = Unit
Fair s («open» c verdict) = Unit
Fair s (tick nonce) = Unit
Fair s (increment requests verdicts) = Unit
Fair s (read id) = Unit
Fair s (confirm c verdict) = Unit
Fair s (close c verdict) = Unit

-- "Each call gets the image as the last one left it": along the list every call is fair, and none finds the image unsound
unfoldable pub Runs : List ℕ → List HostCall → Type 0
Runs s [] = Unit
Runs s (c ∷ cs) = Widths c → Fair s c × ((settled_by s c).figures.number ≡ 14 → ⊥) × Runs (settled_by s c).image cs

-- ---- the claim

-- "The host's list begins with the image of a start that succeeded": for every buffer of an image's length, whatever it held, every clock and
-- every list of calls
abbrev pub HostClaim : Type 0
HostClaim = (buffer : List ℕ) (clock : GlobalClock) (cs : List HostCall) → length buffer ≡ image_len → clock.0 < 2 ^ 32 → Runs (start_call buffer clock).image cs
