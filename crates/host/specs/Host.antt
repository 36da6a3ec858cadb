-- The host's calls: document 01, "The host", and document 02: Note 4, "close", Note 6, the proofs counted for each counter, and Note 7, several
-- requests under one increment. Each is a row of refusals in the order of its numbers, a value and the state after it; on refusal the image stays as
-- it was. What a store makes of a state is said in `log_store`. Assumes nothing.
use Rattle.std.specs.Prelude.{ℕ, zero, suc, ◌+◌, ◌-◌, ◌*◌, ◌/◌, ◌%◌, Bool, false, not, cond, ◌&&◌, ◌||◌, eqb, ltb, length, get_or, replicate, take, drop, List, [], ◌∷◌, ◌++◌}
use mathlib.Core.List.{foldl}
use Rattle.forms.specs.Chain.{value_after, own_entries}
use Rattle.forms.specs.declared.running.Running.{Running}
use Rattle.forms.specs.Checks.{Row, ◌gives◌, first_answer}
use Rattle.forms.specs.Entry.{Entry, log_bytes, units}
use Rattle.forms.specs.Limits.{max_word, nonce_len, image_len, max_counters, max_requests, max_units, request_len}
use Rattle.forms.specs.Request.{names, nonce_of, request_at}
use Rattle.forms.specs.declared.confirmation.Confirmation.{Confirmation}
use Rattle.forms.specs.declared.request.Request.{Request}
use Rattle.forms.specs.declared.terms.CounterId.{CounterId}
use Rattle.forms.specs.declared.terms.GlobalClock.{GlobalClock}
use Rattle.validity.specs.Proof.{Fields, fields_len, read, increment, proof_bytes}
use Rattle.log_image.specs.State.{Record, State, decode, encode}
use Rattle.log_image.specs.Sound.{holds, record_of, base, after, ending, sound}
use Rattle.log_store.specs.Effect.{cut_to, updated, updated_state, confirmed_by, proved, started, opened, advanced, raised, incremented, without}
pub use Rattle.host.specs.declared.answer.Figures.{Figures}
pub use Rattle.host.specs.declared.answer.ReadFigures.{ReadFigures}
pub use Rattle.host.specs.declared.answer.BatchFigures.{BatchFigures}

-- ---- what a state says of a counter

abbrev pub held_of : State → CounterId → Confirmation
held_of st id = (record_of st.records id).held

-- its entries "after the box's held reading"; those of other counters are among them
abbrev pub entries_of : State → CounterId → List Entry
entries_of st id = after (base st) (held_of st id).reading st.log

-- running value and count at the end of its chain
abbrev pub running_of : State → CounterId → Running
running_of st id = ending (base st) st.log (record_of st.records id)

-- "The current value of a box is the end of that chain"
abbrev pub current_of : State → CounterId → ℕ
current_of st id = (running_of st id).value

-- the value of a counter at a reading not below its held one
abbrev pub logged_value : State → CounterId → GlobalClock → ℕ
logged_value st id reading =
    value_after id (held_of st id).value (take (reading.0 - (held_of st id).reading.0) (entries_of st id))

-- "a held entry after the given reading names" the counter
abbrev pub named_after : State → CounterId → GlobalClock → Bool
named_after st id reading = not (eqb (own_entries id (after (base st) reading st.log)) 0)

-- an entry with a request of the counter and the reading t is among some entries
unfoldable pub has_entry : CounterId → GlobalClock → List Entry → Bool
has_entry id t [] = false
has_entry id t (e ∷ es) = (names id e.requests && eqb e.reading.0 t.0) || has_entry id t es

-- the nonce of the counter's request in the entry with the reading t
unfoldable pub request_nonce : CounterId → GlobalClock → List Entry → List ℕ
request_nonce id t [] = []
request_nonce id t (e ∷ es) = cond (names id e.requests && eqb e.reading.0 t.0) (nonce_of id e.requests) (request_nonce id t es)

-- ---- refusals, in number order; 0 where there is none. Of open's, document 02 puts 28 "after 21"

abbrev pub bad_nonce : List ℕ → Bool
bad_nonce nonce = not (eqb (length nonce) nonce_len)

abbrev pub open_rows : State → Confirmation → ℕ → List (Row ℕ)
open_rows st c verdict =
    (not (eqb verdict 1) gives 15)
    ∷ ((eqb c.id.0 0 || ltb c.reading.0 c.value) gives 16)
    ∷ (holds st.records c.id gives 18)
    ∷ (eqb (length st.records) max_counters gives 19)
    ∷ (ltb c.reading.0 (st.clock.0 - length st.log) gives 20)
    ∷ ((ltb st.clock.0 c.reading.0 || not (eqb c.value c.reading.0)) gives 21)
    ∷ (named_after st c.id c.reading gives 28)
    ∷ []

abbrev pub open_refusal : State → Confirmation → ℕ → ℕ
open_refusal st c verdict = first_answer (open_rows st c verdict) 0

abbrev pub tick_rows : State → List ℕ → List (Row ℕ)
tick_rows st nonce =
    (bad_nonce nonce gives 16)
    ∷ (eqb (units st.log) max_units gives 24)
    ∷ (eqb st.clock.0 max_word gives 25)
    ∷ []

abbrev pub tick_refusal : State → List ℕ → ℕ
tick_refusal st nonce = first_answer (tick_rows st nonce) 0

-- one request of a batch, behind the requests of it that passed: "It refuses by 29 a request whose box the batch already raised (before 22)", and "a
-- request gets 24 when those held and those passed before it make 1,024"
abbrev pub request_rows : State → List Request → Request → ℕ → List (Row ℕ)
request_rows st passed q verdict =
    (not (eqb verdict 1) gives 15)
    ∷ (eqb q.id.0 0 gives 16)
    ∷ (not (holds st.records q.id) gives 17)
    ∷ (names q.id passed gives 29)
    ∷ (not (eqb q.before (current_of st q.id)) gives 22)
    ∷ (eqb (units st.log + length passed) max_units gives 24)
    ∷ (eqb st.clock.0 max_word gives 25)
    ∷ []

abbrev pub request_refusal : State → List Request → Request → ℕ → ℕ
request_refusal st passed q verdict = first_answer (request_rows st passed q verdict) 0

-- "a batch of none or over 8 gets 16 as a whole", and so do bytes that are no requests and a list of another number of verdicts
abbrev pub bad_batch : List ℕ → List ℕ → Bool
bad_batch requests verdicts =
    (eqb (length requests) 0 || ltb (request_len * max_requests) (length requests))
    || (not (eqb (length requests % request_len) 0) || not (eqb (length verdicts) (length requests / request_len)))

abbrev pub batch_refusal : List ℕ → List ℕ → ℕ
batch_refusal requests verdicts = cond (bad_batch requests verdicts) 16 0

-- what a batch asks: requests, each with the owner's verdict on it
pub record Asked : Type 0 where
  pub request : Request
  pub verdict : ℕ

-- n of them, from the i-th on
unfoldable pub asked_from : List ℕ → List ℕ → ℕ → ℕ → List Asked
asked_from requests verdicts i zero = []
asked_from requests verdicts i (suc n) =
    record { request = request_at requests (request_len * i); verdict = get_or verdicts i 0 } ∷ asked_from requests verdicts (suc i) n

abbrev pub asked : List ℕ → List ℕ → List Asked
asked requests verdicts = asked_from requests verdicts 0 (length requests / request_len)

-- the numbers of the requests so far, and those of them that passed
pub record Batch : Type 0 where
  pub numbers : List ℕ
  pub passed : List Request

abbrev pub none_judged : Batch
none_judged = record { numbers = []; passed = [] }

-- one request more: it has the number of its own table
unfoldable pub judge_next : State → Batch → Asked → Batch
judge_next st b a =
    let number : ℕ = request_refusal st b.passed a.request a.verdict in
    record {
      numbers = b.numbers ++ (number ∷ []);
      passed = cond (eqb number 0) (b.passed ++ (a.request ∷ [])) b.passed;
    }

-- "gives each request its own number"
unfoldable pub judged_batch : State → List Asked → Batch
judged_batch st requests = foldl (judge_next st) none_judged requests

abbrev pub read_rows : State → CounterId → List (Row ℕ)
read_rows st id =
    (eqb id.0 0 gives 16) ∷ (not (holds st.records id) gives 17) ∷ []

abbrev pub read_refusal : State → CounterId → ℕ
read_refusal st id = first_answer (read_rows st id) 0

abbrev pub prove_rows : State → List ℕ → CounterId → ℕ → ℕ → List (Row ℕ)
prove_rows st nonce id len room =
    ((eqb id.0 0 || bad_nonce nonce) gives 16)
    ∷ (not (holds st.records id) gives 17)
    ∷ (ltb room len gives 26)
    ∷ []

abbrev pub prove_refusal : State → List ℕ → CounterId → ℕ → ℕ → ℕ
prove_refusal st nonce id len room = first_answer (prove_rows st nonce id len room) 0

abbrev pub last_rows : State → CounterId → GlobalClock → ℕ → ℕ → List (Row ℕ)
last_rows st id t len room =
    (eqb id.0 0 gives 16)
    ∷ (not (holds st.records id) gives 17)
    ∷ (not (has_entry id t (entries_of st id)) gives 23)
    ∷ (ltb room len gives 26)
    ∷ []

abbrev pub last_refusal : State → CounterId → GlobalClock → ℕ → ℕ → ℕ
last_refusal st id t len room = first_answer (last_rows st id t len room) 0

abbrev pub confirm_rows : State → Confirmation → ℕ → List (Row ℕ)
confirm_rows st c verdict =
    (not (eqb verdict 1) gives 15)
    ∷ ((eqb c.id.0 0 || ltb c.reading.0 c.value) gives 16)
    ∷ (not (holds st.records c.id) gives 17)
    ∷ (ltb c.reading.0 (held_of st c.id).reading.0 gives 20)
    ∷ ((ltb st.clock.0 c.reading.0 || not (eqb c.value (logged_value st c.id c.reading))) gives 21)
    ∷ []

abbrev pub confirm_refusal : State → Confirmation → ℕ → ℕ
confirm_refusal st c verdict = first_answer (confirm_rows st c verdict) 0

-- "close refuses by 14 to 17, 21 (reading not the clock), then 22"
abbrev pub close_rows : State → Confirmation → ℕ → List (Row ℕ)
close_rows st c verdict =
    (not (eqb verdict 1) gives 15)
    ∷ ((eqb c.id.0 0 || ltb c.reading.0 c.value) gives 16)
    ∷ (not (holds st.records c.id) gives 17)
    ∷ (not (eqb c.reading.0 st.clock.0) gives 21)
    ∷ (not (eqb c.value (current_of st c.id)) gives 22)
    ∷ []

abbrev pub close_refusal : State → Confirmation → ℕ → ℕ
close_refusal st c verdict = first_answer (close_rows st c verdict) 0

-- ---- effects

-- "A tick with no box held keeps no entry"
abbrev pub none_held : State → Bool
none_held st = eqb (length st.records) 0

abbrev pub ticked : State → State
ticked st = cond (none_held st) (advanced st) (raised st [])

-- "Proving for one box alters no other box's figure"
abbrev pub counted : State → CounterId → State
counted st id = updated_state st id proved

-- "confirm replaces the box's confirmation, then drops entries no longer needed"
abbrev pub replaced : List Record → Confirmation → List Record
replaced rs c = updated rs c.id (confirmed_by c)

abbrev pub confirmed_state : State → Confirmation → State
confirmed_state st c = cut_to st (replaced st.records c)

-- "the log is cut to the oldest reading left"; where no record is left, to the clock, so that no entry stays
abbrev pub closed_state : State → CounterId → State
closed_state st id = cut_to st (without st.records id)

-- ---- the proofs set out

-- "prove writes a kind 1 proof up to the clock", from the counter's held reading on
abbrev pub proof_of : State → List ℕ → CounterId → Fields
proof_of st nonce id =
    read (held_of st id) (record { reading = st.clock; nonce = nonce }) (length (entries_of st id)) (log_bytes (entries_of st id))

-- "last writes kind 2 up to a given t"
abbrev pub last_entries : State → CounterId → GlobalClock → List Entry
last_entries st id t = take (t.0 - (held_of st id).reading.0) (entries_of st id)

abbrev pub last_of : State → CounterId → GlobalClock → Fields
last_of st id t = increment (held_of st id) (length (last_entries st id t)) (log_bytes (last_entries st id t))

-- ---- a call on an image

-- what a call answers, and the image after it
pub record Settled : Type 0 where
  pub figures : Figures
  pub image : List ℕ

-- 14 where the image is not sound; else the refusal; else the value
unfoldable pub answered : List ℕ → ℕ → ℕ → Figures
answered s number value =
    cond (sound s)
    (cond (eqb number 0) (record { number = 0; value = value }) (record { number = number; value = 0 }))
    (record { number = 14; value = 0 })

-- and the image of the next state, or the old one where the call is refused
unfoldable pub settled : List ℕ → ℕ → ℕ → State → Settled
settled s number value next =
    record { figures = answered s number value; image = cond (sound s && eqb number 0) (encode next) s }

unfoldable pub start_call : List ℕ → GlobalClock → Settled
start_call s clock =
    cond (eqb (length s) image_len)
    (record { figures = record { number = 0; value = clock.0 }; image = encode (started clock) })
    (record { figures = record { number = 14; value = 0 }; image = s })

abbrev pub open_call : List ℕ → Confirmation → ℕ → Settled
open_call s c verdict =
    let st : State = decode s in
    settled s (open_refusal st c verdict) (length st.records + 1) (opened st c)

abbrev pub tick_call : List ℕ → List ℕ → Settled
tick_call s nonce =
    let st : State = decode s in
    settled s (tick_refusal st nonce) (st.clock.0 + 1) (ticked st)

-- what increment answers beside number and value: each request's number in its place, zeros behind the last, and all zeros where the batch is refused
-- as a whole
unfoldable pub numbers_of : List ℕ → List ℕ → List ℕ → List ℕ
numbers_of s requests verdicts =
    let numbers : List ℕ = cond (sound s && not (bad_batch requests verdicts)) (judged_batch (decode s) (asked requests verdicts)).numbers [] in
    numbers ++ replicate {A = ℕ} (max_requests - length numbers) 0

-- the call: it "increments only if some request passes (value the new clock, else 0)"
unfoldable pub increment_call : List ℕ → List ℕ → List ℕ → Settled
increment_call s requests verdicts =
    let st : State = decode s in
    let qs : List Request = (judged_batch st (asked requests verdicts)).passed in
    cond (eqb (length qs) 0)
    (record { figures = answered s (batch_refusal requests verdicts) 0; image = s })
    (settled s (batch_refusal requests verdicts) (st.clock.0 + 1) (incremented st qs))

-- the figures that it answers with
abbrev pub increment_figures : List ℕ → List ℕ → List ℕ → BatchFigures
increment_figures s requests verdicts =
    let f : Figures = (increment_call s requests verdicts).figures in
    record { number = f.number; value = f.value; numbers = numbers_of s requests verdicts }

-- read writes nothing. Beside the value it gives "the count of the box's entries after that confirmation too", which is 0 where the value is
abbrev pub read_call : List ℕ → CounterId → ReadFigures
read_call s id =
    let number : ℕ = read_refusal (decode s) id in
    let running : Running = running_of (decode s) id in
    record {
      number = (answered s number running.value).number;
      value = (answered s number running.value).value;
      openings = (answered s number running.openings).value;
    }

abbrev pub prove_call : List ℕ → List ℕ → CounterId → ℕ → Settled
prove_call s nonce id room =
    let st : State = decode s in
    let len : ℕ = fields_len (proof_of st nonce id) in
    settled s (prove_refusal st nonce id len room) len (counted st id)

abbrev pub last_call : List ℕ → CounterId → GlobalClock → ℕ → Settled
last_call s id t room =
    let st : State = decode s in
    let len : ℕ = fields_len (last_of st id t) in
    settled s (last_refusal st id t len room) len (counted st id)

abbrev pub confirm_call : List ℕ → Confirmation → ℕ → Settled
confirm_call s c verdict =
    let st : State = decode s in
    settled s (confirm_refusal st c verdict) (length (confirmed_state st c).log) (confirmed_state st c)

-- "Close answers with the box's figure"
abbrev pub close_call : List ℕ → Confirmation → ℕ → Settled
close_call s c verdict =
    let st : State = decode s in
    settled s (close_refusal st c verdict) (record_of st.records c.id).proofs (closed_state st c.id)

-- ---- the output of prove and last

-- a proof followed by the rest of the old output ("Bytes of the output beyond the proof stay"), or the old output where the call is refused
unfoldable pub output_for : Figures → Fields → List ℕ → List ℕ
output_for figures fields output =
    cond (eqb figures.number 0) (proof_bytes fields ++ drop (fields_len fields) output) output

abbrev pub prove_output : List ℕ → List ℕ → CounterId → List ℕ → List ℕ
prove_output s nonce id output = output_for (prove_call s nonce id (length output)).figures (proof_of (decode s) nonce id) output

abbrev pub last_output : List ℕ → CounterId → GlobalClock → List ℕ → List ℕ
last_output s id t output = output_for (last_call s id t (length output)).figures (last_of (decode s) id t) output
