-- The host's claim speaks of something: a list along which prove and last are not refused, so that the desk accepts what they write. From a
-- start at 100, counters 7 and 9 are opened and share one increment, in whose batch a second request of 7 is refused; prove for 9 then shows 101, and
-- last of 7 for 101 shows 101. Assumes nothing.
use Rattle.std.specs.Prelude.{ℕ, zero, suc, ◌+◌, ◌<◌, ◌≡◌, refl, Bool, true, false, cond, List, [], ◌∷◌, eqb, length, get_or, take, replicate}
use Rattle.std.proofs.Common.{sym, ap, ap₂, subst, ◌∙◌, arith, lit<, length-append, ne_eqb}
use Rattle.std.proofs.lemmas.List.{length-replicate}
use Rattle.forms.specs.Bytes.{Bytes, window}
use Rattle.forms.specs.Laws.BytesLaws.{bytes-none}
use Rattle.forms.specs.Chain.{step, running_after, own_entries}
use Rattle.forms.specs.declared.running.Running.{Running}
use Rattle.forms.specs.Confirmation.{confirmation_bytes, ConfirmationFits}
use Rattle.forms.specs.Entry.{Entry, len_of, entry_bytes, log_bytes, units}
use Rattle.forms.specs.Laws.EntryLaws.{EntriesFit, entry_length}
use Rattle.forms.specs.Limits.{nonce_len, records_offset, record_len, image_len}
use Rattle.forms.specs.Number.{be32}
use Rattle.forms.specs.Record.{taken, current_place}
use Rattle.forms.specs.Request.{request_at, request_bytes, joined, names, nonce_of as nonce_in}
use Rattle.forms.specs.Terms.{counter_id, global_clock}
use Rattle.forms.specs.declared.confirmation.Confirmation.{Confirmation}
use Rattle.forms.specs.declared.request.Request.{Request}
use Rattle.forms.specs.declared.terms.CounterId.{CounterId}
use Rattle.forms.specs.declared.terms.GlobalClock.{GlobalClock}
use Rattle.validity.specs.Proof.{fields_len}
use Rattle.log_image.specs.Laws.FitLaws.{start_fits, append-record-fits}
use Rattle.log_image.specs.Laws.ImageParts.{bytes-append}
use Rattle.log_image.specs.Laws.ImageRoundTrip.{StateFits, decode-encode, encode-sound}
use Rattle.log_image.specs.Sound.{holds, oldest, after, ending, sound_state, record_of}
use Rattle.log_image.specs.State.{State, records_bytes, header_of, decode, encode}
use Rattle.log_store.specs.Effect.{started, opened, updated, raised_by, incremented}
use Rattle.host.specs.Host.{request_nonce, Settled, running_of, has_entry, open_refusal, bad_batch, batch_refusal, asked_from, asked as asked_by, Batch, judge_next, judged_batch, read_refusal, counted, proof_of, last_entries, last_of, settled, answered, start_call, open_call, increment_call, read_call, prove_call, last_call, prove_output, last_output, prove_refusal, last_refusal}
use Rattle.host.proofs.Laws.CountLaws.{counted-sound, counted-fits}
use Rattle.host.proofs.Laws.DisplayLaws.{display-reads}
use Rattle.host.proofs.Laws.BatchLaws.{batch-fits}
use Rattle.host.proofs.Laws.OpenLaws.{opened-sound}
use Rattle.host.proofs.Laws.RaiseLaws.{started-sound, incremented-sound}
use Rattle.host.proofs.Laws.SettledLaws.{answered-done, settled-done}
use Rattle.host.specs.declared.answer.Figures.{Figures}
use Rattle.assurance.specs.HostList.{HostCall, Taken, read_running, Runs}
use Rattle.assurance.proofs.Laws.HostProof.{host-claim}
use Rattle.assurance.proofs.Laws.HostSteps.{start-stores}
use Rattle.assurance.proofs.Laws.ProgramLines.{request-bytes}

-- ---- the list

-- "A byte b stands for a nonce of 20 bytes b"
abbrev pub byte_nonce : ℕ → List ℕ
byte_nonce b = replicate {A = ℕ} nonce_len b

repeated-byte : (n b k : ℕ) → b < 256 → get_or (replicate n b) k 0 < 256
repeated-byte zero b k small = lit< tt
repeated-byte (suc n) b zero small = small
repeated-byte (suc n) b (suc k) small = repeated-byte n b k small

pub nonce-bytes : (b : ℕ) → b < 256 → Bytes (byte_nonce b)
unfolding Bytes
nonce-bytes b small = λ k. repeated-byte nonce_len b k small

-- a request with the nonce of a byte
abbrev pub request : ℕ → CounterId → ℕ → Request
request b id before = record { nonce = byte_nonce b; id = id; before = before }

-- requests joined are bytes
pub joined_bytes : (b : ℕ) (id : CounterId) (before : ℕ) (qs : List Request) → b < 256 → Bytes (joined qs) → Bytes (joined (request b id before ∷ qs))
unfolding joined
joined_bytes b id before qs small others = bytes-append (request_bytes (request b id before)) (joined qs) (request-bytes b id before small) others

pub none-bytes : Bytes (joined [])
unfolding joined
none-bytes = bytes-none

abbrev seven : CounterId
seven = counter_id 7

abbrev nine : CounterId
nine = counter_id 9

-- opened at the clock of the start
abbrev signed : CounterId → Confirmation
signed id = record { id = id; value = 100; reading = global_clock 100 }

-- room for a proof of one entry with two requests
abbrev room : List ℕ
room = replicate {A = ℕ} 144 0

-- the buffer that start is handed
unfoldable pub blank : List ℕ
blank = replicate {A = ℕ} image_len 0

pub blank-long : length blank ≡ image_len
unfolding blank
blank-long = length-replicate {A = ℕ} image_len 0

-- requests of 7 and of 9, and behind them a second one of 7
abbrev shared : List Request
shared = request 1 seven 100 ∷ request 2 nine 100 ∷ []

abbrev batch : List Request
batch = request 1 seven 100 ∷ request 2 nine 100 ∷ request 3 seven 101 ∷ []

abbrev signatures : List ℕ
signatures = 1 ∷ 1 ∷ 1 ∷ []

batch-bytes : Bytes (joined batch)
batch-bytes = joined_bytes 1 seven 100 _ (lit< tt) (joined_bytes 2 nine 100 _ (lit< tt) (joined_bytes 3 seven 101 [] (lit< tt) none-bytes))

abbrev raising : HostCall
raising = HostCall.increment (joined batch) signatures

abbrev proving : HostCall
proving = HostCall.prove (byte_nonce 4) nine room

abbrev lasting : HostCall
lasting = HostCall.last seven (global_clock 101) room

abbrev pub calls : List HostCall
calls = HostCall.«open» (signed seven) 1 ∷ HostCall.«open» (signed nine) 1 ∷ raising ∷ proving ∷ lasting ∷ []

-- ---- the states along it

abbrev begun : State
begun = started (global_clock 100)

abbrev holding : State
holding = opened begun (signed seven)

abbrev holding-both : State
holding-both = opened holding (signed nine)

abbrev asked : State
asked = incremented holding-both shared

abbrev shown : State
shown = counted asked nine

-- none of the calls is refused
open-passes : open_refusal begun (signed seven) 1 ≡ 0
unfolding holds oldest after own_entries
open-passes = refl

second-passes : open_refusal holding (signed nine) 1 ≡ 0
unfolding holds oldest after own_entries
second-passes = refl

batch-good : bad_batch (joined batch) signatures ≡ false
unfolding joined request_bytes
batch-good = refl

-- of the batch's requests the second one of 7 is: "a request whose box the batch already raised"
pub batch-judged : judged_batch holding-both (asked_by (joined batch) signatures) ≡ record { numbers = 0 ∷ 0 ∷ 29 ∷ []; passed = shared }
unfolding judged_batch judge_next asked_from request_at joined request_bytes window holds record_of ending oldest after running_after units names
batch-judged = refl

-- every state is sound and fits
signed-fits : (id : ℕ) → id < 4294967296 → ConfirmationFits (signed (counter_id id))
signed-fits id small = record { id = small; value = lit< tt; reading = lit< tt }

begun-fits : StateFits begun
begun-fits = start_fits (global_clock 100) (lit< tt)

holding-fits : StateFits holding
holding-fits =
    append-record-fits begun begun-fits (taken (signed seven)) (record { held = signed-fits 7 (lit< tt); current = lit< tt; proofs = lit< tt }) (lit< tt)

both-fits : StateFits holding-both
both-fits =
    append-record-fits holding holding-fits (taken (signed nine)) (record { held = signed-fits 9 (lit< tt); current = lit< tt; proofs = lit< tt }) (lit< tt)

begun-sound : sound_state begun ≡ true
begun-sound = started-sound (global_clock 100)

holding-sound : sound_state holding ≡ true
holding-sound = opened-sound begun (signed seven) 1 begun-sound open-passes

both-sound : sound_state holding-both ≡ true
both-sound = opened-sound holding (signed nine) 1 holding-sound second-passes

-- two requests pass
some-pass : 0 < length (judged_batch holding-both (asked_by (joined batch) signatures)).passed
some-pass = subst (λ (b : Batch). 0 < length b.passed) (sym batch-judged) (lit< tt)

asked-fits : StateFits asked
asked-fits =
    subst (λ (b : Batch). StateFits (incremented holding-both b.passed)) batch-judged
    (batch-fits holding-both (joined batch) signatures both-fits batch-bytes batch-good some-pass)

asked-sound : sound_state asked ≡ true
asked-sound =
    subst (λ (b : Batch). sound_state (incremented holding-both b.passed) ≡ true) batch-judged
    (incremented-sound holding-both (asked_by (joined batch) signatures) both-sound some-pass)

shown-fits : StateFits shown
shown-fits = counted-fits asked nine asked-fits

shown-sound : sound_state shown ≡ true
shown-sound = counted-sound asked nine asked-sound

-- ---- the proofs that are written

-- how many bytes some entries have
abbrev pub lens_of : List Entry → ℕ
lens_of [] = 0
lens_of (e ∷ es) = len_of (length e.requests) + lens_of es

pub log-length : (es : List Entry) → EntriesFit es → length (log_bytes es) ≡ lens_of es
unfolding log_bytes
log-length [] EntriesFit.none = refl
log-length (e ∷ es) (EntriesFit.one_more fits more) =
    length-append (entry_bytes e) (log_bytes es) ∙ ap₂ ◌+◌ (entry_length e fits) (log-length es more)

-- the lengths of the proofs: a header, a confirmation, for prove a certificate, and an entry of two requests
abbrev prove_len : State → ℕ
prove_len st = fields_len (proof_of st (byte_nonce 4) nine)

abbrev last_len : State → ℕ
last_len st = fields_len (last_of st seven (global_clock 101))

prove-long : prove_len asked ≡ 144
unfolding record_of updated raised_by oldest after
prove-long = ap (λ (n : ℕ). 60 + n) (log-length asked.log asked-fits.log)

last-long : last_len shown ≡ 120
unfolding record_of updated raised_by oldest after
last-long = ap (λ (n : ℕ). 36 + n) (log-length shown.log shown-fits.log)

prove-passes : prove_refusal asked (byte_nonce 4) nine (prove_len asked) (length room) ≡ 0
unfolding holds record_of updated raised_by oldest after
prove-passes = ap (λ (n : ℕ). prove_refusal asked (byte_nonce 4) nine n (length room)) prove-long

last-passes : last_refusal shown seven (global_clock 101) (last_len shown) (length room) ≡ 0
unfolding holds record_of updated raised_by oldest after has_entry names
last-passes = ap (λ (n : ℕ). last_refusal shown seven (global_clock 101) n (length room)) last-long

read-passes : read_refusal asked nine ≡ 0
unfolding holds updated raised_by
read-passes = refl

-- ---- the images along it

-- a call on the image of a state works on that state
works : (st : State) → StateFits st → sound_state st ≡ true → (number value : State → ℕ) (next : State → State) → number st ≡ 0
    → settled (encode st) (number (decode (encode st))) (value (decode (encode st))) (next (decode (encode st)))
    ≡ record { figures = record { number = 0; value = value st }; image = encode (next st) }
works st fits is number value next none =
    ap (λ (x : State). settled (encode st) (number x) (value x) (next x)) (decode-encode st fits)
    ∙ settled-done (encode st) (number st) (value st) (next st) (encode-sound st fits is) none

-- after start
pub start-image : (start_call blank (global_clock 100)).image ≡ encode begun
start-image = start-stores blank (global_clock 100) blank-long

-- after the calls of open
holding-image : (open_call (encode begun) (signed seven) 1).image ≡ encode holding
holding-image =
    ap (λ (r : Settled). r.image)
    (works begun begun-fits begun-sound (λ st. open_refusal st (signed seven) 1) (λ st. length st.records + 1) (λ st. opened st (signed seven)) open-passes)

both-image : (open_call (encode holding) (signed nine) 1).image ≡ encode holding-both
both-image =
    ap (λ (r : Settled). r.image)
    (works holding holding-fits holding-sound (λ st. open_refusal st (signed nine) 1) (λ st. length st.records + 1) (λ st. opened st (signed nine)) second-passes)

-- a batch of which some requests pass stores their increment
pub batch-settled : (s requests verdicts : List ℕ) (qs : List Request) → (judged_batch (decode s) (asked_by requests verdicts)).passed ≡ qs → (length qs ≡ 0 → ⊥)
    → increment_call s requests verdicts ≡ settled s (batch_refusal requests verdicts) ((decode s).clock.0 + 1) (incremented (decode s) qs)
unfolding increment_call
batch-settled s requests verdicts qs passed some =
    let number = batch_refusal requests verdicts in
    let value = (decode s).clock.0 + 1 in
    ap (λ (l : List Request). cond {A = Settled} (eqb (length l) 0) (record { figures = answered s number 0; image = s }) (settled s number value (incremented (decode s) l))) passed
    ∙ ap (λ (b : Bool). cond {A = Settled} b (record { figures = answered s number 0; image = s }) (settled s number value (incremented (decode s) qs))) (ne_eqb (length qs) 0 some)

-- after the batch
asked-image : (increment_call (encode holding-both) (joined batch) signatures).image ≡ encode asked
asked-image =
    let passed = ap (λ (st : State). judged_batch st (asked_by (joined batch) signatures)) (decode-encode holding-both both-fits) ∙ batch-judged in
    ap (λ (r : Settled). r.image)
    (batch-settled (encode holding-both) (joined batch) signatures shared (ap (λ (b : Batch). b.passed) passed) (λ none. omega (arith, none))
    ∙ works holding-both both-fits both-sound (λ st. batch_refusal (joined batch) signatures) (λ st. st.clock.0 + 1) (λ st. incremented st shared)
    (ap (λ (b : Bool). cond {A = ℕ} b 16 0) batch-good))

-- what prove answers, and the image after it
prove-ends : prove_call (encode asked) (byte_nonce 4) nine (length room) ≡ record { figures = record { number = 0; value = prove_len asked }; image = encode shown }
prove-ends = works asked asked-fits asked-sound (λ st. prove_refusal st (byte_nonce 4) nine (prove_len st) (length room)) prove_len (λ st. counted st nine) prove-passes

-- what last answers
last-ends : last_call (encode shown) seven (global_clock 101) (length room)
    ≡ record { figures = record { number = 0; value = last_len shown }; image = encode (counted shown seven) }
last-ends = works shown shown-fits shown-sound (λ st. last_refusal st seven (global_clock 101) (last_len st) (length room)) last_len (λ st. counted st seven) last-passes

-- what read shows where prove is called: 101, and one opening
read-shows : read_running (encode asked) nine ≡ record { value = 101; openings = 1 }
unfolding holds record_of updated raised_by ending oldest after running_after step names
read-shows =
    let figures : (part : Running → ℕ) → answered (encode asked) (read_refusal (decode (encode asked)) nine) (part (running_of (decode (encode asked)) nine))
    ≡ record { number = 0; value = part (running_of asked nine) } = λ part.
    ap (λ (st : State). answered (encode asked) (read_refusal st nine) (part (running_of st nine))) (decode-encode asked asked-fits)
    ∙ answered-done (encode asked) (read_refusal asked nine) (part (running_of asked nine)) (encode-sound asked asked-fits asked-sound) read-passes in
    ap₂ (λ (f g : Figures). record { value = f.value; openings = g.value }) (figures (λ r. r.value)) (figures (λ r. r.openings))

-- and so does the dock's display, which looks at the current value in the second record, by the law that it relies on
pub display-shows : (be32 (encode asked) (current_place (records_offset + record_len)) ≡ 101) × ((read_call (encode asked) nine).value ≡ 101)
unfolding encode header_of records_bytes confirmation_bytes updated raised_by
display-shows = (refl, (display-reads (encode asked) 1 (encode-sound asked asked-fits asked-sound) (lit< tt)).1)

-- ---- what the claim says along it

from_start : Runs (encode begun) calls
from_start = subst (λ (s : List ℕ). Runs s calls) start-image (host-claim blank (global_clock 100) calls blank-long (lit< tt))

from-open : Runs (encode holding) (HostCall.«open» (signed nine) 1 ∷ raising ∷ proving ∷ lasting ∷ [])
unfolding Runs
from-open =
    subst (λ (s : List ℕ). Runs s (HostCall.«open» (signed nine) 1 ∷ raising ∷ proving ∷ lasting ∷ [])) holding-image (from_start (signed-fits 7 (lit< tt))).2

from_second : Runs (encode holding-both) (raising ∷ proving ∷ lasting ∷ [])
unfolding Runs
from_second = subst (λ (s : List ℕ). Runs s (raising ∷ proving ∷ lasting ∷ [])) both-image (from-open (signed-fits 9 (lit< tt))).2

from-raise : Runs (encode asked) (proving ∷ lasting ∷ [])
unfolding Runs
from-raise = subst (λ (s : List ℕ). Runs s (proving ∷ lasting ∷ [])) asked-image (from_second batch-bytes).2

from-prove : Runs (encode shown) (lasting ∷ [])
unfolding Runs
from-prove =
    subst (λ (s : List ℕ). Runs s (lasting ∷ [])) (ap (λ (r : Settled). r.image) prove-ends) (from-raise (nonce-bytes 4 (lit< tt), lit< tt)).2

-- value and openings that the desk shows of both proofs
abbrev once : Running
once = record { value = 101; openings = 1 }

-- what is claimed of prove's output: at a length, for the proof of a state, with value and openings
abbrev ByProve : ℕ → State → Running → Type 0
ByProve n st running =
    Taken (take n (prove_output (encode asked) (byte_nonce 4) nine room)) (proof_of st (byte_nonce 4) nine) nine (byte_nonce 4) running st.clock

-- the desk accepts the 144 bytes that prove wrote, and shows 101 and one opening at 101
pub proof-taken : Taken (take 144 (prove_output (encode asked) (byte_nonce 4) nine room)) (proof_of asked (byte_nonce 4) nine) nine (byte_nonce 4) once (global_clock 101)
unfolding Runs
proof-taken =
    let number = ap (λ (r : Settled). r.figures.number) prove-ends in
    let value = ap (λ (r : Settled). r.figures.value) prove-ends ∙ prove-long in
    let len : ℕ = (prove_call (encode asked) (byte_nonce 4) nine (length room)).figures.value in
    let there = ((from-raise (nonce-bytes 4 (lit< tt), lit< tt)).0 number).1 in
    subst (λ (n : ℕ). ByProve n asked once) value
    (subst (ByProve len asked) read-shows
    (subst (λ (st : State). ByProve len st (read_running (encode asked) nine)) (decode-encode asked asked-fits) there))

-- the same of last's
abbrev ByLast : ℕ → State → Type 0
ByLast n st =
    let t : GlobalClock = global_clock 101 in
    Taken (take n (last_output (encode shown) seven t room)) (last_of st seven t) seven (request_nonce seven t st.log)
    (record { value = 101; openings = own_entries seven (last_entries st seven t) }) t

-- and the 120 bytes that last wrote, under the nonce of 7's request
pub last_taken : Taken (take 120 (last_output (encode shown) seven (global_clock 101) room)) (last_of shown seven (global_clock 101)) seven (byte_nonce 1) once (global_clock 101)
unfolding Runs request_nonce names nonce_in record_of updated raised_by oldest after own_entries
last_taken =
    let number = ap (λ (r : Settled). r.figures.number) last-ends in
    let value = ap (λ (r : Settled). r.figures.value) last-ends ∙ last-long in
    let len : ℕ = (last_call (encode shown) seven (global_clock 101) (length room)).figures.value in
    let there = (from-prove (lit< tt)).0 number in
    subst (λ (n : ℕ). ByLast n shown) value (subst (ByLast len) (decode-encode shown shown-fits) there)
