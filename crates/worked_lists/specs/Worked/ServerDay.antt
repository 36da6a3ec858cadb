-- A day of an honest server. Counters 7 and 9 are opened at 100 and share the increment at 101; the module ticks to 102, and a proof of each kind is
-- written. The owner of 9 confirms what the desk shows, 7 is closed, and 9 is raised to 103, beside a stranger's request, and proved again. A raise that
-- the module never does is given up by a second start, where 9 is opened by what the desk showed, and proved. All that is supposed of a server holds along
-- it. Assumes nothing.
use Rattle.std.specs.Prelude.{ℕ, ◌<◌, ◌≡◌, refl, not, List, [], ◌∷◌, ◌++◌, eqb, length, get_or, drop, replicate}
use Rattle.std.proofs.Common.{sym, ap, ap₂, subst, ◌∙◌, arith, lit<, lit≤}
use Rattle.forms.specs.Bytes.{Bytes, window}
use Rattle.forms.specs.Chain.{step, running_after, value_after, own_entries}
use Rattle.forms.specs.Entry.{Entry, units}
use Rattle.forms.specs.Confirmation.{ConfirmationFits}
use Rattle.forms.specs.Request.{RequestsFit, request_at, request_bytes, joined, names}
use Rattle.forms.specs.Terms.{counter_id, global_clock}
use Rattle.forms.specs.declared.confirmation.Confirmation.{Confirmation}
use Rattle.forms.specs.declared.request.Request.{Request}
use Rattle.forms.specs.declared.terms.CounterId.{CounterId}
use Rattle.history.specs.History.{HistoryEvent, list, increment, read, increments, clock_after, ReadStands}
use Rattle.history.specs.Value.{Signatures}
use Rattle.log_image.specs.Sound.{holds, oldest, after, ending, record_of}
use Rattle.log_image.specs.State.{Record, State, decode}
use Rattle.log_store.specs.Effect.{updated, started, sealed_entry, raised_by, without}
use Rattle.host.specs.Host.{Settled, has_entry, asked, asked_from, Batch, judge_next, judged_batch}
use Rattle.host.specs.declared.answer.Figures.{Figures}
use Rattle.assurance.specs.DeskList.{Call, event, confirmed, call, history}
use Rattle.assurance.specs.HostList.{HostCall, settled_by, Widths}
use Rattle.worked_lists.specs.Worked.HostListWitness.{byte_nonce, nonce-bytes, request, joined_bytes, none-bytes, blank}
use Rattle.assurance.proofs.Laws.HostSteps.{start-steps, start-says}
use Rattle.worked_lists.specs.Worked.Places.{IsImageOf, Done, begun-image, begun-here, signed, confirmed-fits, opening, opens, raises, proves, lasts, ticks, confirms, closes}
use Rattle.assurance.proofs.Laws.ServerAlong.{◌and◌, Asking, AlongBut, honest-along, TypedItem, typed-along}
use Rattle.assurance.specs.ServerList.{ServerItem, host, beside, desk_list, host_list, image_after, owing, owed_after, image_at, owed_at, desk_at, AllSigned, SeenTo, Honest, Typed, handed_prove, handed_last}

-- ---- the counters, the requests and the confirmations

abbrev pub seven : CounterId
seven = counter_id 7

abbrev pub nine : CounterId
nine = counter_id 9

-- the requests of 7 and 9 together
abbrev shared : List Request
shared = request 1 seven 100 ∷ request 2 nine 100 ∷ []

shared-bytes : Bytes (joined shared)
shared-bytes = joined_bytes 1 seven 100 (request 2 nine 100 ∷ []) (lit< tt) (joined_bytes 2 nine 100 [] (lit< tt) none-bytes)

pub shared-fit : RequestsFit shared
shared-fit =
    RequestsFit.one_more (record { nonce = refl; bytes = nonce-bytes 1 (lit< tt); id = lit< tt; before = lit< tt })
    (RequestsFit.one_more (record { nonce = refl; bytes = nonce-bytes 2 (lit< tt); id = lit< tt; before = lit< tt }) RequestsFit.none)

-- a request of 9, and with it a stranger's
abbrev single : List Request
single = request 6 nine 101 ∷ []

abbrev batch : List Request
batch = request 6 nine 101 ∷ request 8 nine 101 ∷ []

batch-bytes : Bytes (joined batch)
batch-bytes = joined_bytes 6 nine 101 (request 8 nine 101 ∷ []) (lit< tt) (joined_bytes 8 nine 101 [] (lit< tt) none-bytes)

pub single-fit : RequestsFit single
single-fit = RequestsFit.one_more (record { nonce = refl; bytes = nonce-bytes 6 (lit< tt); id = lit< tt; before = lit< tt }) RequestsFit.none

-- every request is signed but the stranger's
abbrev pub signing : Signatures
signing q = not (eqb (get_or q.nonce 0 0) 8)

-- the value 101 at 102: of 9 the owner confirms it, as the desk shows it, and by that of 7 the counter is closed
abbrev valued : CounterId → Confirmation
valued id = record { id = id; value = 101; reading = global_clock 102 }

valued_fits : (id : ℕ) → id < 4294967296 → ConfirmationFits (valued (counter_id id))
valued_fits id small = record { id = small; value = lit< tt; reading = lit< tt }

abbrev later : Confirmation
later = valued nine

-- ---- the calls

abbrev sharing : HostCall
sharing = HostCall.increment (joined shared) (1 ∷ 1 ∷ [])

-- the stranger's request gets a no
abbrev passing : HostCall
passing = HostCall.increment (joined batch) (1 ∷ 0 ∷ [])

abbrev ticking : ℕ → HostCall
ticking b = HostCall.tick (byte_nonce b)

-- room for a proof of two entries with two requests
abbrev pub room : List ℕ
room = replicate {A = ℕ} 200 0

abbrev pub proving : ℕ → HostCall
proving b = HostCall.prove (byte_nonce b) nine room

abbrev pub lasting : HostCall
lasting = HostCall.last seven (global_clock 101) room

abbrev closing : HostCall
closing = HostCall.close (valued seven) 1

-- ---- the states along the day

abbrev record_with : Confirmation → ℕ → ℕ → Record
record_with k current proofs = record { held = k; current = current; proofs = proofs }

abbrev state : ℕ → List Record → List Entry → State
state clock records log = record { clock = global_clock clock; records = records; log = log }

abbrev entry : ℕ → List Request → Entry
entry t qs = sealed_entry (global_clock t) qs

-- 7 and 9 are opened at the clock of the start, and raised
abbrev holding : State
holding = state 100 (record_with (signed seven 100) 100 0 ∷ []) []

abbrev holding-both : State
holding-both = state 100 (record_with (signed seven 100) 100 0 ∷ record_with (signed nine 100) 100 0 ∷ []) []

abbrev raised : State
raised = state 101 (record_with (signed seven 100) 101 0 ∷ record_with (signed nine 100) 101 0 ∷ []) (entry 101 shared ∷ [])

-- behind the tick, with the proofs written for each
abbrev ticked : ℕ → ℕ → State
ticked sevens nines =
    state 102 (record_with (signed seven 100) 101 sevens ∷ record_with (signed nine 100) 101 nines ∷ []) (entry 101 shared ∷ entry 102 [] ∷ [])

-- 9 holds what its owner confirmed, and 7 holds the log back; behind its closing no entry is left
abbrev confirmed-later : State
confirmed-later = state 102 (record_with (signed seven 100) 101 1 ∷ record_with later 101 1 ∷ []) (entry 101 shared ∷ entry 102 [] ∷ [])

abbrev closed : State
closed = state 102 (record_with later 101 1 ∷ []) []

-- 9 is raised again, with the proofs written for it; then the image is one reading ahead of the module
abbrev raised-again : ℕ → State
raised-again proofs = state 103 (record_with later 103 proofs ∷ []) (entry 103 single ∷ [])

abbrev ahead : State
ahead = state 104 (record_with later 103 2 ∷ []) (entry 103 single ∷ entry 104 [] ∷ [])

-- behind the second start
abbrev reopened : ℕ → State
reopened proofs = state 103 (record_with (signed nine 103) 103 proofs ∷ []) []

-- ---- the images along it

unfoldable pub seven-image : List ℕ
seven-image = (settled_by begun-image (opening seven 100)).image

unfoldable pub both-image : List ℕ
both-image = (settled_by seven-image (opening nine 100)).image

unfoldable pub raised-image : List ℕ
raised-image = (settled_by both-image sharing).image

unfoldable pub ticked-image : List ℕ
ticked-image = (settled_by raised-image (ticking 3)).image

unfoldable pub proved-image : List ℕ
proved-image = (settled_by ticked-image (proving 4)).image

unfoldable pub lasted-image : List ℕ
lasted-image = (settled_by proved-image lasting).image

unfoldable pub confirmed-image : List ℕ
confirmed-image = (settled_by lasted-image (HostCall.confirm later 1)).image

unfoldable pub closed-image : List ℕ
closed-image = (settled_by confirmed-image closing).image

unfoldable pub again-image : List ℕ
again-image = (settled_by closed-image passing).image

unfoldable pub shown-image : List ℕ
shown-image = (settled_by again-image (proving 5)).image

unfoldable pub ahead-image : List ℕ
ahead-image = (settled_by shown-image (ticking 9)).image

unfoldable pub restarted-image : List ℕ
restarted-image = (settled_by ahead-image (HostCall.start (global_clock 103))).image

unfoldable pub reopened-image : List ℕ
reopened-image = (settled_by restarted-image (opening nine 103)).image

-- ---- each call

seven-here : IsImageOf seven-image holding
unfolding holds oldest after own_entries seven-image
seven-here = (opens seven 100 (confirmed-fits 7 100 (lit< tt) (lit< tt)) begun-here refl refl).leads

both-here : IsImageOf both-image holding-both
unfolding holds oldest after own_entries both-image
both-here = (opens nine 100 (confirmed-fits 9 100 (lit< tt) (lit< tt)) seven-here refl refl).leads

-- both requests pass
shared-judged : judged_batch holding-both (asked (joined shared) (1 ∷ 1 ∷ [])) ≡ record { numbers = 0 ∷ 0 ∷ []; passed = shared }
unfolding judged_batch judge_next asked_from request_at joined request_bytes window holds record_of ending oldest after running_after units names
shared-judged = refl

raise-both : Done (settled_by both-image sharing) 101 raised
unfolding joined request_bytes raised_by updated
raise-both =
    raises (joined shared) (1 ∷ 1 ∷ []) shared shared-bytes both-here refl (ap (λ (b : Batch). b.passed) shared-judged) (λ none. omega (arith, none)) refl

raised-here : IsImageOf raised-image raised
unfolding raised-image
raised-here = raise-both.leads

tick-on : Done (settled_by raised-image (ticking 3)) 102 (ticked 0 0)
unfolding units
tick-on = ticks 3 raised-here refl refl

pub ticked-here : IsImageOf ticked-image (ticked 0 0)
unfolding ticked-image
ticked-here = tick-on.leads

-- the first proof: a header, a confirmation, a certificate, an entry of two requests and one of none
pub prove-first : Done (settled_by ticked-image (proving 4)) 172 (ticked 0 1)
unfolding holds record_of updated oldest after
prove-first = proves 4 nine room ticked-here refl refl

proved-here : IsImageOf proved-image (ticked 0 1)
unfolding proved-image
proved-here = prove-first.leads

-- the second: a header, a confirmation and an entry of two requests
pub prove-second : Done (settled_by proved-image lasting) 120 (ticked 1 1)
unfolding holds record_of updated oldest after has_entry names
prove-second = lasts seven (global_clock 101) room proved-here refl refl

lasted_here : IsImageOf lasted-image (ticked 1 1)
unfolding lasted-image
lasted_here = prove-second.leads

confirmed-here : IsImageOf confirmed-image confirmed-later
unfolding holds record_of updated oldest after value_after running_after step names confirmed-image
confirmed-here = (confirms later (valued_fits 9 (lit< tt)) lasted_here refl refl).leads

closed-here : IsImageOf closed-image closed
unfolding holds record_of ending oldest after running_after step names without closed-image
closed-here = (closes (valued seven) confirmed-here refl refl).leads

-- the stranger's request is refused by 15
pub batch-judged : judged_batch closed (asked (joined batch) (1 ∷ 0 ∷ [])) ≡ record { numbers = 0 ∷ 15 ∷ []; passed = single }
unfolding judged_batch judge_next asked_from request_at joined request_bytes window holds record_of ending oldest after running_after units names
batch-judged = refl

raise-nine : Done (settled_by closed-image passing) 103 (raised-again 1)
unfolding joined request_bytes raised_by updated
raise-nine =
    raises (joined batch) (1 ∷ 0 ∷ []) single batch-bytes closed-here refl (ap (λ (b : Batch). b.passed) batch-judged) (λ none. omega (arith, none)) refl

pub again-here : IsImageOf again-image (raised-again 1)
unfolding again-image
again-here = raise-nine.leads

-- the third proof: a header, a confirmation, a certificate and an entry of one request
pub prove-third : Done (settled_by again-image (proving 5)) 116 (raised-again 2)
unfolding holds record_of updated oldest after
prove-third = proves 5 nine room again-here refl refl

shown-here : IsImageOf shown-image (raised-again 2)
unfolding shown-image
shown-here = prove-third.leads

ahead-here : IsImageOf ahead-image ahead
unfolding units ahead-image
ahead-here = (ticks 9 shown-here refl refl).leads

restarted-here : IsImageOf restarted-image (started (global_clock 103))
unfolding restarted-image
restarted-here =
    let long = ahead-here.kept.long in
    record { kept = (start-steps ahead-image (global_clock 103) long (lit< tt)).kept; says = start-says ahead-image (global_clock 103) long (lit< tt) }

pub reopened-here : IsImageOf reopened-image (reopened 0)
unfolding holds oldest after own_entries reopened-image
reopened-here = (opens nine 103 (confirmed-fits 9 103 (lit< tt) (lit< tt)) restarted-here refl refl).leads

-- the fourth proof: a header, a confirmation and a certificate
pub prove-fourth : Done (settled_by reopened-image (proving 7)) 60 (reopened 1)
unfolding holds record_of updated oldest after
prove-fourth = proves 7 nine room reopened-here refl refl

-- ---- the proofs as a desk is handed them

-- one of 9 with the nonce of a byte, written on an image
abbrev pub proof_at : List ℕ → ℕ → Call
proof_at s b = handed_prove s (byte_nonce b) nine room

abbrev pub first-call : Call
first-call = proof_at ticked-image 4

abbrev pub second_call : Call
second_call = handed_last proved-image seven (global_clock 101) room

abbrev pub third-call : Call
third-call = proof_at again-image 5

abbrev pub fourth-call : Call
fourth-call = proof_at reopened-image 7

-- ---- the day

abbrev pub day : List ServerItem
day =
    beside (confirmed (signed seven 100))
    ∷ host (opening seven 100)
    ∷ beside (confirmed (signed nine 100))
    ∷ host (opening nine 100)
    ∷ host sharing
    ∷ beside (event (increment (list shared shared-fit)))
    ∷ host (ticking 3)
    ∷ beside (event (increment (list [] RequestsFit.none)))
    ∷ beside (event (read (byte_nonce 4)))
    ∷ host (proving 4)
    ∷ host lasting
    ∷ beside (call first-call)
    ∷ beside (confirmed later)
    ∷ host (HostCall.confirm later 1)
    ∷ host closing
    ∷ host passing
    ∷ beside (event (increment (list single single-fit)))
    ∷ beside (event (read (byte_nonce 5)))
    ∷ host (proving 5)
    ∷ beside (call third-call)
    ∷ beside (confirmed (signed nine 103))
    ∷ host (ticking 9)
    ∷ host (HostCall.start (global_clock 103))
    ∷ host (opening nine 103)
    ∷ beside (event (read (byte_nonce 7)))
    ∷ host (proving 7)
    ∷ []

-- ---- what the server sees to

-- a clock read that ends the history stands there, where the image's clock is the module's
read-last : {s : List ℕ} {st : State} (b : ℕ) (es : List HistoryEvent) → IsImageOf s st → clock_after (global_clock 100) es ≡ st.clock
    → ReadStands (global_clock 100) (es ++ (read (byte_nonce b) ∷ [])) (decode s).clock (byte_nonce b)
read-last b es here is = record { earlier = es; later = []; split = refl; reached = is ∙ ap (λ (x : State). x.clock) (sym here.says) }

-- the requests of a batch that pass, where the state is known
passes : {s : List ℕ} {st : State} (requests verdicts : List ℕ) (judged : Batch) → IsImageOf s st → judged_batch st (asked requests verdicts) ≡ judged
    → (judged_batch (decode s) (asked requests verdicts)).passed ≡ judged.passed
passes requests verdicts judged here is =
    ap (λ (x : State). (judged_batch x (asked requests verdicts)).passed) here.says ∙ ap (λ (b : Batch). b.passed) is

-- what a raise adds to what is owed
owed-by : {r : Settled} {value : ℕ} {to : State} {qs : List Request} (passed : List Request) → Done r value to → qs ≡ passed
    → owing r.figures.value qs ≡ owing value passed
owed-by passed made same = ap₂ owing (ap (λ (f : Figures). f.value) made.answers) same

-- all of it from place i on, by the image there and what is owed
abbrev Seen : ℕ → List ℕ → List (List Request) → Type 0
Seen i s owed = AlongBut (SeenTo (global_clock 100) signing) (length (drop i day)) s owed (desk_at day i) (drop i day)

-- behind the second start
seen-started : Seen 23 restarted-image []
unfolding AlongBut desk_list history clock_after increments reopened-image
seen-started = (λ done. (10, refl)) and tt and (λ done. read-last 7 (history (desk_at day 24)) reopened-here refl) and tt

-- behind the second raise of 9: the start is at the module's clock
seen-again : Seen 16 again-image (single ∷ [])
unfolding AlongBut desk_list history clock_after increments shown-image ahead-image restarted-image
seen-again =
    (single-fit, refl) and tt and (λ done. read-last 5 (history (desk_at day 17)) again-here refl) and tt and tt and (λ done. tt) and (λ done. refl)
    and seen-started

-- and before it: what passes is signed
seen-closed : Seen 15 closed-image []
unfolding AlongBut desk_list again-image
seen-closed =
    let pass = passes (joined batch) (1 ∷ 0 ∷ []) (record { numbers = 0 ∷ 15 ∷ []; passed = single }) closed-here batch-judged in
    ((λ done. subst (AllSigned signing) (sym pass) (refl, tt)), subst (Seen 16 again-image) (sym (owed-by single raise-nine pass)) seen-again)

-- behind the tick of the module: the first two proofs, and what the counters' owners do then
seen-ticked : Seen 7 ticked-image ([] ∷ [])
unfolding AlongBut desk_list history clock_after increments proved-image lasted-image confirmed-image closed-image
seen-ticked =
    let proofs : Seen 9 ticked-image [] =
    (λ done. read-last 4 (history (desk_at day 8)) ticked-here refl) and (λ done. lit≤ tt) and tt and tt and (λ done. (6, refl)) and (λ done. tt)
    and seen-closed in
    ((RequestsFit.none, refl), (tt, proofs))

-- behind the first raise
seen-raised : Seen 5 raised-image (shared ∷ [])
unfolding AlongBut desk_list ticked-image
seen-raised = (shared-fit, refl) and (λ done. tt) and subst (Seen 7 ticked-image) (sym (owed-by [] tick-on refl)) seen-ticked

-- and from the start
seen-both : Seen 4 both-image []
unfolding AlongBut desk_list raised-image
seen-both =
    let pass = passes (joined shared) (1 ∷ 1 ∷ []) (record { numbers = 0 ∷ 0 ∷ []; passed = shared }) both-here shared-judged in
    ((λ done. subst (AllSigned signing) (sym pass) (refl, (refl, tt))), subst (Seen 5 raised-image) (sym (owed-by shared raise-both pass)) seen-raised)

pub honest-day : (i : ℕ) → Honest (global_clock 100) signing blank day i
unfolding AlongBut desk_list begun-image seven-image both-image
honest-day i = honest-along (global_clock 100) signing blank day (tt and (λ done. (0, refl)) and tt and (λ done. (1, refl)) and seen-both) i

-- ---- the widths

-- what is asked of every item from place i on but the n-th of these
abbrev pub AskedFrom : Asking → ℕ → ℕ → Type 0
AskedFrom Asks n i = AlongBut Asks n (image_at blank (global_clock 100) day i) (owed_at blank (global_clock 100) day i) (desk_at day i) (drop i day)

abbrev Wide : ℕ → Type 0
Wide i = AskedFrom (TypedItem (global_clock 100) signing blank day) (length (drop i day)) i

proof-fits : (b : ℕ) → b < 256 → Widths (proving b)
proof-fits b small = (nonce-bytes b small, lit< tt)

-- from the raise that the module never does, from the later confirmation of 9, from the first tick, and from the start
pub day-typed : Typed day
unfolding AlongBut desk_list host_list image_after owed_after
day-typed =
    let from-ahead : Wide 20 =
    tt and nonce-bytes 9 (lit< tt) and lit< tt and confirmed-fits 9 103 (lit< tt) (lit< tt) and tt and proof-fits 7 (lit< tt) and tt in
    let from-later : Wide 13 =
    valued_fits 9 (lit< tt) and valued_fits 7 (lit< tt) and batch-bytes and tt and tt and proof-fits 5 (lit< tt) and tt and from-ahead in
    let from_tick : Wide 6 =
    nonce-bytes 3 (lit< tt) and tt and tt and proof-fits 4 (lit< tt) and lit< tt and tt and tt and from-later in
    typed-along (global_clock 100) signing blank day
    (tt and confirmed-fits 7 100 (lit< tt) (lit< tt) and tt and confirmed-fits 9 100 (lit< tt) (lit< tt) and shared-bytes and tt and from_tick)
