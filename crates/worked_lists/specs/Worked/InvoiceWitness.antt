-- The invoice's claim speaks of something: a list along which proofs of two counters are written, one is refused, and one counter is closed and
-- opened again. From a start at 100, counters 9 and 7 are opened; 9 is proved, both share an increment at 101, 7 is proved once and 9 again, and a
-- second proof of 7 finds no room. Closing 9 answers 2, by which the record of 7 moves up; 9 is opened again and proved once. Assumes nothing.
use Rattle.std.specs.Prelude.{ℕ, ◌≡◌, refl, cond, List, [], ◌∷◌, eqb, replicate}
use Rattle.std.proofs.Common.{sym, ap, subst, ◌∙◌, arith, lit<}
use Rattle.forms.specs.Bytes.{Bytes, window}
use Rattle.forms.specs.Chain.{step, running_after, own_entries}
use Rattle.forms.specs.Entry.{Entry, units}
use Rattle.forms.specs.Request.{request_at, request_bytes, joined, names}
use Rattle.forms.specs.Terms.{counter_id, global_clock}
use Rattle.forms.specs.declared.request.Request.{Request}
use Rattle.forms.specs.declared.terms.CounterId.{CounterId}
use Rattle.validity.specs.Proof.{fields_len}
use Rattle.log_image.specs.Sound.{holds, oldest, after, ending, record_of}
use Rattle.log_image.specs.State.{Record, State}
use Rattle.log_store.specs.Effect.{updated, sealed_entry, raised_by, without}
use Rattle.host.specs.Host.{Settled, asked_from, judge_next, judged_batch, prove_refusal, proof_of, close_call}
use Rattle.host.proofs.Laws.SettledLaws.{settled-refused}
use Rattle.host.specs.declared.answer.Figures.{Figures}
use Rattle.assurance.specs.HostList.{HostCall, settled_by, Widths}
use Rattle.worked_lists.specs.Worked.HostListWitness.{byte_nonce, nonce-bytes, request, joined_bytes, none-bytes, blank, blank-long}
use Rattle.assurance.specs.Invoice.{counted_by, figure_of, Counts}
use Rattle.assurance.proofs.Laws.InvoiceProof.{invoice-claim}
use Rattle.worked_lists.specs.Worked.Places.{IsImageOf, Done, begun-image, begun-here, signed, confirmed-fits, opening, opens, raises, prove-length, proves, closing, closes}

abbrev seven : CounterId
seven = counter_id 7

abbrev nine : CounterId
nine = counter_id 9

-- ---- the states along the list

-- the record of a counter with its number of proofs: opened at a reading, with a current value
abbrev with : CounterId → ℕ → ℕ → ℕ → Record
with id t current proofs = record { held = signed id t; current = current; proofs = proofs }

abbrev state : ℕ → List Record → List Entry → State
state clock records log = record { clock = global_clock clock; records = records; log = log }

-- the requests of both
abbrev shared : List Request
shared = request 6 nine 100 ∷ request 7 seven 100 ∷ []

abbrev raise : Entry
raise = sealed_entry (global_clock 101) shared

-- 9 stands before 7, not raised
abbrev unraised : ℕ → State
unraised nines = state 100 (with nine 100 100 nines ∷ with seven 100 100 0 ∷ []) []

-- and raised; and behind 7 once it was opened again
abbrev nine-first : ℕ → ℕ → State
nine-first nines sevens = state 101 (with nine 100 101 nines ∷ with seven 100 101 sevens ∷ []) (raise ∷ [])

abbrev seven-alone : State
seven-alone = state 101 (with seven 100 101 1 ∷ []) (raise ∷ [])

abbrev nine-last : ℕ → State
nine-last nines = state 101 (with seven 100 101 1 ∷ with nine 101 101 nines ∷ []) (raise ∷ [])

-- ---- the calls

-- room for a proof of one entry with two requests
abbrev room : List ℕ
room = replicate {A = ℕ} 144 0

abbrev proving : ℕ → CounterId → HostCall
proving b id = HostCall.prove (byte_nonce b) id room

abbrev sharing : HostCall
sharing = HostCall.increment (joined shared) (1 ∷ 1 ∷ [])

shared-bytes : Bytes (joined shared)
shared-bytes = joined_bytes 6 nine 100 (request 7 seven 100 ∷ []) (lit< tt) (joined_bytes 7 seven 100 [] (lit< tt) none-bytes)

-- one byte short of it
abbrev cramped : HostCall
cramped = HostCall.prove (byte_nonce 4) seven (replicate {A = ℕ} 143 0)

abbrev pub calls : List HostCall
calls =
    opening nine 100
    ∷ opening seven 100
    ∷ proving 1 nine
    ∷ sharing
    ∷ proving 2 seven
    ∷ proving 3 nine
    ∷ cramped
    ∷ closing nine 101
    ∷ opening nine 101
    ∷ proving 5 nine
    ∷ []

-- ---- the images along it

pub nine-image : List ℕ
nine-image = (settled_by begun-image (opening nine 100)).image

pub both-image : List ℕ
both-image = (settled_by nine-image (opening seven 100)).image

pub first-image : List ℕ
first-image = (settled_by both-image (proving 1 nine)).image

pub raised-image : List ℕ
raised-image = (settled_by first-image sharing).image

pub second-image : List ℕ
second-image = (settled_by raised-image (proving 2 seven)).image

pub third-image : List ℕ
third-image = (settled_by second-image (proving 3 nine)).image

pub cramped-image : List ℕ
cramped-image = (settled_by third-image cramped).image

pub closed-image : List ℕ
closed-image = (settled_by cramped-image (closing nine 101)).image

pub reopened-image : List ℕ
reopened-image = (settled_by closed-image (opening nine 101)).image

pub last-image : List ℕ
last-image = (settled_by reopened-image (proving 5 nine)).image

-- ---- each call

open-nine : Done (settled_by begun-image (opening nine 100)) 1 (state 100 (with nine 100 100 0 ∷ []) [])
unfolding holds oldest after own_entries
open-nine = opens nine 100 (confirmed-fits 9 100 (lit< tt) (lit< tt)) begun-here refl refl

nine-here : IsImageOf nine-image (state 100 (with nine 100 100 0 ∷ []) [])
unfolding nine-image
nine-here = open-nine.leads

open-seven : Done (settled_by nine-image (opening seven 100)) 2 (unraised 0)
unfolding holds oldest after own_entries
open-seven = opens seven 100 (confirmed-fits 7 100 (lit< tt) (lit< tt)) nine-here refl refl

both-here : IsImageOf both-image (unraised 0)
unfolding both-image
both-here = open-seven.leads

prove-first : Done (settled_by both-image (proving 1 nine)) 60 (unraised 1)
unfolding holds record_of updated oldest after
prove-first = proves 1 nine room both-here refl refl

first-here : IsImageOf first-image (unraised 1)
unfolding first-image
first-here = prove-first.leads

raise-both : Done (settled_by first-image sharing) 101 (nine-first 1 0)
unfolding judged_batch judge_next asked_from request_at joined request_bytes window holds record_of ending oldest after running_after units names raised_by updated
raise-both = raises (joined shared) (1 ∷ 1 ∷ []) shared shared-bytes first-here refl refl (λ none. omega (arith, none)) refl

raised-here : IsImageOf raised-image (nine-first 1 0)
unfolding raised-image
raised-here = raise-both.leads

prove-second : Done (settled_by raised-image (proving 2 seven)) 144 (nine-first 1 1)
unfolding holds record_of updated oldest after
prove-second = proves 2 seven room raised-here refl refl

second-here : IsImageOf second-image (nine-first 1 1)
unfolding second-image
second-here = prove-second.leads

prove-third : Done (settled_by second-image (proving 3 nine)) 144 (nine-first 2 1)
unfolding holds record_of updated oldest after
prove-third = proves 3 nine room second-here refl refl

third-here : IsImageOf third-image (nine-first 2 1)
unfolding third-image
third-here = prove-third.leads

-- a proof that finds no room leaves the image
refuses : settled_by third-image cramped ≡ record { figures = record { number = 26; value = 0 }; image = third-image }
unfolding holds record_of oldest after
refuses =
    let number =
    ap (λ (x : State). prove_refusal x (byte_nonce 4) seven (fields_len (proof_of x (byte_nonce 4) seven)) 143) third-here.says
    ∙ ap (λ (n : ℕ). prove_refusal (nine-first 2 1) (byte_nonce 4) seven n 143) (prove-length 4 seven third-here) in
    settled-refused third-image _ _ _ third-here.kept.is-sound (λ none. let no : ⊥ = omega (arith, number, none) in no)
    ∙ ap (λ (n : ℕ). record { figures = record { number = n; value = 0 }; image = third-image }) number

cramped-here : IsImageOf cramped-image (nine-first 2 1)
unfolding cramped-image
cramped-here = subst (λ (image : List ℕ). IsImageOf image (nine-first 2 1)) (sym (ap (λ (r : Settled). r.image) refuses)) third-here

close-nine : Done (settled_by cramped-image (closing nine 101)) 2 seven-alone
unfolding holds record_of ending oldest after running_after step names without
close-nine = closes (signed nine 101) cramped-here refl refl

closed-here : IsImageOf closed-image seven-alone
unfolding closed-image
closed-here = close-nine.leads

reopen-nine : Done (settled_by closed-image (opening nine 101)) 2 (nine-last 0)
unfolding holds oldest after own_entries
reopen-nine = opens nine 101 (confirmed-fits 9 101 (lit< tt) (lit< tt)) closed-here refl refl

reopened-here : IsImageOf reopened-image (nine-last 0)
unfolding reopened-image
reopened-here = reopen-nine.leads

prove-last : Done (settled_by reopened-image (proving 5 nine)) 60 (nine-last 1)
unfolding holds record_of updated oldest after
prove-last = proves 5 nine room reopened-here refl refl

last-here : IsImageOf last-image (nine-last 1)
unfolding last-image
last-here = prove-last.leads

-- ---- what the claim says along it

-- one call further, done
on : (id : CounterId) (n : ℕ) (s : List ℕ) (c : HostCall) (cs : List HostCall) {value : ℕ} {to : State} → Done (settled_by s c) value to → Widths c
    → Counts id n s (c ∷ cs) → Counts id (counted_by id n c) (settled_by s c).image cs
unfolding Counts
on id n s c cs done widths counts =
    subst (λ (m : ℕ). Counts id m (settled_by s c).image cs) (ap (λ (f : Figures). cond (eqb f.number 0) (counted_by id n c) n) done.answers) (counts.1 widths).2

-- how many proofs of a counter are counted behind the first proof, the batch, the second proof and the third
abbrev after_first : CounterId → ℕ
after_first id = counted_by id (counted_by id (counted_by id 0 (opening nine 100)) (opening seven 100)) (proving 1 nine)

abbrev after_second : CounterId → ℕ
after_second id = counted_by id (counted_by id (after_first id) sharing) (proving 2 seven)

abbrev after_third : CounterId → ℕ
after_third id = counted_by id (after_second id) (proving 3 nine)

abbrev to_end : List HostCall
to_end = closing nine 101 ∷ opening nine 101 ∷ proving 5 nine ∷ []

before-raise : (id : CounterId) → Counts id (after_first id) first-image (sharing ∷ proving 2 seven ∷ proving 3 nine ∷ cramped ∷ to_end)
unfolding begun-image nine-image both-image first-image
before-raise id =
    on id _ both-image (proving 1 nine) _ prove-first (nonce-bytes 1 (lit< tt), lit< tt)
    (on id _ nine-image (opening seven 100) _ open-seven (confirmed-fits 7 100 (lit< tt) (lit< tt))
    (on id 0 begun-image (opening nine 100) _ open-nine (confirmed-fits 9 100 (lit< tt) (lit< tt))
    (invoice-claim blank (global_clock 100) calls id blank-long (lit< tt))))

before-third : (id : CounterId) → Counts id (after_second id) second-image (proving 3 nine ∷ cramped ∷ to_end)
unfolding raised-image second-image
before-third id =
    on id _ raised-image (proving 2 seven) _ prove-second (nonce-bytes 2 (lit< tt), lit< tt)
    (on id _ first-image sharing _ raise-both shared-bytes (before-raise id))

-- the refused proof counts nothing
before-close : (id : CounterId) → Counts id (after_third id) cramped-image to_end
unfolding Counts third-image cramped-image
before-close id =
    let n = after_third id in
    let counts = on id (after_second id) second-image (proving 3 nine) (cramped ∷ to_end) prove-third (nonce-bytes 3 (lit< tt), lit< tt) (before-third id) in
    subst (λ (m : ℕ). Counts id m cramped-image to_end) (ap (λ (r : Settled). cond (eqb r.figures.number 0) (counted_by id n cramped) n) refuses)
    (counts.1 (nonce-bytes 4 (lit< tt), lit< tt)).2

at-end : (id : CounterId) → Counts id (counted_by id (counted_by id (counted_by id (after_third id) (closing nine 101)) (opening nine 101)) (proving 5 nine)) last-image []
unfolding closed-image reopened-image last-image
at-end id =
    let nines = confirmed-fits 9 101 (lit< tt) (lit< tt) in
    on id _ reopened-image (proving 5 nine) [] prove-last (nonce-bytes 5 (lit< tt), lit< tt)
    (on id _ closed-image (opening nine 101) _ reopen-nine nines
    (on id _ cramped-image (closing nine 101) _ close-nine nines (before-close id)))

-- the batch leaves the figure of 9, which is 1
pub nines-left : figure_of raised-image nine ≡ figure_of first-image nine
unfolding Counts raised-image holds
nines-left = (((before-raise nine).1 shared-bytes).0 refl).1 (ap (λ (st : State). holds st.records nine) first-here.says)

-- the proof of 9 leaves the figure of 7, which is 1
pub sevens-left : figure_of third-image seven ≡ figure_of second-image seven
unfolding Counts third-image holds
sevens-left =
    (((before-third seven).1 (nonce-bytes 3 (lit< tt), lit< tt)).0 refl).1 (ap (λ (st : State). holds st.records seven) second-here.says)

-- closing 9 answers with its two proofs
pub nines-invoiced : (close_call cramped-image (signed nine 101) 1).figures.value ≡ 2
unfolding Counts
nines-invoiced = ((before-close nine).1 (confirmed-fits 9 101 (lit< tt) (lit< tt))).1 refl (ap (λ (f : Figures). f.number) close-nine.answers)

-- at the end both have one: 7 the one that was not refused, and 9 the one since it was opened again
pub sevens-shown : figure_of last-image seven ≡ 1
unfolding Counts holds
sevens-shown = at-end seven (ap (λ (st : State). holds st.records seven) last-here.says)

pub nines-shown : figure_of last-image nine ≡ 1
unfolding Counts holds
nines-shown = at-end nine (ap (λ (st : State). holds st.records nine) last-here.says)
