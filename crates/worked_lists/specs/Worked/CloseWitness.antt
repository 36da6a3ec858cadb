-- The host's claim speaks of closing: a list along which a counter is closed while it holds the log back, is refused by 28 and then opened
-- again, and the desk accepts the proofs of another counter before and after. From a start at 100, counter 7 is raised at 101, 9 is opened there, and
-- both share the increment at 102. And the program has no line for it. Assumes nothing.
use Rattle.std.specs.Prelude.{ℕ, ◌<◌, ◌≡◌, refl, List, [], ◌∷◌, take, replicate, Option, Some, None}
use Rattle.std.proofs.Common.{sym, ap, subst, ◌∙◌, arith, lit<}
use Rattle.forms.specs.Bytes.{Bytes, same, window}
use Rattle.forms.specs.Chain.{step, running_after, own_entries}
use Rattle.forms.specs.Entry.{Entry, units}
use Rattle.forms.specs.Confirmation.{ConfirmationFits}
use Rattle.forms.specs.Request.{request_at, request_bytes, joined, names}
use Rattle.forms.specs.Terms.{counter_id, global_clock}
use Rattle.forms.specs.declared.request.Request.{Request}
use Rattle.forms.specs.declared.running.Running.{Running}
use Rattle.forms.specs.declared.terms.CounterId.{CounterId}
use Rattle.log_image.specs.Sound.{holds, oldest, after, ending, record_of}
use Rattle.log_image.specs.State.{Record, State}
use Rattle.log_store.specs.Effect.{updated, sealed_entry, raised_by, without}
use Rattle.host.specs.Host.{Settled, open_refusal, asked_from, judge_next, judged_batch, proof_of, open_call, prove_output}
use Rattle.host.proofs.Laws.SettledLaws.{settled-refused}
use Rattle.grammar.specs.Command.{arguments_of, named, by_words}
use Rattle.grammar.specs.declared.command.Arguments.{Arguments}
use Rattle.grammar.specs.declared.command.Command.{Command}
use Rattle.console.specs.Step.{ran}
use Rattle.assurance.specs.HostList.{HostCall, settled_by, Taken, Fair, Runs}
use Rattle.worked_lists.specs.Worked.HostListWitness.{byte_nonce, nonce-bytes, request, joined_bytes, none-bytes, blank, blank-long}
use Rattle.assurance.proofs.Laws.HostProof.{host-claim}
use Rattle.worked_lists.specs.Worked.Places.{IsImageOf, Done, begun-image, begun-here, signed, confirmed-fits, opening, opens, raises, proves, closing, closes, shows}

-- ---- the counters

abbrev pub seven : CounterId
seven = counter_id 7

abbrev pub nine : CounterId
nine = counter_id 9

abbrev pub record_with : CounterId → ℕ → ℕ → ℕ → Record
record_with id t current proofs = record { held = signed id t; current = current; proofs = proofs }

-- the request of 7 alone, with the nonce of a byte, and that of 7 and 9 together
abbrev pub single : ℕ → ℕ → List Request
single b before = request b seven before ∷ []

abbrev shared : List Request
shared = request 2 seven 101 ∷ request 6 nine 101 ∷ []

abbrev pub raise_at : ℕ → List Request → Entry
raise_at t qs = sealed_entry (global_clock t) qs

abbrev pub state : ℕ → List Record → List Entry → State
state clock records log = record { clock = global_clock clock; records = records; log = log }

-- room for a proof of two entries with three requests
abbrev pub room : List ℕ
room = replicate {A = ℕ} 200 0

-- ---- the states along the list

-- counter 7 is opened at the clock of the start, and raised
abbrev pub holding : State
holding = state 100 (record_with seven 100 100 0 ∷ []) []

abbrev pub raised : State
raised = state 101 (record_with seven 100 101 0 ∷ []) (raise_at 101 (single 1 100) ∷ [])

-- counter 9 is opened; then both are raised, and a proof of 9 written
abbrev holding-both : State
holding-both = state 101 (record_with seven 100 101 0 ∷ record_with nine 101 101 0 ∷ []) (raise_at 101 (single 1 100) ∷ [])

abbrev both-raised : ℕ → State
both-raised proofs = state 102 (record_with seven 100 102 0 ∷ record_with nine 101 102 proofs ∷ []) (raise_at 101 (single 1 100) ∷ raise_at 102 shared ∷ [])

-- 7 is closed: of its entries that at 101 falls away, and that at 102, which 9 needs, stays
abbrev closed : State
closed = state 102 (record_with nine 101 102 1 ∷ []) (raise_at 102 shared ∷ [])

-- 7 is opened again, behind 9, and raised
abbrev reopened : State
reopened = state 102 (record_with nine 101 102 1 ∷ record_with seven 102 102 0 ∷ []) (raise_at 102 shared ∷ [])

abbrev raised-anew : State
raised-anew = state 103 (record_with nine 101 102 1 ∷ record_with seven 102 103 0 ∷ []) (raise_at 102 shared ∷ raise_at 103 (single 4 102) ∷ [])

-- ---- the calls

abbrev pub raising : ℕ → ℕ → HostCall
raising b before = HostCall.increment (joined (single b before)) (1 ∷ [])

abbrev sharing : HostCall
sharing = HostCall.increment (joined shared) (1 ∷ 1 ∷ [])

pub single-bytes : (b before : ℕ) → b < 256 → Bytes (joined (single b before))
single-bytes b before small = joined_bytes b seven before [] small none-bytes

shared-bytes : Bytes (joined shared)
shared-bytes = joined_bytes 2 seven 101 (request 6 nine 101 ∷ []) (lit< tt) (joined_bytes 6 nine 101 [] (lit< tt) none-bytes)

abbrev proving : ℕ → HostCall
proving b = HostCall.prove (byte_nonce b) nine room

abbrev pub calls : List HostCall
calls =
    opening seven 100
    ∷ raising 1 100
    ∷ opening nine 101
    ∷ sharing
    ∷ proving 3
    ∷ closing seven 102
    ∷ opening seven 101
    ∷ opening seven 102
    ∷ raising 4 102
    ∷ proving 5
    ∷ []

-- ---- the images along it

unfoldable pub holding-image : List ℕ
holding-image = (settled_by begun-image (opening seven 100)).image

unfoldable pub raised-image : List ℕ
raised-image = (settled_by holding-image (raising 1 100)).image

pub both-image : List ℕ
both-image = (settled_by raised-image (opening nine 101)).image

pub raised-both-image : List ℕ
raised-both-image = (settled_by both-image sharing).image

pub shown-image : List ℕ
shown-image = (settled_by raised-both-image (proving 3)).image

pub closed-image : List ℕ
closed-image = (settled_by shown-image (closing seven 102)).image

pub refused-image : List ℕ
refused-image = (settled_by closed-image (opening seven 101)).image

pub reopened-image : List ℕ
reopened-image = (settled_by refused-image (opening seven 102)).image

pub anew-image : List ℕ
anew-image = (settled_by reopened-image (raising 4 102)).image

-- ---- up to the closing

pub open-seven : Done (settled_by begun-image (opening seven 100)) 1 holding
unfolding holds oldest after own_entries
open-seven = opens seven 100 (confirmed-fits 7 100 (lit< tt) (lit< tt)) begun-here refl refl

pub holding-here : IsImageOf holding-image holding
unfolding holding-image
holding-here = open-seven.leads

pub raise-seven : Done (settled_by holding-image (raising 1 100)) 101 raised
unfolding judged_batch judge_next asked_from request_at joined request_bytes window holds record_of ending oldest after running_after units names raised_by updated
raise-seven = raises (joined (single 1 100)) (1 ∷ []) (single 1 100) (single-bytes 1 100 (lit< tt)) holding-here refl refl (λ none. omega (arith, none)) refl

pub raised-here : IsImageOf raised-image raised
unfolding raised-image
raised-here = raise-seven.leads

open-nine : Done (settled_by raised-image (opening nine 101)) 2 holding-both
unfolding holds oldest after own_entries names
open-nine = opens nine 101 (confirmed-fits 9 101 (lit< tt) (lit< tt)) raised-here refl refl

both-here : IsImageOf both-image holding-both
unfolding both-image
both-here = open-nine.leads

raise-both : Done (settled_by both-image sharing) 102 (both-raised 0)
unfolding judged_batch judge_next asked_from request_at joined request_bytes window holds record_of ending oldest after running_after step units names raised_by updated
raise-both = raises (joined shared) (1 ∷ 1 ∷ []) shared shared-bytes both-here refl refl (λ none. omega (arith, none)) refl

raised-both-here : IsImageOf raised-both-image (both-raised 0)
unfolding raised-both-image
raised-both-here = raise-both.leads

-- the first proof: a header, a confirmation, a certificate and an entry of two requests
prove-before : Done (settled_by raised-both-image (proving 3)) 144 (both-raised 1)
unfolding holds record_of updated oldest after
prove-before = proves 3 nine room raised-both-here refl refl

shown-here : IsImageOf shown-image (both-raised 1)
unfolding shown-image
shown-here = prove-before.leads

-- ---- the closing

-- one counter is left, and of two entries one; no proof was written for 7
pub closing-done : Done (settled_by shown-image (closing seven 102)) 0 closed
unfolding holds record_of ending oldest after running_after step names without
closing-done = closes (signed seven 102) shown-here refl refl

closed-here : IsImageOf closed-image closed
unfolding closed-image
closed-here = closing-done.leads

-- at 101 it is not opened again, since a request at 102 names it: the image stays as it was
pub refuses : open_call closed-image (signed seven 101) 1 ≡ record { figures = record { number = 28; value = 0 }; image = closed-image }
unfolding holds oldest after own_entries names
refuses =
    let number = ap (λ (x : State). open_refusal x (signed seven 101) 1) closed-here.says in
    settled-refused closed-image _ _ _ closed-here.kept.is-sound (λ none. let no : ⊥ = omega (arith, number, none) in no)
    ∙ ap (λ (n : ℕ). record { figures = record { number = n; value = 0 }; image = closed-image }) number

refused-here : IsImageOf refused-image closed
unfolding refused-image
refused-here = subst (λ (image : List ℕ). IsImageOf image closed) (sym (ap (λ (r : Settled). r.image) refuses)) closed-here

-- at 102 it is
pub reopens : Done (open_call refused-image (signed seven 102) 1) 2 reopened
unfolding holds oldest after own_entries names
reopens = opens seven 102 (confirmed-fits 7 102 (lit< tt) (lit< tt)) refused-here refl refl

reopened-here : IsImageOf reopened-image reopened
unfolding reopened-image
reopened-here = reopens.leads

raise-anew : Done (settled_by reopened-image (raising 4 102)) 103 raised-anew
unfolding judged_batch judge_next asked_from request_at joined request_bytes window holds record_of ending oldest after running_after step units names raised_by updated
raise-anew = raises (joined (single 4 102)) (1 ∷ []) (single 4 102) (single-bytes 4 102 (lit< tt)) reopened-here refl refl (λ none. omega (arith, none)) refl

anew-here : IsImageOf anew-image raised-anew
unfolding anew-image
anew-here = raise-anew.leads

-- ---- what the claim says of the two proofs

claimed : Fair raised-both-image (proving 3) × Fair anew-image (proving 5)
unfolding Runs begun-image holding-image raised-image both-image raised-both-image shown-image closed-image refused-image reopened-image anew-image
claimed =
    let widths : (id t : ℕ) → id < 4294967296 → t < 4294967296 → ConfirmationFits (signed (counter_id id) t) = confirmed-fits in
    let start : Runs begun-image calls = host-claim blank (global_clock 100) calls blank-long (lit< tt) in
    let one : Runs raised-image (opening nine 101 ∷ sharing ∷ proving 3 ∷ closing seven 102 ∷ opening seven 101 ∷ opening seven 102 ∷ raising 4 102 ∷ proving 5 ∷ []) =
    ((start (widths 7 100 (lit< tt) (lit< tt))).2 (single-bytes 1 100 (lit< tt))).2 in
    let two : Runs raised-both-image (proving 3 ∷ closing seven 102 ∷ opening seven 101 ∷ opening seven 102 ∷ raising 4 102 ∷ proving 5 ∷ []) =
    ((one (widths 9 101 (lit< tt) (lit< tt))).2 shared-bytes).2 in
    let first = two (nonce-bytes 3 (lit< tt), lit< tt) in
    let three : Runs closed-image (opening seven 101 ∷ opening seven 102 ∷ raising 4 102 ∷ proving 5 ∷ []) = (first.2 (widths 7 102 (lit< tt) (lit< tt))).2 in
    let four : Runs reopened-image (raising 4 102 ∷ proving 5 ∷ []) = ((three (widths 7 101 (lit< tt) (lit< tt))).2 (widths 7 102 (lit< tt) (lit< tt))).2 in
    let five : Runs anew-image (proving 5 ∷ []) = (four (single-bytes 4 102 (lit< tt))).2 in
    (first.0, (five (nonce-bytes 5 (lit< tt), lit< tt)).0)

-- counter 9 has been raised once since its opening
abbrev once : Running
once = record { value = 102; openings = 1 }

-- before the closing the desk accepts 144 bytes, with an entry that counter 7 shares, and shows 102 at 102
pub taken-before : Taken (take 144 (prove_output raised-both-image (byte_nonce 3) nine room)) (proof_of (both-raised 0) (byte_nonce 3) nine) nine (byte_nonce 3) once (global_clock 102)
unfolding holds record_of ending oldest after running_after step names
taken-before = shows 3 nine room once raised-both-here prove-before claimed.0 refl refl

-- and after it 200, with an entry that the closed counter shared and one of the reopened, and shows 102 at 103
pub taken-after : Taken (take 200 (prove_output anew-image (byte_nonce 5) nine room)) (proof_of raised-anew (byte_nonce 5) nine) nine (byte_nonce 5) once (global_clock 103)
unfolding holds record_of updated ending oldest after running_after step names
taken-after = shows 5 nine room once anew-here (proves 5 nine room anew-here refl refl) claimed.1 refl refl

-- ---- the program

abbrev close_name : List ℕ
close_name = 99 ∷ 108 ∷ 111 ∷ 115 ∷ 101 ∷ []

-- its lines are those of document 01: one that begins with `close` answers 27, whatever figures follow, and leaves the image
pub no_line : (s : List ℕ) (figures : List (List ℕ)) → ran s (by_words (close_name ∷ figures)) ≡ record { figures = record { number = 27; value = 0 }; image = s }
unfolding same ran
no_line s figures = ap (ran s) (go (arguments_of figures))
  where
    go : (a : Option Arguments) → named close_name a ≡ Command.Other
    go (Some (Arguments.One a)) = refl
    go (Some (Arguments.Two a b)) = refl
    go (Some (Arguments.Three a b c)) = refl
    go None = refl
