-- Each thing that an honest server sees to is needed: a list for each in which it alone is not kept, at one place. Assumes nothing.
use Rattle.std.specs.Prelude.{ℕ, zero, suc, ◌≡◌, refl, false, List, [], ◌∷◌, ◌++◌, length, drop}
use Rattle.std.proofs.Common.{sym, ap, ap₂, subst, subst₂, ◌∙◌, arith, lit<, lit≤, length-append}
use Rattle.std.proofs.lemmas.Bool.{false≢true}
use Rattle.forms.specs.Bytes.{window}
use Rattle.forms.specs.Chain.{step, running_after, value_after}
use Rattle.forms.specs.Entry.{units}
use Rattle.forms.specs.Request.{RequestsFit, request_at, request_bytes, joined, names, before_of}
use Rattle.forms.specs.Terms.{global_clock}
use Rattle.forms.specs.declared.confirmation.Confirmation.{Confirmation}
use Rattle.forms.specs.declared.request.Request.{Request}
use Rattle.forms.specs.declared.terms.GlobalClock.{GlobalClock}
use Rattle.validity.specs.declared.proof.Kind.{Kind}
use Rattle.history.specs.History.{list, increment, read, carried, increments, clock_after, Made, made, unmade, increment_at, ReadStands}
use Rattle.history.specs.Value.{Signatures}
use Rattle.log_image.specs.Sound.{holds, oldest, after, ending, record_of}
use Rattle.log_image.specs.State.{State, decode}
use Rattle.log_store.specs.Effect.{updated, raised_by}
use Rattle.host.specs.Host.{held_of, has_entry, asked, asked_from, judge_next, judged_batch, counted, last_entries, start_call, increment_call}
use Rattle.host.specs.declared.answer.Figures.{Figures}
use Rattle.worked_lists.specs.Worked.CloseWitness.{seven, record_with, state, single, single-bytes, raising, raise_at, room, raised, holding-image, raised-image, holding-here, raised-here}
use Rattle.assurance.specs.DeskList.{Call, event, confirmed, At, history}
use Rattle.assurance.specs.HostList.{HostCall, settled_by}
use Rattle.worked_lists.specs.Worked.HostListWitness.{byte_nonce, nonce-bytes, blank, blank-long, start-image}
use Rattle.assurance.proofs.Laws.HostSteps.{start-stores, start-steps}
use Rattle.worked_lists.specs.Worked.Places.{IsImageOf, Done, begun-image, signed, confirmed-fits, opening, raises, proves, lasts, confirms}
use Rattle.assurance.proofs.Laws.ServerAlong.{◌and◌, AlongBut, honest-but, typed-along}
use Rattle.worked_lists.specs.Worked.ServerFaulty.{Faulty, all-signed, any-signed, asks, asks-fit, behind-start, each_first, entry-borne, handed-from, handed-last, last-faulty, last-is, last-writes, lasting, not-asked, not_made, nothing-asked, opened-writes, owed, owed-asks, paid-asks, proving, raise, signed-asks}
use Rattle.assurance.specs.ServerList.{ServerItem, host, beside, desk_list, host_list, image_after, owing, handed_last, Paid, SeenTo, Writes}
use Rattle.assurance.proofs.Laws.ServerNeeds.{confirmation-needed, entries-needed, prove-needs, last-needs}
use Rattle.assurance.proofs.Laws.ServerWritten.{Written, prove-written, last_written}

-- ---- a start that is not at the module's clock

begun-again : (settled_by (start_call blank (global_clock 101)).image (HostCall.start (global_clock 100))).image ≡ begun-image
unfolding begun-image
begun-again =
    start-stores (start_call blank (global_clock 101)).image (global_clock 100) (start-steps blank (global_clock 101) blank-long (lit< tt)).kept.long
    ∙ sym start-image

-- the module's clock reads 101, and the host is started at 100
abbrev pub started-elsewhere : List ServerItem
started-elsewhere = host (HostCall.start (global_clock 100)) ∷ behind-start

pub start-faulty : Faulty (global_clock 101) all-signed started-elsewhere 0
unfolding AlongBut image_after host_list desk_list begun-image holding-image raised-image history clock_after increments increment_at
start-faulty =
    last-faulty (global_clock 101) all-signed started-elsewhere 0 5
    (typed-along (global_clock 101) all-signed blank started-elsewhere
    (lit< tt and tt and confirmed-fits 7 100 (lit< tt) (lit< tt) and single-bytes 1 100 (lit< tt) and tt and lit< tt and tt))
    (honest-but (global_clock 101) all-signed blank started-elsewhere 0
    (subst (λ (s : List ℕ). AlongBut (SeenTo (global_clock 101) all-signed) 5 s [] [] behind-start) (sym begun-again)
    (tt and (λ done. (0, refl)) and (λ done. signed-asks) and paid-asks and (λ done. lit≤ tt) and tt)))
    refl (ap (λ (s : List ℕ). (settled_by (settled_by s (opening seven 100)).image raise).image) begun-again)
    (λ bears. not_made _ (entry-borne (global_clock 101) all-signed (desk_list started-elsewhere) 2 bears).carried.1)

-- ---- the module is given a later raise's requests first

abbrev asks-later : List Request
asks-later = single 2 101

pub later-fit : RequestsFit asks-later
later-fit = RequestsFit.one_more (record { nonce = refl; bytes = nonce-bytes 2 (lit< tt); id = lit< tt; before = lit< tt }) RequestsFit.none

abbrev raise-later : HostCall
raise-later = raising 2 101

unfoldable twice-image : List ℕ
twice-image = (settled_by raised-image raise-later).image

-- 7 is raised to 102 before the module has done the first raise
abbrev raised-twice : State
raised-twice = state 102 (record_with seven 100 102 0 ∷ []) (raise_at 101 asks ∷ raise_at 102 asks-later ∷ [])

later-passes : (judged_batch raised (asked (joined asks-later) (1 ∷ []))).passed ≡ asks-later
unfolding judged_batch judge_next asked_from request_at joined request_bytes window holds record_of ending oldest after running_after step units names
later-passes = refl

raise-twice : Done (settled_by raised-image raise-later) 102 raised-twice
unfolding joined request_bytes raised_by updated
raise-twice =
    raises (joined asks-later) (1 ∷ []) asks-later (single-bytes 2 101 (lit< tt)) raised-here refl later-passes (λ none. omega (arith, none)) refl

twice-here : IsImageOf twice-image raised-twice
unfolding twice-image
twice-here = raise-twice.leads

last-twice : Done (settled_by twice-image lasting) 92 (counted raised-twice seven)
unfolding holds record_of updated oldest after has_entry names
last-twice = lasts seven (global_clock 101) room twice-here refl refl

abbrev handed-twice : Call
handed-twice = handed_last twice-image seven (global_clock 101) room

twice-writes : Writes twice-image lasting handed-twice
twice-writes = (ap (λ (f : Figures). f.number) last-twice.answers, refl)

twice-is : Written handed-twice Kind.Increment (signed seven 100) (raise_at 101 asks ∷ []) (global_clock 101)
unfolding record_of after oldest
twice-is =
    subst (λ (st : State). Written handed-twice Kind.Increment (held_of st seven) (last_entries st seven (global_clock 101)) (global_clock 101)) twice-here.says
    (last_written twice-image twice-here.kept seven (global_clock 101) room handed-twice (lit< tt) twice-writes).1

abbrev passed_later : List Request
passed_later = (judged_batch (decode raised-image) (asked (joined asks-later) (1 ∷ []))).passed

abbrev owed_more : List (List Request)
owed_more = owing (increment_call raised-image (joined asks-later) (1 ∷ [])).figures.value passed_later

owed-later : owed_more ≡ asks-later ∷ []
owed-later =
    ap₂ owing (ap (λ (f : Figures). f.value) raise-twice.answers)
    (ap (λ (x : State). (judged_batch x (asked (joined asks-later) (1 ∷ []))).passed) raised-here.says ∙ later-passes)

-- both times it is given the later ones, of which the second is in its order
abbrev pub out_of_order : List ServerItem
out_of_order =
    beside (confirmed (signed seven 100))
    ∷ host (opening seven 100)
    ∷ host raise
    ∷ host raise-later
    ∷ beside (event (increment (list asks-later later-fit)))
    ∷ beside (event (increment (list asks-later later-fit)))
    ∷ host lasting
    ∷ []

pub order-faulty : Faulty (global_clock 100) all-signed out_of_order 4
unfolding AlongBut image_after host_list desk_list begun-image holding-image raised-image twice-image history clock_after increments increment_at before_of
order-faulty =
    record {
      typed = typed-along (global_clock 100) all-signed blank out_of_order
          (tt and confirmed-fits 7 100 (lit< tt) (lit< tt) and single-bytes 1 100 (lit< tt) and single-bytes 2 101 (lit< tt) and tt and tt and lit< tt and tt);
      honest-else = honest-but (global_clock 100) all-signed blank out_of_order 4
          (tt and (λ done. (0, refl)) and (λ done. signed-asks) and (λ done. any-signed passed_later) and paid-later and (λ done. lit≤ tt) and tt);
      place = 6;
      from = lasting;
      handed = handed-twice;
      stands = refl;
      writes = twice-writes;
      not-borne = λ bears.
          let there = (each_first (entries-needed (global_clock 100) all-signed (desk_list out_of_order) 3 handed-twice Kind.Increment (signed seven 100)
          (raise_at 101 asks ∷ []) (global_clock 101) twice-is bears)).carried in
          not_first there.0 there.1;
    }
  where
    paid-later : Paid (drop 1 (owed ++ owed_more)) (list asks-later later-fit)
    paid-later = subst₂ (λ (a b : List (List Request)). Paid (drop 1 (a ++ b)) (list asks-later later-fit)) (sym owed-asks) (sym owed-later) (later-fit, refl)

    stated_in : Made → ℕ
    stated_in (made given) = before_of seven (carried given)
    stated_in unmade = 0

    not_first : (fit : RequestsFit asks) → made (list asks-later later-fit) ≡ made (list asks fit) → ⊥
    not_first fit same = let stated : ◌≡◌ {A = ℕ} 101 100 = ap stated_in same in omega (arith, stated)

-- ---- the module increments where nothing is owed

abbrev pub incremented-unasked : List ServerItem
incremented-unasked =
    beside (confirmed (signed seven 100))
    ∷ host (opening seven 100)
    ∷ beside (event (increment nothing-asked))
    ∷ host raise
    ∷ beside (event (increment (list asks asks-fit)))
    ∷ host lasting
    ∷ []

pub unasked-faulty : Faulty (global_clock 100) all-signed incremented-unasked 2
unfolding AlongBut image_after host_list desk_list begun-image holding-image raised-image history clock_after increments increment_at
unasked-faulty =
    last-faulty (global_clock 100) all-signed incremented-unasked 2 5
    (typed-along (global_clock 100) all-signed blank incremented-unasked
    (tt and confirmed-fits 7 100 (lit< tt) (lit< tt) and tt and single-bytes 1 100 (lit< tt) and tt and lit< tt and tt))
    (honest-but (global_clock 100) all-signed blank incremented-unasked 2
    (tt and (λ done. (0, refl)) and (λ done. signed-asks) and paid-asks and (λ done. lit≤ tt) and tt))
    refl refl
    (λ bears. let there = (entry-borne (global_clock 100) all-signed (desk_list incremented-unasked) 3 bears).carried in not-asked there.0 there.1)

-- ---- a yes for a request is not true

-- nobody signed anything
abbrev none-signed : Signatures
none-signed q = false

pub request-faulty : Faulty (global_clock 100) none-signed behind-start 2
unfolding AlongBut image_after host_list desk_list begun-image holding-image raised-image history clock_after increments
request-faulty =
    last-faulty (global_clock 100) none-signed behind-start 2 4
    (typed-along (global_clock 100) none-signed blank behind-start
    (tt and confirmed-fits 7 100 (lit< tt) (lit< tt) and single-bytes 1 100 (lit< tt) and tt and lit< tt and tt))
    (honest-but (global_clock 100) none-signed blank behind-start 2 (tt and (λ done. (0, refl)) and paid-asks and (λ done. lit≤ tt) and tt))
    refl refl
    (λ bears. false≢true (entry-borne (global_clock 100) none-signed (desk_list behind-start) 2 bears).all-signed.0)

-- ---- a yes for a confirmation that opens is not true

abbrev pub opened-unsigned : List ServerItem
opened-unsigned = host (opening seven 100) ∷ host raise ∷ beside (event (increment (list asks asks-fit))) ∷ host lasting ∷ []

pub opening-faulty : Faulty (global_clock 100) all-signed opened-unsigned 0
unfolding AlongBut image_after host_list desk_list begun-image holding-image raised-image history clock_after increments
opening-faulty =
    last-faulty (global_clock 100) all-signed opened-unsigned 0 3
    (typed-along (global_clock 100) all-signed blank opened-unsigned
    (confirmed-fits 7 100 (lit< tt) (lit< tt) and single-bytes 1 100 (lit< tt) and tt and lit< tt and tt))
    (honest-but (global_clock 100) all-signed blank opened-unsigned 0 ((λ done. signed-asks) and paid-asks and (λ done. lit≤ tt) and tt))
    refl refl
    (λ bears.
    let there = confirmation-needed (global_clock 100) all-signed (desk_list opened-unsigned) 1 handed-last Kind.Increment (signed seven 100)
    (raise_at 101 asks ∷ []) (global_clock 101) last-is bears.truth in
    none-stands there.0 there.2)
  where
    none-stands : (j : ℕ) → At (event (increment (list asks asks-fit)) ∷ []) j (confirmed (signed seven 100)) → ⊥
    none-stands zero stands = let z : ◌≡◌ {A = ℕ} 0 1 = cc in omega arith
    none-stands (suc j) stands = let z : ◌≡◌ {A = ℕ} 0 1 = cc in omega arith

-- ---- a proof is written before the increment that it closes on

abbrev pub proved-early : List ServerItem
proved-early = beside (confirmed (signed seven 100)) ∷ host (opening seven 100) ∷ host raise ∷ host lasting ∷ []

pub early-faulty : Faulty (global_clock 100) all-signed proved-early 3
unfolding AlongBut image_after host_list desk_list begun-image holding-image raised-image history clock_after increments
early-faulty =
    last-faulty (global_clock 100) all-signed proved-early 3 3
    (typed-along (global_clock 100) all-signed blank proved-early
    (tt and confirmed-fits 7 100 (lit< tt) (lit< tt) and single-bytes 1 100 (lit< tt) and lit< tt and tt))
    (honest-but (global_clock 100) all-signed blank proved-early 3 (tt and (λ done. (0, refl)) and (λ done. signed-asks) and tt))
    refl refl
    (λ bears.
    omega (
      arith,
      last-needs (global_clock 100) all-signed (desk_list proved-early) 1 handed-last raised-image raised-here.kept seven (global_clock 101)
          room (lit< tt) last-writes bears.truth,
    ))

-- ---- a proof is written with no clock read

abbrev pub proved-unread : List ServerItem
proved-unread = beside (confirmed (signed seven 100)) ∷ host (opening seven 100) ∷ host (proving 4) ∷ []

pub unread-faulty : Faulty (global_clock 100) all-signed proved-unread 2
unfolding AlongBut image_after host_list desk_list begun-image holding-image history
unread-faulty =
    record {
      typed = typed-along (global_clock 100) all-signed blank proved-unread
          (tt and confirmed-fits 7 100 (lit< tt) (lit< tt) and (nonce-bytes 4 (lit< tt), lit< tt) and tt);
      honest-else = honest-but (global_clock 100) all-signed blank proved-unread 2 (tt and (λ done. (0, refl)) and tt);
      place = 2;
      from = proving 4;
      handed = handed-from 4 holding-image;
      stands = refl;
      writes = opened-writes;
      not-borne = λ bears.
          no_read (prove-needs (global_clock 100) all-signed (desk_list proved-unread) 1 (handed-from 4 holding-image) holding-image holding-here.kept
          (byte_nonce 4) seven room (lit< tt) opened-writes
          bears.truth);
    }
  where
    no_read : {reading : GlobalClock} → ReadStands (global_clock 100) [] reading (byte_nonce 4) → ⊥
    no_read stands = omega (arith, ap length stands.split ∙ length-append stands.earlier (read (byte_nonce 4) ∷ stands.later))

-- ---- a yes for a later confirmation is not true

abbrev confirming : HostCall
confirming = HostCall.confirm (signed seven 101) 1

unfoldable confirmed-image : List ℕ
confirmed-image = (settled_by raised-image confirming).image

-- 7's record with the confirmation of 101, and no entry behind it
abbrev confirmed-state : State
confirmed-state = record { clock = global_clock 101; records = record { held = signed seven 101; current = 101; proofs = 0 } ∷ []; log = [] }

confirm-seven : Done (settled_by raised-image confirming) 0 confirmed-state
unfolding holds record_of updated oldest after value_after running_after step names
confirm-seven = confirms (signed seven 101) (confirmed-fits 7 101 (lit< tt) (lit< tt)) raised-here refl refl

confirmed-here : IsImageOf confirmed-image confirmed-state
unfolding confirmed-image
confirmed-here = confirm-seven.leads

prove-confirmed : Done (settled_by confirmed-image (proving 4)) 60 (counted confirmed-state seven)
unfolding holds record_of updated oldest after
prove-confirmed = proves 4 seven room confirmed-here refl refl

confirmed-writes : Writes confirmed-image (proving 4) (handed-from 4 confirmed-image)
confirmed-writes = (ap (λ (f : Figures). f.number) prove-confirmed.answers, refl)

abbrev pub confirmed-unsigned : List ServerItem
confirmed-unsigned =
    beside (confirmed (signed seven 100))
    ∷ host (opening seven 100)
    ∷ host raise
    ∷ beside (event (increment (list asks asks-fit)))
    ∷ host confirming
    ∷ beside (event (read (byte_nonce 4)))
    ∷ host (proving 4)
    ∷ []

pub confirmation-faulty : Faulty (global_clock 100) all-signed confirmed-unsigned 4
unfolding AlongBut image_after host_list desk_list begun-image holding-image raised-image confirmed-image history clock_after increments record_of
confirmation-faulty =
    record {
      typed = typed-along (global_clock 100) all-signed blank confirmed-unsigned
          (tt and confirmed-fits 7 100 (lit< tt) (lit< tt) and single-bytes 1 100 (lit< tt) and tt and confirmed-fits 7 101 (lit< tt) (lit< tt) and tt
          and (nonce-bytes 4 (lit< tt), lit< tt) and tt);
      honest-else = honest-but (global_clock 100) all-signed blank confirmed-unsigned 4
          (tt and (λ done. (0, refl)) and (λ done. signed-asks) and paid-asks and tt and (λ done. read-there) and tt);
      place = 6;
      from = proving 4;
      handed = handed-from 4 confirmed-image;
      stands = refl;
      writes = confirmed-writes;
      not-borne = λ bears.
          let p = handed-from 4 confirmed-image in
          let written = (prove-written confirmed-image confirmed-here.kept (byte_nonce 4) seven room p (lit< tt) confirmed-writes).1 in
          let there = confirmation-needed (global_clock 100) all-signed (desk_list confirmed-unsigned) 3 p Kind.Read _ _ _ written bears.truth in
          none-stands there.0
          (subst (λ (st : State). At (desk_list confirmed-unsigned) there.0 (confirmed (held_of st seven))) confirmed-here.says there.2);
    }
  where
    read-there : ReadStands (global_clock 100) (increment (list asks asks-fit) ∷ read (byte_nonce 4) ∷ []) (decode confirmed-image).clock (byte_nonce 4)
    read-there =
        record {
          earlier = increment (list asks asks-fit) ∷ [];
          later = [];
          split = refl;
          reached = ap (λ (x : State). x.clock) (sym confirmed-here.says);
        }

    none-stands : (j : ℕ)
        → At (confirmed (signed seven 100) ∷ event (increment (list asks asks-fit)) ∷ event (read (byte_nonce 4)) ∷ []) j (confirmed (signed seven 101)) → ⊥
    none-stands zero stands = let same : signed seven 100 ≡ signed seven 101 = cc in omega (arith, ap (λ (k : Confirmation). k.value) same)
    none-stands (suc zero) stands = let z : ◌≡◌ {A = ℕ} 0 1 = cc in omega arith
    none-stands (suc (suc zero)) stands = let z : ◌≡◌ {A = ℕ} 0 1 = cc in omega arith
    none-stands (suc (suc (suc j))) stands = let z : ◌≡◌ {A = ℕ} 0 1 = cc in omega arith
