-- A counter that is not opened truly: two lists along which the server is honest, while the value that the desk shows is not the history's. In one, 7 has
-- two openings. In the other all that demand 3 supposes of 7 holds, but two requests have one digest, and 7 is opened late, by a confirmation made from a
-- proof that somebody else wrote with the wrong one of them. So what demand 3 supposes is not enough. Assumes nothing.
use Rattle.std.specs.Prelude.{ℕ, ◌*◌, ◌/◌, ◌%◌, ◌<◌, ◌≡◌, Bool, true, not, cond, ◌&&◌, ◌||◌, eqb, ltb, length, refl, List, [], ◌∷◌, ◌++◌}
use Rattle.std.proofs.Common.{sym, ap₂, ◌∙◌, arith, ap, subst, lit<, lit≤}
use Rattle.std.proofs.Math.Option.{some}
use Rattle.forms.specs.Bytes.{Bytes}
use Rattle.forms.specs.Laws.BytesLaws.{same_refl}
use Rattle.forms.specs.Chain.{passes, step, follows, running_after, chains, own_entries}
use Rattle.forms.specs.Entry.{Entry, log_bytes, units}
use Rattle.forms.specs.Laws.EntryLaws.{EntriesFit}
use Rattle.forms.specs.Limits.{max_requests, request_len}
use Rattle.forms.specs.Laws.LogLaws.{Counted}
use Rattle.forms.specs.Request.{RequestFits, RequestsFit, joined, names, before_of, names_twice}
use Rattle.forms.specs.Laws.RequestLaws.{joined_length, request-bytes}
use Rattle.forms.specs.Terms.{global_clock}
use Rattle.forms.specs.declared.certificate.Certificate.{Certificate}
use Rattle.forms.specs.declared.confirmation.Confirmation.{Confirmation}
use Rattle.forms.specs.declared.request.Request.{Request}
use Rattle.forms.specs.declared.running.Running.{Running}
use Rattle.forms.specs.declared.terms.CounterId.{CounterId}
use Rattle.forms.specs.declared.terms.GlobalClock.{GlobalClock}
use Rattle.digest.specs.Seal.{digest_of, is_sealed}
use Rattle.validity.specs.Proof.{Fields, proof_bytes}
use Rattle.validity.specs.Laws.RoundTrip.{Takes, encode-reads}
use Rattle.validity.specs.declared.proof.Kind.{Kind}
use Rattle.desk_table.specs.Answer.{figures}
use Rattle.desk_table.specs.Desk.{certificate, all_yes}
use Rattle.desk_table.specs.declared.answer.Figures.{Figures as DeskFigures}
use Rattle.history.specs.History.{HistoryEvent, list, increment, read, increments, clock_after, increment_at, ReadStands}
use Rattle.history.specs.Value.{signed_among, counts, largest, value_at}
use Rattle.log_image.specs.Laws.ImageParts.{bytes-append}
use Rattle.log_image.specs.Sound.{holds, oldest, after, ending, consecutive, all_proper, record_of}
use Rattle.log_image.specs.State.{State, decode}
use Rattle.log_store.proofs.Laws.EachRecordLaws.{Each}
use Rattle.log_store.proofs.Laws.RaiseStores.{entry-of-fits}
use Rattle.log_store.specs.Effect.{updated, raised_by}
use Rattle.host.specs.Host.{Asked, asked, asked_from, batch_refusal, judge_next, judged_batch, counted, increment_call}
use Rattle.host.specs.declared.answer.Figures.{Figures}
use Rattle.assurance.proofs.Laws.AcceptLaws.{SetOut, Wanted, taken, read_back, read-accepted}
use Rattle.worked_lists.specs.Worked.CloseWitness.{seven, nine, record_with, state, raise_at, room, holding-image, holding-here}
use Rattle.assurance.specs.DeskList.{Call, Item, event, confirmed, call, history, shown, Certifies, Truth, Opening, MadeFrom, Supposed, Sound}
use Rattle.worked_lists.specs.Worked.DeskWitness.{everywhere-at}
use Rattle.assurance.specs.HostList.{HostCall, settled_by, Taken, read_running}
use Rattle.worked_lists.specs.Worked.HostListWitness.{byte_nonce, nonce-bytes, none-bytes, blank}
use Rattle.assurance.proofs.Laws.HostProof.{prove-fair}
use Rattle.assurance.proofs.Laws.ListLaws.{opening-once}
use Rattle.worked_lists.specs.Worked.Places.{IsImageOf, Done, begun-image, begun-here, signed, confirmed-fits, opening, opens, raises, proves, reads}
use Rattle.assurance.proofs.Laws.ProgramLines.{request-with-bytes}
use Rattle.assurance.proofs.Laws.ServerAlong.{◌and◌, AlongBut, honest-along, typed-along}
use Rattle.worked_lists.specs.Worked.ServerFaulty.{all-signed, any-signed, proving, handed-from, opened-writes}
use Rattle.assurance.specs.ServerList.{ServerItem, host, beside, desk_list, host_list, image_after, image_at, owing, Paid, Honest, Typed, Writes}
use Rattle.assurance.proofs.Laws.ServerProof.{own-yes, entries-each}
use Rattle.assurance.proofs.Laws.ServerWritten.{Written, set-down}

-- a proof of 7 is not sound where the history gives 7, from its opening on, another value than the host reads
unsound : {s : List ℕ} {st : State} (b : ℕ) (l : List Item) (first : Confirmation) (running : Running) → IsImageOf s st
    → Writes s (proving b) (handed-from b s) → read_running s seven ≡ running → Opening l seven 0 first
    → (running.value ≡ value_at all-signed seven (global_clock 100) (history l) first.reading st.clock → ⊥)
    → Sound (global_clock 100) all-signed l (handed-from b s) → ⊥
unsound {s} b l first running here writes runs opens-first other sound =
    let given = (prove-fair s here.kept (byte_nonce b) seven room (lit< tt) writes.0).1.accepted in
    let shows : (shown (handed-from b s)).value ≡ running.value = ap (λ (f : DeskFigures). f.value) given ∙ ap (λ (r : Running). r.value) runs in
    let closes_at = ap (λ (f : DeskFigures). global_clock f.closing) given ∙ ap (λ (x : State). x.clock) here.says in
    let only = opening-once l seven sound.place 0 sound.opening first sound.opens opens-first in
    other
    (sym shows ∙ sound.value
    ∙ ap₂ (λ (k : Confirmation) (t : GlobalClock). value_at all-signed seven (global_clock 100) (history l) k.reading t) only closes_at)

-- ---- opened by a second opening

holding-reads : read_running holding-image seven ≡ record { value = 100; openings = 0 }
unfolding holds record_of ending oldest after running_after
holding-reads = reads seven holding-here refl

value-99 : value_at all-signed seven (global_clock 100) (read (byte_nonce 4) ∷ []) (global_clock 99) (global_clock 100) ≡ 99
unfolding value_at largest counts increment_at
value-99 = refl

-- 7 has two openings in the list, and the host opens it by the second
abbrev pub opened-twice : List ServerItem
opened-twice =
    beside (confirmed (signed seven 99))
    ∷ beside (confirmed (signed seven 100))
    ∷ host (opening seven 100)
    ∷ beside (event (read (byte_nonce 4)))
    ∷ host (proving 4)
    ∷ []

-- the server is honest all along, and so the proof is borne out; but the history gives 7 the value 99 at 100, and the desk shows 100
pub twice-unsound : Typed opened-twice
    × ((i : ℕ) → Honest (global_clock 100) all-signed blank opened-twice i)
    × Writes (image_at blank (global_clock 100) opened-twice 4) (proving 4) (handed-from 4 holding-image)
    × (Sound (global_clock 100) all-signed (desk_list opened-twice) (handed-from 4 holding-image) → ⊥)
unfolding AlongBut image_after host_list desk_list begun-image holding-image history clock_after increments
twice-unsound = (
  typed-along (global_clock 100) all-signed blank opened-twice
      (tt and tt and confirmed-fits 7 100 (lit< tt) (lit< tt) and tt and (nonce-bytes 4 (lit< tt), lit< tt) and tt),
  honest-along (global_clock 100) all-signed blank opened-twice (tt and tt and (λ done. (1, refl)) and tt and (λ done. read-there) and tt),
  opened-writes,
  unsound 4 (desk_list opened-twice) (signed seven 99) _ holding-here opened-writes holding-reads
      (record { stands = refl; own = refl; before = λ j k earlier stands own. omega arith }) (λ same. omega (arith, same, value-99)),
)
  where
    read-there : ReadStands (global_clock 100) (read (byte_nonce 4) ∷ []) (decode holding-image).clock (byte_nonce 4)
    read-there = record { earlier = []; later = []; split = refl; reached = ap (λ (x : State). x.clock) (sym holding-here.says) }

-- ---- opened late, by a confirmation made from a proof that somebody else wrote

-- a first request of a counter opened at 100
abbrev pub asking : CounterId → List ℕ → Request
asking id nonce = record { nonce = nonce; id = id; before = 100 }

-- 9 is opened
nine-image : List ℕ
nine-image = (settled_by begun-image (opening nine 100)).image

abbrev holding-nine : State
holding-nine = state 100 (record_with nine 100 100 0 ∷ []) []

nine-here : IsImageOf nine-image holding-nine
unfolding nine-image holds oldest after own_entries
nine-here = (opens nine 100 (confirmed-fits 9 100 (lit< tt) (lit< tt)) begun-here refl refl).leads

-- the certificate of the clock read at 101
abbrev read-at-101 : Certificate
read-at-101 = record { reading = global_clock 101; nonce = byte_nonce 4 }

-- two requests with one digest, whatever their nonces
module _ (n7 n9 : List ℕ) (fits-7 : RequestFits (asking seven n7)) (fits-9 : RequestFits (asking nine n9))
    (agree : digest_of (asking seven n7 ∷ []) ≡ digest_of (asking nine n9 ∷ [])) where
  abbrev asks-7 : List Request
  asks-7 = asking seven n7 ∷ []

  abbrev asks-9 : List Request
  asks-9 = asking nine n9 ∷ []

  fit-7 : RequestsFit asks-7
  fit-7 = RequestsFit.one_more fits-7 RequestsFit.none

  pub fit-9 : RequestsFit asks-9
  fit-9 = RequestsFit.one_more fits-9 RequestsFit.none

  -- ---- the host: 9 is raised to 101, then 7 is opened there

  abbrev raise-9 : HostCall
  raise-9 = HostCall.increment (joined asks-9) (1 ∷ [])

  raise-bytes : Bytes (joined asks-9)
  unfolding joined
  raise-bytes = bytes-append _ (joined []) (request-with-bytes n9 nine 100 fits-9.bytes) none-bytes

  -- the batch is one request
  raise-whole : batch_refusal (joined asks-9) (1 ∷ []) ≡ 0
  raise-whole =
      ap (λ (n : ℕ). cond {A = ℕ} ((eqb n 0 || ltb (request_len * max_requests) n) || (not (eqb (n % request_len) 0) || not (eqb 1 (n / request_len)))) 16 0)
      (joined_length asks-9 fit-9)

  raise-asked : asked (joined asks-9) (1 ∷ []) ≡ record { request = asking nine n9; verdict = 1 } ∷ []
  unfolding asked_from joined
  raise-asked =
      ap (λ (n : ℕ). asked_from (joined asks-9) (1 ∷ []) 0 (n / request_len)) (joined_length asks-9 fit-9)
      ∙ ap (λ (r : Request). record { request = r; verdict = 1 } ∷ []) (request-bytes (asking nine n9) [] fits-9)

  raise-passes : (judged_batch holding-nine (asked (joined asks-9) (1 ∷ []))).passed ≡ asks-9
  unfolding judged_batch judge_next holds record_of ending oldest after running_after units names
  raise-passes = ap (λ (l : List Asked). (judged_batch holding-nine l).passed) raise-asked

  abbrev raised-nine : State
  raised-nine = state 101 (record_with nine 100 101 0 ∷ []) (raise_at 101 asks-9 ∷ [])

  raise-done : Done (settled_by nine-image raise-9) 101 raised-nine
  unfolding raised_by updated
  raise-done = raises (joined asks-9) (1 ∷ []) asks-9 raise-bytes nine-here raise-whole raise-passes (λ none. omega (arith, none)) refl

  raised-9-image : List ℕ
  raised-9-image = (settled_by nine-image raise-9).image

  raised-9-here : IsImageOf raised-9-image raised-nine
  unfolding raised-9-image
  raised-9-here = raise-done.leads

  abbrev opened-late : State
  opened-late = state 101 (record_with nine 100 101 0 ∷ record_with seven 101 101 0 ∷ []) (raise_at 101 asks-9 ∷ [])

  late-image : List ℕ
  late-image = (settled_by raised-9-image (opening seven 101)).image

  late-here : IsImageOf late-image opened-late
  unfolding late-image holds oldest after own_entries
  late-here = (opens seven 101 (confirmed-fits 7 101 (lit< tt) (lit< tt)) raised-9-here refl refl).leads

  late-proved : Done (settled_by late-image (proving 5)) 60 (counted opened-late seven)
  unfolding holds record_of updated oldest after
  late-proved = proves 5 seven room late-here refl refl

  late-writes : Writes late-image (proving 5) (handed-from 5 late-image)
  late-writes = (ap (λ (f : Figures). f.number) late-proved.answers, refl)

  late-reads : read_running late-image seven ≡ record { value = 101; openings = 0 }
  unfolding holds record_of ending oldest after running_after
  late-reads = reads seven late-here refl

  -- the request that passes is owed, and the module is given it
  abbrev passed-9 : List Request
  passed-9 = (judged_batch (decode nine-image) (asked (joined asks-9) (1 ∷ []))).passed

  raise-paid : Paid (owing (increment_call nine-image (joined asks-9) (1 ∷ [])).figures.value passed-9) (list asks-9 fit-9)
  raise-paid =
      subst (λ (o : List (List Request)). Paid o (list asks-9 fit-9))
      (sym (ap₂ owing (ap (λ (f : Figures). f.value) raise-done.answers)
      (ap (λ (x : State). (judged_batch x (asked (joined asks-9) (1 ∷ []))).passed) nine-here.says ∙ raise-passes)))
      (fit-9, refl)

  -- ---- the proof that somebody else wrote

  abbrev foreign-entries : List Entry
  foreign-entries = raise_at 101 asks-7 ∷ []

  abbrev foreign-fields : Fields
  foreign-fields = Fields.read (signed seven 100) read-at-101 1 (log_bytes foreign-entries)

  -- from 7's opening on, with 7's request under the increment to 101
  abbrev pub foreign : Call
  foreign = record { proof = proof_bytes foreign-fields; verdicts = all_yes foreign-fields; id = seven; nonce = byte_nonce 4 }

  foreign-set-out : SetOut seven (signed seven 100) foreign-entries
  unfolding units all_proper is_sealed names_twice names consecutive chains passes follows before_of
  foreign-set-out =
      record {
        own = refl;
        low = lit≤ tt;
        fits = confirmed-fits 7 100 (lit< tt) (lit< tt);
        few = lit≤ tt;
        counted = Counted.one_more (lit≤ tt) Counted.none;
        entries_fit = EntriesFit.one_more (entry-of-fits (global_clock 101) asks-7 (lit≤ tt) fit-7 (lit≤ tt)) EntriesFit.none;
        all-proper = ap (λ (b : Bool). (b && true) && true) (same_refl (digest_of asks-7));
        steps = refl;
        chain = refl;
      }

  foreign-wanted : Wanted seven (byte_nonce 4)
  foreign-wanted = record { counter = λ none. omega (arith, none); long = refl }

  foreign-takes : Takes foreign-fields
  foreign-takes = (taken seven (byte_nonce 4) (signed seven 100) foreign-entries foreign-set-out foreign-wanted, record { reading = lit< tt; nonce = refl })

  -- the desk accepts it, and shows 101 at 101
  foreign-taken : Taken (proof_bytes foreign-fields) foreign-fields seven (byte_nonce 4) (record { value = 101; openings = 1 }) (global_clock 101)
  unfolding running_after step names
  foreign-taken =
      record {
        set_out = refl;
        accepted = ap figures
            (read-accepted seven (byte_nonce 4) (signed seven 100) foreign-entries foreign-set-out foreign-wanted read-at-101 refl refl (lit< tt));
      }

  foreign-written : Written foreign Kind.Read (signed seven 100) foreign-entries (global_clock 101)
  foreign-written =
      let back = read_back (signed seven 100) read-at-101 1 (log_bytes foreign-entries) foreign-takes in
      set-down foreign foreign-fields Kind.Read (signed seven 100) foreign-entries _ (global_clock 101) refl foreign-taken
      (encode-reads foreign-fields foreign-takes) back.0 foreign-set-out.entries_fit back.2

  foreign-certificate : certificate foreign.proof ≡ read-at-101
  foreign-certificate = (read_back (signed seven 100) read-at-101 1 (log_bytes foreign-entries) foreign-takes).1

  -- ---- the list

  -- 7 has its opening in the list, but is not opened by it
  abbrev pub late : List ServerItem
  late =
      beside (confirmed (signed seven 100))
      ∷ beside (confirmed (signed nine 100))
      ∷ host (opening nine 100)
      ∷ host raise-9
      ∷ beside (event (increment (list asks-9 fit-9)))
      ∷ beside (event (read (byte_nonce 4)))
      ∷ beside (call foreign)
      ∷ beside (confirmed (signed seven 101))
      ∷ host (opening seven 101)
      ∷ beside (event (read (byte_nonce 5)))
      ∷ host (proving 5)
      ∷ []

  -- the proof that it ends with
  abbrev pub late-handed : Call
  late-handed = handed-from 5 (image_at blank (global_clock 100) late 10)

  -- what the desk sees of it
  abbrev seen : List Item
  seen =
      confirmed (signed seven 100)
      ∷ confirmed (signed nine 100)
      ∷ event (increment (list asks-9 fit-9))
      ∷ event (read (byte_nonce 4))
      ∷ call foreign
      ∷ confirmed (signed seven 101)
      ∷ event (read (byte_nonce 5))
      ∷ []

  -- ---- what demand 3 supposes

  -- the history that the foreign proof's call has before it
  abbrev told : List HistoryEvent
  told = increment (list asks-9 fit-9) ∷ read (byte_nonce 4) ∷ []

  -- the foreign proof's verdicts are true: of its entry the module says no more than that it was given such a nonce
  foreign-true : Truth (global_clock 100) all-signed seen 4 foreign
  unfolding history clock_after increments increment_at
  foreign-true =
      record {
        confirmation-yes = λ is-yes. (0, lit< tt, ap (λ (k : Confirmation). some (confirmed k)) (sym foreign-written.confirms));
        certificate-yes = λ kind is-yes.
            subst (λ (c : Certificate). ReadStands (global_clock 100) told c.reading c.nonce) (sym foreign-certificate)
            (record { earlier = increment (list asks-9 fit-9) ∷ []; later = []; split = refl; reached = refl });
        module-yes = λ k low high is-yes.
            entries-each {P = λ e. Certifies (increment_at (global_clock 100) told e.reading) e} foreign Kind.Read foreign-entries
            foreign-written.shape foreign-written.entries (Each.more (sym agree) Each.done) k low high;
        owner-yes = λ k low high named said. refl;
        owner-no = λ k low high named said. absurd (own-yes foreign foreign-written.accepted foreign-written.verdicts k low high named said);
      }

  -- 7's second confirmation was made from it
  made-late : MadeFrom seen 5 (signed seven 101)
  made-late =
      record {
        place = 4;
        from = foreign;
        earlier = lit< tt;
        stands = refl;
        accepted = foreign-written.accepted;
        id = refl;
        value = ap (λ (f : DeskFigures). f.value) foreign-taken.accepted;
        reading = foreign-written.closed;
      }

  -- its opening stands first
  opens-first : Opening seen seven 0 (signed seven 100)
  opens-first = record { stands = refl; own = refl; before = λ j k earlier stands own. omega arith }

  -- of the item at a place: the verdicts of a call are true
  abbrev TrueAt : ℕ → Item → Type 0
  TrueAt i (event e) = Unit
  TrueAt i (confirmed k) = Unit
  TrueAt i (call c) = Truth (global_clock 100) all-signed seen i c

  -- a confirmation of 7 that does not stand first was made from an accepted proof
  abbrev MadeAt : ℕ → Item → Type 0
  MadeAt i (event e) = Unit
  MadeAt i (confirmed k) = 0 < i → k.id ≡ seven → MadeFrom seen i k
  MadeAt i (call c) = Unit

  late-supposed : (i : ℕ) → Supposed (global_clock 100) all-signed seen seven i
  late-supposed i =
      record {
        truth = λ j c up_to_lem stands own accepted. everywhere-at TrueAt seen (tt and tt and tt and tt and foreign-true and tt and tt and tt) j (call c) stands;
        opened = λ j k up_to_lem opened.
            subst (λ (c : Confirmation). c.value ≡ c.reading.0) (opening-once seen seven 0 j (signed seven 100) k opens-first opened) refl;
        others = λ j place k first up_to_lem opened later stands own.
            everywhere-at MadeAt seen
            ((λ later own. absurd (omega (arith, later))) and (λ later own. absurd (omega (arith, ap (λ (id : CounterId). id.0) own))) and tt and tt and tt
            and (λ later own. made-late) and tt and tt) j (confirmed k) stands (omega arith) own;
      }

  -- ---- what is shown

  -- the increment to 101 carries 9's request
  value-late : value_at all-signed seven (global_clock 100) (told ++ (read (byte_nonce 5) ∷ [])) (global_clock 100) (global_clock 101) ≡ 100
  unfolding value_at largest counts increment_at signed_among
  value-late = refl

  -- the server is honest all along, and all that demand 3 supposes of 7 holds; but the history gives 7 the value 100 at 101, and the desk shows 101
  pub late-unsound : Typed late
      × ((i : ℕ) → Honest (global_clock 100) all-signed blank late i)
      × Supposed (global_clock 100) all-signed (desk_list late) seven (length (desk_list late))
      × Writes (image_at blank (global_clock 100) late 10) (proving 5) late-handed
      × (Sound (global_clock 100) all-signed (desk_list late) late-handed → ⊥)
  unfolding AlongBut image_after host_list desk_list begun-image nine-image raised-9-image late-image history clock_after increments
  late-unsound = (
    typed-along (global_clock 100) all-signed blank late
        (tt and tt and confirmed-fits 9 100 (lit< tt) (lit< tt) and raise-bytes and tt and tt and tt and tt and confirmed-fits 7 101 (lit< tt) (lit< tt) and tt
        and (nonce-bytes 5 (lit< tt), lit< tt) and tt),
    honest-along (global_clock 100) all-signed blank late
        (tt and tt and (λ done. (1, refl)) and (λ done. any-signed passed-9) and raise-paid and tt and tt and tt and (λ done. (5, refl)) and tt
        and (λ done. read-there) and tt),
    late-supposed 7,
    late-writes,
    unsound 5 (desk_list late) (signed seven 100) _ late-here late-writes late-reads opens-first (λ same. omega (arith, same, value-late)),
  )
    where
      read-there : ReadStands (global_clock 100) (told ++ (read (byte_nonce 5) ∷ [])) (decode late-image).clock (byte_nonce 5)
      read-there = record { earlier = told; later = []; split = refl; reached = ap (λ (x : State). x.clock) (sym late-here.says) }
