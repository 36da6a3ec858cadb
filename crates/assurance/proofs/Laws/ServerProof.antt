-- An honest server's proofs get a true yes to everything: up to every place the image is at one with the history, and so is a proof written from it
-- there. Assumes nothing.
use Rattle.std.specs.Prelude.{ℕ, zero, suc, ◌+◌, ◌-◌, ◌^◌, ◌≤◌, ◌<◌, refl, true, ◌⊎◌, length, take, drop, ◌≡◌, List, [], ◌∷◌, ◌++◌}
use Rattle.std.proofs.Math.Path.{subst₃}
use Rattle.std.proofs.Common.{sym, ap, ap₂, subst₂, ◌∙◌, true≢false, arith, take-append-drop, subst, append-nil}
use Rattle.std.proofs.Math.Option.{some}
use Rattle.std.proofs.Math.Seq.{take-append-add}
use Rattle.forms.specs.Entry.{Entry, entries_at}
use Rattle.forms.specs.Limits.{image_len}
use Rattle.forms.specs.Request.{names}
use Rattle.forms.specs.declared.certificate.Certificate.{Certificate}
use Rattle.forms.specs.declared.confirmation.Confirmation.{Confirmation}
use Rattle.forms.specs.declared.request.Request.{Request}
use Rattle.forms.specs.declared.terms.CounterId.{CounterId}
use Rattle.forms.specs.declared.terms.GlobalClock.{GlobalClock}
use Rattle.digest.specs.Laws.SealLaws.{sealed-nonce}
use Rattle.validity.specs.Proof.{shape_at, log_offset}
use Rattle.validity.specs.declared.proof.Kind.{Kind}
use Rattle.validity.specs.declared.proof.Proof.{Proof}
use Rattle.desk_table.specs.Desk.{confirmation, certificate, verdicts_before, verdict_count, own_by, is_own}
use Rattle.history.specs.History.{HistoryEvent, clock_after, Made, ReadStands}
use Rattle.history.proofs.Laws.HistoryLaws.{clock-none, stands-stays, stands-within as event-within}
use Rattle.history.specs.Value.{Signatures, value_at}
use Rattle.history.proofs.Laws.ValueLaws.{value_at-stays}
use Rattle.log_image.specs.Sound.{base, after}
use Rattle.log_image.specs.State.{State, decode}
use Rattle.log_store.proofs.Laws.EachRecordLaws.{Each, each-drop, each_take, each-held}
use Rattle.host.specs.Host.{held_of, entries_of, last_entries, start_call}
use Rattle.assurance.proofs.Laws.AcceptRows.{ones, ones-own}
use Rattle.assurance.proofs.Laws.Accepted.{Passed, count_of, accepted-passed}
use Rattle.assurance.proofs.Laws.DeskFreshness.{accepted-reached, Closed, closed-read, closed-increment, closed-fresh}
use Rattle.assurance.specs.DeskList.{Call, Item, confirmed, history, shown, Accepted, closes, kind_of, call_entry, owner_said, Certifies, Truth, Opening, Sound}
use Rattle.assurance.proofs.Laws.DeskSoundness.{call-valued, call-sound}
use Rattle.assurance.specs.HostList.{HostCall, settled_by, Widths}
use Rattle.assurance.proofs.Laws.ListLaws.{at-within, at-stays, history-append, history-grows}
use Rattle.assurance.proofs.Laws.ServerLaws.{desk-append, host-append, image-append, owed-append, next-item, each_at, Certified, certified-stays, certified-before}
use Rattle.assurance.specs.ServerList.{ServerItem, host, beside, desk_list, host_list, image_after, owed_after, image_at, owed_at, desk_at, Stood, Duty, SeenTo, Honest, Typed, Tells, OpenedTruly, Writes, Borne, with_verdicts, TrueNo, ServerClaim}
use Rattle.assurance.proofs.Laws.ServerStation.{station-yes}
use Rattle.assurance.proofs.Laws.ServerSteps.{Held, AtOne, start-at-one, call-at-one, item-at-one}
use Rattle.assurance.proofs.Laws.ServerValues.{among-signed, tells-stays, tells-before}
use Rattle.assurance.proofs.Laws.ServerWritten.{Written, prove-written, last_written}
use Rattle.assurance.specs.Valued.{Valued}
use Rattle.assurance.proofs.Laws.ValuedLaws.{valued_same}

-- ---- along the list

module _ (first : GlobalClock) (signed : Signatures) (buffer : List ℕ) (l : List ServerItem) (i : ℕ)
    (long : length buffer ≡ image_len)
    (small : first.0 < 2 ^ 32)
    (typed : Typed l)
    (honest : Honest first signed buffer l i) where
  -- which counters were opened truly, and the image of the start
  abbrev Right : CounterId → Type 0
  Right = OpenedTruly first signed buffer l i

  abbrev begun : List ℕ
  begun = (start_call buffer first).image

  -- the image behind a beginning of the list is at one with what stands there
  abbrev Here : List ServerItem → Type 0
  Here p = AtOne first signed (desk_list l) Right (image_after begun (host_list p)) (owed_after begun [] p) (desk_list p)

  here-none : Here []
  unfolding image_after host_list owed_after desk_list history
  here-none = start-at-one first signed (desk_list l) Right buffer [] first long small (sym (clock-none first))

  here-next : (p : List ServerItem) (x : ServerItem) → Here p → ((c : HostCall) → x ≡ host c → Widths c)
      → SeenTo first signed (desk_list p) (image_after begun (host_list p)) (owed_after begun [] p) x
      → ((k : Confirmation) (verdict : ℕ) → x ≡ host (HostCall.«open» k verdict)
      → (settled_by (image_after begun (host_list p)) (HostCall.«open» k verdict)).figures.number ≡ 0
      → Right k.id → ((n : ℕ) × Opening (desk_list l) k.id n k) ⊎ Tells first signed (desk_list l) (history (desk_list p)) k)
      → Here (p ++ (x ∷ []))
  unfolding image_after host_list owed_after desk_list
  here-next p (host c) here widths seen opens =
      let s = image_after begun (host_list p) in
      subst₃ (AtOne first signed (desk_list l) Right)
      (sym (ap (image_after begun) (host-append p (host c ∷ [])) ∙ image-append begun (host_list p) (c ∷ [])))
      (sym (owed-append begun [] p (host c ∷ [])))
      (sym (desk-append p (host c ∷ []) ∙ append-nil (desk_list p)))
      (call-at-one first signed (desk_list l) Right s (owed_after begun [] p) (desk_list p) here c (widths c refl) seen
      (λ k verdict is done. opens k verdict (ap host is) (ap (λ (x : HostCall). (settled_by s x).figures.number) (sym is) ∙ done)))
  here-next p (beside x) here widths seen opens =
      subst₃ (AtOne first signed (desk_list l) Right)
      (sym (ap (image_after begun) (host-append p (beside x ∷ []) ∙ append-nil (host_list p))))
      (sym (owed-append begun [] p (beside x ∷ [])))
      (sym (desk-append p (beside x ∷ [])))
      (item-at-one first signed (desk_list l) Right (image_after begun (host_list p)) (owed_after begun [] p) (desk_list p) here x seen)

  -- and so it is at every place up to which the server was honest
  here-at : (j : ℕ) → j ≤ i → j ≤ length l → Here (take j l)
  here-at zero up_to within = here-none
  here-at (suc j) up_to within =
      let next = next-item l j within in
      subst Here (sym next.cut)
      (here-next (take j l) next.item (here-at j (omega arith) (omega arith))
      (λ c is. typed j c (next.stands ∙ ap some is))
      (honest j (omega arith) next.item next.stands)
      (λ k verdict is done right. right j k verdict up_to (next.stands ∙ ap some is) done refl))

-- ---- verdicts that are all yes

-- none on a request of the wanted counter is no
pub own-yes : (p : Call) → Accepted p → p.verdicts ≡ ones (length p.verdicts) → (k : ℕ) → 1 ≤ k → k ≤ count_of p
    → names p.id (call_entry p k).requests ≡ true → owner_said p k ≡ 0 → ⊥
unfolding is_own
own-yes p accepted verdicts k low high named said =
    let s = p.proof in
    let log = log_offset (kind_of p) in
    let all : p.verdicts ≡ ones (verdict_count s (shape_at s)) = verdicts ∙ ap ones (accepted-passed p accepted).verdicts in
    let own : is_own s log p.verdicts (verdicts_before (kind_of p)) p.id k ≡ true =
    ap (λ (v : List ℕ). is_own s log v (verdicts_before (kind_of p)) p.id k) all
    ∙ ones-own s log (verdicts_before (kind_of p)) (count_of p) p.id k low high ∙ named in
    true≢false (sym own ∙ ap₂ own_by named said)

-- ---- a proof that the history bears out

module _ (first : GlobalClock) (signed : Signatures) (d rest : List Item) (pending : List HistoryEvent) (p : Call)
    (accepted : Accepted p)
    (verdicts : p.verdicts ≡ ones (length p.verdicts))
    (stood : Stood d (confirmation p.proof))
    (reads : kind_of p ≡ Kind.Read → ReadStands first (history d) (certificate p.proof).reading (certificate p.proof).nonce)
    (reached : (closes p).0 ≤ (clock_after first (history d)).0)
    (certified : (k : ℕ) → 1 ≤ k → k ≤ count_of p → Certified first signed (history d ++ pending) (call_entry p k))
    (m : ℕ) (later : length d ≤ m) where
  passed : Passed p
  passed = accepted-passed p accepted

  -- the history at that place begins with the one where the proof was written
  grown : history (take m (d ++ rest)) ≡ history d ++ history (take (m - length d) rest)
  grown =
      let whole : m ≡ length d + (m - length d) = omega arith in
      ap (λ (n : ℕ). history (take n (d ++ rest))) whole
      ∙ ap history (take-append-add d rest (m - length d))
      ∙ history-append d (take (m - length d) rest)

  -- each entry is certified there
  entry-certified : (k : ℕ) → 1 ≤ k → k ≤ count_of p → Certified first signed (history (take m (d ++ rest))) (call_entry p k)
  entry-certified k low high =
      let up_to : (call_entry p k).reading.0 ≤ (clock_after first (history d)).0 =
      omega (arith, ap (λ (t : GlobalClock). t.0) (passed.readings k low high), ap (λ (t : GlobalClock). t.0) passed.closing) in
      subst (λ (h : List HistoryEvent). Certified first signed h (call_entry p k)) (sym grown)
      (certified-stays first signed (history d) (history (take (m - length d) rest)) (call_entry p k)
      (certified-before first signed (history d) pending (call_entry p k) up_to (certified k low high)))

  truth : Truth first signed (d ++ rest) m p
  truth =
      record {
        confirmation-yes = λ yes. (
          stood.0,
          omega (arith, at-within d stood.0 (confirmed (confirmation p.proof)) stood.1),
          at-stays d rest stood.0 (confirmed (confirmation p.proof)) stood.1,
        );
        certificate-yes = λ kind yes.
            subst (λ (h : List HistoryEvent). ReadStands first h (certificate p.proof).reading (certificate p.proof).nonce) (sym grown)
            (stands-stays first (history d) (history (take (m - length d) rest)) _ _ (reads kind));
        module-yes = λ k low high said.
            subst (λ (x : Made). Certifies x (call_entry p k)) (sym (entry-certified k low high).carried.1)
            (sym (sealed-nonce (call_entry p k) (passed.digest k low high)));
        owner-yes = λ k low high named said. among-signed signed p.id (call_entry p k).requests (entry-certified k low high).all-signed named;
        owner-no = λ k low high named said. absurd (own-yes p accepted verdicts k low high named said);
      }

  -- the event that closes it
  closing-event : (kind : Kind) → kind_of p ≡ kind → Closed first (d ++ rest) m p
  closing-event Kind.Read is = closed-read first signed (d ++ rest) m p passed truth is
  closing-event Kind.Increment is =
      closed-increment first signed (d ++ rest) m p passed truth is (entry-certified (count_of p) (passed.last is) (omega arith)).carried

  borne : Borne first signed (d ++ rest) m p
  borne =
      record {
        truth = truth;
        carried = λ k low high. (entry-certified k low high).carried;
        all-signed = λ k low high. (entry-certified k low high).all-signed;
        accepted = accepted;
        fresh = closed-fresh first (d ++ rest) m p (closing-event (kind_of p) refl);
      }

  -- and other verdicts are not true
  only_yes : (v : List ℕ) → TrueNo first signed (d ++ rest) m (with_verdicts p v) → v ≡ p.verdicts
  only_yes v told = station-yes first signed (d ++ rest) m p borne v told ∙ sym (verdicts ∙ ap ones passed.verdicts)

-- what holds of every entry that a proof reads as holds of the one at a place
pub entries-each : {P : Entry → Type 0} (p : Call) (kind : Kind) (es : List Entry) → shape_at p.proof ≡ record { kind = kind; count = length es }
    → entries_at p.proof (log_offset kind) (length es) ≡ es → Each P es → (k : ℕ) → 1 ≤ k → k ≤ count_of p → P (call_entry p k)
entries-each {P} p kind es shape back each k low high =
    each_at p.proof (log_offset (kind_of p)) (count_of p)
    (subst (Each P) (sym (ap (λ (q : Proof). entries_at p.proof (log_offset q.kind) q.count) shape ∙ back)) each)
    (k - 1) (omega arith)

-- from a confirmation that tells its value, the desk shows the history's
tells-sound : (first : GlobalClock) (signed : Signatures) (d rest : List Item) (pending : List HistoryEvent) (p : Call)
    → Borne first signed (d ++ rest) (length d) p → (closes p).0 ≤ (clock_after first (history d)).0
    → Tells first signed (d ++ rest) (history d ++ pending) (confirmation p.proof) → Sound first signed (d ++ rest) p
tells-sound first signed d rest pending p bears reached tells =
    let D = d ++ rest in
    let k = confirmation p.proof in
    let passed = accepted-passed p bears.accepted in
    let up_to : k.reading.0 ≤ (clock_after first (history d)).0 = omega (arith, ap (λ (t : GlobalClock). t.0) passed.closing) in
    let there = (tells-stays first signed D (history d) (history rest) k (tells-before first signed D (history d) pending k up_to tells)).1 in
    let start = subst₂ (λ (h : List HistoryEvent) (id : CounterId). Valued first signed D h id k.reading k.value)
    (sym (history-append d rest)) passed.own there in
    call-sound first signed D (length d) p passed bears.truth bears.carried
    (call-valued first signed D (length d) p passed bears.truth bears.carried start)

-- ---- the two calls that write

-- what is claimed of a proof at place m of the desk's list D
abbrev Bearing : GlobalClock → Signatures → List Item → ℕ → Call → Type 0
Bearing first signed D m p = Borne first signed D m p × ((v : List ℕ) → TrueNo first signed D m (with_verdicts p v) → v ≡ p.verdicts)

-- and of one written behind its first n items, Right saying which counters were opened truly
abbrev Outcome : GlobalClock → Signatures → List Item → ℕ → (CounterId → Type 0) → Call → Type 0
Outcome first signed D n Right p = ((m : ℕ) → n ≤ m → Bearing first signed D m p) × (Right p.id → Sound first signed D p)

module _ (first : GlobalClock) (signed : Signatures) (s : List ℕ) (owed : List (List Request)) (d rest : List Item)
    (Right : CounterId → Type 0)
    (one : AtOne first signed (d ++ rest) Right s owed d) where
  -- the history, with what is owed behind it
  abbrev h : List HistoryEvent
  h = history d ++ one.pending

  -- a proof from a held confirmation by certified entries, whose closing reading the module had come to
  written-borne : (p : Call) (kind : Kind) (k : Confirmation) (es : List Entry) (closing : GlobalClock) → Written p kind k es closing
      → Held first signed (d ++ rest) Right h d k → Each (Certified first signed h) es
      → (kind ≡ Kind.Read → ReadStands first (history d) (certificate p.proof).reading (certificate p.proof).nonce)
      → closing.0 ≤ (clock_after first (history d)).0 → Outcome first signed (d ++ rest) (length d) Right p
  written-borne p kind k es closing written held each read-stands reached = (bears, tells)
    where
      closed : (closes p).0 ≤ (clock_after first (history d)).0
      closed = subst (λ (t : GlobalClock). t.0 ≤ (clock_after first (history d)).0) (sym written.closed) reached

      here : Held first signed (d ++ rest) Right h d (confirmation p.proof)
      here = subst (Held first signed (d ++ rest) Right h d) (sym written.confirms) held

      read-there : kind_of p ≡ Kind.Read → ReadStands first (history d) (certificate p.proof).reading (certificate p.proof).nonce
      read-there is = read-stands (ap (λ (q : Proof). q.kind) (sym written.shape) ∙ is)

      certified : (j : ℕ) → 1 ≤ j → j ≤ count_of p → Certified first signed h (call_entry p j)
      certified = entries-each p kind es written.shape written.entries each

      bears : (m : ℕ) → length d ≤ m → Bearing first signed (d ++ rest) m p
      bears m later = (
        borne first signed d rest one.pending p written.accepted written.verdicts here.stood read-there closed certified m later,
        only_yes first signed d rest one.pending p written.accepted written.verdicts here.stood read-there closed certified m later,
      )

      tells : Right p.id → Sound first signed (d ++ rest) p
      tells right =
          tells-sound first signed d rest one.pending p (bears (length d) (omega arith)).0 closed
          (here.tells (subst Right (sym (accepted-passed p written.accepted).own) right))

  prove-borne : (nonce : List ℕ) (id : CounterId) (output : List ℕ) (p : Call) → id.0 < 2 ^ 32 → ReadStands first (history d) (decode s).clock nonce
      → Writes s (HostCall.prove nonce id output) p → Outcome first signed (d ++ rest) (length d) Right p
  unfolding after
  prove-borne nonce id output p id-fits stands writes =
      let st : State = decode s in
      let there = prove-written s one.kept nonce id output p id-fits writes in
      written-borne p Kind.Read (held_of st id) (entries_of st id) st.clock there.1 (each-held id one.behind.held there.0)
      (each-drop ((held_of st id).reading.0 - base st) one.behind.log)
      (λ is. subst (λ (k : Certificate). ReadStands first (history d) k.reading k.nonce) (sym there.2) stands)
      (omega (arith, (event-within first (history d) st.clock _ stands).1))

  last-borne : (id : CounterId) (t : GlobalClock) (output : List ℕ) (p : Call) → id.0 < 2 ^ 32 → t.0 ≤ (clock_after first (history d)).0
      → Writes s (HostCall.last id t output) p → Outcome first signed (d ++ rest) (length d) Right p
  unfolding after
  last-borne id t output p id-fits reached writes =
      let st : State = decode s in
      let there = last_written s one.kept id t output p id-fits writes in
      written-borne p Kind.Increment (held_of st id) (last_entries st id t) t there.1 (each-held id one.behind.held there.0)
      (each_take (t.0 - (held_of st id).reading.0) (each-drop ((held_of st id).reading.0 - base st) one.behind.log))
      (λ is. absurd (let z : ◌≡◌ {A = ℕ} 0 1 = cc in omega arith))
      reached

-- ---- the claim

pub server-claim : ServerClaim
server-claim first signed buffer l long small typed i c p honest stands writes =
    subst (λ (D : List Item). Outcome first signed D (length (desk_at l i)) Right p) whole
    (from c (typed i c stands) (honest i (omega arith) (host c) stands) writes
    (subst (λ (D : List Item). AtOne first signed D Right s (owed_at buffer first l i) (desk_at l i)) (sym whole)
    (here-at first signed buffer l i long small typed honest i (omega arith) (omega (arith, at-within l i (host c) stands)))))
  where
    Right : CounterId → Type 0
    Right = OpenedTruly first signed buffer l i

    s : List ℕ
    s = image_at buffer first l i

    rest : List Item
    rest = desk_list (drop i l)

    whole : desk_at l i ++ rest ≡ desk_list l
    whole = sym (desk-append (take i l) (drop i l)) ∙ ap desk_list (take-append-drop i l)

    from : (c : HostCall) → Widths c → ((settled_by s c).figures.number ≡ 0 → Duty first signed (desk_at l i) s c) → Writes s c p
        → AtOne first signed (desk_at l i ++ rest) Right s (owed_at buffer first l i) (desk_at l i)
        → Outcome first signed (desk_at l i ++ rest) (length (desk_at l i)) Right p
    from (HostCall.prove nonce id output) widths duty writes one =
        prove-borne first signed _ _ (desk_at l i) rest Right one nonce id output p widths.1 (duty writes.0) writes
    from (HostCall.last id t output) widths duty writes one =
        last-borne first signed _ _ (desk_at l i) rest Right one id t output p widths (duty writes.0) writes
    from (HostCall.start clock) widths duty writes one = absurd writes
    from (HostCall.«open» k verdict) widths duty writes one = absurd writes
    from (HostCall.tick nonce) widths duty writes one = absurd writes
    from (HostCall.increment requests verdicts) widths duty writes one = absurd writes
    from (HostCall.read id) widths duty writes one = absurd writes
    from (HostCall.confirm k verdict) widths duty writes one = absurd writes
    from (HostCall.close k verdict) widths duty writes one = absurd writes

-- ---- opened again

-- a confirmation with what the desk shows of a proof that the history bears out tells its counter's value: so a counter may be opened again by it
pub shown-tells : (first : GlobalClock) (signed : Signatures) (d : List Item) (m : ℕ) (p : Call) (k : Confirmation) → Borne first signed d m p
    → Sound first signed d p → p.id ≡ k.id → (shown p).value ≡ k.value → closes p ≡ k.reading → Tells first signed d (history (take m d)) k
shown-tells first signed d m p k bears sound own value reading =
    let es = history (take m d) in
    let up_to : k.reading.0 ≤ (clock_after first es).0 =
    subst (λ (t : GlobalClock). t.0 ≤ (clock_after first es).0) reading (accepted-reached first signed d m p bears.accepted bears.truth) in
    let there : Valued first signed d (history d) k.id k.reading k.value = subst₃ (Valued first signed d (history d)) own reading value
    (record { place = sound.place; opening = sound.opening; opens = sound.opens; within = sound.within; given = sound.value }) in (
      up_to,
      valued_same first signed d (history d) es k.id k.reading k.value
          (λ opened.
          ap (λ (h : List HistoryEvent). value_at signed k.id first h opened k.reading) (history-grows d m)
          ∙ value_at-stays signed k.id first es opened (history (drop m d)) k.reading up_to) there,
    )
