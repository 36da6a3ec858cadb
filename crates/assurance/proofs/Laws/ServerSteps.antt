-- Every call of an honest server's host, and every item beside them, keeps the image at one with the history: with what the module owes behind it, the
-- history has the image's clock and certifies each entry of its log; each held confirmation stands in the desk's list. Assumes nothing.
use Rattle.std.specs.Prelude.{ℕ, ◌+◌, ◌-◌, ◌^◌, ◌≤◌, ◌<◌, ◌≡◌, Bool, true, false, cond, ◌⊎◌, eqb, length, drop, refl, List, [], ◌∷◌, ◌++◌}
use Rattle.std.proofs.Common.{ap, ◌∙◌, ⊎_elim, arith, eqb-true, eq-eqb, ne_eqb, sym, subst, append_assoc, append-nil}
use Rattle.std.proofs.lemmas.Bool.{eqb-false}
use Rattle.forms.specs.Bytes.{Bytes}
use Rattle.forms.specs.Limits.{image_len}
use Rattle.forms.specs.Request.{RequestsFit}
use Rattle.forms.specs.Terms.{global_clock}
use Rattle.forms.specs.declared.confirmation.Confirmation.{Confirmation}
use Rattle.forms.specs.declared.request.Request.{Request}
use Rattle.forms.specs.declared.terms.CounterId.{CounterId}
use Rattle.forms.specs.declared.terms.GlobalClock.{GlobalClock}
use Rattle.history.specs.History.{HistoryEvent, Given, list, increment, read, clock_after}
use Rattle.history.proofs.Laws.HistoryLaws.{list-one, clock-next}
use Rattle.history.proofs.Laws.ReadLaws.{read-keeps-clock}
use Rattle.history.specs.Value.{Signatures}
use Rattle.log_image.specs.Laws.ImageRoundTrip.{decode-encode}
use Rattle.log_image.specs.Sound.{base, distinct, oldest}
use Rattle.log_image.specs.State.{Record, State, decode, encode}
use Rattle.log_store.proofs.Laws.EachRecordLaws.{Each, each_map, each_snoc, each-drop, each-updated, each-held, each-without, distinct-updated, held-id, held_keeps, raise-keeps}
use Rattle.log_store.specs.Effect.{updated, raised_to, confirmed_by, proved, opened, sealed_entry, raised, raised_by, incremented, advanced, without}
use Rattle.host.proofs.Laws.BatchLaws.{passed-fit}
use Rattle.host.proofs.Laws.DoneLaws.{settled-passed}
use Rattle.host.specs.Host.{Settled, held_of, asked, judged_batch, open_refusal, tick_refusal, batch_refusal, prove_refusal, last_refusal, confirm_refusal, close_refusal, none_held, ticked, counted, replaced, confirmed_state, closed_state, answered, settled, start_call, increment_call}
use Rattle.host.proofs.Laws.RefusalLaws.{open-passed, confirm-passed}
use Rattle.host.proofs.Laws.SettledLaws.{settled-refused, settled-done, answered-done, answered-refused}
use Rattle.host.proofs.Laws.SoundParts.{sound-parts}
use Rattle.host.specs.declared.answer.Figures.{Figures}
use Rattle.assurance.specs.DeskList.{Item, event, confirmed, call, history, Opening}
use Rattle.assurance.specs.HostList.{HostCall, settled_by, Widths}
use Rattle.assurance.proofs.Laws.HostSteps.{Kept, Steady, steady_kept, kept-steady, start-settled, start-steps, start-says, open-steady, tick-steady, batch-steady, counted-steady, confirm-steady, close-steady}
use Rattle.assurance.proofs.Laws.ListLaws.{at-stays, history-append}
use Rattle.assurance.proofs.Laws.ServerLaws.{Certified, certified-stays, certified-read, certified-next}
use Rattle.assurance.specs.ServerList.{owing, owed_by, paid_by, Stood, AllSigned, Duty, Paid, SeenTo, beside, Tells}
use Rattle.assurance.proofs.Laws.ServerValues.{tells-stays, tells-read, confirm-tells}
use Rattle.assurance.proofs.Laws.ValuedLaws.{opening-valued}

-- the events that are owed
pub data Pending : List (List Request) → List HistoryEvent → Type 0 where
  nothing : Pending [] []
  one_more : {qs : List Request} {owed : List (List Request)} {fs : List HistoryEvent} (fit : RequestsFit qs) → Pending owed fs
      → Pending (qs ∷ owed) (increment (list qs fit) ∷ fs)

pending-snoc : {owed : List (List Request)} {fs : List HistoryEvent} (qs : List Request) (fit : RequestsFit qs) → Pending owed fs
    → Pending (owed ++ (qs ∷ [])) (fs ++ (increment (list qs fit) ∷ []))
pending-snoc qs fit nothing = one_more fit nothing
pending-snoc qs fit (one_more f p) = one_more f (pending-snoc qs fit p)

-- the records of the counters that some requests raise hold what they held
each-raised : (P : Confirmation → Type 0) (reading : GlobalClock) (qs : List Request) (rs : List Record) → distinct rs ≡ true
    → Each (λ (r : Record). P r.held) rs → Each (λ (r : Record). P r.held) (raised_by qs reading rs)
unfolding raised_by
each-raised P reading [] rs differ each = each
each-raised P reading (q ∷ qs) rs differ each =
    each-raised P reading qs (updated rs q.id (raised_to reading))
    (distinct-updated q.id (raised_to reading) (held_keeps q.id (raised_to reading) (raise-keeps reading)) rs ∙ differ)
    (each-updated q.id (raised_to reading) differ each (λ held. each-held q.id each held) (λ r other mine. mine))

-- D is the whole of the desk's list, d what stands of it before a place; Right says which counters were opened truly
module _ (first : GlobalClock) (signed : Signatures) (D : List Item) (Right : CounterId → Type 0) where
  -- ---- the state and the history

  -- a held confirmation stands in the list, and where its counter was opened truly it tells the counter's value by a history h
  pub record Held (h : List HistoryEvent) (d : List Item) (k : Confirmation) : Type 0 where
    pub stood : Stood d k
    pub tells : Right k.id → Tells first signed D h k

  -- a history has the clock of a state and certifies its entries; so it is with the confirmations that it holds
  pub record Behind (h : List HistoryEvent) (d : List Item) (st : State) : Type 0 where
    pub clock : st.clock ≡ clock_after first h
    pub log : Each (Certified first signed h) st.log
    pub held : Each (λ (r : Record). Held h d r.held) st.records

  -- an image at one with the history and what is owed
  pub record AtOne (s : List ℕ) (owed : List (List Request)) (d : List Item) : Type 0 where
    pub kept : Kept s
    pub pending : List HistoryEvent
    pub owes : Pending owed pending
    pub behind : Behind (history d ++ pending) d (decode s)

  -- ---- what each call does to the state

  module _ (h : List HistoryEvent) (d : List Item) (st : State) (b : Behind h d st) where
    behind-opened : (k : Confirmation) → Held h d k → Behind h d (opened st k)
    behind-opened k mine = record { clock = b.clock; log = b.log; held = each_snoc b.held mine }

    -- one increment more: the clock, and what was held and certified before
    clock-raised : (given : Given) → global_clock (st.clock.0 + 1) ≡ clock_after first (h ++ (increment given ∷ []))
    clock-raised given = ap (λ (t : GlobalClock). global_clock (t.0 + 1)) b.clock ∙ sym (clock-next first h given)

    log-raised : (given : Given) → Each (Certified first signed (h ++ (increment given ∷ []))) st.log
    log-raised given = each_map (certified-stays first signed h (increment given ∷ [])) b.log

    held-raised : (given : Given) → Each (λ (r : Record). Held (h ++ (increment given ∷ [])) d r.held) st.records
    held-raised given =
        each_map (λ r mine. record {
          stood = mine.stood;
          tells = λ right. tells-stays first signed D h (increment given ∷ []) r.held (mine.tells right);
        }) b.held

    behind-raised : (qs : List Request) (fit : RequestsFit qs) → AllSigned signed qs → Behind (h ++ (increment (list qs fit) ∷ [])) d (raised st qs)
    behind-raised qs fit all =
        record {
          clock = clock-raised (list qs fit);
          log = each_snoc (log-raised (list qs fit))
              (certified-next first signed h (sealed_entry (global_clock (st.clock.0 + 1)) qs) fit (ap (λ (t : GlobalClock). t.0 + 1) b.clock) all);
          held = held-raised (list qs fit);
        }

    behind-ticked : Behind (h ++ (increment (list [] RequestsFit.none) ∷ [])) d (ticked st)
    behind-ticked = go (none_held st)
      where
        nothing-asked : Given
        nothing-asked = list [] RequestsFit.none

        go : (none : Bool) → Behind (h ++ (increment (list [] RequestsFit.none) ∷ [])) d (cond none (advanced st) (raised st []))
        go true = record { clock = clock-raised nothing-asked; log = log-raised nothing-asked; held = held-raised nothing-asked }
        go false = behind-raised [] RequestsFit.none tt

    module _ (differ : distinct st.records ≡ true) where
      behind-incremented : (qs : List Request) (fit : RequestsFit qs) → AllSigned signed qs → Behind (h ++ (increment (list qs fit) ∷ [])) d (incremented st qs)
      behind-incremented qs fit all =
          let next = behind-raised qs fit all in
          record {
            clock = next.clock;
            log = next.log;
            held = each-raised (Held (h ++ (increment (list qs fit) ∷ [])) d) (global_clock (st.clock.0 + 1)) qs st.records differ next.held;
          }

      behind-counted : (id : CounterId) → Behind h d (counted st id)
      behind-counted id =
          record {
            clock = b.clock;
            log = b.log;
            held = each-updated id proved differ b.held (λ held. each-held id b.held held) (λ r other mine. mine);
          }

      behind-confirmed : (k : Confirmation) → Held h d k → Behind h d (confirmed_state st k)
      behind-confirmed k own =
          record {
            clock = b.clock;
            log = each-drop (oldest st.clock (replaced st.records k) - base st) b.log;
            held = each-updated k.id (confirmed_by k) differ b.held (λ held. own) (λ r other mine. mine);
          }

      behind-closed : (id : CounterId) → Behind h d (closed_state st id)
      behind-closed id =
          record {
            clock = b.clock;
            log = each-drop (oldest st.clock (without st.records id) - base st) b.log;
            held = each-without id b.held;
          }

  -- ---- the calls

  -- the image of a start at the module's clock
  pub start-at-one : (s : List ℕ) (d : List Item) (clock : GlobalClock) → length s ≡ image_len → clock.0 < 2 ^ 32 → clock ≡ clock_after first (history d)
      → AtOne (start_call s clock).image [] d
  start-at-one s d clock long small is =
      record {
        kept = (start-steps s clock long small).kept;
        pending = [];
        owes = nothing;
        behind = subst (Behind (history d ++ []) d) (sym (start-says s clock long small))
            (record { clock = is ∙ ap (clock_after first) (sym (append-nil (history d))); log = Each.done; held = Each.done });
      }

  module _ (s : List ℕ) (owed : List (List Request)) (d : List Item) (one : AtOne s owed d) where
    -- the history with what is owed behind it
    abbrev h : List HistoryEvent
    h = history d ++ one.pending

    differ : distinct (decode s).records ≡ true
    differ = (sound-parts (decode s) (kept-steady s one.kept).0).differ

    -- the image of a next state
    stored-image : (next : State) (owed' : List (List Request)) (fs : List HistoryEvent) → Steady next → Pending owed' fs
        → Behind (history d ++ fs) d next → AtOne (encode next) owed' d
    stored-image next owed' fs steady owes b =
        record {
          kept = steady_kept next steady;
          pending = fs;
          owes = owes;
          behind = subst (Behind (history d ++ fs) d) (sym (decode-encode next steady.1)) b;
        }

    -- a call that raises nothing
    stored : (number value : ℕ) (next : State) → (number ≡ 0 → Steady next)
        → ((settled s number value next).figures.number ≡ 0 → Behind (history d ++ one.pending) d next)
        → AtOne (settled s number value next).image owed d
    stored number value next steady b = go (eqb number 0) refl
      where
        go : (z : Bool) → eqb number 0 ≡ z → AtOne (settled s number value next).image owed d
        go true is =
            let e = settled-done s number value next one.kept.is-sound (eqb-true number 0 is) in
            subst (λ (image : List ℕ). AtOne image owed d) (sym (ap (λ (r : Settled). r.image) e))
            (stored-image next owed one.pending (steady (eqb-true number 0 is)) one.owes (b (ap (λ (r : Settled). r.figures.number) e)))
        go false is =
            let e = settled-refused s number value next one.kept.is-sound (eqb-false number 0 is) in
            subst (λ (image : List ℕ). AtOne image owed d) (sym (ap (λ (r : Settled). r.image) e)) one

    -- a call that raises
    abbrev Raised : Settled → List Request → Type 0
    Raised r qs = AtOne r.image (owed ++ owing r.figures.value qs) d

    none-raised : (figures : Figures) (qs : List Request) → figures.value ≡ 0 → Raised (record { figures = figures; image = s }) qs
    none-raised figures qs none =
        subst (λ (o : List (List Request)). AtOne s o d)
        (sym (ap (λ (b : Bool). owed ++ cond b [] (qs ∷ [])) (eq-eqb figures.value 0 none) ∙ append-nil owed)) one

    stored-raise : (number value : ℕ) (next : State) (qs : List Request) (fit : RequestsFit qs) → (value ≡ 0 → ⊥) → (number ≡ 0 → Steady next)
        → ((settled s number value next).figures.number ≡ 0 → Behind ((history d ++ one.pending) ++ (increment (list qs fit) ∷ [])) d next)
        → Raised (settled s number value next) qs
    stored-raise number value next qs fit some steady b = go (eqb number 0) refl
      where
        fs : List HistoryEvent
        fs = one.pending ++ (increment (list qs fit) ∷ [])

        go : (z : Bool) → eqb number 0 ≡ z → Raised (settled s number value next) qs
        go true is =
            let e = settled-done s number value next one.kept.is-sound (eqb-true number 0 is) in
            subst (λ (r : Settled). Raised r qs) (sym e)
            (subst (λ (o : List (List Request)). AtOne (encode next) o d)
            (sym (ap (λ (t : Bool). owed ++ cond t [] (qs ∷ [])) (ne_eqb value 0 some)))
            (stored-image next (owed ++ (qs ∷ [])) fs (steady (eqb-true number 0 is)) (pending-snoc qs fit one.owes)
            (subst (λ (l : List HistoryEvent). Behind l d next) (append_assoc (history d) one.pending (increment (list qs fit) ∷ []))
            (b (ap (λ (r : Settled). r.figures.number) e)))))
        go false is =
            let e = settled-refused s number value next one.kept.is-sound (eqb-false number 0 is) in
            subst (λ (r : Settled). Raised r qs) (sym e) (none-raised (record { number = number; value = 0 }) qs refl)

    -- a batch of which no request passes shows no new clock
    answered-zero : (number : ℕ) → (answered s number 0).value ≡ 0
    answered-zero number = go (eqb number 0) refl
      where
        go : (z : Bool) → eqb number 0 ≡ z → (answered s number 0).value ≡ 0
        go true is = ap (λ (f : Figures). f.value) (answered-done s number 0 one.kept.is-sound (eqb-true number 0 is))
        go false is = ap (λ (f : Figures). f.value) (answered-refused s number 0 one.kept.is-sound (eqb-false number 0 is))

    increment-raised : (requests verdicts : List ℕ) → Bytes requests
        → ((increment_call s requests verdicts).figures.number ≡ 0 → AllSigned signed (judged_batch (decode s) (asked requests verdicts)).passed)
        → Raised (increment_call s requests verdicts) (judged_batch (decode s) (asked requests verdicts)).passed
    unfolding increment_call
    increment-raised requests verdicts bytes all = go (eqb (length qs) 0) refl all
      where
        qs : List Request
        qs = (judged_batch (decode s) (asked requests verdicts)).passed

        fit : RequestsFit qs
        fit = passed-fit (decode s) requests verdicts 0 _ bytes

        number : ℕ
        number = batch_refusal requests verdicts

        result : Bool → Settled
        result none = cond none (record { figures = answered s number 0; image = s }) (settled s number ((decode s).clock.0 + 1) (incremented (decode s) qs))

        go : (none : Bool) → eqb (length qs) 0 ≡ none → ((result none).figures.number ≡ 0 → AllSigned signed qs) → Raised (result none) qs
        go true is all = none-raised (answered s number 0) qs (answered-zero number)
        go false is all =
            stored-raise number ((decode s).clock.0 + 1) (incremented (decode s) qs) qs fit (λ e. omega arith)
            (batch-steady s one.kept requests verdicts bytes (eqb-false (length qs) 0 is))
            (λ done. behind-incremented h d (decode s) one.behind differ qs fit (all done))

    -- what is supposed of a confirmation that opens a counter
    abbrev Opens : Confirmation → Type 0
    Opens k = Right k.id → ((n : ℕ) × Opening D k.id n k) ⊎ Tells first signed D (history d) k

    open-held : (k : Confirmation) (verdict : ℕ) → open_refusal (decode s) k verdict ≡ 0 → Stood d k → Opens k → Held h d k
    open-held k verdict none stood opens =
        let rows = open-passed (decode s) k verdict none in
        let past : k.reading.0 ≤ (clock_after first h).0 = subst (λ (t : GlobalClock). k.reading.0 ≤ t.0) one.behind.clock rows.past in
        record {
          stood = stood;
          tells = λ right.
              ⊎_elim
              (λ opening. (past, opening-valued first signed D h k.id opening.0 k opening.1 rows.equal))
              (tells-stays first signed D (history d) one.pending k) (opens right);
        }

    -- one that a counter gets in place of its held one
    confirm-held : (k : Confirmation) (verdict : ℕ) → k.id.0 < 2 ^ 32 → confirm_refusal (decode s) k verdict ≡ 0 → Stood d k → Held h d k
    confirm-held k verdict small none stood =
        let rows = confirm-passed (decode s) k verdict none in
        let steady = kept-steady s one.kept in
        let own : (held_of (decode s) k.id).id ≡ k.id = held-id (decode s).records k.id rows.held in
        record {
          stood = stood;
          tells = λ right.
              confirm-tells first signed D h (decode s) k steady.0 steady.1 small rows.held one.behind.clock one.behind.log
              rows.later rows.past rows.value
              ((each-held k.id one.behind.held rows.held).tells (subst Right (sym own) right));
        }

    -- every call
    pub call-at-one : (c : HostCall) → Widths c → ((settled_by s c).figures.number ≡ 0 → Duty first signed d s c)
        → ((k : Confirmation) (verdict : ℕ) → c ≡ HostCall.«open» k verdict → (settled_by s c).figures.number ≡ 0 → Opens k)
        → AtOne (settled_by s c).image (owed_by s owed c) d
    call-at-one (HostCall.start clock) widths duty opens =
        start-at-one s d clock one.kept.long widths (duty (ap (λ (r : Settled). r.figures.number) (start-settled s clock one.kept.long)))
    call-at-one (HostCall.«open» k verdict) widths duty opens =
        stored (open_refusal (decode s) k verdict) _ (opened (decode s) k) (open-steady s one.kept k verdict widths)
        (λ done. behind-opened h d (decode s) one.behind k
        (open-held k verdict (settled-passed s (open_refusal (decode s) k verdict) _ (opened (decode s) k) done).1 (duty done) (opens k verdict refl done)))
    call-at-one (HostCall.tick nonce) widths duty opens =
        stored-raise (tick_refusal (decode s) nonce) ((decode s).clock.0 + 1) (ticked (decode s)) [] RequestsFit.none (λ e. omega arith)
        (tick-steady s one.kept nonce) (λ done. behind-ticked h d (decode s) one.behind)
    call-at-one (HostCall.increment requests verdicts) widths duty opens = increment-raised requests verdicts widths duty
    call-at-one (HostCall.read id) widths duty opens = one
    call-at-one (HostCall.prove nonce id output) widths duty opens =
        stored (prove_refusal (decode s) nonce id _ (length output)) _ (counted (decode s) id) (λ none. counted-steady s one.kept id)
        (λ done. behind-counted h d (decode s) one.behind differ id)
    call-at-one (HostCall.last id t output) widths duty opens =
        stored (last_refusal (decode s) id t _ (length output)) _ (counted (decode s) id) (λ none. counted-steady s one.kept id)
        (λ done. behind-counted h d (decode s) one.behind differ id)
    call-at-one (HostCall.confirm k verdict) widths duty opens =
        stored (confirm_refusal (decode s) k verdict) _ (confirmed_state (decode s) k) (confirm-steady s one.kept k verdict widths)
        (λ done. behind-confirmed h d (decode s) one.behind differ k
        (confirm-held k verdict widths.id (settled-passed s (confirm_refusal (decode s) k verdict) _ (confirmed_state (decode s) k) done).1 (duty done)))
    call-at-one (HostCall.close k verdict) widths duty opens =
        stored (close_refusal (decode s) k verdict) _ (closed_state (decode s) k.id) (close-steady s one.kept k verdict)
        (λ done. behind-closed h d (decode s) one.behind differ k.id)

    -- ---- the items beside the calls

    -- with more in the desk's list
    behind-longer : (h' : List HistoryEvent) (f : List Item) → h ≡ h' → Behind h' (d ++ f) (decode s)
    behind-longer h' f same =
        subst (λ (g : List HistoryEvent). Behind g (d ++ f) (decode s)) same
        (record {
          clock = one.behind.clock;
          log = one.behind.log;
          held = each_map (λ r mine. record {
            stood = (mine.stood.0, at-stays d f mine.stood.0 (confirmed r.held) mine.stood.1);
            tells = mine.tells;
          }) one.behind.held;
        })

    -- an item that is no event
    quiet : (x : Item) → history (d ++ (x ∷ [])) ≡ history d ++ [] → AtOne s owed (d ++ (x ∷ []))
    quiet x none =
        record {
          kept = one.kept;
          pending = one.pending;
          owes = one.owes;
          behind = behind-longer (history (d ++ (x ∷ [])) ++ one.pending) (x ∷ [])
              (ap (λ (g : List HistoryEvent). g ++ one.pending) (sym (none ∙ append-nil (history d))));
        }

    -- a clock read
    read-at-one : (nonce : List ℕ) → AtOne s owed (d ++ (event (read nonce) ∷ []))
    unfolding history
    read-at-one nonce =
        let b = behind-longer h (event (read nonce) ∷ []) refl in
        let grown : history (d ++ (event (read nonce) ∷ [])) ≡ history d ++ (read nonce ∷ []) = history-append d (event (read nonce) ∷ []) in
        record {
          kept = one.kept;
          pending = one.pending;
          owes = one.owes;
          behind = subst (λ (g : List HistoryEvent). Behind (g ++ one.pending) (d ++ (event (read nonce) ∷ [])) (decode s)) (sym grown)
              (record {
                clock = b.clock ∙ sym (read-keeps-clock first (history d) one.pending nonce);
                log = each_map (certified-read first signed (history d) one.pending nonce) b.log;
                held = each_map (λ r mine. record {
                  stood = mine.stood;
                  tells = λ right. tells-read first signed D (history d) one.pending nonce r.held (mine.tells right);
                }) b.held;
              });
        }

    -- an increment with the oldest list that is owed
    increment-at-one : (given : Given) → Paid owed given → AtOne s (drop 1 owed) (d ++ (event (increment given) ∷ []))
    unfolding history
    increment-at-one given paid = go owed one.pending one.owes paid refl
      where
        d' : List Item
        d' = d ++ (event (increment given) ∷ [])

        grown : history d' ≡ history d ++ (increment given ∷ [])
        grown = history-append d (event (increment given) ∷ [])

        go : (o : List (List Request)) (fs : List HistoryEvent) → Pending o fs → Paid o given → one.pending ≡ fs → AtOne s (drop 1 o) d'
        go [] fs owes pays is = absurd pays
        go (qs ∷ o) [] owes pays is = elim owes [ ]
        go (qs ∷ o) (e ∷ fs) (one_more fit owes) pays is =
            let same : increment (list qs fit) ≡ increment given = ap increment (list-one qs fit pays.0 ∙ sym pays.1) in
            let whole : history d ++ one.pending ≡ history d' ++ fs =
            ap (λ (l : List HistoryEvent). history d ++ l) (is ∙ ap (λ (x : HistoryEvent). x ∷ fs) same)
            ∙ sym (append_assoc (history d) (increment given ∷ []) fs)
            ∙ ap (λ (l : List HistoryEvent). l ++ fs) (sym grown) in
            record { kept = one.kept; pending = fs; owes = owes; behind = behind-longer (history d' ++ fs) (event (increment given) ∷ []) whole }

    -- every item
    pub item-at-one : (x : Item) → SeenTo first signed d s owed (beside x) → AtOne s (paid_by owed x) (d ++ (x ∷ []))
    unfolding history
    item-at-one (event (increment given)) seen = increment-at-one given seen
    item-at-one (event (read nonce)) seen = read-at-one nonce
    item-at-one (confirmed k) seen = quiet (confirmed k) (history-append d (confirmed k ∷ []))
    item-at-one (call p) seen = quiet (call p) (history-append d (call p ∷ []))
