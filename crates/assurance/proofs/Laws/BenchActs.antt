-- A tablet's act on an image that is kept: whatever its raise is answered, the image stays one that is kept, the same counters are held, every other
-- counter has its current value as before, and where the tablet's counter is held the tablet believes its current value afterwards. Document 02,
-- Note 8: "which a success makes the new clock; on 22 it proves, has the desk judge, confirms and adopts the value". Assumes nothing.
use Rattle.std.specs.Prelude.{ℕ, ◌+◌, ◌-◌, ◌^◌, ◌≤◌, ◌<◌, ◌≡◌, Bool, List, [], ◌∷◌, eqb, ltb, length, refl, true, false, cond}
use Rattle.desk_table.specs.Answer.{Answer, shows}
use Rattle.std.proofs.Common.{sym, ap₂, ◌∙◌, arith, eqb-true, eq-eqb, ne_eqb, le-ltb, ap, subst}
use Rattle.std.proofs.lemmas.Bool.{false≢true, eqb-false}
use Rattle.forms.specs.Bytes.{Bytes}
use Rattle.forms.specs.Entry.{units}
use Rattle.forms.specs.Laws.EntryLaws.{length-log}
use Rattle.forms.specs.Limits.{max_proof_len, nonce_len}
use Rattle.forms.specs.Confirmation.{ConfirmationFits}
use Rattle.forms.specs.Request.{RequestFits}
use Rattle.forms.specs.Terms.{global_clock, same_id}
use Rattle.forms.specs.declared.confirmation.Confirmation.{Confirmation}
use Rattle.forms.specs.declared.request.Request.{Request}
use Rattle.forms.specs.declared.terms.CounterId.{CounterId}
use Rattle.validity.specs.Proof.{Fields, fields_len}
use Rattle.validity.specs.declared.proof.Kind.{Kind}
use Rattle.desk_table.specs.Desk.{all_yes, verified}
use Rattle.log_image.specs.Laws.FitLaws.{entries-fit-drop, units-drop}
use Rattle.log_image.specs.Laws.ImageRoundTrip.{decode-encode}
use Rattle.log_image.specs.Laws.LookupLaws.{zero-unheld}
use Rattle.log_image.specs.Sound.{after, base, holds, oldest, record_of}
use Rattle.log_image.specs.State.{Record, State, decode, encode}
use Rattle.log_store.proofs.Laws.EachRecordLaws.{Keeps, confirmation-keeps, held_keeps, holds-updated, raise-keeps}
use Rattle.log_store.specs.Effect.{confirmed_by, incremented, proved, raised_by, raised_to, updated}
use Rattle.log_store.proofs.Laws.RecordOfLaws.{record-updated}
use Rattle.log_store.proofs.Laws.RecordStores.{record-of-fits}
use Rattle.host.proofs.Laws.HeldLaws.{current-stored}
use Rattle.host.specs.Host.{Settled, confirm_call, confirmed_state, counted, current_of, entries_of, held_of, proof_of, prove_call, prove_refusal, replaced, request_refusal, running_of, settled}
use Rattle.host.proofs.Laws.SettledLaws.{settled-done, settled-refused}
use Rattle.host.proofs.Laws.SoundParts.{sound-parts}
use Rattle.console.specs.Step.{empty_output, yes, yes_for}
use Rattle.console.specs.Laws.StepLaws.{first-yes, output-long}
use Rattle.tablets.specs.Act.{Acted, Renewed, acted, confirmed_shown, following, judged_for, renewed, tried}
use Rattle.tablets.specs.Tablet.{adopting, for_proof, for_raise, nonce_for, refused_full, refused_stale, succeeded}
use Rattle.tablets.specs.declared.tablet.Tablet.{Tablet}
use Rattle.assurance.proofs.Laws.BenchRaise.{Judged, judged, nonce-bytes, nonce-long, raise-settled, raise-steady}
use Rattle.assurance.proofs.Laws.HostProof.{prove-fair}
use Rattle.assurance.proofs.Laws.HostProofs.{prove-accepted}
use Rattle.assurance.proofs.Laws.HostSteps.{Kept, Steady, confirm-steady, counted-steady, kept-steady, steady_kept}

-- ---- a held counter's current value

module _ (s : List ℕ) (kept : Kept s) (id : CounterId) (held : holds (decode s).records id ≡ true) where
  -- it stands in the counter's record
  pub current-kept : (record_of (decode s).records id).current ≡ current_of (decode s) id
  current-kept = current-stored (decode s) id (sound-parts (decode s) (kept-steady s kept).0) held

  pub current-fits : current_of (decode s) id < 2 ^ 32
  current-fits = omega (arith, current-kept, (record-of-fits (decode s).records id (kept-steady s kept).1.records).current)

  -- such a counter is not 0
  pub held-some : id.0 ≡ 0 → ⊥
  held-some none = false≢true (sym (zero-unheld (decode s).records id (sound-parts (decode s) (kept-steady s kept).0).differ none) ∙ held)

-- ---- from one image to the next

-- the same counters with the same values, the same clock, and a log that is no longer
pub record Still (s s' : List ℕ) : Type 0 where
  pub kept : Kept s'
  pub holding : (id : CounterId) → holds (decode s').records id ≡ holds (decode s).records id
  pub current : (id : CounterId) → holds (decode s).records id ≡ true → current_of (decode s') id ≡ current_of (decode s) id
  pub clock : (decode s').clock ≡ (decode s).clock
  pub room : units (decode s').log ≤ units (decode s).log

pub still-here : (s : List ℕ) → Kept s → Still s s
still-here s kept = record { kept = kept; holding = λ id. refl; current = λ id held. refl; clock = refl; room = omega arith }

still-on : (s s' s'' : List ℕ) → Still s s' → Still s' s'' → Still s s''
still-on s s' s'' first second =
    record {
      kept = second.kept;
      holding = λ id. second.holding id ∙ first.holding id;
      current = λ id held. second.current id (first.holding id ∙ held) ∙ first.current id held;
      clock = second.clock ∙ first.clock;
      room = omega (arith, first.room, second.room);
    }

-- the current value that the image of a next state has is that of its records
current-next : (next : State) → Steady next → (id : CounterId) → holds next.records id ≡ true
    → current_of (decode (encode next)) id ≡ (record_of next.records id).current
current-next next steady id held =
    ap (λ (x : State). current_of x id) (decode-encode next steady.1) ∙ sym (current-stored next id (sound-parts next steady.0) held)

-- a call that rewrites one record, whose current value stays, and that lets no entry come
module _ (s : List ℕ) (kept : Kept s) (own : CounterId) (change : Record → Record) (keeps : Keeps own change)
    (current : (r : Record) → (change r).current ≡ r.current) where
  abbrev rs : List Record
  rs = (decode s).records

  stays : (id : CounterId) → holds rs id ≡ true → (record_of (updated rs own change) id).current ≡ (record_of rs id).current
  stays id held = ap (λ (r : Record). r.current) (record-updated own change keeps rs id held) ∙ go (same_id own id)
    where
      go : (b : Bool) → (cond b (change (record_of rs id)) (record_of rs id)).current ≡ (record_of rs id).current
      go true = current (record_of rs id)
      go false = refl

  rewritten-still : (number value : ℕ) (next : State) → (number ≡ 0 → Steady next) → next.records ≡ updated rs own change
      → next.clock ≡ (decode s).clock → units next.log ≤ units (decode s).log → Still s (settled s number value next).image
  rewritten-still number value next steady records clock room = go (eqb number 0) refl
    where
      holding : (id : CounterId) → holds next.records id ≡ holds rs id
      holding id = ap (λ (l : List Record). holds l id) records ∙ holds-updated own change keeps rs id

      go : (b : Bool) → eqb number 0 ≡ b → Still s (settled s number value next).image
      go true is =
          let none : number ≡ 0 = eqb-true number 0 is in
          let fits = decode-encode next (steady none).1 in
          subst (λ (r : Settled). Still s r.image) (sym (settled-done s number value next kept.is-sound none))
          (record {
            kept = steady_kept next (steady none);
            holding = λ id. ap (λ (x : State). holds x.records id) fits ∙ holding id;
            current = λ id held.
                current-next next (steady none) id (holding id ∙ held)
                ∙ ap (λ (l : List Record). (record_of l id).current) records
                ∙ stays id held
                ∙ current-kept s kept id held;
            clock = ap (λ (x : State). x.clock) fits ∙ clock;
            room = subst (λ (x : State). units x.log ≤ units (decode s).log) (sym fits) room;
          })
      go false is =
          subst (λ (r : Settled). Still s r.image) (sym (settled-refused s number value next kept.is-sound (eqb-false number 0 is)))
          (still-here s kept)

-- ---- "it proves, has the desk judge, confirms"

module _ (s : List ℕ) (kept : Kept s) (id : CounterId) (id-fits : id.0 < 2 ^ 32) (held : holds (decode s).records id ≡ true)
    (nonce : List ℕ) (bytes : Bytes nonce) (long : length nonce ≡ nonce_len) where
  abbrev st : State
  st = decode s

  abbrev fields : Fields
  fields = proof_of st nonce id

  -- an output has room for every proof
  proof-short : fields_len fields ≤ max_proof_len
  unfolding after
  proof-short =
      let fits = (kept-steady s kept).1 in
      let k = (held_of st id).reading.0 - base st in
      omega (arith, length-log (entries_of st id) (entries-fit-drop k st.log fits.log), units-drop k st.log, fits.units)

  -- so that the host does not refuse
  prove-passes : prove_refusal st nonce id (fields_len fields) (length empty_output) ≡ 0
  prove-passes =
      let named : eqb id.0 0 ≡ false = ne_eqb id.0 0 (held-some s kept id held) in
      let whole : eqb (length nonce) nonce_len ≡ true = eq-eqb (length nonce) nonce_len long in
      let room : ltb (length empty_output) (fields_len fields) ≡ false =
      le-ltb (length empty_output) (fields_len fields) (omega (arith, proof-short, output-long)) in
      simp (named, whole, held, room)

  prove-done : (prove_call s nonce id (length empty_output)).figures ≡ record { number = 0; value = fields_len fields }
  prove-done = ap (λ (r : Settled). r.figures) (settled-done s _ (fields_len fields) (counted st id) kept.is-sound prove-passes)

  -- and the desk accepts, showing the current value at the clock
  pub proof-accepted : judged_for s nonce id ≡ shows (running_of st id) st.clock
  proof-accepted =
      let len : ℕ = (prove_call s nonce id (length empty_output)).figures.value in
      let value : len ≡ fields_len fields = ap (λ f. f.value) prove-done in
      let proof = (prove-fair s kept nonce id empty_output id-fits (ap (λ f. f.number) prove-done)).1.set_out in
      let verdicts : yes_for Kind.Read len ≡ all_yes fields = ap (yes_for Kind.Read) value ∙ first-yes Kind.Read (fields_len fields) proof-short in
      ap₂ (λ (l v : List ℕ). verified l v id nonce) proof verdicts
      ∙ prove-accepted st id (kept-steady s kept).0 (kept-steady s kept).1 id-fits held nonce long

  -- the confirmation that the tablet has
  abbrev shown : Confirmation
  shown = record { id = id; value = current_of st id; reading = st.clock }

  shown-fits : ConfirmationFits shown
  shown-fits = record { id = id-fits; value = current-fits s kept id held; reading = (kept-steady s kept).1.clock }

  abbrev written : List ℕ
  written = (prove_call s nonce id (length empty_output)).image

  pub written-still : Still s written
  written-still =
      rewritten-still s kept id proved (held_keeps id proved (λ r. refl)) (λ r. refl) _ _ (counted st id) (λ none. counted-steady s kept id) refl refl
      (omega arith)

  confirmed-still : Still s (confirm_call written shown yes).image
  confirmed-still =
      let kept' : Kept written = written-still.kept in
      let x : State = decode written in
      let past = oldest x.clock (replaced x.records shown) - base x in
      still-on s written _ written-still
      (rewritten-still written kept' id (confirmed_by shown) (confirmation-keeps shown) (λ r. refl) _ _ (confirmed_state x shown)
      (confirm-steady written kept' shown yes shown-fits) refl refl (units-drop past x.log))

  -- the value adopted is the current one, and it stays so
  pub renewed-shows : (belief : ℕ) → renewed s nonce id belief ≡ record { belief = current_of st id; image = (confirm_call written shown yes).image }
  unfolding renewed
  renewed-shows belief = ap (λ (a : Answer). confirmed_shown a written id belief) proof-accepted

  pub renewed-still : (belief : ℕ) → Still s (renewed s nonce id belief).image
  renewed-still belief = subst (λ (r : Renewed). Still s r.image) (sym (renewed-shows belief)) confirmed-still

  pub renewed-belief : (belief : ℕ) → (renewed s nonce id belief).belief ≡ current_of st id
  renewed-belief belief = ap (λ (r : Renewed). r.belief) (renewed-shows belief)

-- ---- the act

-- what an act leaves
pub record Acts (s : List ℕ) (t : Tablet) (a : Acted) : Type 0 where
  pub kept : Kept a.image
  pub id : a.tablet.id ≡ t.id
  pub belief-fits : a.tablet.belief < 2 ^ 32
  pub holding : (id : CounterId) → holds (decode a.image).records id ≡ holds (decode s).records id
  pub others : (id : CounterId) → same_id t.id id ≡ false → holds (decode s).records id ≡ true
      → current_of (decode a.image) id ≡ current_of (decode s) id
  pub believes : holds (decode s).records t.id ≡ true → a.tablet.belief ≡ current_of (decode a.image) t.id

-- where every current value stays
still-acts : (s : List ℕ) (t t' : Tablet) (s' : List ℕ) → Still s s' → t'.id ≡ t.id → t'.belief < 2 ^ 32
    → (holds (decode s).records t.id ≡ true → t'.belief ≡ current_of (decode s) t.id) → Acts s t (record { tablet = t'; image = s' })
still-acts s t t' s' still same fits believes =
    record {
      kept = still.kept;
      id = same;
      belief-fits = fits;
      holding = still.holding;
      others = λ id apart held. still.current id held;
      believes = λ held. believes held ∙ sym (still.current t.id held);
    }

-- the request of a tablet's raise
abbrev pub request_by : ℕ → ℕ → Tablet → Request
request_by round number t = record { nonce = nonce_for for_raise round number; id = t.id; before = t.belief }

module _ (s : List ℕ) (kept : Kept s) (round number : ℕ) (t : Tablet) (id-fits : t.id.0 < 2 ^ 32) (belief-fits : t.belief < 2 ^ 32) where
  abbrev request : Request
  request = request_by round number t

  request-fits : RequestFits request
  request-fits = record { nonce = nonce-long for_raise round number; bytes = nonce-bytes for_raise round number; id = id-fits; before = belief-fits }

  abbrev answer : ℕ
  answer = request_refusal (decode s) [] request yes

  abbrev new : ℕ
  new = (decode s).clock.0 + 1

  abbrev next : State
  next = incremented (decode s) (request ∷ [])

  tried-settled : tried round number s t ≡ settled s answer new next
  tried-settled = raise-settled s request request-fits kept.is-sound

  -- the raise where it is refused, and where it is not
  pub tried-refused : (answer ≡ 0 → ⊥) → tried round number s t ≡ record { figures = record { number = answer; value = 0 }; image = s }
  tried-refused some = tried-settled ∙ settled-refused s answer new next kept.is-sound some

  tried-done : answer ≡ 0 → tried round number s t ≡ record { figures = record { number = 0; value = new }; image = encode next }
  tried-done none = tried-settled ∙ settled-done s answer new next kept.is-sound none

  pub answer-own : (tried round number s t).figures.number ≡ answer
  answer-own = go (eqb answer 0) refl
    where
      go : (b : Bool) → eqb answer 0 ≡ b → (tried round number s t).figures.number ≡ answer
      go true is = ap (λ (r : Settled). r.figures.number) (tried-done (eqb-true answer 0 is)) ∙ sym (eqb-true answer 0 is)
      go false is = ap (λ (r : Settled). r.figures.number) (tried-refused (eqb-false answer 0 is))

  pub answer-judged : Judged (decode s) request (tried round number s t).figures.number
  answer-judged = subst (Judged (decode s) request) (sym answer-own) (judged (decode s) request (kept-steady s kept).0)

  -- the act by the answer
  pub acted-refused : {n : ℕ} → (n ≡ 0 → ⊥) → answer ≡ n → acted round number s t ≡ following (record { number = n; value = 0 }) round number s t
  unfolding acted
  acted-refused some e =
      ap (λ (r : Settled). following r.figures round number r.image t) (tried-refused (λ none. some (sym e ∙ none)))
      ∙ ap (λ (n : ℕ). following (record { number = n; value = 0 }) round number s t) e

  acted-done : answer ≡ 0 → acted round number s t ≡ record { tablet = succeeded t new; image = encode next }
  unfolding acted following
  acted-done none = ap (λ (r : Settled). following r.figures round number r.image t) (tried-done none)

  -- the records of a raise that is done
  abbrev change : Record → Record
  change = raised_to (global_clock new)

  keeps : Keeps t.id change
  keeps = held_keeps t.id change (raise-keeps (global_clock new))

  raised-holding : (id : CounterId) → holds next.records id ≡ holds (decode s).records id
  unfolding raised_by
  raised-holding id = holds-updated t.id change keeps (decode s).records id

  raised-current : answer ≡ 0 → (id : CounterId) → holds (decode s).records id ≡ true
      → current_of (decode (encode next)) id ≡ cond (same_id t.id id) new (record_of (decode s).records id).current
  unfolding raised_by
  raised-current none id held =
      current-next next (raise-steady s request request-fits kept none) id (raised-holding id ∙ held)
      ∙ ap (λ (r : Record). r.current) (record-updated t.id change keeps (decode s).records id held)
      ∙ go (same_id t.id id)
    where
      go : (b : Bool) → (cond b (change (record_of (decode s).records id)) (record_of (decode s).records id)).current
          ≡ cond b new (record_of (decode s).records id).current
      go true = refl
      go false = refl

  raised-acts : answer ≡ 0 → Acts s t (record { tablet = succeeded t new; image = encode next })
  raised-acts none =
      let steady = raise-steady s request request-fits kept none in
      record {
        kept = steady_kept next steady;
        id = refl;
        belief-fits = steady.1.clock;
        holding = λ id. ap (λ (x : State). holds x.records id) (decode-encode next steady.1) ∙ raised-holding id;
        others = λ id apart held.
            raised-current none id held
            ∙ ap (λ (b : Bool). cond b new (record_of (decode s).records id).current) apart
            ∙ current-kept s kept id held;
        believes = λ held.
            sym (raised-current none t.id held
            ∙ ap (λ (b : Bool). cond b new (record_of (decode s).records t.id).current) (eq-eqb t.id.0 t.id.0 refl));
      }

  -- what the tablet asks after 22 and after 24
  abbrev nonce : List ℕ
  nonce = nonce_for for_proof round number

  abbrev after-refusal : Renewed
  after-refusal = renewed s nonce t.id t.belief

  renewal-still : holds (decode s).records t.id ≡ true → Still s after-refusal.image
  renewal-still held =
      renewed-still s kept t.id id-fits held nonce (nonce-bytes for_proof round number) (nonce-long for_proof round number) t.belief

  renewal-belief : holds (decode s).records t.id ≡ true → after-refusal.belief ≡ current_of (decode s) t.id
  renewal-belief held =
      renewed-belief s kept t.id id-fits held nonce (nonce-bytes for_proof round number) (nonce-long for_proof round number) t.belief

  pub act : Acts s t (acted round number s t)
  unfolding following
  act = go refl (judged (decode s) request (kept-steady s kept).0)
    where
      here : (holds (decode s).records t.id ≡ true → t.belief ≡ current_of (decode s) t.id) → Acts s t (record { tablet = t; image = s })
      here believes = still-acts s t t s (still-here s kept) refl belief-fits believes

      go : {n : ℕ} → answer ≡ n → Judged (decode s) request n → Acts s t (acted round number s t)
      go e (Judged.unnamed away) =
          subst (Acts s t) (sym (acted-refused (λ none. omega arith) e)) (here (λ held. absurd (false≢true (sym away ∙ held))))
      go e (Judged.unheld away) =
          subst (Acts s t) (sym (acted-refused (λ none. omega arith) e)) (here (λ held. absurd (false≢true (sym away ∙ held))))
      go e (Judged.stale there other) =
          let belief = renewal-belief there in
          subst (Acts s t) (sym (acted-refused (λ none. omega arith) e))
          (still-acts s t (adopting (refused_stale t) after-refusal.belief) after-refusal.image (renewal-still there) refl
          (omega (arith, belief, current-fits s kept t.id there)) (λ held. belief))
      go e (Judged.full there same is) =
          subst (Acts s t) (sym (acted-refused (λ none. omega arith) e))
          (still-acts s t (refused_full t) after-refusal.image (renewal-still there) refl belief-fits (λ held. same))
      go e (Judged.spent there same is) = subst (Acts s t) (sym (acted-refused (λ none. omega arith) e)) (here (λ held. same))
      go e (Judged.passed there same) = subst (Acts s t) (sym (acted-done e)) (raised-acts e)

  -- after 22 clock and values are as before, and the log is no longer
  pub stale-still : holds (decode s).records t.id ≡ true → (tried round number s t).figures.number ≡ 22 → Still s (acted round number s t).image
  unfolding following
  stale-still held e = subst (λ (a : Acted). Still s a.image) (sym (acted-refused (λ none. omega arith) (sym answer-own ∙ e))) (renewal-still held)

  -- after 0 the belief is the new clock
  pub done-believes : (tried round number s t).figures.number ≡ 0 → (acted round number s t).tablet.belief ≡ (decode s).clock.0 + 1
  done-believes e = ap (λ (a : Acted). a.tablet.belief) (acted-done (sym answer-own ∙ e))
