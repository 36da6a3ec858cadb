-- Each accepted call shows the value that the history gives its counter at the reading that the proof closes on, by induction on its place:
-- its confirmation is the counter's opening or was made from a proof accepted before. It shows the history's openings since that
-- confirmation. Or there is a clash, in its own proof or in one that the induction comes by. Nothing is supposed of what stands after the call. Assumes
-- nothing.
use Rattle.std.specs.Prelude.{ℕ, zero, suc, ◌+◌, ◌-◌, ◌≤◌, ◌<◌, ◌≡◌, refl, ◌⊎◌, List}
use Rattle.std.proofs.Common.{sym, subst, subst₂, ◌∙◌, inl, inr, ⊎_elim, arith, ap, zero-add}
use Rattle.forms.specs.declared.confirmation.Confirmation.{Confirmation}
use Rattle.forms.specs.declared.terms.CounterId.{CounterId}
use Rattle.forms.specs.declared.terms.GlobalClock.{GlobalClock}
use Rattle.forms.specs.Chain.{from_value}
use Rattle.forms.specs.declared.running.Running.{Running}
use Rattle.validity.specs.Proof.{log_offset}
use Rattle.desk_table.specs.Desk.{confirmation, verdicts_before}
use Rattle.history.specs.Openings.{number_of, openings_between}
use Rattle.history.proofs.Laws.OpeningsLaws.{running-walk}
use Rattle.history.specs.Value.{Signatures, counts, value_at}
use Rattle.history.proofs.Laws.ValueLaws.{value_at-walks-on}
use Rattle.history.specs.Laws.Walk.{pass, clock_walk}
use Rattle.assurance.proofs.Laws.Accepted.{Passed, count_of, running_of, accepted-passed}
use Rattle.assurance.specs.CallClaim.{LentUpTo}
use Rattle.assurance.specs.DeskList.{Call, Item, confirmed, call, At, history, shown, Accepted, closes, kind_of, Truth, Unopened, Opening, MadeFrom, Supposed, Sound, Clashed, Lent}
use Rattle.assurance.proofs.Laws.EntryCounts.{Linked, entries-linked, entry-counts}
use Rattle.assurance.proofs.Laws.EntryWalk.{placed-walk}
use Rattle.assurance.proofs.Laws.ListLaws.{Opened, opened-or-not}
use Rattle.assurance.specs.Valued.{Valued}
use Rattle.assurance.proofs.Laws.ValuedLaws.{opening-valued}

module _ (first : GlobalClock) (signed : Signatures) (l : List Item) where
  -- value and openings that a call shows, along the clock
  call-walked : (i : ℕ) (c : Call) → Passed c → Truth first signed l i c → Linked first l i c (count_of c) →
      let counting = counts signed c.id first (history l) in
      let k = confirmation c.proof in
      running_of c ≡ record { value = clock_walk (pass counting) k.value k.reading (count_of c); openings = 0 + number_of counting k.reading.0 (count_of c) }
  call-walked i c passed truth linked =
      let s = c.proof in
      let n = count_of c in
      let start = (confirmation s).reading in
      let counting = counts signed c.id first (history l) in
      passed.running
      ∙ placed-walk counting s (log_offset (kind_of c)) c.verdicts (verdicts_before (kind_of c)) c.id (confirmation s).value start.0 n (λ k low high. (
        passed.readings k low high,
        ap counting (sym (passed.readings k low high)) ∙ entry-counts first signed l i c passed truth k low high (linked k low high),
      ))
      ∙ running-walk counting (from_value (confirmation s).value) start n

  -- the openings are the history's, from the proof's own confirmation up to the reading that it closes on
  pub call-openings : (i : ℕ) (c : Call) → Passed c → Truth first signed l i c → Linked first l i c (count_of c)
      → (shown c).openings ≡ openings_between signed c.id first (history l) (confirmation c.proof).reading (closes c)
  unfolding openings_between
  call-openings i c passed truth linked =
      let start = (confirmation c.proof).reading in
      let counting = counts signed c.id first (history l) in
      let after : (closes c).0 - start.0 ≡ count_of c = omega (arith, ap (λ (t : GlobalClock). t.0) passed.closing) in
      ap (λ (r : Running). r.openings) (call-walked i c passed truth linked)
      ∙ zero-add (number_of counting start.0 (count_of c))
      ∙ ap (number_of counting start.0) (sym after)

  -- from the confirmation's value, the value shown
  pub call-valued : (i : ℕ) (c : Call) → Passed c → Truth first signed l i c → Linked first l i c (count_of c)
      → Valued first signed l (history l) c.id (confirmation c.proof).reading (confirmation c.proof).value
      → Valued first signed l (history l) c.id (closes c) (shown c).value
  call-valued i c passed truth linked valued =
      let n = count_of c in
      let start = (confirmation c.proof).reading in
      let counting = counts signed c.id first (history l) in
      let opened = valued.opening.reading in
      record {
        place = valued.place;
        opening = valued.opening;
        opens = valued.opens;
        within = subst (λ (t : GlobalClock). opened.0 ≤ t.0) (sym passed.closing) (omega (arith, valued.within));
        given =
            ap (λ (r : Running). r.value) (call-walked i c passed truth linked)
            ∙ ap (λ (v : ℕ). clock_walk (pass counting) v start n) valued.given
            ∙ sym (value_at-walks-on signed c.id first (history l) opened start n valued.within)
            ∙ ap (value_at signed c.id first (history l) opened) (sym passed.closing);
      }

  -- and so it is sound
  pub call-sound : (i : ℕ) (c : Call) → Passed c → Truth first signed l i c → Linked first l i c (count_of c)
      → Valued first signed l (history l) c.id (closes c) (shown c).value → Sound first signed l c
  call-sound i c passed truth linked valued =
      record {
        place = valued.place;
        opening = valued.opening;
        opens = valued.opens;
        within = valued.within;
        value = valued.given;
        openings = call-openings i c passed truth linked;
      }

  module _ (id : CounterId) (i : ℕ) (lent : LentUpTo l id i) (supposed : Supposed first signed l id i) where
    -- a confirmation of the counter, where the calls before it show the history's value
    confirmation-valued : (j : ℕ) (k : Confirmation) → j ≤ i → At l j (confirmed k) → k.id ≡ id
        → ((place : ℕ) (c : Call) → place < j → At l place (call c) → c.id ≡ id → Accepted c
        → Valued first signed l (history l) id (closes c) (shown c).value ⊎ Clashed first l id i)
        → Valued first signed l (history l) id k.reading k.value ⊎ Clashed first l id i
    confirmation-valued j k up_to stands own before = from (opened-or-not l id j)
      where
        made : MadeFrom l j k → Valued first signed l (history l) id k.reading k.value ⊎ Clashed first l id i
        made m =
            subst₂ (λ (t : GlobalClock) (v : ℕ). Valued first signed l (history l) id t v ⊎ Clashed first l id i) m.reading m.value
            (before m.place m.from m.earlier m.stands (m.id ∙ own) m.accepted)

        from : Unopened l id j ⊎ Opened l id j → Valued first signed l (history l) id k.reading k.value ⊎ Clashed first l id i
        from (inl unopened) =
            let opens : Opening l id j k = record { stands = stands; own = own; before = unopened } in
            inl (opening-valued first signed l (history l) id j k opens (supposed.opened j k up_to opens))
        from (inr found) = made (supposed.others j found.place k found.opening up_to found.opens found.earlier stands own)

    -- the entries of an accepted call of the counter are the history's, or there is a clash
    call-linked : (j : ℕ) (c : Call) → j ≤ i → At l j (call c) → c.id ≡ id → Accepted c → Linked first l j c (count_of c) ⊎ Clashed first l id i
    call-linked j c up_to stands own accepted =
        ⊎_elim inl (λ clash. inr (record { place = j; from = c; up_to = up_to; stands = stands; own = own; passed = accepted; clash = clash }))
        (entries-linked first signed l j c (accepted-passed c accepted) (supposed.truth j c up_to stands own accepted) (lent j c up_to stands own accepted))

    -- every accepted call of the counter up to the place, by a bound on its own place
    valued-below : (bound j : ℕ) (c : Call) → j < bound → j ≤ i → At l j (call c) → c.id ≡ id → Accepted c
        → Valued first signed l (history l) id (closes c) (shown c).value ⊎ Clashed first l id i
    valued-below zero j c below up_to stands own accepted = absurd (omega arith)
    valued-below (suc bound) j c below up_to stands own accepted =
        let passed = accepted-passed c accepted in
        let truth = supposed.truth j c up_to stands own accepted in
        let confirms = truth.confirmation-yes passed.confirmation-yes in
        let valued = confirmation-valued confirms.0 (confirmation c.proof) (omega (arith, confirms.1)) confirms.2 (passed.own ∙ own)
        (λ place c' earlier. valued-below bound place c' (omega (arith, confirms.1)) (omega (arith, confirms.1)))
        in
        ⊎_elim (λ linked. ⊎_elim (λ start. inl (from-valued linked start)) inr valued) inr (call-linked j c up_to stands own accepted)
      where
        from-valued : Linked first l j c (count_of c) → Valued first signed l (history l) id (confirmation c.proof).reading (confirmation c.proof).value
            → Valued first signed l (history l) id (closes c) (shown c).value
        from-valued linked start =
            subst (λ (x : CounterId). Valued first signed l (history l) x (closes c) (shown c).value) own
            (call-valued j c (accepted-passed c accepted) (supposed.truth j c up_to stands own accepted) linked
            (subst (λ (x : CounterId). Valued first signed l (history l) x (confirmation c.proof).reading (confirmation c.proof).value)
            (sym own) start))

  -- an accepted call shows the history's value where what demand 3 supposes of its counter holds up to the call, or there is a clash
  pub accepted-valued : (i : ℕ) (c : Call) → At l i (call c) → Accepted c → LentUpTo l c.id i → Supposed first signed l c.id i
      → Valued first signed l (history l) c.id (closes c) (shown c).value ⊎ Clashed first l c.id i
  accepted-valued i c stands accepted lent supposed =
      valued-below c.id i lent supposed (suc i) i c (omega arith) (omega arith) stands refl accepted

  -- and is sound there, where the desk is handed bytes
  pub accepted-sound : Lent l → (i : ℕ) (c : Call) → At l i (call c) → Accepted c → Supposed first signed l c.id i
      → Sound first signed l c ⊎ Clashed first l c.id i
  accepted-sound lent i c stands accepted supposed =
      let lent-to : LentUpTo l c.id i = λ j from up_to there own passed. lent j from there in
      ⊎_elim
      (λ linked. ⊎_elim
      (λ valued. inl (call-sound i c (accepted-passed c accepted) (supposed.truth i c (omega arith) stands refl accepted) linked valued)) inr
      (accepted-valued i c stands accepted lent-to supposed))
      inr (call-linked c.id i lent-to supposed i c (omega arith) stands refl accepted)
