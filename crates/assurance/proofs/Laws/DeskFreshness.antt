-- An accepted proof closes no lower than the clock was wherever its nonce was still new: the event that closes it has that nonce, so it
-- stands behind every such place. In kind 2 that is the increment that carries the last entry's requests, or there is a clash. Assumes nothing.
use Rattle.std.specs.Prelude.{ℕ, ◌-◌, ◌≤◌, ◌≡◌, refl, ◌⊎◌, List, take, drop}
use Rattle.std.proofs.Common.{sym, ap, subst, ◌∙◌, inl, inr, ⊎_elim, arith}
use Rattle.std.proofs.Math.Decide.{dec_le}
use Rattle.forms.specs.Bytes.{Bytes}
use Rattle.forms.specs.declared.terms.GlobalClock.{GlobalClock}
use Rattle.validity.specs.declared.proof.Kind.{Kind}
use Rattle.desk_table.specs.Desk.{certificate}
use Rattle.history.specs.History.{HistoryEvent, increment, read, list, clock_after, Stands}
use Rattle.history.proofs.Laws.HistoryLaws.{made-stands, stands-within}
use Rattle.history.specs.Nonce.{Has, New}
use Rattle.history.proofs.Laws.NonceLaws.{named-has, new-before, new-stands-later, stands-not-new}
use Rattle.history.specs.Value.{Signatures}
use Rattle.assurance.proofs.Laws.Accepted.{Passed, count_of, accepted-passed}
use Rattle.assurance.specs.DeskList.{Call, Item, history, Accepted, closes, kind_of, call_entry, Truth, Fresh, Clash}
use Rattle.assurance.proofs.Laws.EntryCounts.{Carried, entry-reached, entry-carried}
use Rattle.assurance.proofs.Laws.ListLaws.{history-grows-to}

-- the event that closes the proof of a call at place i: it has the wanted nonce and stands before the call, the clock before it
-- being not above T
pub record Closed (first : GlobalClock) (l : List Item) (i : ℕ) (c : Call) : Type 0 where
  pub event : HistoryEvent
  pub reading : GlobalClock
  pub own : Has c.nonce event
  pub stands : Stands first (history (take i l)) reading event
  pub within : reading.0 ≤ (closes c).0

module _ (first : GlobalClock) (signed : Signatures) (l : List Item) (i : ℕ) (c : Call) (passed : Passed c) (truth : Truth first signed l i c) where
  -- in kind 1 it is the certificate's clock read
  pub closed-read : kind_of c ≡ Kind.Read → Closed first l i c
  closed-read kind-is =
      record {
        event = read (certificate c.proof).nonce;
        reading = (certificate c.proof).reading;
        own = passed.certificate-nonce kind-is;
        stands = truth.certificate-yes kind-is (passed.certificate-yes kind-is);
        within = omega (arith, ap (λ (t : GlobalClock). t.0) (passed.certificate-reading kind-is));
      }

  -- in kind 2 the increment that carries the last entry's requests, the wanted nonce in one of them
  pub closed-increment : kind_of c ≡ Kind.Increment → Carried first l i c (count_of c) → Closed first l i c
  closed-increment kind-is (fit, is) =
      let n = count_of c in
      let e = call_entry c n in
      let given = list e.requests fit in
      let place = made-stands first (history (take i l)) e.reading given is in
      let ends : e.reading ≡ closes c = passed.readings n (passed.last kind-is) (omega arith) ∙ sym passed.closing in
      record {
        event = increment given;
        reading = place.0;
        own =
            subst (λ (nonce : List ℕ). Has nonce (increment given)) (passed.last-nonce kind-is)
            (named-has c.id e.requests fit (passed.last-own kind-is));
        stands = place.2;
        within = omega (arith, place.1, ap (λ (t : GlobalClock). t.0) ends);
      }

  closed : Bytes c.proof → (kind : Kind) → kind_of c ≡ kind → Closed first l i c ⊎ Clash first l i c
  closed lent Kind.Read kind-is = inl (closed-read kind-is)
  closed lent Kind.Increment kind-is =
      ⊎_elim (λ carried. inl (closed-increment kind-is carried)) inr
      (entry-carried first signed l i c passed truth lent (count_of c) (passed.last kind-is) (omega arith))

  -- the clock had come to the closing reading before the call
  pub closing-reached : (kind : Kind) → kind_of c ≡ kind → (closes c).0 ≤ (clock_after first (history (take i l))).0
  closing-reached Kind.Read kind-is =
      let k = certificate c.proof in
      let place = truth.certificate-yes kind-is (passed.certificate-yes kind-is) in
      let ends = passed.certificate-reading kind-is in
      omega (arith, ap (λ (t : GlobalClock). t.0) ends, (stands-within first (history (take i l)) k.reading (read k.nonce) place).1)
  closing-reached Kind.Increment kind-is =
      let n = count_of c in
      let some = passed.last kind-is in
      let ends : (call_entry c n).reading ≡ closes c = passed.readings n some (omega arith) ∙ sym passed.closing in
      omega (arith, entry-reached first signed l i c passed truth n some (omega arith), ap (λ (t : GlobalClock). t.0) ends)

-- wherever the wanted nonce was still new, the clock was not above the closing reading
pub closed-fresh : (first : GlobalClock) (l : List Item) (i : ℕ) (c : Call) → Closed first l i c → Fresh first l c
closed-fresh first l i c closing j new = from (dec_le j i)
  where
    from : Dec (j ≤ i) → (clock_after first (history (take j l))).0 ≤ (closes c).0
    from (yes before) =
        let es = history (take j l) in
        let fs = history (take (i - j) (drop j l)) in
        let there = new-stands-later c.nonce first es fs closing.reading closing.event new closing.own
        (subst (λ (h : List HistoryEvent). Stands first h closing.reading closing.event) (history-grows-to l j i before) closing.stands)
        in
        omega (arith, (stands-within (clock_after first es) fs closing.reading closing.event there).0, closing.within)
    from (no behind) =
        let es = history (take i l) in
        let fs = history (take (j - i) (drop i l)) in
        absurd (stands-not-new c.nonce first es closing.reading closing.event closing.own closing.stands
        (new-before c.nonce es fs (subst (New c.nonce) (history-grows-to l i j (omega arith)) new)))

-- an accepted call is fresh where its verdicts are true, or there is a clash in its proof
pub accepted-fresh : (first : GlobalClock) (signed : Signatures) (l : List Item) (i : ℕ) (c : Call) → Bytes c.proof → Accepted c → Truth first signed l i c
    → Fresh first l c ⊎ Clash first l i c
accepted-fresh first signed l i c lent accepted truth =
    ⊎_elim (λ closing. inl (closed-fresh first l i c closing)) inr (closed first signed l i c (accepted-passed c accepted) truth lent (kind_of c) refl)

-- the clock had come to its closing reading before it
pub accepted-reached : (first : GlobalClock) (signed : Signatures) (l : List Item) (i : ℕ) (c : Call) → Accepted c → Truth first signed l i c
    → (closes c).0 ≤ (clock_after first (history (take i l))).0
accepted-reached first signed l i c accepted truth = closing-reached first signed l i c (accepted-passed c accepted) truth (kind_of c) refl
