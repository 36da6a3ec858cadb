-- The history's increment at an entry's reading carries the entry's requests, or the two clash; where it carries them, the history counts that reading for
-- the wanted counter exactly if the entry is the counter's own. Assumes nothing.
use Rattle.std.specs.Prelude.{ℕ, zero, suc, ◌≤◌, ◌≡◌, Bool, true, false, not, ◌&&◌, ◌⊎◌, take, drop, refl, List}
use Rattle.std.proofs.Common.{sym, subst, ◌∙◌, true≢false, inl, inr, arith, ne_eqb, ap}
use Rattle.std.proofs.Math.Decide.{dec_le}
use Rattle.forms.specs.Bytes.{Bytes, same}
use Rattle.forms.specs.Laws.BytesLaws.{same_refl, same-equal}
use Rattle.forms.specs.Entry.{Entry}
use Rattle.forms.specs.Laws.EntryLaws.{entry-fit}
use Rattle.forms.specs.Request.{RequestsFit, joined, names}
use Rattle.forms.specs.Laws.RequestLaws.{joined-injective}
use Rattle.forms.specs.declared.request.Request.{Request}
use Rattle.forms.specs.declared.terms.GlobalClock.{GlobalClock}
use Rattle.digest.specs.Seal.{digest_of}
use Rattle.digest.specs.Laws.SealLaws.{sealed-nonce}
use Rattle.desk_table.specs.Desk.{is_no, own_by, is_own}
use Rattle.history.specs.History.{Given, HistoryEvent, list, bare, clock_after, Made, made, unmade, increment_at, Carries}
use Rattle.history.proofs.Laws.HistoryLaws.{made-within}
use Rattle.history.specs.Value.{Signatures, counts}
use Rattle.history.proofs.Laws.ValueLaws.{signed-once, made-counts, counts-stays}
use Rattle.assurance.proofs.Laws.Accepted.{Passed, count_of, own_of}
use Rattle.assurance.specs.DeskList.{Call, Item, history, call_entry, request_of, owner_said, Certifies, Truth, Clash}
use Rattle.assurance.proofs.Laws.ListLaws.{history-grows}

-- an increment with an entry's nonce was made
shows-made : (m : Made) (e : Entry) → Certifies m e → (given : Given) × (m ≡ made given)
shows-made (made given) e shows = (given, refl)
shows-made unmade e shows = absurd shows

-- a verdict that tells the truth both ways
told : (verdict : ℕ) (is_Signed : Bool) → verdict ≤ 1 → (verdict ≡ 1 → is_Signed ≡ true) → (verdict ≡ 0 → is_Signed ≡ false) → is_Signed ≡ not (is_no verdict)
told zero is_Signed low on-yes on-no = on-no refl
told (suc verdict) is_Signed low on-yes on-no = on-yes (omega arith) ∙ sym (ap not (ne_eqb (suc verdict) 0 (λ none. omega arith)))

-- a counter's request counts where it is named and the owner says yes
request-counted : (request : Bool) (verdict : ℕ) (b : Bool) → (b ≡ true → request ≡ not (is_no verdict)) → (b && request) ≡ own_by b verdict
request-counted request verdict true says = says refl
request-counted request verdict false says = refl

module _ (first : GlobalClock) (l : List Item) (i : ℕ) (c : Call) where
  -- the history's increment at the reading of entry k, for a call at place i
  abbrev made_at : ℕ → Made
  made_at k = increment_at first (history (take i l)) (call_entry c k).reading

  -- it carries the requests of that entry
  abbrev pub Carried : ℕ → Type 0
  Carried k = Carries (made_at k) (call_entry c k).requests

  -- and so it is at each of the first n entries
  abbrev pub Linked : ℕ → Type 0
  Linked n = (k : ℕ) → 1 ≤ k → k ≤ n → Carried k

  linked-next : (n : ℕ) → Linked n → Carried (suc n) → Linked (suc n)
  linked-next n before here k low high =
      elim (dec_le k n) [ yes less ↦ before k low less | no more ↦ subst Carried (let same : suc n ≡ k = omega arith in same) here ]

module _ (first : GlobalClock) (signed : Signatures) (l : List Item) (i : ℕ) (c : Call) (passed : Passed c) (truth : Truth first signed l i c) where
  -- the module's yes: it was made, with the digest of the entry's requests
  shows-entry : (k : ℕ) → 1 ≤ k → k ≤ count_of c → Certifies (made_at first l i c k) (call_entry c k)
  shows-entry k low high = truth.module-yes k low high (passed.module-yes k low high)

  -- the clock had reached each entry's reading before the call
  pub entry-reached : (k : ℕ) → 1 ≤ k → k ≤ count_of c → (call_entry c k).reading.0 ≤ (clock_after first (history (take i l))).0
  entry-reached k low high =
      let found = shows-made (made_at first l i c k) (call_entry c k) (shows-entry k low high) in
      (made-within first (history (take i l)) (call_entry c k).reading found.0 found.1).1

  -- the increment carries the entry's requests, or others with the same digest
  pub entry-carried : Bytes c.proof → (k : ℕ) → 1 ≤ k → k ≤ count_of c → Carried first l i c k ⊎ Clash first l i c
  unfolding digest_of
  entry-carried lent k low high = from (made_at first l i c k) refl (shows-entry k low high)
    where
      qs : List Request
      qs = (call_entry c k).requests

      fit : RequestsFit qs
      fit = (entry-fit c.proof _ lent).requests

      compared : (given : List Request) (fits : RequestsFit given) → made_at first l i c k ≡ made (list given fits) → digest_of given ≡ digest_of qs
          → (b : Bool) → same (joined qs) (joined given) ≡ b → Carried first l i c k ⊎ Clash first l i c
      compared given fits is agree true e =
          let equal = joined-injective given qs fits fit (sym (same-equal (joined qs) (joined given) e)) in
          inl (subst (Carries (made_at first l i c k)) equal (fits, is))
      compared given fits is agree false e =
          inr (record {
            entry = k;
            low = low;
            high = high;
            given = given;
            fit = fits;
            stands = is;
            differ = λ equal. true≢false (sym (same_refl (joined qs)) ∙ ap (same (joined qs)) equal ∙ e);
            agree = sym agree;
          })

      digested : (call_entry c k).nonce ≡ digest_of qs
      digested = sealed-nonce (call_entry c k) (passed.digest k low high)

      from : (m : Made) → made_at first l i c k ≡ m → Certifies m (call_entry c k) → Carried first l i c k ⊎ Clash first l i c
      from (made (list given fits)) is shows = compared given fits is (shows ∙ digested) (same (joined qs) (joined given)) refl
      from (made (bare nonce none)) is shows = absurd (none qs fit (sym (shows ∙ digested)))
      from unmade is shows = absurd shows

  -- and so it is at every entry, or there is a clash
  pub entries-linked : Bytes c.proof → Linked first l i c (count_of c) ⊎ Clash first l i c
  entries-linked lent = up_to (count_of c) (omega arith)
    where
      both : (n : ℕ) → Linked first l i c n ⊎ Clash first l i c → Carried first l i c (suc n) ⊎ Clash first l i c
          → Linked first l i c (suc n) ⊎ Clash first l i c
      both n (inl before) (inl here) = inl (linked-next first l i c n before here)
      both n (inl before) (inr clash) = inr clash
      both n (inr clash) here = inr clash

      up_to : (n : ℕ) → n ≤ count_of c → Linked first l i c n ⊎ Clash first l i c
      up_to zero within = inl (λ k low high. absurd (omega arith))
      up_to (suc n) within = both n (up_to n (omega arith)) (entry-carried lent (suc n) (omega arith) within)

  -- the whole history counts the reading of an entry whose requests it carries exactly if the entry is the wanted counter's own
  pub entry-counts : (k : ℕ) → 1 ≤ k → k ≤ count_of c → Carried first l i c k → counts signed c.id first (history l) (call_entry c k).reading ≡ own_of c k
  unfolding is_own
  entry-counts k low high (fit, is) =
      let e = call_entry c k in
      let es = history (take i l) in
      ap (λ (h : List HistoryEvent). counts signed c.id first h e.reading) (history-grows l i)
      ∙ counts-stays signed c.id first es (history (drop i l)) e.reading (entry-reached k low high)
      ∙ made-counts signed c.id first es e.reading (made (list e.requests fit)) is
      ∙ signed-once signed c.id e.requests (passed.once k low high)
      ∙ request-counted (signed (request_of c.id e)) (owner_said c k) (names c.id e.requests)
      (λ named.
      told (owner_said c k) (signed (request_of c.id e)) (passed.zero-or-one _) (truth.owner-yes k low high named) (truth.owner-no k low high named))
