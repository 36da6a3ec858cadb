-- Laws of the desk's list: what stands at a place stays there, its history only grows along it, and whether a counter was opened before a place can be
-- told. Assumes nothing.
use Rattle.std.specs.Prelude.{ℕ, zero, suc, ◌+◌, ◌-◌, ◌≤◌, ◌<◌, ◌≡◌, refl, Bool, true, false, ◌⊎◌, List, [], ◌∷◌, ◌++◌, length, take, drop}
use Rattle.std.proofs.Common.{sym, ap, ◌∙◌, inl, inr, ⊎_elim, arith, take-append-drop, take-add}
use Rattle.std.proofs.Math.Option.{Option, none, some}
use Rattle.std.proofs.Math.Decide.{dec_le}
use Rattle.std.proofs.Math.ListN.{get_elem?}
use Rattle.std.proofs.lemmas.Bool.{eqb-false}
use Rattle.forms.specs.Terms.{same_id}
use Rattle.forms.specs.Laws.TermsLaws.{same_id_lem}
use Rattle.forms.specs.declared.confirmation.Confirmation.{Confirmation}
use Rattle.forms.specs.declared.terms.CounterId.{CounterId}
use Rattle.history.specs.History.{HistoryEvent}
use Rattle.assurance.specs.DeskList.{Item, event, confirmed, call, At, history, Unopened, Opening}

-- ---- places

module _ {A : Type 0} where
  -- an item stands within its list
  pub at-within : (l : List A) (i : ℕ) (x : A) → get_elem? l i ≡ some x → i < length l
  at-within [] i x stands = absurd (let z : ◌≡◌ {A = ℕ} 0 1 = cc in omega arith)
  at-within (y ∷ l) zero x stands = omega arith
  at-within (y ∷ l) (suc i) x stands = omega (arith, at-within l i x stands)

  -- and stays where it is in a longer one
  pub at-stays : (l m : List A) (i : ℕ) (x : A) → get_elem? l i ≡ some x → get_elem? (l ++ m) i ≡ some x
  at-stays [] m i x stands = absurd (let z : ◌≡◌ {A = ℕ} 0 1 = cc in omega arith)
  at-stays (y ∷ l) m zero x stands = stands
  at-stays (y ∷ l) m (suc i) x stands = at-stays l m i x stands

-- ---- the history

-- the history of two lists in a row
pub history-append : (l m : List Item) → history (l ++ m) ≡ history l ++ history m
unfolding history
history-append [] m = refl
history-append (event e ∷ l) m = ap (λ (es : List HistoryEvent). e ∷ es) (history-append l m)
history-append (confirmed k ∷ l) m = history-append l m
history-append (call c ∷ l) m = history-append l m

-- the history before a place is the beginning of the whole one
pub history-grows : (l : List Item) (i : ℕ) → history l ≡ history (take i l) ++ history (drop i l)
history-grows l i = ap history (sym (take-append-drop i l)) ∙ history-append (take i l) (drop i l)

-- and of the one before every later place
pub history-grows-to : (l : List Item) (i j : ℕ) → i ≤ j → history (take j l) ≡ history (take i l) ++ history (take (j - i) (drop i l))
history-grows-to l i j later =
    let whole : j ≡ i + (j - i) = omega arith in
    ap (λ (n : ℕ). history (take n l)) whole
    ∙ ap history (take-add i (j - i) l)
    ∙ history-append (take i l) (take (j - i) (drop i l))

-- ---- openings

-- the opening of a counter stands before a place
pub record Opened (l : List Item) (id : CounterId) (i : ℕ) : Type 0 where
  pub place : ℕ
  pub opening : Confirmation
  pub earlier : place < i
  pub opens : Opening l id place opening

module _ (l : List Item) (id : CounterId) where
  -- a place that holds no confirmation of the counter leaves it unopened
  unopened-next : (i : ℕ) → Unopened l id i → ((k : Confirmation) → At l i (confirmed k) → k.id ≡ id → ⊥) → Unopened l id (suc i)
  unopened-next i before here j k earlier stands own = from (dec_le (suc j) i)
    where
      from : Dec (suc j ≤ i) → ⊥
      from (yes less) = before j k less stands own
      from (no more) =
          let same : j ≡ i = omega arith in
          here k (ap (get_elem? l) (sym same) ∙ stands) own

  -- before every place the counter is unopened, or its opening stands there
  pub opened-or-not : (i : ℕ) → Unopened l id i ⊎ Opened l id i
  opened-or-not zero = inl (λ j k earlier stands own. omega arith)
  opened-or-not (suc i) = ⊎_elim (λ before. by-item before (get_elem? l i) refl) (λ found. inr (still found)) (opened-or-not i)
    where
      still : Opened l id i → Opened l id (suc i)
      still found = record { place = found.place; opening = found.opening; earlier = omega (arith, found.earlier); opens = found.opens }

      other : (item : Item) → At l i item → ((k : Confirmation) → item ≡ confirmed k → k.id ≡ id → ⊥) → Unopened l id i → Unopened l id (suc i)
      other item stands not_own before = unopened-next i before (λ k confirms own. not_own k (let same : item ≡ confirmed k = cc in same) own)

      by-id : (k : Confirmation) → At l i (confirmed k) → Unopened l id i → (b : Bool) → same_id k.id id ≡ b
          → Unopened l id (suc i) ⊎ Opened l id (suc i)
      by-id k stands before true own =
          inr (record {
            place = i;
            opening = k;
            earlier = omega arith;
            opens = record { stands = stands; own = same_id_lem k.id id own; before = before };
          })
      by-id k stands before false own =
          inl (other (confirmed k) stands
          (λ k' confirms own'.
          let same : k ≡ k' = cc in
          eqb-false k.id.0 id.0 own (ap (λ (x : Confirmation). x.id.0) same ∙ ap (λ (x : CounterId). x.0) own')) before)

      by-item : Unopened l id i → (item : Option Item) → get_elem? l i ≡ item → Unopened l id (suc i) ⊎ Opened l id (suc i)
      by-item before none nothing =
          inl (unopened-next i before (λ k confirms own. let z : ◌≡◌ {A = ℕ} 0 1 = cc in omega arith))
      by-item before (some (event e)) stands =
          inl (other (event e) stands (λ k confirms own. let z : ◌≡◌ {A = ℕ} 0 1 = cc in omega arith) before)
      by-item before (some (call c)) stands =
          inl (other (call c) stands (λ k confirms own. let z : ◌≡◌ {A = ℕ} 0 1 = cc in omega arith) before)
      by-item before (some (confirmed k)) stands = by-id k stands before (same_id k.id id) refl

  -- a counter has one opening
  pub opening-once : (i j : ℕ) (k m : Confirmation) → Opening l id i k → Opening l id j m → k ≡ m
  opening-once i j k m first second = from (dec_le (suc i) j) (dec_le (suc j) i)
    where
      from : Dec (suc i ≤ j) → Dec (suc j ≤ i) → k ≡ m
      from (yes less) second-less = absurd (second.before i k less first.stands first.own)
      from (no more) (yes less) = absurd (first.before j m less second.stands second.own)
      from (no more) (no less) =
          let same : i ≡ j = omega arith in
          let both : At l i (confirmed m) = ap (get_elem? l) same ∙ second.stands in
          let one = first.stands in
          cc
