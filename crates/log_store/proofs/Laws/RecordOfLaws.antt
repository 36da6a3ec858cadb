-- A counter's record in records that a call has changed: where its own or another's was rewritten, where one came behind them, and where one was
-- taken out. Assumes nothing.
use Rattle.std.specs.Prelude.{◌≡◌, ◌||◌, refl, Bool, true, false, cond, List, [], ◌∷◌, ◌++◌}
use Rattle.std.proofs.Common.{◌∙◌, sym, ap}
use Rattle.std.proofs.lemmas.Bool.{false≢true}
use Rattle.forms.specs.Terms.{same_id}
use Rattle.forms.specs.Laws.TermsLaws.{same_id_lem, same-turned}
use Rattle.forms.specs.declared.terms.CounterId.{CounterId}
use Rattle.log_image.specs.Laws.PassLaws.{distinct-parts}
use Rattle.log_image.specs.Sound.{holds, distinct, record_of}
use Rattle.log_image.specs.State.{Record}
use Rattle.log_store.proofs.Laws.EachRecordLaws.{Keeps, record-own, record-other}
use Rattle.log_store.specs.Effect.{updated, without}

-- two ids that a third is the same as, and is not
same-as : (r id other : CounterId) (b : Bool) → same_id r id ≡ true → same_id r other ≡ b → same_id id other ≡ b
same-as r id other b own e = ap (λ (x : CounterId). same_id x other) (sym (same_id_lem r id own)) ∙ e

-- ---- one rewritten

module _ (id : CounterId) (change : Record → Record) (keeps : Keeps id change) where
  -- the record of a held counter is the old one, changed where it is the counter's own
  pub record-updated : (rs : List Record) (other : CounterId) → holds rs other ≡ true
      → record_of (updated rs id change) other ≡ cond (same_id id other) (change (record_of rs other)) (record_of rs other)
  unfolding updated holds
  record-updated [] other held = absurd (false≢true held)
  record-updated (r ∷ rs) other held = go (same_id r.held.id id) (same_id r.held.id other) refl refl held (record-updated rs other)
    where
      chosen : Record → Bool → Record
      chosen x b = cond b (change x) x

      go : (own wanted : Bool) → same_id r.held.id id ≡ own → same_id r.held.id other ≡ wanted → (wanted || holds rs other) ≡ true
          → (holds rs other ≡ true → record_of (updated rs id change) other ≡ cond (same_id id other) (change (record_of rs other)) (record_of rs other))
          → record_of (cond own (change r ∷ rs) (r ∷ updated rs id change)) other ≡ cond (same_id id other) (change (record_of (r ∷ rs) other)) (record_of (r ∷ rs) other)
      go true true own wanted held rest =
          record-own (change r) rs other (ap (λ (x : CounterId). same_id x other) (keeps r own) ∙ wanted)
          ∙ sym (ap (λ (x : Record). chosen x (same_id id other)) (record-own r rs other wanted) ∙ ap (chosen r) (same-as r.held.id id other true own wanted))
      go true false own wanted held rest =
          record-other (change r) rs other (ap (λ (x : CounterId). same_id x other) (keeps r own) ∙ wanted)
          ∙ sym (ap (λ (x : Record). chosen x (same_id id other)) (record-other r rs other wanted) ∙ ap (chosen (record_of rs other)) (same-as r.held.id id other false own wanted))
      go false true own wanted held rest =
          record-own r (updated rs id change) other wanted
          ∙ sym (ap (λ (x : Record). chosen x (same_id id other)) (record-own r rs other wanted) ∙ ap (chosen r) (same-turned other id false (same-as r.held.id other id false wanted own)))
      go false false own wanted held rest =
          record-other r (updated rs id change) other wanted ∙ rest held ∙ sym (ap (λ (x : Record). chosen x (same_id id other)) (record-other r rs other wanted))

-- ---- one more behind

-- a counter held before has its record
pub record-before : (rs : List Record) (r : Record) (id : CounterId) → holds rs id ≡ true → record_of (rs ++ (r ∷ [])) id ≡ record_of rs id
unfolding holds
record-before [] r id held = absurd (false≢true held)
record-before (x ∷ rs) r id held = go (same_id x.held.id id) refl held (record-before rs r id)
  where
    go : (b : Bool) → same_id x.held.id id ≡ b → (b || holds rs id) ≡ true → (holds rs id ≡ true → record_of (rs ++ (r ∷ [])) id ≡ record_of rs id)
        → record_of (x ∷ (rs ++ (r ∷ []))) id ≡ record_of (x ∷ rs) id
    go true own held rest = record-own x (rs ++ (r ∷ [])) id own ∙ sym (record-own x rs id own)
    go false other held rest = record-other x (rs ++ (r ∷ [])) id other ∙ rest held ∙ sym (record-other x rs id other)

-- one that was not has the new one
pub record-behind : (rs : List Record) (r : Record) (id : CounterId) → holds rs id ≡ false → same_id r.held.id id ≡ true → record_of (rs ++ (r ∷ [])) id ≡ r
unfolding holds
record-behind [] r id unheld own = record-own r [] id own
record-behind (x ∷ rs) r id unheld own = go (same_id x.held.id id) refl unheld (λ rest. record-behind rs r id rest own)
  where
    go : (b : Bool) → same_id x.held.id id ≡ b → (b || holds rs id) ≡ false → (holds rs id ≡ false → record_of (rs ++ (r ∷ [])) id ≡ r)
        → record_of (x ∷ (rs ++ (r ∷ []))) id ≡ r
    go true same unheld rest = absurd (false≢true (sym unheld))
    go false other unheld rest = record-other x (rs ++ (r ∷ [])) id other ∙ rest unheld

-- ---- one taken out

module _ (id : CounterId) where
  -- its counter is held no longer
  pub holds-taken : (rs : List Record) → distinct rs ≡ true → holds (without rs id) id ≡ false
  unfolding holds without
  holds-taken [] differ = refl
  holds-taken (r ∷ rs) differ = go (same_id r.held.id id) refl (distinct-parts r rs differ).0 (holds-taken rs (distinct-parts r rs differ).1)
    where
      go : (b : Bool) → same_id r.held.id id ≡ b → holds rs r.held.id ≡ false → holds (without rs id) id ≡ false
          → holds (cond b rs (r ∷ without rs id)) id ≡ false
      go true own alone rest = ap (holds rs) (sym (same_id_lem r.held.id id own)) ∙ alone
      go false other alone rest = ap (λ (b : Bool). b || holds (without rs id) id) other ∙ rest

  module _ (other : CounterId) (apart : same_id id other ≡ false) where
    -- every other is as before
    pub holds-left : (rs : List Record) → holds (without rs id) other ≡ holds rs other
    unfolding holds without
    holds-left [] = refl
    holds-left (r ∷ rs) = go (same_id r.held.id id) refl (holds-left rs)
      where
        go : (b : Bool) → same_id r.held.id id ≡ b → holds (without rs id) other ≡ holds rs other
            → holds (cond b rs (r ∷ without rs id)) other ≡ (same_id r.held.id other || holds rs other)
        go true own rest = sym (ap (λ (x : CounterId). same_id x other || holds rs other) (same_id_lem r.held.id id own) ∙ ap (λ (b : Bool). b || holds rs other) apart)
        go false away rest = ap (λ (b : Bool). same_id r.held.id other || b) rest

    -- with its record
    pub record-left : (rs : List Record) → record_of (without rs id) other ≡ record_of rs other
    unfolding record_of without
    record-left [] = refl
    record-left (r ∷ rs) = go (same_id r.held.id id) refl (record-left rs)
      where
        go : (b : Bool) → same_id r.held.id id ≡ b → record_of (without rs id) other ≡ record_of rs other
            → record_of (cond b rs (r ∷ without rs id)) other ≡ cond (same_id r.held.id other) r (record_of rs other)
        go true own rest = sym (ap (λ (x : CounterId). cond (same_id x other) r (record_of rs other)) (same_id_lem r.held.id id own) ∙ ap (λ (b : Bool). cond b r (record_of rs other)) apart)
        go false away rest = ap (cond (same_id r.held.id other) r) rest
