-- What holds of every one of a list, and of a list of records the one of a held counter: found, one more behind, one
-- changed, one taken out. Assumes nothing.
use Rattle.std.specs.Prelude.{◌≡◌, ℕ, zero, suc, ◌≤◌, min, Bool, cond, ◌&&◌, ◌||◌, eqb, set, take, drop, refl, true, false, not, List, [], ◌∷◌, ◌++◌}
use Rattle.std.proofs.Common.{sym, subst, ◌∙◌, arith, eq-eqb, ne_eqb, ap, ap₂}
use Rattle.std.proofs.Math.Bool.{or-false, or_assoc}
use Rattle.std.proofs.lemmas.Bool.{false≢true}
use Rattle.forms.specs.Terms.{same_id}
use Rattle.forms.specs.Laws.TermsLaws.{same_id_lem, same-turned}
use Rattle.forms.specs.declared.confirmation.Confirmation.{Confirmation}
use Rattle.forms.specs.declared.terms.CounterId.{CounterId}
use Rattle.forms.specs.declared.terms.GlobalClock.{GlobalClock}
use Rattle.forms.specs.Laws.TestsLaws.{neither}
use Rattle.log_image.specs.State.{Record}
use Rattle.log_image.specs.Sound.{holds, index_of, distinct, oldest, record_of}
use Rattle.log_image.specs.Laws.PassLaws.{distinct-parts, nonzero}
use Rattle.log_store.specs.Effect.{updated, raised_to, confirmed_by, without}

-- something holds of every one of a list, records or others
pub data Each {A : Type 0} (P : A → Type 0) : List A → Type 0 where
  done : Each P []
  more : {r : A} {rs : List A} → P r → Each P rs → Each P (r ∷ rs)

module _ {A : Type 0} where
  -- what holds of every one gives another thing of every one
  pub each_map : {P Q : A → Type 0} {rs : List A} → ((r : A) → P r → Q r) → Each P rs → Each Q rs
  each_map f done = done
  each_map f (more {r = r} p ps) = more (f r p) (each_map f ps)

  -- two things of every one are one
  pub each_both : {P Q : A → Type 0} {rs : List A} → Each P rs → Each Q rs → Each (λ r. P r × Q r) rs
  each_both done done = done
  each_both (more p ps) (more q qs) = more (p, q) (each_both ps qs)

  -- one more behind them
  pub each_snoc : {P : A → Type 0} {rs : List A} {r : A} → Each P rs → P r → Each P (rs ++ (r ∷ []))
  each_snoc done q = more q done
  each_snoc (more p ps) q = more p (each_snoc ps q)

  -- those behind the first n, and the first n
  pub each-drop : {P : A → Type 0} (n : ℕ) {rs : List A} → Each P rs → Each P (drop n rs)
  each-drop zero ps = ps
  each-drop (suc n) done = done
  each-drop (suc n) (more p ps) = each-drop n ps

  pub each_take : {P : A → Type 0} (n : ℕ) {rs : List A} → Each P rs → Each P (take n rs)
  each_take zero ps = done
  each_take (suc n) done = done
  each_take (suc n) (more p ps) = more p (each_take n ps)

-- ---- the record of a held counter

-- the first record is the counter's
pub record-own : (r : Record) (rs : List Record) (id : CounterId) → same_id r.held.id id ≡ true → record_of (r ∷ rs) id ≡ r
unfolding record_of
record-own r rs id own = ap (λ (b : Bool). cond b r (record_of rs id)) own

-- the first record is another's
pub record-other : (r : Record) (rs : List Record) (id : CounterId) → same_id r.held.id id ≡ false → record_of (r ∷ rs) id ≡ record_of rs id
unfolding record_of
record-other r rs id other = ap (λ (b : Bool). cond b r (record_of rs id)) other

-- it is one of the list: what holds of every record holds of it
pub each-held : {P : Record → Type 0} {rs : List Record} (id : CounterId) → Each P rs → holds rs id ≡ true → P (record_of rs id)
unfolding holds
each-held id done held = absurd (false≢true held)
each-held {P} id (more {r = r} {rs = rs} p ps) held = go (same_id r.held.id id) refl held (each-held id ps)
  where
    go : (b : Bool) → same_id r.held.id id ≡ b → (b || holds rs id) ≡ true → (holds rs id ≡ true → P (record_of rs id)) → P (record_of (r ∷ rs) id)
    go true own held rest = subst P (sym (record-own r rs id own)) p
    go false other held rest = subst P (sym (record-other r rs id other)) (rest held)

-- its id is the counter's
pub held-id : (rs : List Record) (id : CounterId) → holds rs id ≡ true → (record_of rs id).held.id ≡ id
unfolding holds
held-id [] id held = absurd (false≢true held)
held-id (r ∷ rs) id held = go (same_id r.held.id id) refl held (held-id rs id)
  where
    go : (b : Bool) → same_id r.held.id id ≡ b → (b || holds rs id) ≡ true → (holds rs id ≡ true → (record_of rs id).held.id ≡ id)
        → (record_of (r ∷ rs) id).held.id ≡ id
    go true own held rest = ap (λ (x : Record). x.held.id) (record-own r rs id own) ∙ same_id_lem r.held.id id own
    go false other held rest = ap (λ (x : Record). x.held.id) (record-other r rs id other) ∙ rest held

-- where ids differ, every record is that of its own counter
pub each-found : (rs : List Record) → distinct rs ≡ true → Each (λ r. (holds rs r.held.id ≡ true) × (record_of rs r.held.id ≡ r)) rs
unfolding holds
each-found [] differ = done
each-found (x ∷ rs) differ =
    let parts = distinct-parts x rs differ in
    let own : same_id x.held.id x.held.id ≡ true = eq-eqb x.held.id.0 x.held.id.0 refl in
    more (ap (λ (b : Bool). b || holds rs x.held.id) own, record-own x rs x.held.id own) (each_map (λ r h. later parts.0 r h) (each-found rs parts.1))
  where
    later : holds rs x.held.id ≡ false → (r : Record) → (holds rs r.held.id ≡ true) × (record_of rs r.held.id ≡ r)
        → ((same_id x.held.id r.held.id || holds rs r.held.id) ≡ true) × (record_of (x ∷ rs) r.held.id ≡ r)
    later alone r h = go (same_id x.held.id r.held.id) refl
      where
        go : (b : Bool) → same_id x.held.id r.held.id ≡ b
            → ((b || holds rs r.held.id) ≡ true) × (record_of (x ∷ rs) r.held.id ≡ r)
        go true same = absurd (false≢true (sym alone ∙ ap (holds rs) (same_id_lem x.held.id r.held.id same) ∙ h.0))
        go false other = (h.0, record-other x rs r.held.id other ∙ h.1)

-- ---- the oldest reading

-- no record's reading is below the oldest
pub each-oldest : (clock : GlobalClock) (rs : List Record) → Each (λ r. oldest clock rs ≤ r.held.reading.0) rs
unfolding oldest
each-oldest clock [] = done
each-oldest clock (r ∷ rs) = more {r = r} {rs = rs} (omega arith) (each_map below (each-oldest clock rs))
  where
    below : (x : Record) → oldest clock rs ≤ x.held.reading.0 → min r.held.reading.0 (oldest clock rs) ≤ x.held.reading.0
    below x low = omega arith

-- one more record
pub oldest-snoc : (clock : GlobalClock) (rs : List Record) (r : Record) → r.held.reading.0 ≤ clock.0
    → oldest clock (rs ++ (r ∷ [])) ≡ min (oldest clock rs) r.held.reading.0
unfolding oldest
oldest-snoc clock [] r past = omega arith
oldest-snoc clock (x ∷ rs) r past = omega (arith, oldest-snoc clock rs r past)

-- ---- one more record

-- its counter is held too
pub holds-snoc : (rs : List Record) (r : Record) (id : CounterId) → holds (rs ++ (r ∷ [])) id ≡ (holds rs id || same_id r.held.id id)
unfolding holds
holds-snoc [] r id = or-false (same_id r.held.id id)
holds-snoc (x ∷ rs) r id = ap (λ (b : Bool). same_id x.held.id id || b) (holds-snoc rs r id) ∙ sym (or_assoc (same_id x.held.id id) (holds rs id) (same_id r.held.id id))

-- ids still differ where its counter was not held
pub distinct_snoc : (rs : List Record) (r : Record) → distinct rs ≡ true → holds rs r.held.id ≡ false → (r.held.id.0 ≡ 0 → ⊥)
    → distinct (rs ++ (r ∷ [])) ≡ true
unfolding distinct holds
distinct_snoc [] r differ new some = ap (λ (b : Bool). not b && true) (ne_eqb r.held.id.0 0 some)
distinct_snoc (x ∷ rs) r differ new some =
    ap₂ (λ (a b : Bool). not a && (not b && distinct (rs ++ (r ∷ [])))) (ne_eqb x.held.id.0 0 (nonzero x rs differ)) unheld
    ∙ distinct_snoc rs r (distinct-parts x rs differ).1 (neither (same_id x.held.id r.held.id) (holds rs r.held.id) new).1 some
  where
    unheld : holds (rs ++ (r ∷ [])) x.held.id ≡ false
    unheld =
        holds-snoc rs r x.held.id
        ∙ ap₂ ◌||◌ (distinct-parts x rs differ).0
        (same-turned x.held.id r.held.id false (neither (same_id x.held.id r.held.id) (holds rs r.held.id) new).0)

-- ---- a counter's record changed

-- where a counter is not held every record is another's
each-other : {P Q : Record → Type 0} {rs : List Record} (id : CounterId) → holds rs id ≡ false → Each P rs
    → ((r : Record) → same_id r.held.id id ≡ false → P r → Q r) → Each Q rs
unfolding holds
each-other id unheld done others = done
each-other id unheld (more {r = r} {rs = rs} p ps) others =
    let apart = neither (same_id r.held.id id) (holds rs id) unheld in
    more (others r apart.0 p) (each-other id apart.1 ps others)

-- what holds of every record gives another thing of every one, the counter's own changed
pub each-updated : {P Q : Record → Type 0} {rs : List Record} (id : CounterId) (change : Record → Record) → distinct rs ≡ true → Each P rs
    → (holds rs id ≡ true → Q (change (record_of rs id))) → ((r : Record) → same_id r.held.id id ≡ false → P r → Q r) → Each Q (updated rs id change)
unfolding updated holds
each-updated id change differ done own others = done
each-updated {P} {Q} id change differ (more {r = r} {rs = rs} p ps) own others =
    go (same_id r.held.id id) refl (λ mine. each-updated id change (distinct-parts r rs differ).1 ps mine others)
  where
    go : (b : Bool) → same_id r.held.id id ≡ b → ((holds rs id ≡ true → Q (change (record_of rs id))) → Each Q (updated rs id change))
        → Each Q (cond b (change r ∷ rs) (r ∷ updated rs id change))
    go true mine rest =
        more (subst (λ (x : Record). Q (change x)) (record-own r rs id mine) (own (ap (λ (b : Bool). b || holds rs id) mine)))
        (each-other id (ap (holds rs) (sym (same_id_lem r.held.id id mine)) ∙ (distinct-parts r rs differ).0) ps others)
    go false apart rest =
        more (others r apart p) (rest (λ held. subst (λ (x : Record). Q (change x)) (record-other r rs id apart) (own (ap (λ (b : Bool). b || holds rs id) apart ∙ held))))

-- it is at the counter's index
pub updated_set : (rs : List Record) (id : CounterId) (change : Record → Record) → updated rs id change ≡ set rs (index_of rs id) (change (record_of rs id))
unfolding updated index_of record_of
updated_set [] id change = refl
updated_set (r ∷ rs) id change = go (same_id r.held.id id) (updated_set rs id change)
  where
    go : (b : Bool) → updated rs id change ≡ set rs (index_of rs id) (change (record_of rs id))
        → cond b (change r ∷ rs) (r ∷ updated rs id change) ≡ set (r ∷ rs) (cond b 0 (suc (index_of rs id))) (change (cond b r (record_of rs id)))
    go true rest = refl
    go false rest = ap (λ (l : List Record). r ∷ l) rest

-- the oldest reading does not fall where the counter's own does not
pub oldest-updated : (clock : GlobalClock) (rs : List Record) (id : CounterId) (change : Record → Record) →
    (record_of rs id).held.reading.0 ≤ (change (record_of rs id)).held.reading.0 → oldest clock rs ≤ oldest clock (updated rs id change)
unfolding oldest updated record_of
oldest-updated clock [] id change later = omega arith
oldest-updated clock (r ∷ rs) id change later = go (same_id r.held.id id) later (oldest-updated clock rs id change)
  where
    go : (b : Bool) → (cond b r (record_of rs id)).held.reading.0 ≤ (change (cond b r (record_of rs id))).held.reading.0
        → ((record_of rs id).held.reading.0 ≤ (change (record_of rs id)).held.reading.0 → oldest clock rs ≤ oldest clock (updated rs id change))
        → min r.held.reading.0 (oldest clock rs) ≤ oldest clock (cond b (change r ∷ rs) (r ∷ updated rs id change))
    go true later rest = omega arith
    go false later rest = omega (arith, rest later)

-- a change that leaves the record its counter
abbrev pub Keeps : CounterId → (Record → Record) → Type 0
Keeps id change = (r : Record) → same_id r.held.id id ≡ true → (change r).held.id ≡ r.held.id

module _ (id : CounterId) (change : Record → Record) (keeps : Keeps id change) where
  -- the same counters are held
  pub holds-updated : (rs : List Record) (other : CounterId) → holds (updated rs id change) other ≡ holds rs other
  unfolding holds updated
  holds-updated [] other = refl
  holds-updated (r ∷ rs) other = go (same_id r.held.id id) refl (holds-updated rs other)
    where
      go : (b : Bool) → same_id r.held.id id ≡ b → holds (updated rs id change) other ≡ holds rs other
          → holds (cond b (change r ∷ rs) (r ∷ updated rs id change)) other ≡ (same_id r.held.id other || holds rs other)
      go true own rest = ap (λ (x : CounterId). same_id x other || holds rs other) (keeps r own)
      go false apart rest = ap (λ (b : Bool). same_id r.held.id other || b) rest

  -- ids still differ
  pub distinct-updated : (rs : List Record) → distinct (updated rs id change) ≡ distinct rs
  unfolding distinct updated
  distinct-updated [] = refl
  distinct-updated (r ∷ rs) = go (same_id r.held.id id) refl (distinct-updated rs)
    where
      go : (b : Bool) → same_id r.held.id id ≡ b → distinct (updated rs id change) ≡ distinct rs
          → distinct (cond b (change r ∷ rs) (r ∷ updated rs id change)) ≡ (not (eqb r.held.id.0 0) && (not (holds rs r.held.id) && distinct rs))
      go true own rest = ap (λ (x : CounterId). not (eqb x.0 0) && (not (holds rs x) && distinct rs)) (keeps r own)
      go false apart rest = ap₂ (λ (a b : Bool). not (eqb r.held.id.0 0) && (not a && b)) (holds-updated rs r.held.id) rest

-- a confirmation is of the counter whose record it changes
pub confirmation-keeps : (c : Confirmation) → Keeps c.id (confirmed_by c)
confirmation-keeps c r own = sym (same_id_lem r.held.id c.id own)

-- a change that leaves the record its confirmation leaves it its counter, and the oldest reading as it was
abbrev pub KeepsHeld : (Record → Record) → Type 0
KeepsHeld change = (r : Record) → (change r).held ≡ r.held

pub held_keeps : (id : CounterId) (change : Record → Record) → KeepsHeld change → Keeps id change
held_keeps id change same r own = ap (λ (c : Confirmation). c.id) (same r)

pub oldest-kept : (clock : GlobalClock) (rs : List Record) (id : CounterId) (change : Record → Record) → KeepsHeld change
    → oldest clock (updated rs id change) ≡ oldest clock rs
unfolding oldest updated
oldest-kept clock [] id change same = refl
oldest-kept clock (r ∷ rs) id change same = go (same_id r.held.id id) (oldest-kept clock rs id change same)
  where
    go : (b : Bool) → oldest clock (updated rs id change) ≡ oldest clock rs
        → oldest clock (cond b (change r ∷ rs) (r ∷ updated rs id change)) ≡ min r.held.reading.0 (oldest clock rs)
    go true rest = ap (λ (c : Confirmation). min c.reading.0 (oldest clock rs)) (same r)
    go false rest = ap (λ (n : ℕ). min r.held.reading.0 n) rest

-- a raise is such a change
pub raise-keeps : (reading : GlobalClock) → KeepsHeld (raised_to reading)
raise-keeps reading r = refl

-- ---- a counter's record taken out

-- what holds of every record holds of the others
pub each-without : {P : Record → Type 0} {rs : List Record} (id : CounterId) → Each P rs → Each P (without rs id)
unfolding without
each-without id done = done
each-without {P} id (more {r = r} {rs = rs} p ps) = go (same_id r.held.id id) (each-without id ps)
  where
    go : (b : Bool) → Each P (without rs id) → Each P (cond b rs (r ∷ without rs id))
    go true rest = ps
    go false rest = more p rest

-- the oldest reading does not fall
pub oldest-without : (clock : GlobalClock) (rs : List Record) (id : CounterId) → oldest clock rs ≤ oldest clock (without rs id)
unfolding oldest without
oldest-without clock [] id = omega arith
oldest-without clock (r ∷ rs) id = go (same_id r.held.id id) (oldest-without clock rs id)
  where
    go : (b : Bool) → oldest clock rs ≤ oldest clock (without rs id) → min r.held.reading.0 (oldest clock rs) ≤ oldest clock (cond b rs (r ∷ without rs id))
    go true rest = omega arith
    go false rest = omega arith

-- no other counter is held than before
holds-without : (rs : List Record) (id other : CounterId) → holds rs other ≡ false → holds (without rs id) other ≡ false
unfolding holds without
holds-without [] id other unheld = refl
holds-without (r ∷ rs) id other unheld =
    let apart = neither (same_id r.held.id other) (holds rs other) unheld in
    go (same_id r.held.id id) apart.0 apart.1 (holds-without rs id other apart.1)
  where
    go : (b : Bool) → same_id r.held.id other ≡ false → holds rs other ≡ false → holds (without rs id) other ≡ false
        → holds (cond b rs (r ∷ without rs id)) other ≡ false
    go true first others rest = others
    go false first others rest = ap₂ ◌||◌ first rest

-- ids still differ
pub distinct_without : (rs : List Record) (id : CounterId) → distinct rs ≡ true → distinct (without rs id) ≡ true
unfolding distinct without
distinct_without [] id differ = refl
distinct_without (r ∷ rs) id differ = go (same_id r.held.id id) (distinct-parts r rs differ) (distinct_without rs id (distinct-parts r rs differ).1)
  where
    go : (b : Bool) → (holds rs r.held.id ≡ false) × (distinct rs ≡ true) → distinct (without rs id) ≡ true
        → distinct (cond b rs (r ∷ without rs id)) ≡ true
    go true parts rest = parts.1
    go false parts rest =
        ap₂ (λ (a b : Bool). not a && (not b && distinct (without rs id))) (ne_eqb r.held.id.0 0 (nonzero r rs differ)) (holds-without rs id r.held.id parts.0)
        ∙ rest
