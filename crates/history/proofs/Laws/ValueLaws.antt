-- Laws of a counter's value: which readings count, that the value is the largest of them, how it goes along the clock, and that it looks
-- no further than its reading. Assumes nothing.
use Rattle.std.specs.Prelude.{ℕ, zero, suc, ◌+◌, ◌-◌, ◌≤◌, ◌<◌, ◌≡◌, refl, Bool, true, false, ◌&&◌, ◌||◌, List, [], ◌∷◌, ◌++◌, cond}
use Rattle.std.proofs.Common.{ap₂, ◌∙◌, true≢false, inl, inr, ⊎_elim, eqb-true, eq-eqb, sym, ap, subst, arith}
use Rattle.std.proofs.Math.Bool.{or-true, or-false}
use Rattle.std.proofs.lemmas.Bool.{false≢true}
use Rattle.std.proofs.Math.Nat.{sub_self, add-sub_cancel_left}
use Rattle.std.proofs.Math.Decide.{dec_le}
use Rattle.forms.specs.declared.terms.CounterId.{CounterId}
use Rattle.forms.specs.declared.terms.GlobalClock.{GlobalClock}
use Rattle.forms.specs.declared.request.Request.{Request}
use Rattle.forms.specs.Request.{names, names_twice, nonce_of, before_of}
use Rattle.forms.specs.Terms.{counter_id, global_clock, same_id}
use Rattle.history.specs.History.{Given, HistoryEvent, carried, clock_after, Made, made, unmade, increment_at}
use Rattle.history.proofs.Laws.HistoryLaws.{increment-stays}
use Rattle.history.specs.Value.{Signatures, signed_among, carries_signed, counts, largest, value_at, Largest}
use Rattle.history.specs.Laws.Walk.{pass, clock_walk}
use Rattle.history.proofs.Laws.WalkLaws.{walk-last, walk-append, walk-agree}

-- an owner-signed request for a counter that stands among some requests
pub record SignedIn (signed : Signatures) (id : CounterId) (qs : List Request) : Type 0 where
  pub request : Request
  pub earlier : List Request
  pub later : List Request
  pub split : qs ≡ earlier ++ (request ∷ later)
  pub own : request.id ≡ id
  pub approved : signed request ≡ true

signed-in : (signed : Signatures) (id : CounterId) (qs : List Request) → signed_among signed id qs ≡ true → SignedIn signed id qs
unfolding signed_among
signed-in signed id [] h = absurd (false≢true h)
signed-in signed id (q ∷ qs) h = here (same_id q.id id) (signed q) refl refl (λ h'. further (signed-in signed id qs h')) h
  where
    further : SignedIn signed id qs → SignedIn signed id (q ∷ qs)
    further found =
        record {
          request = found.request;
          earlier = q ∷ found.earlier;
          later = found.later;
          split = ap (λ (l : List Request). q ∷ l) found.split;
          own = found.own;
          approved = found.approved;
        }

    here : (b c : Bool) → same_id q.id id ≡ b → signed q ≡ c → (signed_among signed id qs ≡ true → SignedIn signed id (q ∷ qs))
        → ((b && c) || signed_among signed id qs) ≡ true → SignedIn signed id (q ∷ qs)
    here true true same approved others h' =
        record { request = q; earlier = []; later = qs; split = refl; own = ap counter_id (eqb-true q.id.0 id.0 same); approved = approved }
    here true false same approved others h' = others h'
    here false c same approved others h' = others h'

-- a reading counts only where its increment carries a request of the counter that is signed
pub counted-signed : (signed : Signatures) (id : CounterId) (first : GlobalClock) (es : List HistoryEvent) (t : GlobalClock)
    → counts signed id first es t ≡ true
    → (given : Given) × (increment_at first es t ≡ made given) × SignedIn signed id (carried given)
unfolding counts
counted-signed signed id first es t h = found (increment_at first es t) refl h
  where
    found : (m : Made) → increment_at first es t ≡ m → carries_signed signed id m ≡ true
        → (given : Given) × (increment_at first es t ≡ made given) × SignedIn signed id (carried given)
    found (made given) e h' = (given, e, signed-in signed id (carried given) h')
    found unmade e h' = absurd (false≢true h')

-- where no request is the counter's, none is a signed one for it
unsigned-none : (signed : Signatures) (id : CounterId) (qs : List Request) → names id qs ≡ false → signed_among signed id qs ≡ false
unfolding names signed_among
unsigned-none signed id [] none = refl
unsigned-none signed id (q ∷ qs) none = other (same_id q.id id) (unsigned-none signed id qs) none
  where
    other : (b : Bool) → (names id qs ≡ false → signed_among signed id qs ≡ false) → (b || names id qs) ≡ false
        → ((b && signed q) || signed_among signed id qs) ≡ false
    other true others h = absurd (true≢false h)
    other false others h = others h

-- where no counter is named twice, the counter's one request is signed or not
pub signed-once : (signed : Signatures) (id : CounterId) (qs : List Request) → names_twice qs ≡ false
    → signed_among signed id qs ≡ (names id qs && signed (record { nonce = nonce_of id qs; id = id; before = before_of id qs }))
unfolding names names_twice nonce_of before_of signed_among
signed-once signed id [] once = refl
signed-once signed id (q ∷ qs) once =
    let each = neither (names q.id qs) (names_twice qs) once in
    here (same_id q.id id) refl each.0 (signed-once signed id qs each.1)
  where
    neither : (a b : Bool) → (a || b) ≡ false → (a ≡ false) × (b ≡ false)
    neither true b h = absurd (true≢false h)
    neither false b h = (refl, h)

    here : (b : Bool) → same_id q.id id ≡ b → names q.id qs ≡ false
        → signed_among signed id qs ≡ (names id qs && signed (record { nonce = nonce_of id qs; id = id; before = before_of id qs }))
        → ((b && signed q) || signed_among signed id qs)
        ≡ ((b || names id qs) && signed (record { nonce = cond b q.nonce (nonce_of id qs); id = id; before = cond b q.before (before_of id qs) }))
    here true own alone others =
        let same : q.id ≡ id = ap counter_id (eqb-true q.id.0 id.0 own) in
        ap (λ (b : Bool). signed q || b) (unsigned-none signed id qs (subst (λ (i : CounterId). names i qs ≡ false) same alone))
        ∙ or-false (signed q)
        ∙ ap (λ (i : CounterId). signed (record { nonce = q.nonce; id = i; before = q.before })) same
    here false own alone others = others

-- whether a reading counts is told by its increment
pub made-counts : (signed : Signatures) (id : CounterId) (first : GlobalClock) (es : List HistoryEvent) (t : GlobalClock) (m : Made)
    → increment_at first es t ≡ m
    → counts signed id first es t ≡ carries_signed signed id m
unfolding counts
made-counts signed id first es t m h = ap (carries_signed signed id) h

-- a reading whose increment carries a request of the counter that is signed counts
pub signed-counted : (signed : Signatures) (id : CounterId) (first : GlobalClock) (es : List HistoryEvent) (t : GlobalClock) (given : Given)
    → increment_at first es t ≡ made given
    → SignedIn signed id (carried given)
    → counts signed id first es t ≡ true
unfolding signed_among
signed-counted signed id first es t given h found =
    made-counts signed id first es t (made given) h ∙ ap (signed_among signed id) found.split ∙ among found.earlier
  where
    q : Request
    q = found.request

    among : (earlier : List Request) → signed_among signed id (earlier ++ (q ∷ found.later)) ≡ true
    among [] =
        ap₂ (λ (b c : Bool). (b && c) || signed_among signed id found.later)
        (eq-eqb q.id.0 id.0 (ap (λ (i : CounterId). i.0) found.own)) found.approved
    among (x ∷ earlier) =
        ap (λ (b : Bool). (same_id x.id id && signed x) || b) (among earlier) ∙ or-true (same_id x.id id && signed x)

-- whether a reading that the clock reached counts stays the same in every longer history
pub counts-stays : (signed : Signatures) (id : CounterId) (first : GlobalClock) (es fs : List HistoryEvent) (t : GlobalClock)
    → t.0 ≤ (clock_after first es).0
    → counts signed id first (es ++ fs) t ≡ counts signed id first es t
unfolding counts
counts-stays signed id first es fs t reached = ap (carries_signed signed id) (increment-stays first es fs t reached)

-- no value that is the largest lies below another
largest-not-below : (counting : GlobalClock → Bool) (opened reading : GlobalClock) (v w : ℕ)
    → Largest counting opened reading v
    → Largest counting opened reading w
    → v < w
    → ⊥
largest-not-below counting opened reading v w low high less =
    ⊎_elim
    (λ same. ⊎_elim (λ (alike : v ≡ opened.0). omega arith) (λ inside. omega (arith, inside.0)) low.among)
    (λ inside. true≢false (sym inside.2 ∙ low.above (global_clock w) less inside.1))
    high.among

-- at most one value is the largest
pub largest-unique : (counting : GlobalClock → Bool) (opened reading : GlobalClock) (v w : ℕ)
    → Largest counting opened reading v
    → Largest counting opened reading w
    → v ≡ w
largest-unique counting opened reading v w one two =
    let not-less : ¬ (v < w) = largest-not-below counting opened reading v w one two in
    let not_more : ¬ (w < v) = largest-not-below counting opened reading w v two one in
    omega arith

-- one reading more at the top
largest-next : (counting : GlobalClock → Bool) (g k value : ℕ) (b : Bool)
    → counting (global_clock (g + suc k)) ≡ b
    → Largest counting (global_clock g) (global_clock (g + k)) value
    → Largest counting (global_clock g) (global_clock (g + suc k)) (cond b (g + suc k) value)
largest-next counting g k value true top below =
    record {
      among = inr (omega arith, omega arith, top);
      above = λ t over within. absurd (omega arith);
    }
largest-next counting g k value false top below =
    record {
      among = ⊎_elim (λ same. inl same) (λ inside. inr (inside.0, omega (arith, inside.1), inside.2)) below.among;
      above = λ t over within. from t over within (dec_le t.0 (g + k));
    }
  where
    from : (t : GlobalClock) → value < t.0 → t.0 ≤ g + suc k → Dec (t.0 ≤ g + k) → counting t ≡ false
    from t over within (yes inside) = below.above t over inside
    from t over within (no outside) = ap (λ (n : ℕ). counting (global_clock n)) (let same : t.0 ≡ g + suc k = omega arith in same) ∙ top

-- the reading found by tests from the top is the largest that counts
largest-counted : (counting : GlobalClock → Bool) (g k : ℕ) → Largest counting (global_clock g) (global_clock (g + k)) (largest counting g k)
unfolding largest
largest-counted counting g zero = record { among = inl refl; above = λ t over within. absurd (omega arith) }
largest-counted counting g (suc k) = largest-next counting g k (largest counting g k) (counting (global_clock (g + suc k))) refl (largest-counted counting g k)

-- the largest reading that counts, tested from the top, is where the walk from the start ends
pub largest-walk : (counting : GlobalClock → Bool) (g k : ℕ) → largest counting g k ≡ clock_walk (pass counting) g (global_clock g) k
unfolding largest clock_walk
largest-walk counting g zero = refl
largest-walk counting g (suc k) =
    ap (λ (v : ℕ). pass counting v (global_clock (g + suc k))) (largest-walk counting g k) ∙ sym (walk-last (pass counting) g (global_clock g) k)

module _ (signed : Signatures) (id : CounterId) (first : GlobalClock) (es : List HistoryEvent) (opened : GlobalClock) where
  -- the value is the largest reading that counts
  pub value_at-largest : (reading : GlobalClock)
      → opened.0 ≤ reading.0
      → Largest (counts signed id first es) opened reading (value_at signed id first es opened reading)
  unfolding value_at
  value_at-largest reading later =
      let k = reading.0 - opened.0 in
      let whole : opened.0 + k ≡ reading.0 = omega arith in
      subst (λ (n : ℕ). Largest (counts signed id first es) opened (global_clock n) (largest (counts signed id first es) opened.0 k)) whole
      (largest-counted (counts signed id first es) opened.0 k)

  -- the value lies from the opening to its reading
  pub value_at-within : (reading : GlobalClock)
      → opened.0 ≤ reading.0
      → (opened.0 ≤ value_at signed id first es opened reading) × (value_at signed id first es opened reading ≤ reading.0)
  value_at-within reading later =
      ⊎_elim (λ same. (omega arith, omega arith)) (λ inside. (omega (arith, inside.0), inside.1)) (value_at-largest reading later).among

  -- the value k readings after the opening is where the walk from there ends
  pub value_at-walk : (k : ℕ)
      → value_at signed id first es opened (global_clock (opened.0 + k)) ≡ clock_walk (pass (counts signed id first es)) opened.0 opened k
  unfolding value_at
  value_at-walk k =
      ap (largest (counts signed id first es) opened.0) (add-sub_cancel_left opened.0 k) ∙ largest-walk (counts signed id first es) opened.0 k

  -- the value at the opening
  pub value_at-opened : value_at signed id first es opened opened ≡ opened.0
  unfolding value_at largest
  value_at-opened = ap (largest (counts signed id first es) opened.0) (sub_self opened.0)

  -- the value at a later reading is where the walk from the value at an earlier one ends
  pub value_at-walks-on : (reading : GlobalClock) (k : ℕ)
      → opened.0 ≤ reading.0
      → value_at signed id first es opened (global_clock (reading.0 + k))
      ≡ clock_walk (pass (counts signed id first es)) (value_at signed id first es opened reading) reading k
  value_at-walks-on reading k later =
      let j = reading.0 - opened.0 in
      let whole : opened.0 + j ≡ reading.0 = omega arith in
      let total : reading.0 + k ≡ opened.0 + (j + k) = omega arith in
      ap (λ (n : ℕ). value_at signed id first es opened (global_clock n)) total
      ∙ value_at-walk (j + k)
      ∙ walk-append (pass (counts signed id first es)) opened.0 opened j k
      ∙ ap (λ (v : ℕ). clock_walk (pass (counts signed id first es)) v (global_clock (opened.0 + j)) k) (sym (value_at-walk j))
      ∙ ap (λ (n : ℕ). clock_walk (pass (counts signed id first es)) (value_at signed id first es opened (global_clock n)) (global_clock n) k) whole

  -- the value at the next reading is that reading if it counts, else the value so far
  pub value_at-next : (reading : GlobalClock)
      → opened.0 ≤ reading.0
      → value_at signed id first es opened (global_clock (reading.0 + 1))
      ≡ pass (counts signed id first es) (value_at signed id first es opened reading) (global_clock (reading.0 + 1))
  unfolding clock_walk
  value_at-next reading later = value_at-walks-on reading 1 later

  -- the value at a reading that the clock reached stays the same in every longer history
  pub value_at-stays : (fs : List HistoryEvent) (reading : GlobalClock)
      → reading.0 ≤ (clock_after first es).0
      → value_at signed id first (es ++ fs) opened reading ≡ value_at signed id first es opened reading
  unfolding value_at
  value_at-stays fs reading reached =
      let k = reading.0 - opened.0 in
      largest-walk (counts signed id first (es ++ fs)) opened.0 k
      ∙ walk-agree (pass (counts signed id first (es ++ fs))) (pass (counts signed id first es)) opened.0 opened k
      (λ t above within v. ap (λ (b : Bool). cond b t.0 v) (counts-stays signed id first es fs t (omega arith)))
      ∙ sym (largest-walk (counts signed id first es) opened.0 k)
