-- Laws of new nonces: the nonce of an event that stands in a history is not new there; and an event with a nonce that was new at a place of the history
-- stands behind that place, so its reading is no older. Assumes nothing.
use Rattle.std.specs.Prelude.{ℕ, zero, suc, ◌≤◌, ◌<◌, ◌≡◌, refl, Bool, true, false, cond, ◌||◌, ◌⊎◌, List, [], ◌∷◌, ◌++◌}
use Rattle.std.proofs.Common.{sym, ap, ap₂, subst, ◌∙◌, inl, inr, arith}
use Rattle.std.proofs.lemmas.Bool.{false≢true}
use Rattle.std.proofs.Math.Option.{some}
use Rattle.std.proofs.Math.ListN.{get_elem?}
use Rattle.forms.specs.declared.terms.CounterId.{CounterId}
use Rattle.forms.specs.declared.terms.GlobalClock.{GlobalClock}
use Rattle.forms.specs.declared.request.Request.{Request}
use Rattle.forms.specs.Request.{RequestsFit, names, nonce_of}
use Rattle.forms.specs.Terms.{same_id}
use Rattle.history.specs.History.{DigestOfNone, Given, HistoryEvent, increment, read, list, bare, clock_after, made, increment_at, Stands, ReadStands}
use Rattle.history.proofs.Laws.HistoryLaws.{clock-runs-on, stands-within, made-stands, increment-later}
use Rattle.history.specs.Nonce.{InRequest, Has, New}

-- a counter's request among some has its nonce
in-request : (id : CounterId) (qs : List Request) → names id qs ≡ true → InRequest (nonce_of id qs) qs
unfolding InRequest names nonce_of
in-request id [] named = absurd (false≢true named)
in-request id (q ∷ qs) named = here (same_id q.id id) (in-request id qs) named
  where
    here : (b : Bool) → (names id qs ≡ true → InRequest (nonce_of id qs) qs) → (b || names id qs) ≡ true
        → (q.nonce ≡ cond b q.nonce (nonce_of id qs)) ⊎ InRequest (cond b q.nonce (nonce_of id qs)) qs
    here true others h = inl refl
    here false others h = inr (others h)

-- an increment has the nonces of the requests in its list
pub named-has : (id : CounterId) (qs : List Request) (fit : RequestsFit qs) → names id qs ≡ true → Has (nonce_of id qs) (increment (list qs fit))
named-has id qs fit named = in-request id qs named

-- a nonce that is new to a list was new to each beginning of it
pub new-before : (nonce : List ℕ) (es fs : List HistoryEvent) → New nonce (es ++ fs) → New nonce es
unfolding New
new-before nonce [] fs new = tt
new-before nonce (e ∷ es) fs new = (new.0, new-before nonce es fs new.1)

-- a nonce that is new to two lists is new to the two in a row
pub new-append : (nonce : List ℕ) (es fs : List HistoryEvent) → New nonce es → New nonce fs → New nonce (es ++ fs)
unfolding New
new-append nonce [] fs new new-too = new-too
new-append nonce (e ∷ es) fs new new-too = (new.0, new-append nonce es fs new.1 new-too)

-- where a nonce is new to the first of two lists, an event with it stands in the second
new-splits-later : (nonce : List ℕ) (es fs earlier later : List HistoryEvent) (e : HistoryEvent)
    → New nonce es
    → Has nonce e
    → es ++ fs ≡ earlier ++ (e ∷ later)
    → (between : List HistoryEvent) × (earlier ≡ es ++ between) × (fs ≡ between ++ (e ∷ later))
unfolding New
new-splits-later nonce [] fs earlier later e new own split = (earlier, refl, split)
new-splits-later nonce (a ∷ es) fs [] later e new own split =
    absurd (new.0 (let same : e ≡ a = cc in subst (Has nonce) same own))
new-splits-later nonce (a ∷ es) fs (b ∷ earlier) later e new own split =
    let rest : es ++ fs ≡ earlier ++ (e ∷ later) = cc in
    let found = new-splits-later nonce es fs earlier later e new.1 own rest in
    let head : b ≡ a = cc in
    (found.0, ap₂ (λ (x : HistoryEvent) (l : List HistoryEvent). x ∷ l) head found.1, found.2)

-- an event with a nonce that was new after the first events stands among the events behind them
pub new-stands-later : (nonce : List ℕ) (first : GlobalClock) (es fs : List HistoryEvent) (reading : GlobalClock) (e : HistoryEvent)
    → New nonce es
    → Has nonce e
    → Stands first (es ++ fs) reading e
    → Stands (clock_after first es) fs reading e
new-stands-later nonce first es fs reading e new own place =
    let found = new-splits-later nonce es fs place.earlier place.later e new own place.split in
    record {
      earlier = found.0;
      later = place.later;
      split = found.2;
      reached =
          sym (clock-runs-on first es found.0) ∙ ap (λ (l : List HistoryEvent). clock_after first l) (sym found.1) ∙ place.reached;
    }

-- a nonce that an event has is not new behind it
has-not-new : (nonce : List ℕ) (es fs : List HistoryEvent) (e : HistoryEvent) → Has nonce e → New nonce (es ++ (e ∷ fs)) → ⊥
unfolding New
has-not-new nonce [] fs e own new = new.0 own
has-not-new nonce (a ∷ es) fs e own new = has-not-new nonce es fs e own new.1

-- of a clock read that is its nonce, of an increment given the digest of no list what it was given, and of one given that of a list the nonce of each
-- request there
pub read-not-new : (nonce : List ℕ) (es fs : List HistoryEvent) → New nonce (es ++ (read nonce ∷ fs)) → ⊥
read-not-new nonce es fs = has-not-new nonce es fs (read nonce) refl

pub bare-not-new : (nonce : List ℕ) (none : DigestOfNone nonce) (es fs : List HistoryEvent) → New nonce (es ++ (increment (bare nonce none) ∷ fs)) → ⊥
bare-not-new nonce none es fs = has-not-new nonce es fs (increment (bare nonce none)) refl

pub request-not-new : (qs : List Request) (fit : RequestsFit qs) (place : ℕ) (q : Request) → get_elem? qs place ≡ some q → (es fs : List HistoryEvent)
    → New q.nonce (es ++ (increment (list qs fit) ∷ fs)) → ⊥
unfolding InRequest
request-not-new qs fit place q stands es fs = has-not-new q.nonce es fs (increment (list qs fit)) (among qs place stands)
  where
    among : (rs : List Request) (k : ℕ) → get_elem? rs k ≡ some q → InRequest q.nonce rs
    among [] k is = absurd (let z : ◌≡◌ {A = ℕ} 0 1 = cc in omega arith)
    among (r ∷ rs) zero is = inl (let same : r ≡ q = cc in ap (λ (x : Request). x.nonce) same)
    among (r ∷ rs) (suc k) is = inr (among rs k is)

-- and so it is of an event that stands in the history
pub stands-not-new : (nonce : List ℕ) (first : GlobalClock) (es : List HistoryEvent) (reading : GlobalClock) (e : HistoryEvent)
    → Has nonce e
    → Stands first es reading e
    → New nonce es
    → ⊥
stands-not-new nonce first es reading e own place new = has-not-new nonce place.earlier place.later e own (subst (New nonce) place.split new)

-- a clock read with a nonce that was new has a reading not below the clock of then
pub new-read-not-older : (nonce : List ℕ) (first : GlobalClock) (es fs : List HistoryEvent) (reading : GlobalClock)
    → New nonce es
    → ReadStands first (es ++ fs) reading nonce
    → (clock_after first es).0 ≤ reading.0
new-read-not-older nonce first es fs reading new place =
    (stands-within (clock_after first es) fs reading (read nonce) (new-stands-later nonce first es fs reading (read nonce) new refl place)).0

-- an increment with a nonce that was new made a reading above the clock of then
pub new-increment-newer : (nonce : List ℕ) (first : GlobalClock) (es fs : List HistoryEvent) (t : GlobalClock) (given : Given)
    → New nonce es
    → Has nonce (increment given)
    → increment_at first (es ++ fs) t ≡ made given
    → (clock_after first es).0 < t.0
new-increment-newer nonce first es fs t given new own h =
    let found = made-stands first (es ++ fs) t given h in
    let later = new-stands-later nonce first es fs found.0 (increment given) new own found.2 in
    omega (arith, (stands-within (clock_after first es) fs found.0 (increment given) later).0, found.1)

-- and it stands among the events behind them
pub new-increment-later : (nonce : List ℕ) (first : GlobalClock) (es fs : List HistoryEvent) (t : GlobalClock) (given : Given)
    → New nonce es
    → Has nonce (increment given)
    → increment_at first (es ++ fs) t ≡ made given
    → increment_at (clock_after first es) fs t ≡ made given
new-increment-later nonce first es fs t given new own h =
    sym (increment-later first es fs t (new-increment-newer nonce first es fs t given new own h)) ∙ h
