-- A batch: what it is like where it is not refused as a whole, and what holds of its requests that passed. Each names a held counter, which is not 0
-- and which no other of them names, and states its current value; there is room for them; and the clock can rise if there are any. Assumes nothing.
use Rattle.std.specs.Prelude.{◌≡◌, ℕ, zero, suc, ◌+◌, ◌*◌, ◌/◌, ◌%◌, ◌≤◌, ◌<◌, Bool, ◌&&◌, refl, true, false, cond, ◌||◌, List, [], ◌∷◌, ◌++◌, eqb, length}
use Rattle.std.proofs.Common.{subst, ◌∙◌, div-add-mod', eqb-true, ne_eqb, ltb-false, sym, ap, ap₂, arith, length-append}
use Rattle.std.proofs.Math.Bool.{or-false}
use Rattle.std.proofs.lemmas.Bool.{false≢true, eqb-false, not-false}
use mathlib.Core.List.{foldl}
use Rattle.forms.specs.Bytes.{Bytes}
use Rattle.forms.specs.Entry.{units, units_of}
use Rattle.forms.specs.Limits.{max_word, max_requests, max_units, request_len}
use Rattle.forms.specs.Request.{RequestFits, RequestsFit, none, one_more, names, before_of, names_twice}
use Rattle.forms.specs.Laws.RequestLaws.{names-append, request-fit, requests-fit-append}
use Rattle.forms.specs.Terms.{counter_id, same_id}
use Rattle.forms.specs.Laws.TermsLaws.{same_id_lem, same-turned}
use Rattle.forms.specs.Laws.TestsLaws.{both, neither}
use Rattle.forms.specs.declared.request.Request.{Request}
use Rattle.forms.specs.declared.terms.CounterId.{CounterId}
use Rattle.log_image.specs.Laws.ImageRoundTrip.{StateFits}
use Rattle.log_image.specs.Sound.{holds}
use Rattle.log_image.specs.State.{Record, State}
use Rattle.log_store.specs.Effect.{incremented}
use Rattle.log_store.proofs.Laws.Joined.{all_held}
use Rattle.log_store.proofs.Laws.RaiseStores.{incremented-fits, raised-fits}
use Rattle.host.specs.Host.{current_of, request_refusal, bad_batch, Asked, asked, asked_from, Batch, none_judged, judge_next, judged_batch}
use Rattle.host.proofs.Laws.RefusalLaws.{RequestPassed, request-passed}

-- ---- a batch that is not refused as a whole

pub record GoodBatch (requests verdicts : List ℕ) : Type 0 where
  pub some : length requests ≡ 0 → ⊥
  pub whole : length requests % request_len ≡ 0
  pub short : length requests ≤ request_len * max_requests
  pub few : length requests / request_len ≤ max_requests
  pub each : length verdicts ≡ length requests / request_len

pub good-batch : (requests verdicts : List ℕ) → bad_batch requests verdicts ≡ false → GoodBatch requests verdicts
good-batch requests verdicts good =
    let parts = neither _ _ good in
    let first = neither _ _ parts.0 in
    let second = neither _ _ parts.1 in
    let low : length requests ≤ request_len * max_requests = ltb-false (request_len * max_requests) (length requests) first.1 in
    record {
      some = eqb-false (length requests) 0 first.0;
      whole = eqb-true (length requests % request_len) 0 (not-false _ second.0);
      short = low;
      few = omega (arith, div-add-mod' (length requests) request_len);
      each = eqb-true (length verdicts) (length requests / request_len) (not-false _ second.1);
    }

-- ---- one request more behind others

-- no counter is named twice where none of them names the last one's
twice-snoc : (qs : List Request) (q : Request) → names_twice qs ≡ false → names q.id qs ≡ false → names_twice (qs ++ (q ∷ [])) ≡ false
unfolding names_twice names
twice-snoc [] q once alone = refl
twice-snoc (r ∷ qs) q once alone =
    let first = neither (names r.id qs) (names_twice qs) once in
    let others = neither (same_id r.id q.id) (names q.id qs) alone in
    ap₂ ◌||◌
    (names-append r.id qs (q ∷ []) ∙ ap₂ (λ (a b : Bool). a || (b || false)) first.0 (same-turned r.id q.id false others.0))
    (twice-snoc qs q first.1 others.1)

held-snoc : (rs : List Record) (qs : List Request) (q : Request) → all_held rs qs ≡ true → holds rs q.id ≡ true → all_held rs (qs ++ (q ∷ [])) ≡ true
unfolding all_held
held-snoc rs [] q all held = ap (λ (b : Bool). b && true) held
held-snoc rs (r ∷ qs) q all held =
    let parts = both (holds rs r.id) (all_held rs qs) all in
    ap₂ ◌&&◌ parts.0 (held-snoc rs qs q parts.1 held)

-- the value before that a counter's first request states
before-snoc : (id : CounterId) (qs : List Request) (q : Request) → before_of id (qs ++ (q ∷ [])) ≡ cond (names id qs) (before_of id qs) (before_of id (q ∷ []))
unfolding before_of names
before-snoc id [] q = refl
before-snoc id (r ∷ qs) q = go (same_id r.id id) (before-snoc id qs q)
  where
    last : ℕ
    last = cond (same_id q.id id) q.before 0

    go : (b : Bool) → before_of id (qs ++ (q ∷ [])) ≡ cond (names id qs) (before_of id qs) last
        → cond b r.before (before_of id (qs ++ (q ∷ []))) ≡ cond (b || names id qs) (cond b r.before (before_of id qs)) last
    go true others = refl
    go false others = others

-- ---- those that passed

pub record Passed (st : State) (qs : List Request) : Type 0 where
  pub once : names_twice qs ≡ false
  pub named : names (counter_id 0) qs ≡ false
  pub held : all_held st.records qs ≡ true
  pub states : (id : CounterId) → names id qs ≡ true → before_of id qs ≡ current_of st id
  pub room : units st.log ≤ max_units → units st.log + length qs ≤ max_units
  pub running : 0 < length qs → st.clock.0 ≡ max_word → ⊥

module _ (st : State) where
  none_passed : Passed st []
  unfolding names_twice names all_held
  none_passed =
      record {
        once = refl;
        named = refl;
        held = refl;
        states = λ id named. absurd (false≢true named);
        room = λ few. omega arith;
        running = λ some. let no : ⊥ = omega arith in absurd no;
      }

  passed-next : (qs : List Request) (q : Request) (verdict : ℕ) → Passed st qs → RequestPassed st qs q verdict → Passed st (qs ++ (q ∷ []))
  unfolding names before_of
  passed-next qs q verdict p r =
      record {
        once = twice-snoc qs q p.once r.alone;
        named = names-append (counter_id 0) qs (q ∷ []) ∙ ap₂ (λ (a b : Bool). a || (b || false)) p.named (ne_eqb q.id.0 0 r.named);
        held = held-snoc st.records qs q p.held r.held;
        states = λ id named.
            before-snoc id qs q ∙ stated id (names id qs) (same_id q.id id) refl refl
            (ap (λ (b : Bool). names id qs || b) (sym (or-false (same_id q.id id))) ∙ sym (names-append id qs (q ∷ [])) ∙ named);
        room = λ few. let before = p.room few in let full = r.room in omega (arith, length-append qs (q ∷ []));
        running = λ some. r.running;
      }
    where
      stated : (id : CounterId) (among own : Bool) → names id qs ≡ among → same_id q.id id ≡ own → (names id qs || same_id q.id id) ≡ true
          → cond (names id qs) (before_of id qs) (cond (same_id q.id id) q.before 0) ≡ current_of st id
      stated id true own there mine some =
          ap (λ (b : Bool). cond b (before_of id qs) (cond (same_id q.id id) q.before 0)) there ∙ p.states id there
      stated id false true there mine some =
          ap₂ (λ (a b : Bool). cond a (before_of id qs) (cond b q.before 0)) there mine
          ∙ r.current
          ∙ ap (current_of st) (same_id_lem q.id id mine)
      stated id false false there mine some = absurd (false≢true (sym (ap₂ ◌||◌ there mine) ∙ some))

  -- one request judged
  next-passed : (b : Batch) (a : Asked) → Passed st b.passed → Passed st (judge_next st b a).passed
  unfolding judge_next
  next-passed b a p = go (eqb (request_refusal st b.passed a.request a.verdict) 0) refl
    where
      go : (t : Bool) → eqb (request_refusal st b.passed a.request a.verdict) 0 ≡ t
          → Passed st (cond t (b.passed ++ (a.request ∷ [])) b.passed)
      go true e = passed-next b.passed a.request a.verdict p (request-passed st b.passed a.request a.verdict (eqb-true _ 0 e))
      go false e = p

  all-passed : (b : Batch) (batch : List Asked) → Passed st b.passed → Passed st (foldl (judge_next st) b batch).passed
  all-passed b [] p = p
  all-passed b (a ∷ batch) p = all-passed (judge_next st b a) batch (next-passed b a p)

  -- no more pass than are asked
  next-few : (b : Batch) (a : Asked) → length (judge_next st b a).passed ≤ length b.passed + 1
  unfolding judge_next
  next-few b a = go (eqb (request_refusal st b.passed a.request a.verdict) 0)
    where
      go : (t : Bool) → length (cond t (b.passed ++ (a.request ∷ [])) b.passed) ≤ length b.passed + 1
      go true = omega (arith, length-append b.passed (a.request ∷ []))
      go false = omega arith

  all-few : (b : Batch) (batch : List Asked) → length (foldl (judge_next st) b batch).passed ≤ length b.passed + length batch
  all-few b [] = omega arith
  all-few b (a ∷ batch) = omega (arith, next-few b a, all-few (judge_next st b a) batch)

  pub batch-passed : (batch : List Asked) → Passed st (judged_batch st batch).passed
  unfolding judged_batch
  batch-passed batch = all-passed none_judged batch none_passed

  pub passed-few : (batch : List Asked) → length (judged_batch st batch).passed ≤ length batch
  unfolding judged_batch
  passed-few batch = omega (arith, all-few none_judged batch)

-- a counter is held where some request passed
pub passed-some : (rs : List Record) (qs : List Request) → all_held rs qs ≡ true → 0 < length qs → 0 < length rs
unfolding all_held holds
passed-some rs [] all some = let no : ⊥ = omega arith in absurd no
passed-some [] (q ∷ qs) all some = absurd (false≢true all)
passed-some (r ∷ rs) (q ∷ qs) all some = omega arith

-- ---- what is asked in bytes fits

-- so many requests are asked
pub length-asked : (requests verdicts : List ℕ) (i n : ℕ) → length (asked_from requests verdicts i n) ≡ n
unfolding asked_from
length-asked requests verdicts i zero = refl
length-asked requests verdicts i (suc n) = ap suc (length-asked requests verdicts (suc i) n)

-- every one of them fits
AskedFit : List Asked → Type 0
AskedFit [] = Unit {0}
AskedFit (a ∷ batch) = RequestFits a.request × AskedFit batch

asked-fit : (requests verdicts : List ℕ) (i n : ℕ) → Bytes requests → AskedFit (asked_from requests verdicts i n)
unfolding asked_from AskedFit
asked-fit requests verdicts i zero bytes = tt
asked-fit requests verdicts i (suc n) bytes = (request-fit requests (request_len * i) bytes, asked-fit requests verdicts (suc i) n bytes)

next-fit : (st : State) (b : Batch) (a : Asked) → RequestFits a.request → RequestsFit b.passed → RequestsFit (judge_next st b a).passed
unfolding judge_next
next-fit st b a fits before = go (eqb (request_refusal st b.passed a.request a.verdict) 0)
  where
    go : (t : Bool) → RequestsFit (cond t (b.passed ++ (a.request ∷ [])) b.passed)
    go true = requests-fit-append before (one_more fits none)
    go false = before

all_fit : (st : State) (b : Batch) (batch : List Asked) → AskedFit batch → RequestsFit b.passed → RequestsFit (foldl (judge_next st) b batch).passed
unfolding AskedFit
all_fit st b [] fits before = before
all_fit st b (a ∷ batch) fits before = all_fit st (judge_next st b a) batch fits.1 (next-fit st b a fits.0 before)

-- and so do those that passed
pub passed-fit : (st : State) (requests verdicts : List ℕ) (i n : ℕ) → Bytes requests → RequestsFit (judged_batch st (asked_from requests verdicts i n)).passed
unfolding judged_batch
passed-fit st requests verdicts i n bytes = all_fit st none_judged (asked_from requests verdicts i n) (asked-fit requests verdicts i n bytes) none

-- ---- what passed fits an image

-- requests count as many units as they are
pub units-some : (count : ℕ) → 0 < count → units_of count ≡ count
units-some count some = ap (λ (b : Bool). cond b 1 count) (ne_eqb count 0 (λ none. omega arith))

-- the state after a batch of which some request passed
pub batch-fits : (st : State) (requests verdicts : List ℕ) → StateFits st → Bytes requests → bad_batch requests verdicts ≡ false →
    let qs = (judged_batch st (asked requests verdicts)).passed in
    0 < length qs → StateFits (incremented st qs)
batch-fits st requests verdicts fits bytes good some =
    let count = length requests / request_len in
    let batch = asked requests verdicts in
    let qs = (judged_batch st batch).passed in
    let p = batch-passed st batch in
    let room : units st.log + length qs ≤ max_units = p.room fits.units in
    let runs : st.clock.0 < max_word = omega (arith, fits.clock, p.running some) in
    incremented-fits st qs
    (raised-fits st qs fits (passed-fit st requests verdicts 0 count bytes)
    (omega (arith, passed-few st batch, length-asked requests verdicts 0 count, (good-batch requests verdicts good).few))
    runs (subst (λ (n : ℕ). units st.log + n ≤ max_units) (sym (units-some (length qs) some)) room))
