-- A station each of whose noes is true says yes to all of a proof that the history bears out, on every request of every entry, and so its desk accepts.
-- Assumes nothing.
use Rattle.std.specs.Prelude.{◌≡◌, true, List, [], ◌∷◌, length, ℕ, zero, suc, ◌+◌, ◌-◌, ◌≤◌, ◌<◌, refl, get_or}
use Rattle.std.proofs.Common.{sym, ap, subst, ◌∙◌, ext_get_or, true≢false, arith}
use Rattle.std.proofs.Math.Option.{some}
use Rattle.std.proofs.Math.Decide.{dec_le}
use Rattle.std.proofs.Math.ListN.{get_elem?}
use Rattle.std.proofs.lemmas.List.{length-replicate, get_or-replicate}
use Rattle.forms.specs.Entry.{count_at, entry_at, offset_at}
use Rattle.forms.specs.Limits.{head_len}
use Rattle.forms.specs.Laws.RequestLaws.{length-requests}
use Rattle.forms.specs.declared.request.Request.{Request}
use Rattle.forms.specs.declared.terms.GlobalClock.{GlobalClock}
use Rattle.validity.specs.Proof.{log_offset, shape_at}
use Rattle.validity.specs.declared.proof.Kind.{Kind}
use Rattle.desk_table.specs.Desk.{verdicts_before, verdicts_to, verdict_count}
use Rattle.history.specs.Value.{Signatures}
use Rattle.assurance.proofs.Laws.AcceptRows.{ones, verdicts-within}
use Rattle.assurance.proofs.Laws.Accepted.{Passed, count_of, accepted-passed}
use Rattle.assurance.specs.DeskList.{Call, Item, Accepted, kind_of, call_entry}
use Rattle.assurance.proofs.Laws.ListLaws.{at-within}
use Rattle.assurance.specs.ServerList.{AllSigned, Borne, TrueNo, with_verdicts, owner_place}

-- ---- what a verdict is on

data Where (s : List ℕ) (log before : ℕ) (n place : ℕ) : Type 0 where
  front : place < before → Where s log before n place
  module-on : (k : ℕ) → 1 ≤ k → k ≤ n → place ≡ verdicts_to s log before (k - 1) → Where s log before n place
  owner-on : (k q : ℕ) → 1 ≤ k → k ≤ n → q < count_at s (offset_at s log (k - 1)) → place ≡ verdicts_to s log before (k - 1) + 1 + q → Where s log before n place

module _ (s : List ℕ) (log before : ℕ) where
  more-entries : (n place : ℕ) → Where s log before n place → Where s log before (suc n) place
  more-entries n place (front low) = front low
  more-entries n place (module-on k low high is) = module-on k low (omega arith) is
  more-entries n place (owner-on k q low high among is) = owner-on k q low (omega arith) among is

  where-is : (n place : ℕ) → place < verdicts_to s log before n → Where s log before n place
  unfolding verdicts_to
  where-is zero place within = front within
  where-is (suc n) place within =
      from (dec_le (suc place) (verdicts_to s log before n)) (dec_le place (verdicts_to s log before n)) (λ low. where-is n place low)
    where
      last : suc n - 1 ≡ n
      last = omega arith

      from : Dec (suc place ≤ verdicts_to s log before n) → Dec (place ≤ verdicts_to s log before n)
          → (place < verdicts_to s log before n → Where s log before n place) → Where s log before (suc n) place
      from (yes low) other earlier = more-entries n place (earlier low)
      from (no high) (yes low) earlier =
          module-on (suc n) (omega arith) (omega arith) (let e : place ≡ verdicts_to s log before n = omega arith in e ∙ ap (verdicts_to s log before) (sym last))
      from (no high) (no higher) earlier =
          let q = place - verdicts_to s log before n - 1 in
          let among : q < count_at s (offset_at s log n) = omega (arith, within, higher) in
          let is : place ≡ verdicts_to s log before n + 1 + q = omega (arith, higher) in
          owner-on (suc n) q (omega arith) (omega arith)
          (subst (λ (j : ℕ). q < count_at s (offset_at s log j)) (sym last) among)
          (is ∙ ap (λ (j : ℕ). verdicts_to s log before j + 1 + q) (sym last))

-- ---- one of some requests

request-there : (qs : List Request) (q : ℕ) → q < length qs → (r : Request) × (get_elem? qs q ≡ some r)
request-there [] q within = absurd (omega arith)
request-there (r ∷ qs) zero within = (r, refl)
request-there (r ∷ qs) (suc q) within = request-there qs q (omega arith)

signed-there : (signed : Signatures) (qs : List Request) (q : ℕ) (r : Request) → AllSigned signed qs → get_elem? qs q ≡ some r → signed r ≡ true
signed-there signed [] q r all there = absurd (let z : ◌≡◌ {A = ℕ} 0 1 = cc in omega arith)
signed-there signed (x ∷ qs) zero r all there = ap signed (let e : r ≡ x = cc in e) ∙ all.0
signed-there signed (x ∷ qs) (suc q) r all there = signed-there signed qs q r all.1 there

-- ---- every verdict is yes

module _ (first : GlobalClock) (signed : Signatures) (d : List Item) (m : ℕ) (p : Call)
    (bears : Borne first signed d m p)
    (v : List ℕ)
    (told : TrueNo first signed d m (with_verdicts p v)) where
  passed : Passed p
  passed = accepted-passed p bears.accepted

  not-no : (k : ℕ) → (get_or v k 0 ≡ 0 → ⊥) → get_or v k 0 ≡ 1
  not-no k some-said = let low = told.zero-or-one k in omega (arith, low, some-said)

  -- those before the entries'
  front-yes : (kind : Kind) → kind_of p ≡ kind → (k : ℕ) → k < verdicts_before kind → get_or v k 0 ≡ 0 → ⊥
  front-yes Kind.Read is zero within said =
      let there = bears.truth.confirmation-yes passed.confirmation-yes in
      told.confirmation-no said there.0 there.1 there.2
  front-yes Kind.Read is (suc zero) within said = told.certificate-no is said (bears.truth.certificate-yes is (passed.certificate-yes is))
  front-yes Kind.Read is (suc (suc k)) within said = omega arith
  front-yes Kind.Increment is zero within said =
      let there = bears.truth.confirmation-yes passed.confirmation-yes in
      told.confirmation-no said there.0 there.1 there.2
  front-yes Kind.Increment is (suc k) within said = omega arith

  place-yes : (k : ℕ) → Where p.proof (log_offset (kind_of p)) (verdicts_before (kind_of p)) (count_of p) k → get_or v k 0 ≡ 0 → ⊥
  unfolding entry_at
  place-yes k (front low) said = front-yes (kind_of p) refl k low said
  place-yes k (module-on e low high is) said =
      told.module-no e low high (ap (λ (j : ℕ). get_or v j 0) (sym is) ∙ said) (bears.truth.module-yes e low high (passed.module-yes e low high))
  place-yes k (owner-on e q low high among is) said =
      let s = p.proof in
      let o = offset_at s (log_offset (kind_of p)) (e - 1) in
      let there = request-there (call_entry p e).requests q (omega (arith, among, length-requests s (o + head_len) (count_at s o))) in
      true≢false (sym (signed-there signed (call_entry p e).requests q there.0 (bears.all-signed e low high) there.1)
      ∙ told.owner-no e q there.0 low high there.1 (ap (λ (j : ℕ). get_or v j 0) (sym is) ∙ said))

  -- so the station's list is all yes
  pub station-yes : v ≡ ones (verdict_count p.proof (shape_at p.proof))
  station-yes =
      let n = verdict_count p.proof (shape_at p.proof) in
      ext_get_or 0 v (ones n) (told.as_many ∙ sym (length-replicate {A = ℕ} n 1))
      (λ k within.
      not-no k (place-yes k (where-is p.proof (log_offset (kind_of p)) (verdicts_before (kind_of p)) (count_of p) k (omega (arith, told.as_many))))
      ∙ sym (get_or-replicate n k 1 0 (omega (arith, told.as_many))))

-- and of that list each no is true, since there is none: what is supposed of a station can be met
pub ones-true-no : (first : GlobalClock) (signed : Signatures) (d : List Item) (m : ℕ) (p : Call) → Accepted p → p.verdicts ≡ ones (length p.verdicts)
    → TrueNo first signed d m p
unfolding entry_at
ones-true-no first signed d m p accepted verdicts =
    record {
      as_many = passed.verdicts;
      zero-or-one = passed.zero-or-one;
      confirmation-no = λ said. absurd (omega (arith, said, passed.confirmation-yes));
      certificate-no = λ kind said. absurd (omega (arith, said, passed.certificate-yes kind));
      module-no = λ k low high said. absurd (omega (arith, said, passed.module-yes k low high));
      owner-no = λ k q r low high there said. absurd (owner k q r low high there said);
    }
  where
    passed : Passed p
    passed = accepted-passed p accepted

    owner : (k q : ℕ) (r : Request) → 1 ≤ k → k ≤ count_of p → get_elem? (call_entry p k).requests q ≡ some r → get_or p.verdicts (owner_place p k q) 0 ≡ 0 → ⊥
    owner k q r low high there said =
        let s = p.proof in
        let log = log_offset (kind_of p) in
        let n = verdict_count s (shape_at s) in
        let o = offset_at s log (k - 1) in
        let among : q < count_at s o = omega (arith, at-within (call_entry p k).requests q r there, length-requests s (o + head_len) (count_at s o)) in
        let within : owner_place p k q < n = omega (arith, among, verdicts-within s log (verdicts_before (kind_of p)) (count_of p) (k - 1) (omega arith)) in
        let all : p.verdicts ≡ ones n = verdicts ∙ ap ones passed.verdicts in
        let is-yes : get_or p.verdicts (owner_place p k q) 0 ≡ 1 =
        ap (λ (v : List ℕ). get_or v (owner_place p k q) 0) all ∙ get_or-replicate n (owner_place p k q) 1 0 within in
        omega (arith, said, is-yes)
