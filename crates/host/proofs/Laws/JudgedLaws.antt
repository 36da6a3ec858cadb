-- What the code has of a batch half judged, request by request. Assumes nothing.
use Rattle.std.specs.Prelude.{◌≡◌, refl, ℕ, zero, suc, ◌+◌, ◌-◌, ◌*◌, ◌≤◌, ◌<◌, Bool, true, false, cond, eqb, length, get_or, map, replicate, set, take, drop, List, [], ◌∷◌, ◌++◌, Result, Ok, Err}
use Rattle.std.proofs.Common.{sym, ap, ap₂, ◌∙◌, arith, length-append, take-append-drop, take_at, eq-eqb, ne_eqb, subst, append_assoc, append-nil}
use mathlib.Core.List.{foldl, foldl-append}
use Rattle.std.proofs.lemmas.List.{map-set, set_at}
use Rattle.forms.specs.Bytes.{Bytes, overwrite, window}
use Rattle.forms.specs.Laws.BytesLaws.{length-overwrite, length-window, window-part, overwrite-fits}
use Rattle.forms.specs.Limits.{max_requests, request_len}
use Rattle.forms.specs.Refusal.{outcome_number, refusal_number}
use Rattle.forms.specs.declared.refusal.Refusal.{Refusal}
use Rattle.std.specs.Result.{is_err, result_err}
use Rattle.std.proofs.lemmas.Bool.{false≢true}
use Rattle.host.proofs.Laws.SettledLaws.{some_number}
use Rattle.forms.specs.Request.{RequestsFit, none, one_more, request_at, request_bytes, requests_at, joined}
use Rattle.forms.specs.Laws.RequestLaws.{joined-append, joined_length, request-fit, request-window, requests-bytes, requests-fit-append}
use Rattle.forms.specs.declared.request.Request.{Request}
use Rattle.log_image.specs.State.{State}
use Rattle.host.specs.Laws.Batch.{JudgedAs, unjudged, with_outcome}
use Rattle.host.specs.Host.{request_refusal, Asked, asked_from, Batch, none_judged, judge_next, judged_batch}
use Rattle.host.specs.Outcome.{own_number}
use Rattle.host.specs.declared.batch.Judged.{Judged}

-- before the first request
stands-none : JudgedAs none_judged 0 unjudged
unfolding joined
stands-none = record { judged = refl; few = omega arith; fit = none; long = refl; numbers = refl; count = refl; passed = refl }

-- the code's bytes read as the requests that passed
stands-requests : (b : Batch) (done : ℕ) (j : Judged) → JudgedAs b done j → requests_at j.passed 0 j.count ≡ b.passed
stands-requests b done j s =
    let k = request_len * j.count in
    ap₂ (λ (l : List ℕ) (n : ℕ). requests_at l 0 n) (sym (take-append-drop k j.passed) ∙ ap (λ (l : List ℕ). l ++ drop k j.passed) s.passed) s.count
    ∙ requests-bytes b.passed (drop k j.passed) s.fit

-- ---- a request's outcome kept

-- an outcome is told by its number
pub ok-number : (outcome : Result (Unit {0}) Refusal) → is_err outcome ≡ false → outcome_number outcome ≡ 0
ok-number (Ok a) e = refl
ok-number (Err refusal) e = absurd (false≢true (sym e))

pub err-number : (outcome : Result (Unit {0}) Refusal) → is_err outcome ≡ true → outcome_number outcome ≡ 0 → ⊥
err-number (Ok a) e zero-number = false≢true e
err-number (Err refusal) e zero-number = false≢true (sym (some_number refusal) ∙ eq-eqb (refusal_number refusal) 0 zero-number)

-- its number is that of the refusal kept
number-of : (outcome : Result (Unit {0}) Refusal) → own_number (result_err outcome) ≡ outcome_number outcome
number-of (Ok a) = refl
number-of (Err refusal) = refl

-- where it is refused
pub outcome-kept : (j : Judged) (requests : List ℕ) (i : ℕ) (outcome : Result (Unit {0}) Refusal) → (outcome_number outcome ≡ 0 → ⊥)
    → record { refused = set j.refused i (result_err outcome); passed = j.passed; count = j.count } ≡ with_outcome j requests i outcome
outcome-kept j requests i outcome some =
    ap (λ (b : Bool).
    record {
      refused = set j.refused i (result_err outcome);
      passed = cond b (overwrite j.passed (request_len * j.count) (window requests (request_len * i) request_len)) j.passed;
      count = cond b (j.count + 1) j.count;
    })
    (sym (ne_eqb (outcome_number outcome) 0 some))

-- where it passed, and its bytes are stored
pub outcome_passed : (j : Judged) (requests : List ℕ) (i len : ℕ) (outcome : Result (Unit {0}) Refusal) (passed : List ℕ) → outcome_number outcome ≡ 0 → len ≡ request_len → request_len * i + request_len ≤ length requests
    → passed ≡ overwrite j.passed (request_len * j.count) (take len (drop (request_len * i) requests))
    → record { refused = set j.refused i (result_err outcome); passed = passed; count = j.count + 1 } ≡ with_outcome j requests i outcome
outcome_passed j requests i len outcome passed zero_number whole within stored =
    let from = request_len * i in
    let part : take len (drop from requests) ≡ window requests from request_len =
    ap (λ (n : ℕ). take n (drop from requests)) whole ∙ sym (window-part requests from request_len within) in
    (λ k. record {
      refused = set j.refused i (result_err outcome);
      passed = (stored ∙ ap (overwrite j.passed (request_len * j.count)) part) k;
      count = j.count + 1;
    })
    ∙ ap (λ (b : Bool).
    record {
      refused = set j.refused i (result_err outcome);
      passed = cond b (overwrite j.passed (request_len * j.count) (window requests from request_len)) j.passed;
      count = cond b (j.count + 1) j.count;
    })
    (sym (eq-eqb (outcome_number outcome) 0 zero_number))

-- ---- one request more

-- a number behind those given
number-set : (numbers : List ℕ) (done number : ℕ) → length numbers ≡ done → done < max_requests
    → set (numbers ++ replicate {A = ℕ} (max_requests - done) 0) done number
    ≡ (numbers ++ (number ∷ [])) ++ replicate {A = ℕ} (max_requests - suc done) 0
number-set numbers done number judged below =
    let left : max_requests - done ≡ suc (max_requests - suc done) = omega arith in
    ap (λ (n : ℕ). set (numbers ++ replicate {A = ℕ} n 0) done number) left
    ∙ set_at numbers 0 (replicate {A = ℕ} (max_requests - suc done) 0) number done judged
    ∙ sym (append_assoc numbers (number ∷ []) (replicate {A = ℕ} (max_requests - suc done) 0))

-- a request behind those that passed
request-put : (s requests : List ℕ) (qs : List Request) (at : ℕ) → Bytes requests → RequestsFit qs → request_len * length qs + request_len ≤ length s
    → take (request_len * length qs) s ≡ joined qs
    → take (request_len * (length qs + 1)) (overwrite s (request_len * length qs) (window requests at request_len)) ≡ joined (qs ++ (request_at requests at ∷ []))
unfolding joined
request-put s requests qs at bytes fits room front =
    let q = request_at requests at in
    let k = request_len * length qs in
    let w = window requests at request_len in
    let rest = drop (k + length w) s in
    let all = joined (qs ++ (q ∷ [])) in
    let long : length w ≡ request_len = length-window requests at request_len in
    let many : length (qs ++ (q ∷ [])) ≡ length qs + 1 = length-append qs (q ∷ []) in
    ap (take (request_len * (length qs + 1)))
    (overwrite-fits s k w (omega arith)
    ∙ ap₂ (λ (l m : List ℕ). l ++ (m ++ rest)) front (sym (request-window requests at bytes))
    ∙ sym (append_assoc (joined qs) (request_bytes q) rest)
    ∙ ap (λ (l : List ℕ). l ++ rest) (ap (λ (l : List ℕ). joined qs ++ l) (sym (append-nil (request_bytes q))) ∙ sym (joined-append qs (q ∷ []))))
    ∙ take_at all rest (request_len * (length qs + 1))
    (joined_length (qs ++ (q ∷ [])) (requests-fit-append fits (one_more (request-fit requests at bytes) none)) ∙ ap (λ (n : ℕ). request_len * n) many)

module _ (st : State) (requests : List ℕ) (bytes : Bytes requests) (verdict : ℕ) where
  -- it has the number of its own table
  stands-next : (b : Batch) (done : ℕ) (j : Judged) (outcome : Result (Unit {0}) Refusal) → JudgedAs b done j → done < max_requests
      → outcome_number outcome ≡ request_refusal st b.passed (request_at requests (request_len * done)) verdict
      → JudgedAs (judge_next st b (record { request = request_at requests (request_len * done); verdict = verdict })) (suc done) (with_outcome j requests done outcome)
  unfolding judge_next
  stands-next b done j outcome s below e =
      subst (λ (n : ℕ). JudgedAs next (suc done) (kept (eqb n 0))) (sym e) (go (eqb given 0))
    where
      q : Request
      q = request_at requests (request_len * done)

      given : ℕ
      given = request_refusal st b.passed q verdict

      next : Batch
      next = judge_next st b (record { request = q; verdict = verdict })

      numbers : map own_number (set j.refused done (result_err outcome)) ≡ (b.numbers ++ (given ∷ [])) ++ replicate {A = ℕ} (max_requests - suc done) 0
      numbers =
          map-set own_number j.refused done (result_err outcome)
          ∙ ap₂ (λ (l : List ℕ) (n : ℕ). set l done n) s.numbers (number-of outcome ∙ e)
          ∙ number-set b.numbers done given s.judged below

      judged : length (b.numbers ++ (given ∷ [])) ≡ suc done
      judged = omega (arith, length-append b.numbers (given ∷ []), s.judged)

      front : take (request_len * length b.passed) j.passed ≡ joined b.passed
      front = ap (λ (n : ℕ). take (request_len * n) j.passed) (sym s.count) ∙ s.passed

      put : List ℕ
      put = overwrite j.passed (request_len * j.count) (window requests (request_len * done) request_len)

      kept : Bool → Judged
      kept t =
          record { refused = set j.refused done (result_err outcome); passed = cond t put j.passed; count = cond t (j.count + 1) j.count }

      behind : take (request_len * (j.count + 1)) put ≡ joined (b.passed ++ (q ∷ []))
      behind =
          ap (λ (n : ℕ). take (request_len * (n + 1)) (overwrite j.passed (request_len * n) (window requests (request_len * done) request_len))) s.count
          ∙ request-put j.passed requests b.passed (request_len * done) bytes s.fit (omega (arith, s.long, s.few)) front

      go : (t : Bool)
          → JudgedAs (record { numbers = b.numbers ++ (given ∷ []); passed = cond t (b.passed ++ (q ∷ [])) b.passed }) (suc done)
          (kept t)
      go true =
          record {
            judged = judged;
            few = omega (arith, length-append b.passed (q ∷ []), s.few);
            fit = requests-fit-append s.fit (one_more (request-fit requests (request_len * done) bytes) none);
            long = length-overwrite j.passed (request_len * j.count) (window requests (request_len * done) request_len) ∙ s.long;
            numbers = numbers;
            count = omega (arith, length-append b.passed (q ∷ []), s.count);
            passed = behind;
          }
      go false =
          record { judged = judged; few = omega (arith, s.few); fit = s.fit; long = s.long; numbers = numbers; count = s.count; passed = s.passed }

-- ---- the batch so far

-- one more request asked
asked-snoc : (requests verdicts : List ℕ) (i n : ℕ)
    → asked_from requests verdicts i (suc n)
    ≡ asked_from requests verdicts i n ++ (record { request = request_at requests (request_len * (i + n)); verdict = get_or verdicts (i + n) 0 } ∷ [])
unfolding asked_from
asked-snoc requests verdicts i zero =
    let here : i ≡ i + 0 = omega arith in
    ap (λ (k : ℕ). record { request = request_at requests (request_len * k); verdict = get_or verdicts k 0 } ∷ []) here
asked-snoc requests verdicts i (suc n) =
    let there : suc i + n ≡ i + suc n = omega arith in
    ap (λ (batch : List Asked). record { request = request_at requests (request_len * i); verdict = get_or verdicts i 0 } ∷ batch)
    (asked-snoc requests verdicts (suc i) n
    ∙ ap (λ (k : ℕ). asked_from requests verdicts (suc i) n ++ (record { request = request_at requests (request_len * k); verdict = get_or verdicts k 0 } ∷ [])) there)

-- judged with it
judged-snoc : (st : State) (requests verdicts : List ℕ) (n : ℕ)
    → judged_batch st (asked_from requests verdicts 0 (suc n))
    ≡ judge_next st (judged_batch st (asked_from requests verdicts 0 n)) (record { request = request_at requests (request_len * n); verdict = get_or verdicts n 0 })
unfolding judged_batch
judged-snoc st requests verdicts n =
    let last : Asked = record { request = request_at requests (request_len * n); verdict = get_or verdicts n 0 } in
    let here : 0 + n ≡ n = omega arith in
    ap (foldl (judge_next st) none_judged)
    (asked-snoc requests verdicts 0 n
    ∙ ap (λ (k : ℕ). asked_from requests verdicts 0 n ++ (record { request = request_at requests (request_len * k); verdict = get_or verdicts k 0 } ∷ [])) here)
    ∙ foldl-append (judge_next st) none_judged (asked_from requests verdicts 0 n) (last ∷ [])

-- and what the code has of it, with the number of its own table
pub judged-next : (st : State) (requests verdicts : List ℕ) (i : ℕ) (j : Judged) (outcome : Result (Unit {0}) Refusal) → Bytes requests
    → JudgedAs (judged_batch st (asked_from requests verdicts 0 i)) i j → i < max_requests
    → outcome_number outcome ≡ request_refusal st (requests_at j.passed 0 j.count) (request_at requests (request_len * i)) (get_or verdicts i 0)
    → JudgedAs (judged_batch st (asked_from requests verdicts 0 (i + 1))) (i + 1) (with_outcome j requests i outcome)
judged-next st requests verdicts i j outcome bytes s below e =
    let so_far = judged_batch st (asked_from requests verdicts 0 i) in
    let one : suc i ≡ i + 1 = omega arith in
    let verdict = get_or verdicts i 0 in
    let own = ap (λ (qs : List Request). request_refusal st qs (request_at requests (request_len * i)) verdict) (stands-requests so_far i j s) in
    subst (λ (n : ℕ). JudgedAs (judged_batch st (asked_from requests verdicts 0 n)) n (with_outcome j requests i outcome)) one
    (subst (λ (b : Batch). JudgedAs b (suc i) (with_outcome j requests i outcome)) (sym (judged-snoc st requests verdicts i))
    (stands-next st requests bytes verdict so_far i j outcome s below (e ∙ own)))

-- before the first
pub judged-none : (st : State) (requests verdicts : List ℕ) → JudgedAs (judged_batch st (asked_from requests verdicts 0 0)) 0 unjudged
unfolding judged_batch asked_from
judged-none st requests verdicts = stands-none
