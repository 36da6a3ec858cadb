-- A proof that a line asks for, judged with every verdict yes; the entry of a reading looked for along the log; and a batch of one. Assumes nothing.
use Rattle.std.specs.Prelude.{◌≡◌, refl, Bool, false, cond, ◌||◌, eqb, ltb, length, get_or, take, drop, replicate, ℕ, zero, suc, ◌+◌, ◌-◌, ◌*◌, ◌≤◌}
use Rattle.std.specs.Prelude.{map, None, Some, Option, Ok, Err, ◌<◌, true, ◌&&◌, List, [], ◌∷◌, ◌++◌}
use Rattle.std.proofs.Math.Path.{subst⁻¹}
use Rattle.std.proofs.Common.{◌∙◌, length-drop, eq-eqb, ne_eqb, lt-ltb, le-ltb, sym, ap, ap₂, append-nil, add-one, arith}
use Rattle.std.proofs.Math.Bool.{or-true, and-false}
use Rattle.std.proofs.lemmas.Bool.{false≢true}
use Rattle.std.proofs.lemmas.List.{length-replicate}
use Rattle.std.proofs.Math.ListN.{get_or-map}
use Rattle.forms.specs.Bytes.{overwrite}
use Rattle.forms.specs.Laws.BytesLaws.{overwrite-fits}
use Rattle.forms.specs.Entry.{Entry, reading_at, count_at, len_at, entry_at, entries_at, offset_at}
use Rattle.forms.specs.Limits.{nonce_len, head_len, request_len, max_requests, image_log_offset, image_len, max_proof_len}
use Rattle.forms.specs.Laws.LogLaws.{walk-counts}
use Rattle.forms.specs.Request.{names, place_of, nonce_of as request_nonce_of, request_at, request_bytes, requests_at}
use Rattle.forms.specs.Laws.RequestLaws.{length-requests, request-length, names-place, place-nonce}
use Rattle.forms.specs.declared.request.Request.{Request}
use Rattle.forms.specs.declared.terms.CounterId.{CounterId}
use Rattle.forms.specs.declared.terms.GlobalClock.{GlobalClock}
use Rattle.validity.specs.Proof.{Fields, fields_len, shape_of}
use Rattle.validity.specs.declared.proof.Kind.{Kind}
use Rattle.desk_table.specs.Desk.{all_yes, verdicts_for, verified}
use Rattle.desk_table.proofs.Laws.VerdictsLaws.{verdicts-few}
use Rattle.log_image.specs.Laws.EndLaws.{first-within}
use Rattle.log_image.specs.Laws.ImageRoundTrip.{laid-out-parts, sound-laid-out}
use Rattle.log_image.specs.Laws.LogLaws.{entries-first, entries_none}
use Rattle.log_image.specs.Sound.{base, laid_out, after}
use Rattle.log_image.specs.State.{State, decode, entry_count}
use Rattle.host.proofs.Laws.DoneLaws.{settled-passed, value-given}
use Rattle.host.specs.Host.{numbers_of}
use Rattle.host.specs.Outcome.{batch_figures_of, figures_of, outcome_at, outcome_of_one, own_number, reading_of}
use Rattle.host.specs.declared.answer.Batch.{Batch}
use Rattle.host.proofs.Laws.OutcomeLaws.{refused-stays}
use Rattle.host.proofs.Laws.SettledLaws.{some_number}
use Rattle.forms.specs.Refusal.{refusal_number}
use Rattle.forms.specs.declared.refusal.Refusal.{Refusal}
use Rattle.host.specs.Host.{has_entry, request_nonce, held_of, proof_of, last_of, prove_refusal, last_refusal, counted, increment_figures}
use Rattle.host.specs.Host.{increment_call, prove_call, last_call, prove_output, last_output}
use Rattle.host.proofs.Laws.RefusalLaws.{prove-passed, last-passed}
use Rattle.host.specs.declared.answer.BatchFigures.{BatchFigures}
use Rattle.host.specs.declared.answer.Figures.{Figures}
use Rattle.grammar.specs.declared.command.Command.{Command}
use Rattle.console.specs.Step.{desk_figures, empty_output, max_verdicts, byte_nonce, raised_once, ran, request_with, shown, single_figures, yes}
use Rattle.console.specs.Step.{yes_for}

-- ---- the request in the entry with a reading

-- its nonce, where there is one
abbrev pub FoundNonce : CounterId → GlobalClock → List Entry → List ℕ → Type 0
FoundNonce id t es nonce = has_entry id t es ≡ true → nonce ≡ request_nonce id t es

-- the same of an image that has an image's layout
abbrev pub FoundIn : CounterId → GlobalClock → List ℕ → List ℕ → Type 0
FoundIn id t s nonce = laid_out s ≡ true → FoundNonce id t (decode s).log nonce

-- whether an entry has a request of the counter and the reading
abbrev sought : CounterId → GlobalClock → Entry → Bool
sought id t e = names id e.requests && eqb e.reading.0 t.0

found_in : (id : CounterId) (t : GlobalClock) (e : Entry) (es : List Entry) → sought id t e ≡ true
    → FoundNonce id t (e ∷ es) (request_nonce_of id e.requests)
unfolding request_nonce
found_in id t e es is has = sym (ap (λ (b : Bool). cond b (request_nonce_of id e.requests) (request_nonce id t es)) is)

found-behind : (id : CounterId) (t : GlobalClock) (e : Entry) (es : List Entry) (nonce : List ℕ) → sought id t e ≡ false → FoundNonce id t es nonce
    → FoundNonce id t (e ∷ es) nonce
unfolding request_nonce has_entry
found-behind id t e es nonce is found has =
    found (sym (ap (λ (b : Bool). b || has_entry id t es) is) ∙ has)
    ∙ sym (ap (λ (b : Bool). cond b (request_nonce_of id e.requests) (request_nonce id t es)) is)

module _ (id : CounterId) (t : GlobalClock) (s : List ℕ) (k n : ℕ) (nonce : List ℕ) where
  -- how many requests of the entry at the place stand before the counter's
  abbrev index_at : ℕ
  index_at = place_of id (requests_at s (k + head_len) (count_at s k))

  -- the entry names the counter where that is a request's place
  named-at : (b : Bool) → ltb index_at (count_at s k) ≡ b → names id (entry_at s k).requests ≡ b
  unfolding entry_at
  named-at b e =
      let rs = requests_at s (k + head_len) (count_at s k) in
      names-place id rs ∙ ap (ltb (place_of id rs)) (length-requests s (k + head_len) (count_at s k)) ∙ e

  -- the entry at a place is the one looked for, or one behind it is, or there is none
  pub found_first : 0 < n → (index : ℕ) → index ≡ index_at → (reading_at s k).0 ≡ t.0 → index < count_at s k
      → nonce ≡ (request_at s (k + head_len + request_len * index)).nonce → FoundNonce id t (entries_at s k n) nonce
  unfolding entry_at
  found_first some index at same within e =
      let below : index_at < count_at s k = omega (arith, at, within) in
      let is : sought id t (entry_at s k) ≡ true = ap₂ ◌&&◌ (named-at true (lt-ltb index_at (count_at s k) below))
      (eq-eqb (reading_at s k).0 t.0 same) in
      let own : nonce ≡ request_nonce_of id (entry_at s k).requests =
      e
      ∙ ap (λ (i : ℕ). (request_at s (k + head_len + request_len * i)).nonce) at
      ∙ sym (place-nonce id s (k + head_len) (count_at s k) below) in
      subst⁻¹ (λ (es : List Entry). FoundNonce id t es nonce) (entries-first s k n some)
      (λ has. own ∙ found_in id t (entry_at s k) (entries_at s (k + len_at s k) (n - 1)) is has)

  further : 0 < n → sought id t (entry_at s k) ≡ false → FoundNonce id t (entries_at s (k + len_at s k) (n - 1)) nonce
      → FoundNonce id t (entries_at s k n) nonce
  further some is found =
      subst⁻¹ (λ (es : List Entry). FoundNonce id t es nonce) (entries-first s k n some)
      (found-behind id t (entry_at s k) (entries_at s (k + len_at s k) (n - 1)) nonce is found)

  -- it has another reading, or no request of the counter
  pub found-later : 0 < n → ((reading_at s k).0 ≡ t.0 → ⊥) → FoundNonce id t (entries_at s (k + len_at s k) (n - 1)) nonce
      → FoundNonce id t (entries_at s k n) nonce
  unfolding entry_at
  found-later some other =
      further some (ap (λ (b : Bool). names id (entry_at s k).requests && b) (ne_eqb (reading_at s k).0 t.0 other)
      ∙ and-false (names id (entry_at s k).requests))

  pub found-elsewhere : 0 < n → (index : ℕ) → index ≡ index_at → count_at s k ≤ index → FoundNonce id t (entries_at s (k + len_at s k) (n - 1)) nonce
      → FoundNonce id t (entries_at s k n) nonce
  found-elsewhere some index at past =
      further some (ap (λ (b : Bool). b && eqb (entry_at s k).reading.0 t.0)
      (named-at false (le-ltb index_at (count_at s k) (omega (arith, at, past)))))

  pub found_none : n ≤ 0 → FoundNonce id t (entries_at s k n) nonce
  unfolding has_entry
  found_none none has = absurd (false≢true (sym (ap (has_entry id t) (entries_none s k n none)) ∙ has))

-- so many entries of an image's log are passed: the next one stands within it, and keeps the limit of requests
module _ (s : List ℕ) (count passed offset : ℕ) (laid : laid_out s ≡ true) (all : count ≡ entry_count s) (some : passed < count)
    (here : offset ≡ offset_at s image_log_offset passed) where
  pub turn-within : (offset ≤ image_len) × (count_at s offset ≤ max_requests)
  turn-within = (
    subst⁻¹ (λ (o : ℕ). o ≤ image_len) here (first-within s laid passed (omega (arith, all))),
    subst⁻¹ (λ (o : ℕ). count_at s o ≤ max_requests) here
        (walk-counts s image_log_offset (entry_count s) _ (laid-out-parts s laid).walked passed (omega (arith, all))).0,
  )

  -- and behind it stand the others
  pub turn-next : offset + len_at s offset ≡ offset_at s image_log_offset (passed + 1)
  unfolding offset_at
  turn-next = ap (λ (o : ℕ). o + len_at s o) here ∙ ap (offset_at s image_log_offset) (sym (add-one passed))

-- ---- a verdict list that is all yes

take-replicate : (n m x : ℕ) → n ≤ m → take n (replicate {A = ℕ} m x) ≡ replicate {A = ℕ} n x
take-replicate zero m x few = refl
take-replicate (suc n) zero x few = absurd (omega arith)
take-replicate (suc n) (suc m) x few = ap (λ (l : List ℕ). x ∷ l) (take-replicate n m x (omega arith))

-- the first of as many verdicts as a proof can have
pub first-yes : (kind : Kind) (len : ℕ) → len ≤ max_proof_len → yes_for kind len ≡ replicate {A = ℕ} (verdicts_for kind len) 1
first-yes kind len few = take-replicate (verdicts_for kind len) max_verdicts 1 (verdicts-few kind len few)

-- ---- what is shown of a proof

pub shown-refused : (written : Figures) (fields : Fields) (output : List ℕ) (id : CounterId) (nonce : List ℕ) → (written.number ≡ 0 → ⊥)
    → shown written fields output id nonce ≡ written
unfolding shown
shown-refused written fields output id nonce some =
    ap (λ (b : Bool). cond b (desk_figures (verified (take written.value output) (all_yes fields) id nonce)) written) (ne_eqb written.number 0 some)

pub shown-judged : (written : Figures) (fields : Fields) (output : List ℕ) (id : CounterId) (nonce : List ℕ) → written.number ≡ 0
    → written.value ≡ fields_len fields
    → shown written fields output id nonce
    ≡ desk_figures (verified (take written.value output) (replicate {A = ℕ} (verdicts_for (shape_of fields).kind written.value) 1) id nonce)
unfolding shown
shown-judged written fields output id nonce done len =
    ap (λ (b : Bool). cond b (desk_figures (verified (take written.value output) (all_yes fields) id nonce)) written) (eq-eqb written.number 0 done)
    ∙ ap (λ (n : ℕ). desk_figures (verified (take written.value output) (replicate {A = ℕ} n 1) id nonce))
    (sym (ap (verdicts_for (shape_of fields).kind) len))

-- an output has room for every proof
pub output-long : length empty_output ≡ max_proof_len
unfolding empty_output
output-long = length-replicate {A = ℕ} max_proof_len 0

-- an entry behind a place is one of all
has-behind : (id : CounterId) (t : GlobalClock) (es : List Entry) (k : ℕ) → has_entry id t (drop k es) ≡ true → has_entry id t es ≡ true
unfolding has_entry
has-behind id t es zero has = has
has-behind id t [] (suc k) has = has
has-behind id t (e ∷ es) (suc k) has = ap (λ (b : Bool). sought id t e || b) (has-behind id t es k has) ∙ or-true (sought id t e)

-- what was written has a proof's length, and is no longer than its output
module _ (s : List ℕ) (id : CounterId) where
  pub prove-written : (nonce : List ℕ) →
      let call = (prove_call s nonce id (length empty_output)).figures in
      call.number ≡ 0 → (call.value ≡ fields_len (proof_of (decode s) nonce id)) × (call.value ≤ max_proof_len)
  prove-written nonce done =
      let st : State = decode s in
      let len : ℕ = fields_len (proof_of st nonce id) in
      let number : ℕ = prove_refusal st nonce id len (length empty_output) in
      let value = value-given s number len (counted st id) done in
      let rows = prove-passed st nonce id len (length empty_output) (settled-passed s number len (counted st id) done).1 in
      (value, omega (arith, value, rows.fits, output-long))

  pub last_written : (t : GlobalClock) →
      let call = (last_call s id t (length empty_output)).figures in
      call.number ≡ 0 → (call.value ≡ fields_len (last_of (decode s) id t)) × (call.value ≤ max_proof_len)
  last_written t done =
      let st : State = decode s in
      let len : ℕ = fields_len (last_of st id t) in
      let number : ℕ = last_refusal st id t len (length empty_output) in
      let value = value-given s number len (counted st id) done in
      let rows = last-passed st id t len (length empty_output) (settled-passed s number len (counted st id) done).1 in
      (value, omega (arith, value, rows.fits, output-long))

  -- where last was written, the image has its layout, and its log the entry
  pub last_found : (t : GlobalClock) (nonce : List ℕ) → (last_call s id t (length empty_output)).figures.number ≡ 0
      → FoundIn id t s nonce → nonce ≡ request_nonce id t (decode s).log
  unfolding after
  last_found t nonce done found =
      let st : State = decode s in
      let len : ℕ = fields_len (last_of st id t) in
      let number : ℕ = last_refusal st id t len (length empty_output) in
      let passed = settled-passed s number len (counted st id) done in
      let rows = last-passed st id t len (length empty_output) passed.1 in
      found (sound-laid-out s passed.0) (has-behind id t (decode s).log ((held_of st id).reading.0 - base st) rows.has)

-- ---- prove and last as lines

module _ (s : List ℕ) (b : ℕ) (id : CounterId) (written : Figures) (call : written
    ≡ (prove_call s (byte_nonce b) id (length empty_output)).figures) where
  prove-line-written : written.number ≡ 0 → written.value ≤ max_proof_len
  prove-line-written done = subst⁻¹ (λ (f : Figures). f.value ≤ max_proof_len) call
      (prove-written s id (byte_nonce b) (sym (ap (λ (f : Figures). f.number) call) ∙ done)).1

  pub prove-line-refused : (written.number ≡ 0 → ⊥) → written ≡ (ran s (Command.Prove b id)).figures
  unfolding ran
  prove-line-refused some =
      call
      ∙ sym (shown-refused _ (proof_of (decode s) (byte_nonce b) id) (prove_output s (byte_nonce b) id empty_output) id (byte_nonce b)
      (λ none. some (ap (λ (f : Figures). f.number) call ∙ none)))

  pub prove-line-judged : (output : List ℕ) (judged : Figures) → written.number ≡ 0 → output ≡ prove_output s (byte_nonce b) id empty_output
      → judged ≡ desk_figures (verified (take written.value output) (yes_for Kind.Read written.value) id (byte_nonce b))
      → judged ≡ (ran s (Command.Prove b id)).figures
  unfolding ran
  prove-line-judged output judged done out e =
      let again : (prove_call s (byte_nonce b) id (length empty_output)).figures.number ≡ 0 = sym (ap (λ (f : Figures). f.number) call) ∙ done in
      e
      ∙ ap (λ (vs : List ℕ). desk_figures (verified (take written.value output) vs id (byte_nonce b)))
      (first-yes Kind.Read written.value (prove-line-written done))
      ∙ ap₂ (λ (n : ℕ) (o : List ℕ). desk_figures (verified (take n o) (replicate {A = ℕ} (verdicts_for Kind.Read n) 1) id (byte_nonce b)))
      (ap (λ (f : Figures). f.value) call) out
      ∙ sym (shown-judged _ (proof_of (decode s) (byte_nonce b) id) (prove_output s (byte_nonce b) id empty_output) id (byte_nonce b) again
      (prove-written s id (byte_nonce b) again).0)

module _ (s : List ℕ) (id : CounterId) (t : GlobalClock) (written : Figures) (call : written ≡ (last_call s id t (length empty_output)).figures) where
  last-line-written : written.number ≡ 0 → written.value ≤ max_proof_len
  last-line-written done = subst⁻¹ (λ (f : Figures). f.value ≤ max_proof_len) call (last_written s id t (sym (ap (λ (f : Figures). f.number) call)
      ∙ done)).1

  pub last-line-refused : (written.number ≡ 0 → ⊥) → written ≡ (ran s (Command.Last id t)).figures
  unfolding ran
  last-line-refused some =
      call
      ∙ sym (shown-refused _ (last_of (decode s) id t) (last_output s id t empty_output) id (request_nonce id t (decode s).log)
      (λ none. some (ap (λ (f : Figures). f.number) call ∙ none)))

  pub last-line-judged : (output nonce : List ℕ) (judged : Figures) → written.number ≡ 0 → output ≡ last_output s id t empty_output
      → FoundIn id t s nonce
      → judged ≡ desk_figures (verified (take written.value output) (yes_for Kind.Increment written.value) id nonce)
      → judged ≡ (ran s (Command.Last id t)).figures
  unfolding ran
  last-line-judged output nonce judged done out found e =
      let again : (last_call s id t (length empty_output)).figures.number ≡ 0 = sym (ap (λ (f : Figures). f.number) call) ∙ done in
      e
      ∙ ap (λ (vs : List ℕ). desk_figures (verified (take written.value output) vs id nonce))
      (first-yes Kind.Increment written.value (last-line-written done))
      ∙ ap₂ (λ (n : ℕ) (o : List ℕ). desk_figures (verified (take n o) (replicate {A = ℕ} (verdicts_for Kind.Increment n) 1) id nonce))
      (ap (λ (f : Figures). f.value) call) out
      ∙ ap (λ (l : List ℕ). desk_figures (verified (take (last_call s id t (length empty_output)).figures.value (last_output s id t empty_output))
      (replicate {A = ℕ} (verdicts_for Kind.Increment (last_call s id t (length empty_output)).figures.value) 1) id l))
      (last_found s id t nonce again found)
      ∙ sym (shown-judged _ (last_of (decode s) id t) (last_output s id t empty_output) id (request_nonce id t (decode s).log) again
      (last_written s id t again).0)

-- ---- a batch of one

-- a request stored over as many bytes
pub request-stored : (q : Request) → length q.nonce ≡ nonce_len → overwrite (replicate {A = ℕ} request_len 0) 0 (request_bytes q) ≡ request_bytes q
request-stored q nonce =
    let long = request-length q nonce in
    let room = length-replicate {A = ℕ} request_len 0 in
    overwrite-fits (replicate {A = ℕ} request_len 0) 0 (request_bytes q) (omega (arith, long, room))
    ∙ ap (λ (rest : List ℕ). request_bytes q ++ rest) (nothing (drop (0 + length (request_bytes q)) (replicate {A = ℕ} request_len 0))
    (length-drop (0 + length (request_bytes q)) (replicate {A = ℕ} request_len 0) ∙ (omega (arith, long, room))))
    ∙ append-nil (request_bytes q)
  where
    nothing : (l : List ℕ) → length l ≡ 0 → l ≡ []
    nothing [] none = refl
    nothing (x ∷ l) none = absurd (omega arith)

module _ (s nonce : List ℕ) (id : CounterId) (before : ℕ) (requests : List ℕ) (stored : requests ≡ request_with nonce id before) where
  -- what increment gives for the request
  given : (call : BatchFigures) → call ≡ increment_figures s requests (yes ∷ []) → call ≡ increment_figures s (request_with nonce id before) (yes ∷ [])
  given call answers = answers ∙ ap (λ (l : List ℕ). increment_figures s l (yes ∷ [])) stored

  -- the batch is refused as a whole
  pub increment-refused : (refusal : Refusal) → batch_figures_of (Err refusal) ≡ increment_figures s requests (yes ∷ [])
      → figures_of (Err refusal) ≡ (raised_once s nonce id before).figures
  increment-refused refusal answers =
      sym (ap (λ (b : Bool). record { number = cond b 0 (refusal_number refusal); value = 0 }) (some_number refusal)) ∙ ap single_figures (given _ answers)

  -- or its request has its own number, with the value 0 where it is refused
  pub increment-line : (batch : Batch) → length requests ≡ request_len → batch_figures_of (Ok batch) ≡ increment_figures s requests (yes ∷ [])
      → figures_of (outcome_of_one batch) ≡ (raised_once s nonce id before).figures
  increment-line batch one answers = go (get_or batch.refused 0 None) refl
    where
      number-of : own_number (get_or batch.refused 0 None) ≡ get_or (map own_number batch.refused) 0 0
      number-of = sym (get_or-map own_number batch.refused 0 None)

      line : single_figures (batch_figures_of (Ok batch)) ≡ (raised_once s nonce id before).figures
      line = ap single_figures (given _ answers)

      go : (refused : Option Refusal) → get_or batch.refused 0 None ≡ refused → figures_of (outcome_at refused batch.clock) ≡ (raised_once s nonce id before).figures
      go None e = ap (λ (n : ℕ). record { number = n; value = reading_of batch.clock }) (sym (ap own_number e) ∙ number-of) ∙ line
      go (Some refusal) e =
          let number : refusal_number refusal ≡ get_or (map own_number batch.refused) 0 0 = sym (ap own_number e) ∙ number-of in
          let some : get_or (numbers_of s requests (yes ∷ [])) 0 0 ≡ 0 → ⊥ =
          λ none. false≢true (sym (some_number refusal) ∙ eq-eqb (refusal_number refusal) 0
          (number ∙ ap (λ (f : BatchFigures). get_or f.numbers 0 0) answers ∙ none)) in
          let value : reading_of batch.clock ≡ 0 = ap (λ (f : BatchFigures). f.value) answers ∙ refused-stays s requests yes one some in
          (λ i. record { number = number i; value = sym value i }) ∙ line

  pub increment-image : (image : List ℕ) → image ≡ (increment_call s requests (yes ∷ [])).image → image ≡ (raised_once s nonce id before).image
  increment-image image e = e ∙ ap (λ (l : List ℕ). (increment_call s l (yes ∷ [])).image) stored
