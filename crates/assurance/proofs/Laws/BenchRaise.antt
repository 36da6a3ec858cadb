-- A tablet's raise, which is a batch of one: it is answered as any call is, with the number that the request has in its own table. And what that
-- number says of the state: 22 where the belief is not the counter's current value, and 0 where it is and log and clock leave room. Document 02,
-- Note 8. Assumes nothing.
use Rattle.std.specs.Prelude.{ℕ, ◌+◌, ◌-◌, ◌*◌, ◌/◌, ◌%◌, ◌≡◌, Bool, true, cond, ◌&&◌, ◌||◌, eqb, ltb, length, get_or, replicate, refl, false, not, List, [], ◌∷◌, ◌++◌}
use Rattle.std.proofs.Common.{sym, subst, ◌∙◌, arith, eqb-true, eq-eqb, ap, ap₂, append-nil}
use Rattle.std.proofs.lemmas.Bool.{false≢true, eqb-false}
use Rattle.forms.specs.Bytes.{Bytes}
use Rattle.forms.specs.Entry.{units}
use Rattle.forms.specs.Limits.{max_word, max_requests, max_units, nonce_len, request_len}
use Rattle.forms.specs.Number.{digits}
use Rattle.forms.specs.Laws.NumberLaws.{bytes-digits}
use Rattle.forms.specs.Request.{RequestFits, names, request_at, request_bytes}
use Rattle.forms.specs.Laws.RequestLaws.{request-bytes, request-length}
use Rattle.forms.specs.declared.request.Request.{Request}
use Rattle.log_image.specs.Laws.ImageParts.{bytes-append, bytes-replicate}
use Rattle.log_image.specs.Laws.LookupLaws.{zero-unheld}
use Rattle.log_image.specs.Sound.{holds, sound_state, sound}
use Rattle.log_image.specs.State.{State, decode, encode}
use Rattle.log_store.specs.Effect.{incremented}
use Rattle.host.specs.Host.{Batch, Settled, answered, asked, asked_from, bad_batch, current_of, increment_call, judge_next, judged_batch, numbers_of, request_refusal, settled}
use Rattle.host.proofs.Laws.SettledLaws.{answered-done, settled-done, settled-refused}
use Rattle.host.proofs.Laws.SoundParts.{sound-parts}
use Rattle.host.specs.declared.answer.Figures.{Figures}
use Rattle.console.specs.Step.{raised_once, yes}
use Rattle.tablets.specs.Tablet.{nonce_for}
use Rattle.assurance.proofs.Laws.HostSteps.{Kept, Steady, batch-steady}
use Rattle.assurance.proofs.Laws.ProgramLines.{request-with-bytes}

-- ---- a tablet's nonces

pub nonce-long : (purpose round number : ℕ) → length (nonce_for purpose round number) ≡ nonce_len
unfolding nonce_for
nonce-long purpose round number = refl

pub nonce-bytes : (purpose round number : ℕ) → Bytes (nonce_for purpose round number)
unfolding nonce_for
nonce-bytes purpose round number =
    bytes-append (digits 4 purpose) _ (bytes-digits 4 purpose)
    (bytes-append (digits 4 round) _ (bytes-digits 4 round) (bytes-append (digits 4 number) _ (bytes-digits 4 number) (bytes-replicate 8)))

-- ---- a batch of one

module _ (s : List ℕ) (q : Request) (fits : RequestFits q) where
  abbrev st : State
  st = decode s

  -- the request's own number
  abbrev own : ℕ
  own = request_refusal st [] q yes

  one-good : bad_batch (request_bytes q) (yes ∷ []) ≡ false
  one-good =
      ap (λ (n : ℕ). (eqb n 0 || ltb (request_len * max_requests) n) || (not (eqb (n % request_len) 0) || not (eqb 1 (n / request_len))))
      (request-length q fits.nonce)

  one-asked : asked (request_bytes q) (yes ∷ []) ≡ record { request = q; verdict = yes } ∷ []
  unfolding asked_from
  one-asked =
      ap (λ (n : ℕ). asked_from (request_bytes q) (yes ∷ []) 0 (n / request_len)) (request-length q fits.nonce)
      ∙ ap (λ (r : Request). record { request = r; verdict = yes } ∷ [])
      (ap (λ (l : List ℕ). request_at l 0) (sym (append-nil (request_bytes q))) ∙ request-bytes q [] fits)

  one-judged : judged_batch st (asked (request_bytes q) (yes ∷ [])) ≡ record { numbers = own ∷ []; passed = cond (eqb own 0) (q ∷ []) [] }
  unfolding judged_batch judge_next names
  one-judged = ap (judged_batch st) one-asked

  -- what is answered for a batch with one number, from what the increment answers
  abbrev shown_of : Bool → Settled → List ℕ → Settled
  shown_of is r numbers =
      let listed : List ℕ = cond is numbers [] in
      record {
        figures = record {
          number = cond (eqb r.figures.number 0) (get_or (listed ++ replicate {A = ℕ} (max_requests - length listed) 0) 0 0) r.figures.number;
          value = r.figures.value;
        };
        image = r.image;
      }

  abbrev call_of : Bool → List Request → Settled
  call_of bad qs =
      cond (eqb (length qs) 0)
      (record { figures = answered s (cond bad 16 0) 0; image = s })
      (settled s (cond bad 16 0) (st.clock.0 + 1) (incremented st qs))

  -- as any call's: the request's number and, where it passed, the new clock and the image with its increment
  pub raise-settled : sound s ≡ true → raised_once s q.nonce q.id q.before ≡ settled s own (st.clock.0 + 1) (incremented st (q ∷ []))
  unfolding increment_call numbers_of
  raise-settled is =
      ap₂ (λ (bad : Bool) (b : Batch). shown_of (sound s && not bad) (call_of bad b.passed) b.numbers) one-good one-judged
      ∙ ap (λ (b : Bool). shown_of (b && true) (call_of false (cond (eqb own 0) (q ∷ []) [])) (own ∷ [])) is
      ∙ go (eqb own 0) refl
    where
      next : State
      next = incremented st (q ∷ [])

      go : (b : Bool) → eqb own 0 ≡ b → shown_of true (call_of false (cond b (q ∷ []) [])) (own ∷ []) ≡ settled s own (st.clock.0 + 1) next
      go true e =
          ap (λ (r : Settled). shown_of true r (own ∷ [])) (settled-done s 0 (st.clock.0 + 1) next is refl)
          ∙ ap (λ (n : ℕ). record { figures = record { number = n; value = st.clock.0 + 1 }; image = encode next }) (eqb-true own 0 e)
          ∙ sym (settled-done s own (st.clock.0 + 1) next is (eqb-true own 0 e))
      go false e =
          ap (λ (f : Figures). shown_of true (record { figures = f; image = s }) (own ∷ [])) (answered-done s 0 0 is refl)
          ∙ sym (settled-refused s own (st.clock.0 + 1) next is (eqb-false own 0 e))

  -- and the state of that increment is one that an image may say
  pub raise-steady : Kept s → own ≡ 0 → Steady (incremented st (q ∷ []))
  raise-steady kept none =
      let passed = ap (λ (b : Batch). b.passed) one-judged ∙ ap (λ (b : Bool). cond {A = List Request} b (q ∷ []) []) (eq-eqb own 0 none) in
      subst (λ (qs : List Request). Steady (incremented st qs)) passed
      (batch-steady s kept (request_bytes q) (yes ∷ []) (request-with-bytes q.nonce q.id q.before fits.bytes)
      (λ empty. let no : ⊥ = omega (arith, empty, ap length passed) in no) (ap (λ (b : Bool). cond {A = ℕ} b 16 0) one-good))

-- ---- what the number says

-- how a request is judged by a sound state, behind no other of its batch
pub data Judged (st : State) (q : Request) : ℕ → Type 0 where
  unnamed : holds st.records q.id ≡ false → Judged st q 16
  unheld : holds st.records q.id ≡ false → Judged st q 17
  stale : holds st.records q.id ≡ true → (q.before ≡ current_of st q.id → ⊥) → Judged st q 22
  full : holds st.records q.id ≡ true → q.before ≡ current_of st q.id → units st.log ≡ max_units → Judged st q 24
  spent : holds st.records q.id ≡ true → q.before ≡ current_of st q.id → st.clock.0 ≡ max_word → Judged st q 25
  passed : holds st.records q.id ≡ true → q.before ≡ current_of st q.id → Judged st q 0

pub judged : (st : State) (q : Request) → sound_state st ≡ true → Judged st q (request_refusal st [] q yes)
unfolding names
judged st q is =
    go (eqb q.id.0 0) refl (holds st.records q.id) refl (eqb q.before (current_of st q.id)) refl
    (eqb (units st.log + 0) max_units) refl (eqb st.clock.0 max_word) refl
  where
    go : (zero-id : Bool) → eqb q.id.0 0 ≡ zero-id → (held : Bool) → holds st.records q.id ≡ held
        → (now : Bool) → eqb q.before (current_of st q.id) ≡ now → (no_room : Bool) → eqb (units st.log + 0) max_units ≡ no_room
        → (last : Bool) → eqb st.clock.0 max_word ≡ last
        → Judged st q (cond zero-id 16 (cond (not held) 17 (cond (not now) 22 (cond no_room 24 (cond last 25 0)))))
    go true e held f now g no_room h last k = unnamed (zero-unheld st.records q.id (sound-parts st is).differ (eqb-true q.id.0 0 e))
    go false e false f now g no_room h last k = unheld f
    go false e true f false g no_room h last k = stale f (eqb-false q.before (current_of st q.id) g)
    go false e true f true g true h last k =
        full f (eqb-true q.before (current_of st q.id) g) (omega (arith, eqb-true (units st.log + 0) max_units h))
    go false e true f true g false h true k = spent f (eqb-true q.before (current_of st q.id) g) (eqb-true st.clock.0 max_word k)
    go false e true f true g false h false k = passed f (eqb-true q.before (current_of st q.id) g)

module _ {st : State} {q : Request} where
  -- the current value believed, with room in the log and on the clock
  pub judged-open : {n : ℕ} → Judged st q n → holds st.records q.id ≡ true → q.before ≡ current_of st q.id
      → (units st.log ≡ max_units → ⊥) → (st.clock.0 ≡ max_word → ⊥) → n ≡ 0
  judged-open (unnamed away) held now room runs = absurd (false≢true (sym away ∙ held))
  judged-open (unheld away) held now room runs = absurd (false≢true (sym away ∙ held))
  judged-open (stale there other) held now room runs = absurd (other now)
  judged-open (full there same is) held now room runs = absurd (room is)
  judged-open (spent there same is) held now room runs = absurd (runs is)
  judged-open (passed there same) held now room runs = refl

  -- another value believed
  pub judged-stale : {n : ℕ} → Judged st q n → holds st.records q.id ≡ true → (q.before ≡ current_of st q.id → ⊥) → n ≡ 22
  judged-stale (unnamed away) held other = absurd (false≢true (sym away ∙ held))
  judged-stale (unheld away) held other = absurd (false≢true (sym away ∙ held))
  judged-stale (stale there away) held other = refl
  judged-stale (full there same is) held other = absurd (other same)
  judged-stale (spent there same is) held other = absurd (other same)
  judged-stale (passed there same) held other = absurd (other same)

  -- where only room is missing, the current value was believed
  pub judged-full : {n : ℕ} → Judged st q n → n ≡ 24 → q.before ≡ current_of st q.id
  judged-full (unnamed away) e = absurd (omega arith)
  judged-full (unheld away) e = absurd (omega arith)
  judged-full (stale there other) e = absurd (omega arith)
  judged-full (full there same is) e = same
  judged-full (spent there same is) e = same
  judged-full (passed there same) e = same
