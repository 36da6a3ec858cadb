-- `console::judge::nonce_among` meets its contract: no entry passed is the one looked for. Assumes nothing.
use Rattle.std.proofs.Common.{◌≡◌, refl, sym, ap, subst, ◌∙◌, ℕ, ◌+◌, ◌-◌, ◌≤◌, ◌<◌, arith, eqb-true, false-eqb}
use Rattle.forms.specs.Entry.{count_at, len_of, len_at, entries_at, offset_at}
use Rattle.forms.specs.Limits.{head_len, image_log_offset, image_len, max_requests}
use Rattle.forms.specs.Request.{place_of, requests_at}
use Rattle.forms.specs.declared.terms.GlobalClock.{GlobalClock}
use Rattle.console.specs.Laws.StepLaws.{FoundNonce, found_first, found-later, found-elsewhere, found_none, turn-within, turn-next}
use Rattle.console.proofs.judge.nonce_among.Goals as goal
use Rattle.console.proofs.judge.nonce_among.Goals.{After-count_at-requests, then-eq+else-index-requests, else-eq}

pub loop-init : goal.loop-init
unfolding offset_at
loop-init c =
    let a = c.args in
    let all : a.count - 0 ≡ a.count = omega arith in
    (refl, λ nonce. subst (λ (n : ℕ). FoundNonce a.id a.t (entries_at a.image.now image_log_offset n) nonce) all)

-- the entry that a turn looks at stands within the image, and so do its requests
within : (c : After-count_at-requests) → (c.loop.offset ≤ image_len) × (c.count_at-requests.result ≤ max_requests)
within c =
    let turn = c.loop in
    let bounds = turn-within c.args.image.now c.args.count turn.counter turn.offset c.requires.0 c.requires.1 c.loop-test.true turn.invariant.0 in
    (bounds.0, subst (λ (n : ℕ). n ≤ max_requests) (sym c.count_at-requests.ensures) bounds.1)

pub overflow_add-offset : goal.overflow_add-offset
overflow_add-offset c =
    let bounds = within (goal.at.overflow_add-offset c).After-count_at-requests in omega (arith, bounds.0)

pub returns-then-index-requests : goal.returns-then-index-requests
returns-then-index-requests c =
    let a = c.args in
    let s = a.image.now in
    let turn = c.loop in
    let index : c.find-index.result ≡ place_of a.id (requests_at s (turn.offset + head_len) (count_at s turn.offset)) =
    c.find-index.ensures ∙ ap (λ (n : ℕ). place_of a.id (requests_at s (turn.offset + head_len) n)) c.count_at-requests.ensures in
    turn.invariant.1 c.nonce_at.result
    (found_first a.id a.t s turn.offset (a.count - turn.counter) c.nonce_at.result (omega (arith, c.loop-test.true)) c.find-index.result index
    (sym (ap (λ (r : GlobalClock). r.0) c.reading_at.ensures) ∙ eqb-true _ _ (sym c.eq.ensures ∙ c.if-eq.true))
    (subst (λ (n : ℕ). c.find-index.result < n) c.count_at-requests.ensures c.if-index-requests.true)
    c.nonce_at.ensures)

pub overflow_add-offset-in-loop : goal.overflow_add-offset-in-loop
overflow_add-offset-in-loop c =
    let bounds = within (goal.at.overflow_add-offset-in-loop c).After-count_at-requests in
    omega (arith, bounds.0, bounds.1, c.entry_len-offset.ensures)

-- a turn that goes on has not found it
pub loop-preserved : goal.loop-preserved
loop-preserved c =
    let a = c.args in
    let s = a.image.now in
    let turn = c.loop in
    let left = a.count - turn.counter in
    let some : 0 < left = omega (arith, c.loop-test.true) in
    let fewer : a.count - (turn.counter + 1) ≡ left - 1 = omega arith in
    let long : c.entry_len-offset.result ≡ len_at s turn.offset = c.entry_len-offset.ensures ∙ ap len_of c.count_at-requests.ensures in (
      ap (λ (n : ℕ). turn.offset + n) long
          ∙ turn-next s a.count turn.counter turn.offset c.requires.0 c.requires.1 c.loop-test.true turn.invariant.0,
      λ nonce behind.
          let others =
          subst (λ (n : ℕ). FoundNonce a.id a.t (entries_at s (turn.offset + n) (left - 1)) nonce) long
          (subst (λ (n : ℕ). FoundNonce a.id a.t (entries_at s (turn.offset + c.entry_len-offset.result) n) nonce) fewer behind) in
          turn.invariant.1 nonce
          (elim c.if-eq.branch [
            | then-eq+else-index-requests w ↦
                let at = w.find-index.ensures ∙ ap (λ (n : ℕ). place_of a.id (requests_at s (turn.offset + head_len) n))
                c.count_at-requests.ensures in
                found-elsewhere a.id a.t s turn.offset left nonce some w.find-index.result at
                (subst (λ (n : ℕ). n ≤ w.find-index.result) c.count_at-requests.ensures w.if-index-requests.false) others
            | else-eq w ↦
                found-later a.id a.t s turn.offset left nonce some
                (λ same. false-eqb _ _ (sym w.if-eq.false ∙ c.eq.ensures) (ap (λ (r : GlobalClock). r.0) c.reading_at.ensures ∙ same)) others
          ]),
    )

pub returns : goal.returns
returns c =
    let a = c.args in
    let turn = c.loop in
    turn.invariant.1 _ (found_none a.id a.t a.image.now turn.offset (a.count - turn.counter) _ (omega (arith, c.loop-test.false)))
