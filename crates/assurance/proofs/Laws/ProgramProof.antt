-- The program's lines, proved: behind a start that was done no line finds the image unsound, and every proof that the host writes is shown with
-- 0 and its value. Assumes nothing.
use Rattle.std.specs.Prelude.{◌≡◌, refl, Bool, true, false, not, cond, ◌&&◌, eqb, length, get_or, take, replicate, ℕ, zero, suc, ◌-◌, List, [], ◌∷◌, ◌++◌}
use Rattle.std.proofs.Common.{sym, ap, ◌∙◌, arith, eqb-true, eq-eqb}
use mathlib.Core.List.{foldl}
use Rattle.std.proofs.lemmas.List.{length-replicate}
use Rattle.forms.specs.Limits.{image_len, max_requests}
use Rattle.forms.specs.declared.running.Running.{Running}
use Rattle.forms.specs.declared.terms.CounterId.{CounterId}
use Rattle.forms.specs.declared.terms.GlobalClock.{GlobalClock}
use Rattle.validity.specs.Proof.{Fields}
use Rattle.desk_table.specs.Desk.{all_yes, verified}
use Rattle.desk_table.specs.declared.answer.Figures.{Figures as DeskFigures}
use Rattle.log_image.specs.Sound.{sound}
use Rattle.log_image.specs.State.{State, decode}
use Rattle.host.specs.Host.{request_rows, bad_batch, Asked, asked, Batch, none_judged, judge_next, judged_batch, numbers_of, start_call, increment_call, increment_figures, prove_call, last_call, proof_of, last_of, prove_output, last_output, request_nonce}
use Rattle.host.specs.declared.answer.Figures.{Figures}
use Rattle.grammar.specs.declared.command.Command.{Command}
use Rattle.console.specs.Session.{line_command}
use Rattle.console.specs.Step.{byte_nonce, empty_output, yes, desk_figures, request_of, single_figures, shown, ran}
use Rattle.assurance.specs.HostList.{HostCall, Widths, Taken, last_running, read_running}
use Rattle.assurance.proofs.Laws.HostProof.{prove-fair, last-fair}
use Rattle.assurance.proofs.Laws.HostSteps.{Kept, Steps, rows_other, start-steps, call-steps}
use Rattle.assurance.proofs.Laws.ProgramLines.{call_of, line-fits}
use Rattle.assurance.specs.ProgramList.{Prints, Along, ProgramClaim}

-- ---- a proof that was written

-- the desk's figures where it accepts
shown-taken : (written : Figures) (fields : Fields) (output : List ℕ) (id : CounterId) (nonce : List ℕ) (running : Running) (closing : GlobalClock) → written.number ≡ 0
    → Taken (take written.value output) fields id nonce running closing → shown written fields output id nonce ≡ record { number = 0; value = running.value }
unfolding shown
shown-taken written fields output id nonce running closing done taken =
    ap (λ (b : Bool). cond b (desk_figures (verified (take written.value output) (all_yes fields) id nonce)) written) (eq-eqb written.number 0 done)
    ∙ ap (λ (f : DeskFigures). record { number = f.number; value = f.value }) taken.accepted

-- it shows no 14 where the host answers none
never-14 : (written : Figures) (fields : Fields) (output : List ℕ) (id : CounterId) (nonce : List ℕ) (value : ℕ)
    → (written.number ≡ 0 → shown written fields output id nonce ≡ record { number = 0; value = value }) → (written.number ≡ 14 → ⊥)
    → (shown written fields output id nonce).number ≡ 14 → ⊥
unfolding shown
never-14 written fields output id nonce value done other e = by-test (eqb written.number 0) refl
  where
    by-test : (t : Bool) → eqb written.number 0 ≡ t → ⊥
    by-test true is = let zero-shown = ap (λ (f : Figures). f.number) (done (eqb-true written.number 0 is)) in omega (arith, e, zero-shown)
    by-test false is = other (sym (ap (λ (b : Bool). (cond b (desk_figures (verified (take written.value output) (all_yes fields) id nonce)) written).number) is) ∙ e)

-- ---- a batch of one

-- none of some numbers is 14
abbrev Other : List ℕ → Type 0
Other numbers = (k : ℕ) → get_or numbers k 0 ≡ 14 → ⊥

-- one number more
other-snoc : (numbers : List ℕ) (number : ℕ) → Other numbers → (number ≡ 14 → ⊥) → Other (numbers ++ (number ∷ []))
other-snoc [] number others other zero e = other e
other-snoc [] number others other (suc k) e = omega arith
other-snoc (n ∷ numbers) number others other zero e = others 0 e
other-snoc (n ∷ numbers) number others other (suc k) e = other-snoc numbers number (λ j. others (suc j)) other k e

-- the numbers of a batch's requests, behind others
judged-other : (st : State) (b : Batch) (requests : List Asked) → Other b.numbers → Other (foldl (judge_next st) b requests).numbers
unfolding judge_next
judged-other st b [] others = others
judged-other st b (a ∷ requests) others =
    judged-other st (judge_next st b a) requests
    (other-snoc b.numbers _ others (rows_other (request_rows st b.passed a.request a.verdict) refl))

first-other : (numbers : List ℕ) (n : ℕ) → Other numbers → get_or (numbers ++ replicate {A = ℕ} n 0) 0 0 ≡ 14 → ⊥
first-other [] zero others e = omega arith
first-other [] (suc n) others e = omega arith
first-other (x ∷ numbers) n others e = others 0 e

-- what a line shows of it is no 14 where the batch has none
single-other : (s requests verdicts : List ℕ) → ((increment_call s requests verdicts).figures.number ≡ 14 → ⊥)
    → (single_figures (increment_figures s requests verdicts)).number ≡ 14 → ⊥
unfolding numbers_of judged_batch
single-other s requests verdicts other =
    by-test (eqb (increment_call s requests verdicts).figures.number 0) (sound s && not (bad_batch requests verdicts))
  where
    judged : Bool → List ℕ
    judged b = cond b (foldl (judge_next (decode s)) none_judged (asked requests verdicts)).numbers []

    none_other : (b : Bool) → Other (judged b)
    none_other true = judged-other (decode s) none_judged (asked requests verdicts) (λ k e. omega arith)
    none_other false = λ k e. omega arith

    by-test : (t b : Bool)
        → cond t (get_or (judged b ++ replicate {A = ℕ} (max_requests - length (judged b)) 0) 0 0) (increment_call s requests verdicts).figures.number ≡ 14 → ⊥
    by-test true b e = first-other (judged b) (max_requests - length (judged b)) (none_other b) e
    by-test false b e = other e

-- ---- a line

record LineKept (s : List ℕ) (c : Command) : Type 0 where
  found-sound : (ran s c).figures.number ≡ 14 → ⊥
  shows : Prints s c
  kept : Kept (ran s c).image

module _ (s : List ℕ) (kept : Kept s) where
  -- a command that shows what the host answers
  plain : (c : Command) → Prints s c → Steps (ran s c) → LineKept s c
  plain c shows steps = record { found-sound = steps.found-sound; shows = shows; kept = steps.kept }

  command-kept : (c : Command) → Widths (call_of c) → LineKept s c
  unfolding ran
  command-kept (Command.Prove b id) widths =
      let call = HostCall.prove (byte_nonce b) id empty_output in
      let steps = call-steps s kept call widths in
      let shows : Prints s (Command.Prove b id) = λ done.
      shown-taken (prove_call s (byte_nonce b) id (length empty_output)).figures (proof_of (decode s) (byte_nonce b) id) (prove_output s (byte_nonce b) id empty_output) id (byte_nonce b)
      (read_running s id) (decode s).clock done (prove-fair s kept (byte_nonce b) id empty_output widths.1 done).1 in
      record { found-sound = never-14 _ _ _ id (byte_nonce b) _ shows steps.found-sound; shows = shows; kept = steps.kept }
  command-kept (Command.Last id t) widths =
      let call = HostCall.last id t empty_output in
      let steps = call-steps s kept call widths in
      let nonce : List ℕ = request_nonce id t (decode s).log in
      let shows : Prints s (Command.Last id t) = λ done.
      shown-taken (last_call s id t (length empty_output)).figures (last_of (decode s) id t) (last_output s id t empty_output) id nonce (last_running s id t) t done
      (last-fair s kept id t empty_output widths done) in
      record { found-sound = never-14 _ _ _ id nonce _ shows steps.found-sound; shows = shows; kept = steps.kept }
  command-kept (Command.Start clock) widths = plain (Command.Start clock) tt (call-steps s kept (HostCall.start clock) widths)
  command-kept (Command.Open c) widths = plain (Command.Open c) tt (call-steps s kept (HostCall.«open» c yes) widths)
  command-kept (Command.Tick b) widths = plain (Command.Tick b) tt (call-steps s kept (HostCall.tick (byte_nonce b)) widths)
  command-kept (Command.Increment b id before) widths =
      let steps = call-steps s kept (HostCall.increment (request_of b id before) (yes ∷ [])) widths in
      record { found-sound = single-other s (request_of b id before) (yes ∷ []) steps.found-sound; shows = tt; kept = steps.kept }
  command-kept (Command.Read id) widths = plain (Command.Read id) tt (call-steps s kept (HostCall.read id) widths)
  command-kept (Command.Confirm c) widths = plain (Command.Confirm c) tt (call-steps s kept (HostCall.confirm c yes) widths)
  command-kept Command.Other widths = record { found-sound = λ e. omega arith; shows = tt; kept = kept }

-- ---- all lines

along : (s : List ℕ) (ls : List (List ℕ)) → Kept s → Along s ls
unfolding Along
along s [] kept = tt
along s (l ∷ ls) kept =
    let line = command-kept s kept (line_command l) (line-fits l) in
    (line.found-sound, line.shows, along (ran s (line_command l)).image ls line.kept)

pub program-claim : ProgramClaim
program-claim clock ls small =
    along (start_call (replicate {A = ℕ} image_len 0) clock).image ls
    (start-steps (replicate {A = ℕ} image_len 0) clock (length-replicate {A = ℕ} image_len 0) small).kept
