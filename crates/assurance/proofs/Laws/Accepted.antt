-- What an accepted call has shown: number 0 means that no row of the desk's table held, and here is what that says of the proof, of its
-- verdicts, and of the value, the openings and the closing reading. Assumes nothing.
use Rattle.std.specs.Prelude.{ℕ, ◌+◌, ◌-◌, ◌≤◌, ◌≡◌, Bool, true, false, cond, length, get_or, refl, Ok, Err}
use Rattle.std.proofs.Common.{sym, ap, ◌∙◌}
use Rattle.forms.specs.Chain.{follows_by}
use Rattle.forms.specs.declared.running.Running.{Running}
use Rattle.forms.specs.Limits.{nonce_len}
use Rattle.forms.specs.Request.{names, before_of, nonce_of, names_twice}
use Rattle.forms.specs.Terms.{global_clock}
use Rattle.digest.specs.Seal.{is_sealed}
use Rattle.validity.specs.Proof.{shape_at, log_offset, parsed, read_number, Parsed}
use Rattle.validity.specs.declared.proof.ParseError.{ParseError}
use Rattle.validity.specs.Laws.ProofLaws.{Reads, parsed-reads, reads-parsed}
use Rattle.validity.specs.declared.proof.Kind.{Kind}
use Rattle.validity.specs.declared.proof.Proof.{Proof}
use Rattle.desk_table.specs.Answer.{figures, Answer, refuses}
use Rattle.desk_table.specs.Desk.{confirmation, certificate, verdicts_before, verdict_count, is_own, running_to, bad_wanted, module_denied, forged, repeated, wrong_reading, breaks_chain, later_checks, accepted, judged, verified}
use Rattle.desk_table.proofs.Laws.DeskLaws.{answer_of, verified-parsed}
use Rattle.desk_table.proofs.Laws.LowestLaws.{lowest-clear}
use Rattle.assurance.specs.DeskList.{Call, shown, Accepted, closes, kind_of, call_entry, module_said, owner_said}
use Rattle.assurance.proofs.Laws.Rows.{test, refusal-passed, rows-passed, answer-behind, none-lowest, wanted-some, verdicts-right, confirmation-right, said-yes, certificate-said, module-said, digest-right, named-once, certificate-closes, last-closes, last-stands, readings-right, closing-right, closing-read, chain-right}

-- how many entries the proof of a call has
abbrev pub count_of : Call → ℕ
count_of c = (shape_at c.proof).count

-- whether an entry is the wanted counter's own, and running value and count behind the first k, in the proof of a call
abbrev pub own_of : Call → ℕ → Bool
own_of c k = is_own c.proof (log_offset (kind_of c)) c.verdicts (verdicts_before (kind_of c)) c.id k

abbrev pub running_in : Call → ℕ → Running
running_in c k = running_to c.proof (log_offset (kind_of c)) c.verdicts (verdicts_before (kind_of c)) c.id (confirmation c.proof).value k

-- value and openings that a call shows
abbrev pub running_of : Call → Running
running_of c = record { value = (shown c).value; openings = (shown c).openings }

-- what the table says of an accepted call, in its order
pub record Passed (c : Call) : Type 0 where
  -- 1
  pub counter : c.id.0 ≡ 0 → ⊥
  pub nonce : length c.nonce ≡ nonce_len
  -- 2 to 5; a proof of kind 2 has a last entry
  pub reads : Reads c.proof
  pub last : kind_of c ≡ Kind.Increment → 1 ≤ count_of c
  -- 6
  pub verdicts : length c.verdicts ≡ verdict_count c.proof (shape_at c.proof)
  pub zero-or-one : (k : ℕ) → get_or c.verdicts k 0 ≤ 1
  -- 7
  pub own : (confirmation c.proof).id ≡ c.id
  pub low : (confirmation c.proof).value ≤ (confirmation c.proof).reading.0
  -- 8
  pub confirmation-yes : get_or c.verdicts 0 0 ≡ 1
  -- 9
  pub certificate-yes : kind_of c ≡ Kind.Read → get_or c.verdicts 1 0 ≡ 1
  pub module-yes : (k : ℕ) → 1 ≤ k → k ≤ count_of c → module_said c k ≡ 1
  -- 30
  pub digest : (k : ℕ) → 1 ≤ k → k ≤ count_of c → is_sealed (call_entry c k) ≡ true
  -- 31
  pub once : (k : ℕ) → 1 ≤ k → k ≤ count_of c → names_twice (call_entry c k).requests ≡ false
  -- 10
  pub certificate-nonce : kind_of c ≡ Kind.Read → (certificate c.proof).nonce ≡ c.nonce
  pub last-own : kind_of c ≡ Kind.Increment → names c.id (call_entry c (count_of c)).requests ≡ true
  pub last-yes : kind_of c ≡ Kind.Increment → owner_said c (count_of c) ≡ 1
  pub last-nonce : kind_of c ≡ Kind.Increment → nonce_of c.id (call_entry c (count_of c)).requests ≡ c.nonce
  -- 11
  pub readings : (k : ℕ) → 1 ≤ k → k ≤ count_of c → (call_entry c k).reading ≡ global_clock ((confirmation c.proof).reading.0 + k)
  pub certificate-reading : kind_of c ≡ Kind.Read → (certificate c.proof).reading ≡ closes c
  -- 13
  pub chained : (k : ℕ) → 1 ≤ k → k ≤ count_of c → follows_by (own_of c k) (running_in c (k - 1)).value (before_of c.id (call_entry c k).requests) ≡ true
  -- what is shown
  pub running : running_of c ≡ running_in c (count_of c)
  pub closing : closes c ≡ global_clock ((confirmation c.proof).reading.0 + count_of c)

-- an answer with number 0 was given to bytes that read as a proof
judged-read : (judge : Proof → Answer) (r : Parsed) → (figures (answer_of judge r)).number ≡ 0 → read_number r ≡ 0
judged-read judge (Err ParseError.TooShort) accepted-too = accepted-too
judged-read judge (Err ParseError.UnknownForm) accepted-too = accepted-too
judged-read judge (Err ParseError.BadCount) accepted-too = accepted-too
judged-read judge (Err ParseError.BadLayout) accepted-too = accepted-too
judged-read judge (Ok p) accepted-too = refl

-- what checks 1 to 5 leave of an accepted call: its proof reads, and the answer is that of judging it
record Begun (c : Call) : Type 0 where
  wanted : bad_wanted c.id c.nonce ≡ false
  reads : Reads c.proof
  answer : verified c.proof c.verdicts c.id c.nonce ≡ judged (shape_at c.proof) c.proof c.verdicts c.id c.nonce

-- an accepted call passed them
begun : (c : Call) → Accepted c → Begun c
begun c is-accepted =
    let judge : Proof → Answer = λ p. judged p c.proof c.verdicts c.id c.nonce in
    let whole = verified-parsed c.proof c.verdicts c.id c.nonce in
    let one = refusal-passed (bad_wanted c.id c.nonce) (refuses 1 0) (answer_of judge (parsed c.proof)) refl
    (ap (λ (a : Answer). (figures a).number) (sym whole) ∙ is-accepted)
    in
    let reads = parsed-reads c.proof (judged-read judge (parsed c.proof) one.1) in
    record {
      wanted = one.0;
      reads = reads;
      answer =
          whole
          ∙ ap (λ (held : Bool). cond held (refuses 1 0) (answer_of judge (parsed c.proof))) one.0
          ∙ ap (answer_of judge) (reads-parsed c.proof reads);
    }

module _ (c : Call) (is-accepted : Accepted c) where
  -- none of checks 6 to 13 holds
  later-passed : (k : ℕ) → test (later_checks (shape_at c.proof) c.proof c.verdicts c.id c.nonce) k ≡ false
  unfolding judged
  later-passed =
      rows-passed (later_checks (shape_at c.proof) c.proof c.verdicts c.id c.nonce) (accepted (shape_at c.proof) c.proof c.verdicts c.id) refl
      (ap (λ (a : Answer). (figures a).number) (sym (begun c is-accepted).answer) ∙ is-accepted)

  -- so the answer is the one behind the table
  answered : verified c.proof c.verdicts c.id c.nonce ≡ accepted (shape_at c.proof) c.proof c.verdicts c.id
  unfolding judged
  answered =
      (begun c is-accepted).answer
      ∙ answer-behind (later_checks (shape_at c.proof) c.proof c.verdicts c.id c.nonce) (accepted (shape_at c.proof) c.proof c.verdicts c.id)
      later-passed

  -- number 0 means that every row was passed
  pub accepted-passed : Passed c
  accepted-passed =
      let s = c.proof in
      let n = count_of c in
      let log = log_offset (kind_of c) in
      let before = verdicts_before (kind_of c) in
      let start = begun c is-accepted in
      let wanted = wanted-some c.id c.nonce start.wanted in
      let verdicts = verdicts-right (shape_at s) s c.verdicts (later-passed 0) in
      let confirmed = confirmation-right (confirmation s) c.id (later-passed 1) in
      let elsewhere = later-passed 7 in
      let last = last-closes (kind_of c) n s c.verdicts c.id c.nonce wanted.1 elsewhere in
      let some = last-stands (kind_of c) n start.reads.counted in
      let readings = readings-right s log (confirmation s).reading n
      (lowest-clear (wrong_reading s log (confirmation s).reading) n (none-lowest _ (later-passed 8)))
      in
      let ends = closing-right (kind_of c) n s (later-passed 9) some readings in
      let closed = ap (λ (a : Answer). global_clock (figures a).closing) answered in
      record {
        counter = wanted.0;
        nonce = wanted.1;
        reads = start.reads;
        last = some;
        verdicts = verdicts.0;
        zero-or-one = verdicts.1;
        own = confirmed.0;
        low = confirmed.1;
        confirmation-yes = said-yes (get_or c.verdicts 0 0) (verdicts.1 0) (later-passed 2);
        certificate-yes = λ read. said-yes (get_or c.verdicts 1 0) (verdicts.1 1) (certificate-said (kind_of c) c.verdicts (later-passed 3) read);
        module-yes = λ k one_up up_to_lem.
            said-yes (module_said c k) (verdicts.1 _)
            (module-said s log c.verdicts before n (lowest-clear (module_denied s log c.verdicts before) n (none-lowest _ (later-passed 4))) k one_up up_to_lem);
        digest = digest-right s log n (lowest-clear (forged s log) n (none-lowest _ (later-passed 5)));
        once = named-once s log n (lowest-clear (repeated s log) n (none-lowest _ (later-passed 6)));
        certificate-nonce = certificate-closes (kind_of c) n s c.verdicts c.id c.nonce wanted.1 elsewhere;
        last-own = λ increment. (last increment).0;
        last-yes = λ increment. said-yes (owner_said c n) (verdicts.1 _) (last increment).1;
        last-nonce = λ increment. (last increment).2;
        readings = readings;
        certificate-reading = λ read. sym (closed ∙ closing-read (kind_of c) n s read);
        chained =
            chain-right s log c.verdicts before c.id (confirmation s).value n
            (lowest-clear (breaks_chain s log c.verdicts before c.id (confirmation s).value) n (none-lowest _ (later-passed 10)));
        running = ap (λ (a : Answer). record { value = (figures a).value; openings = (figures a).openings }) answered;
        closing = closed ∙ ends;
      }
