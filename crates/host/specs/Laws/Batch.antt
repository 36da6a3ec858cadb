-- How the code holds a batch half judged: the refusals in their places, and those that passed, joined. Assumes nothing.
use Rattle.std.specs.Prelude.{ℕ, ◌+◌, ◌-◌, ◌*◌, ◌≤◌, ◌≡◌, cond, List, ◌++◌, eqb, length, map, replicate, set, take, None, Option, Result}
use Rattle.std.specs.Result.{result_err}
use Rattle.forms.specs.Bytes.{overwrite, window}
use Rattle.forms.specs.Limits.{max_requests, request_len}
use Rattle.forms.specs.Request.{RequestsFit, joined}
use Rattle.forms.specs.Refusal.{outcome_number}
use Rattle.forms.specs.declared.refusal.Refusal.{Refusal}
use Rattle.host.specs.Host.{Batch}
use Rattle.host.specs.Outcome.{own_number}
use Rattle.host.specs.declared.batch.Judged.{Judged}

-- before the first request
abbrev pub unjudged : Judged
unjudged = record { refused = replicate {A = Option Refusal} max_requests None; passed = replicate {A = ℕ} (request_len * max_requests) 0; count = 0 }

-- request i is judged: its refusal is kept in its place and, where it has none, the request's bytes behind those that passed
abbrev pub with_outcome : Judged → List ℕ → ℕ → Result (Unit {0}) Refusal → Judged
with_outcome j requests i outcome =
    record {
      refused = set j.refused i (result_err outcome);
      passed = cond (eqb (outcome_number outcome) 0) (overwrite j.passed (request_len * j.count) (window requests (request_len * i) request_len)) j.passed;
      count = cond (eqb (outcome_number outcome) 0) (j.count + 1) j.count;
    }

-- what the code has of a batch when so many of its requests are judged: their refusals in their places and none behind them, and those that passed,
-- joined, from the first byte on
pub record JudgedAs (b : Batch) (done : ℕ) (j : Judged) : Type 0 where
  pub judged : length b.numbers ≡ done
  pub few : length b.passed ≤ done
  pub fit : RequestsFit b.passed
  pub long : length j.passed ≡ request_len * max_requests
  pub numbers : map own_number j.refused ≡ b.numbers ++ replicate {A = ℕ} (max_requests - done) 0
  pub count : j.count ≡ length b.passed
  pub passed : take (request_len * j.count) j.passed ≡ joined b.passed
