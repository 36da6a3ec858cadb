-- `console::judge::judge` meets its contract: the desk gets the proof at its length and as many verdicts as it has, all yes. Assumes nothing.
use Rattle.std.proofs.Common.{ap, ap₂, ◌∙◌, List, ℕ, replicate, take}
use Rattle.desk_table.specs.Desk.{verified}
use Rattle.console.specs.Step.{max_verdicts, yes}
use Rattle.console.proofs.judge.judge.Goals as goal

pub returns : goal.returns
returns c =
    let a = c.args in
    let verdicts = c.front-verdicts.ensures ∙ ap (λ (n : ℕ). take n (replicate {A = ℕ} max_verdicts yes)) c.verdict_count.ensures in
    c.verify.ensures ∙ ap₂ (λ (s vs : List ℕ). verified s vs a.id a.nonce.now) c.front.ensures verdicts
