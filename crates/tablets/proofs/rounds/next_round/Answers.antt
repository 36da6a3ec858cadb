-- `tablets::rounds::next_round` meets its contract: the nearest turn, tablet by tablet, is the nearest of all. Assumes nothing.
use Rattle.std.proofs.Common.{◌≡◌, ◌∙◌, ℕ, min, arith, rules}
use mathlib.Core.List.{foldl}
use Rattle.tablets.specs.Laws.Idle.{never, next_turn}
use Rattle.tablets.specs.Laws.IdleLaws.{next-bound, next-nearest}
use Rattle.tablets.specs.Rounds.{tablets_of}
use Rattle.tablets.specs.Tablet.{Tablet}
use Rattle.tablets.proofs.rounds.next_round.Goals as goal

pub returns : goal.returns
returns c =
    let ts = tablets_of c.args.fleet in
    let done = c.args.done in
    let nearest : c.fold.result ≡ foldl (λ (n : ℕ) (t : Tablet). min n (next_turn t.period done)) never ts = search rules in
    nearest ∙ next-nearest ts done never (omega arith) ∙ omega (arith, next-bound ts done)
