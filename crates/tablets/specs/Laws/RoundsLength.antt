-- A run keeps the number of tablets: each turn puts a tablet in the place of what it was. Assumes nothing.
use Rattle.std.specs.Prelude.{ℕ, ◌-◌, ◌≡◌, refl, List, [], ◌∷◌, length}
use Rattle.std.proofs.Common.{◌∙◌, length-set}
use Rattle.tablets.specs.Act.{acted}
use Rattle.tablets.specs.Rounds.{Depot, Turn, after_rounds, after_turns, tablet_of, turned, turns_of}

pub length-turned : (d : Depot) (x : Turn) → length (turned d x).tablets ≡ length d.tablets
unfolding turned
length-turned d x = length-set d.tablets x.number (acted x.round x.number d.image (tablet_of d x.number)).tablet

pub length-after-turns : (d : Depot) (turns : List Turn) → length (after_turns d turns).tablets ≡ length d.tablets
unfolding after_turns
length-after-turns d [] = refl
length-after-turns d (x ∷ turns) = length-after-turns (turned d x) turns ∙ length-turned d x

pub length-after-rounds : (done rounds : ℕ) (d : Depot) → length (after_rounds done rounds d).tablets ≡ length d.tablets
length-after-rounds done rounds d = length-after-turns d (turns_of done (rounds - done) d.tablets)
