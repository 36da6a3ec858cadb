-- `input::read_full`: a part that is read behind what was read before. Assumes nothing.
use Rattle.std.proofs.Common.{◌≡◌, ℕ, ◌+◌, ◌≤◌, List, ◌++◌, length, take, sym, ap, subst, ◌∙◌, arith, length-append, length-take-le}
use Rattle.std.proofs.Math.Seq.{take-append-add, take-append-le}
use Rattle.std.specs.Prelude.{Option}
use Rattle.std.specs.Io.KnownBytes.{Consumes}
use Rattle.std.proofs.KnownBytes.{Consumes-trans}
use Rattle.input.proofs.read_full.Goals as goal

-- it has room
part-fits : (front part rest : List ℕ) (at n : ℕ) → length front ≡ at → n ≤ length part → at + n ≤ length (front ++ (part ++ rest))
part-fits front part rest at n long few = omega (arith, length-append front (part ++ rest), length-append part rest)

-- and what was read is what was read before and the part
part-read : (a b c : Option (List ℕ)) (front part rest : List ℕ) (at n : ℕ) → length front ≡ at → n ≤ length part
    → Consumes a b front → Consumes b c (take n part) → Consumes a c (take (at + n) (front ++ (part ++ rest)))
part-read a b c front part rest at n long few before more =
    subst (Consumes a c)
    (sym (ap (λ (k : ℕ). take (k + n) (front ++ (part ++ rest))) (sym long)
    ∙ take-append-add front (part ++ rest) n
    ∙ ap (λ (l : List ℕ). front ++ l) (take-append-le n part rest few)))
    (Consumes-trans a b c front (take n part) before more)

pub loop-preserved : goal.loop-preserved
loop-preserved g c =
    let front : length (take c.loop.at c.loop.room) ≡ c.loop.at = length-take-le c.loop.at c.loop.room c.loop.invariant.bound in
    let few : c.in_ok-got.got ≤ length c.read.new.buf = c.in_ok-got.ensures.bound.0 in
    record {
      bound = part-fits (take c.loop.at c.loop.room) c.read.new.buf _ c.loop.at c.in_ok-got.got front few;
      turns = omega arith;
      bytes = part-read _ _ _ (take c.loop.at c.loop.room) c.read.new.buf _ c.loop.at c.in_ok-got.got front few c.loop.invariant.bytes c.in_ok-got.ensures.bytes.0;
    }
