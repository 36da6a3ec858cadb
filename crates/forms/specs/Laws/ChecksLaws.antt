-- The two laws by which a table of refusals is gone through row by row. Assumes nothing.
use Rattle.std.specs.Prelude.{◌≡◌, Bool, true, false, cond}
use Rattle.std.proofs.Common.{sym, ap, ◌∙◌}

-- a row whose test does not hold is passed over
pub passed : {A : Type 0} {x : A} (test : Bool) (row others : A) → x ≡ cond test row others → test ≡ false → x ≡ others
passed test row others e left = e ∙ ap (λ (b : Bool). cond b row others) left

-- one whose test holds gives the answer
pub given : {A : Type 0} {x : A} (test : Bool) (row others : A) → x ≡ cond test row others → test ≡ true → row ≡ x
given test row others e taken = sym (e ∙ ap (λ (b : Bool). cond b row others) taken)
