-- Tests joined by and and by or: what a joined test that came out one way says of its parts, and going through parts one by one.
-- Assumes nothing.
use Rattle.std.specs.Prelude.{◌≡◌, refl, Bool, true, false, ◌&&◌, ◌||◌}
use Rattle.std.proofs.Common.{sym, ap, ◌∙◌, true≢false}
use Rattle.std.proofs.lemmas.Bool.{false≢true}

-- ---- parts of a joined test

-- both of two tests hold
pub both : (a b : Bool) → (a && b) ≡ true → (a ≡ true) × (b ≡ true)
both true b e = (refl, e)
both false b e = absurd (false≢true e)

-- neither of two tests holds
pub neither : (a b : Bool) → (a || b) ≡ false → (a ≡ false) × (b ≡ false)
neither true b e = absurd (true≢false e)
neither false b e = (refl, e)

-- ---- part by part

-- a first part that holds can be dropped, and one that does not hold decides
pub and-passed : {x : Bool} (test others : Bool) → x ≡ (test && others) → test ≡ true → x ≡ others
and-passed test others e holds = e ∙ ap (λ (b : Bool). b && others) holds

pub and-failed : {x : Bool} (test others : Bool) → x ≡ (test && others) → test ≡ false → false ≡ x
and-failed test others e fails = sym (e ∙ ap (λ (b : Bool). b && others) fails)

-- a first part that holds decides, and one that does not hold can be dropped
pub or-first : (a b : Bool) → a ≡ true → a ≡ (a || b)
or-first a b e = e ∙ sym (ap (λ (x : Bool). x || b) e)

pub or-second : (a b : Bool) → a ≡ false → b ≡ (a || b)
or-second a b e = sym (ap (λ (x : Bool). x || b) e)

-- ---- another order

pub and-swap : (a b c : Bool) → (a && (b && c)) ≡ (b && (a && c))
and-swap true b c = refl
and-swap false true c = refl
and-swap false false c = refl

pub and-exchange : (a b c d : Bool) → ((a && b) && (c && d)) ≡ ((a && c) && (b && d))
and-exchange true true c d = refl
and-exchange true false true d = refl
and-exchange true false false d = refl
and-exchange false b c d = refl
