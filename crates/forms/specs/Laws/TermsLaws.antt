-- Counter ids compared. Assumes nothing.
use Rattle.std.specs.Prelude.{◌≡◌, Bool, true, false}
use Rattle.std.proofs.Common.{sym, ap, eqb-true, eq-eqb, ne_eqb}
use Rattle.std.proofs.lemmas.Bool.{eqb-false}
use Rattle.forms.specs.Terms.{CounterId, counter_id, same_id}

-- ids that compare as the same are the same
pub same_id_lem : (a b : CounterId) → same_id a b ≡ true → a ≡ b
same_id_lem a b e = ap counter_id (eqb-true a.0 b.0 e)

-- ids compare the same way round and the other way round
pub same-turned : (a b : CounterId) (t : Bool) → same_id a b ≡ t → same_id b a ≡ t
same-turned a b true e = eq-eqb b.0 a.0 (sym (eqb-true a.0 b.0 e))
same-turned a b false e = ne_eqb b.0 a.0 (λ same. eqb-false a.0 b.0 e (sym same))
