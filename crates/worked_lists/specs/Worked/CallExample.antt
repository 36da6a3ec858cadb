-- The list of DeskExample.antt, and ahead of it two increments that no accepted proof goes over: one given the digest of no list, and one whose list names
-- a counter twice. The digest is left as it is: but for its length nothing here says what it makes of any bytes. That the list meets the claim's
-- suppositions stands in CallSupposed.antt, and what the claim then says in CallWitness.antt. Assumes nothing.
use Rattle.std.specs.Prelude.{ℕ, List, [], ◌∷◌, length, replicate}
use Rattle.std.proofs.Common.{ap, lit<, arith}
use Rattle.forms.specs.Request.{RequestsFit, none, one_more}
use Rattle.forms.specs.Terms.{global_clock}
use Rattle.forms.specs.declared.request.Request.{Request}
use Rattle.forms.specs.declared.terms.GlobalClock.{GlobalClock}
use Rattle.digest.specs.Laws.SealLaws.{digest-length}
use Rattle.history.specs.History.{DigestOfNone, increment, list, bare}
use Rattle.assurance.specs.DeskList.{Item, event}
use Rattle.worked_lists.specs.Worked.DeskExample.{nine, request, fits, items}

-- the first reading: the counters are opened two above it
unfoldable pub earlier-start : GlobalClock
earlier-start = global_clock 98

-- what the increment to 99 is given, nineteen bytes 3: a digest has twenty, so it is the digest of no list
unfoldable pub short : List ℕ
short = replicate {A = ℕ} 19 3

pub short_none : DigestOfNone short
unfolding short
short_none qs fit same = omega (arith, ap (λ (l : List ℕ). length l) same, digest-length qs)

-- the requests under the increment to 100, both of counter 9
unfoldable pub to-100 : List Request
to-100 = request 3 nine 98 ∷ request 10 nine 98 ∷ []

pub fits-100 : RequestsFit to-100
unfolding nine to-100
fits-100 = one_more (fits 3 9 98 (lit< tt) (lit< tt) (lit< tt)) (one_more (fits 10 9 98 (lit< tt) (lit< tt) (lit< tt)) none)

-- the items by place, from 0; the clock goes from 98 to 105
unfoldable pub longer : List Item
longer = event (increment (bare short short_none)) ∷ event (increment (list to-100 fits-100)) ∷ items
