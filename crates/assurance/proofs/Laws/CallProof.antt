-- The further claim of the desk's calls, proved: `CallClaim` of CallClaim.antt; and that an honest server's proof shows the history's openings, however
-- its counter was opened. Assumes nothing.
use Rattle.std.specs.Prelude.{ℕ, refl, List}
use Rattle.std.proofs.Common.{inl, inr, ⊎_elim, arith}
use Rattle.forms.specs.declared.terms.GlobalClock.{GlobalClock}
use Rattle.history.specs.Value.{Signatures}
use Rattle.assurance.specs.CallClaim.{CallClaim, Counted}
use Rattle.assurance.specs.DeskList.{Call, Item}
use Rattle.assurance.proofs.Laws.Accepted.{accepted-passed}
use Rattle.assurance.proofs.Laws.DeskFreshness.{accepted-fresh}
use Rattle.assurance.proofs.Laws.DeskSoundness.{call-openings, accepted-valued}
use Rattle.assurance.proofs.Laws.EntryCounts.{entries-linked}
use Rattle.assurance.specs.ServerList.{Borne}

-- each accepted call shows the history's value where demand 3's suppositions of its counter hold; where its own verdicts are true, its entries are the
-- history's, and so are the openings, and it is fresh; or a clash is exhibited
pub call-claim : CallClaim
call-claim first signed l i c stands accepted lent = (
  accepted-valued first signed l i c stands accepted lent,
  λ truth.
      let bytes = lent i c (omega arith) stands refl accepted in
      let passed = accepted-passed c accepted in
      ⊎_elim
      (λ linked. ⊎_elim (λ fresh. inl (call-openings first signed l i c passed truth linked, fresh)) inr
      (accepted-fresh first signed l i c bytes accepted truth))
      inr (entries-linked first signed l i c passed truth bytes),
)

-- a proof that the history bears out shows its openings, with no clash
pub borne-counted : (first : GlobalClock) (signed : Signatures) (d : List Item) (m : ℕ) (p : Call) → Borne first signed d m p → Counted first signed d p
borne-counted first signed d m p bears =
    call-openings first signed d m p (accepted-passed p bears.accepted) bears.truth bears.carried
