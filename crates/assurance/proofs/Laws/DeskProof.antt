-- The desk's half of demand 3, proved: `DeskClaim` of DeskList.antt. Assumes nothing.
use Rattle.assurance.specs.DeskList.{DeskClaim}
use Rattle.assurance.proofs.Laws.DeskFreshness.{accepted-fresh}
use Rattle.assurance.proofs.Laws.DeskSoundness.{accepted-sound}

-- each accepted call is sound where demand 3's suppositions of its counter hold, and fresh where its verdicts are true, or a clash is exhibited
pub desk-claim : DeskClaim
desk-claim first signed l lent i c stands accepted = (
  accepted-sound first signed l lent i c stands accepted,
  accepted-fresh first signed l i c (lent i c stands) accepted,
)
