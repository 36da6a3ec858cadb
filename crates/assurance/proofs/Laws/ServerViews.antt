-- The two halves of demand 3 on an honest server's list: what the desk's claim and the host's say of the lists that one sees of it, they say of its own
-- items at their places; and a station whose noes are true accepts what the server wrote. Assumes nothing.
use Rattle.std.specs.Prelude.{ℕ, zero, suc, ◌^◌, ◌≤◌, ◌<◌, ◌≡◌, refl, List, [], ◌∷◌, length, take}
use Rattle.std.proofs.Common.{sym, ap, subst, arith}
use Rattle.std.proofs.Math.Option.{some}
use Rattle.forms.specs.Limits.{image_len}
use Rattle.forms.specs.declared.terms.GlobalClock.{GlobalClock}
use Rattle.history.specs.Value.{Signatures}
use Rattle.assurance.specs.DeskList.{Call, Item, At, Accepted}
use Rattle.assurance.specs.HostList.{HostCall, settled_by, Fair, Runs}
use Rattle.assurance.proofs.Laws.HostProof.{host-claim}
use Rattle.assurance.specs.ServerList.{ServerItem, host, beside, ItemAt, desk_list, host_list, image_after, image_at, desk_at, Honest, Typed, Writes, with_verdicts, TrueNo}
use Rattle.assurance.proofs.Laws.ServerProof.{server-claim}

-- an item beside the calls stands in the desk's list, behind those before it
pub desk-place : (l : List ServerItem) (i : ℕ) (x : Item) → ItemAt l i (beside x) → At (desk_list l) (length (desk_at l i)) x
unfolding desk_list
desk-place [] i x stands = absurd (let z : ◌≡◌ {A = ℕ} 0 1 = cc in omega arith)
desk-place (host c ∷ l) zero x stands = absurd (let z : ◌≡◌ {A = ℕ} 0 1 = cc in omega arith)
desk-place (host c ∷ l) (suc i) x stands = desk-place l i x stands
desk-place (beside y ∷ l) zero x stands = ap some (let same : y ≡ x = cc in same)
desk-place (beside y ∷ l) (suc i) x stands = desk-place l i x stands

-- what holds along the host's list holds of a call at its place
runs-at : (s : List ℕ) (l : List ServerItem) → Typed l → Runs s (host_list l) → (i : ℕ) (c : HostCall) → ItemAt l i (host c)
    → Fair (image_after s (host_list (take i l))) c × ((settled_by (image_after s (host_list (take i l))) c).figures.number ≡ 14 → ⊥)
unfolding Runs host_list image_after
runs-at s [] typed runs i c stands = absurd (let z : ◌≡◌ {A = ℕ} 0 1 = cc in omega arith)
runs-at s (host x ∷ l) typed runs zero c stands =
    let here = runs (typed 0 x refl) in
    subst (λ (y : HostCall). Fair s y × ((settled_by s y).figures.number ≡ 14 → ⊥)) (let same : x ≡ c = cc in same) (here.0, here.1)
runs-at s (host x ∷ l) typed runs (suc i) c stands =
    runs-at (settled_by s x).image l (λ j y. typed (suc j) y) (runs (typed 0 x refl)).2 i c stands
runs-at s (beside x ∷ l) typed runs zero c stands = absurd (let z : ◌≡◌ {A = ℕ} 0 1 = cc in omega arith)
runs-at s (beside x ∷ l) typed runs (suc i) c stands = runs-at s l (λ j y. typed (suc j) y) runs i c stands

module _ (first : GlobalClock) (buffer : List ℕ) (l : List ServerItem) (long : length buffer ≡ image_len) (small : first.0 < 2 ^ 32) (typed : Typed l) where
  -- no call of the list finds its image unsound, and each is fair, honest or not
  pub call-fair-at : (i : ℕ) (c : HostCall) → ItemAt l i (host c)
      → Fair (image_at buffer first l i) c × ((settled_by (image_at buffer first l i) c).figures.number ≡ 14 → ⊥)
  call-fair-at = runs-at _ l typed (host-claim buffer first (host_list l) long small)

  -- where the server was honest up to a proof, every station whose noes are true accepts it from then on
  pub station-accepts : (signed : Signatures) (i : ℕ) (c : HostCall) (p : Call) → Honest first signed buffer l i → ItemAt l i (host c)
      → Writes (image_at buffer first l i) c p → (m : ℕ) → length (desk_at l i) ≤ m → (v : List ℕ) → TrueNo first signed (desk_list l) m (with_verdicts p v)
      → Accepted (with_verdicts p v)
  station-accepts signed i c p honest stands writes m later v true-no =
      let there = (server-claim first signed buffer l long small typed i c p honest stands writes).0 m later in
      subst (λ (w : List ℕ). Accepted (with_verdicts p w)) (sym (there.1 v true-no)) there.0.accepted
