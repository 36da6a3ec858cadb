-- What the yeses on a proof that the host wrote ask for, wherever the desk gets it: so what an honest server sees to is needed, not only used. Assumes
-- nothing.
use Rattle.std.specs.Prelude.{ℕ, zero, suc, ◌+◌, ◌-◌, ◌^◌, ◌≤◌, ◌<◌, ◌≡◌, List, length, take}
use Rattle.std.proofs.Common.{ap, subst, ◌∙◌, arith}
use Rattle.std.proofs.Math.Seq.{take-length}
use Rattle.forms.specs.Entry.{Entry, entry_at, entries_at, offset_at, len_at}
use Rattle.forms.specs.Laws.EntryLaws.{offset-cons}
use Rattle.forms.specs.declared.certificate.Certificate.{Certificate}
use Rattle.forms.specs.declared.confirmation.Confirmation.{Confirmation}
use Rattle.forms.specs.declared.terms.CounterId.{CounterId}
use Rattle.forms.specs.declared.terms.GlobalClock.{GlobalClock}
use Rattle.validity.specs.Proof.{log_offset}
use Rattle.validity.specs.declared.proof.Kind.{Kind}
use Rattle.validity.specs.declared.proof.Proof.{Proof}
use Rattle.history.specs.History.{clock_after, ReadStands}
use Rattle.history.specs.Value.{Signatures}
use Rattle.log_image.specs.State.{decode}
use Rattle.log_store.proofs.Laws.EachRecordLaws.{Each}
use Rattle.assurance.proofs.Laws.Accepted.{count_of, accepted-passed}
use Rattle.assurance.proofs.Laws.DeskFreshness.{accepted-reached}
use Rattle.assurance.specs.DeskList.{Call, Item, confirmed, At, history, kind_of, Truth}
use Rattle.assurance.specs.HostList.{HostCall, Widths}
use Rattle.assurance.proofs.Laws.HostSteps.{Kept}
use Rattle.assurance.proofs.Laws.ServerLaws.{Certified}
use Rattle.assurance.specs.ServerList.{Duty, Writes, Borne}
use Rattle.assurance.proofs.Laws.ServerWritten.{Written, prove-written, last_written}

-- what holds of the entry at each place of some bytes holds of every one
each_of : {P : Entry → Type 0} (s : List ℕ) (log n : ℕ) → ((k : ℕ) → k < n → P (entry_at s (offset_at s log k))) → Each P (entries_at s log n)
unfolding entries_at offset_at
each_of s log zero holds_at = Each.done
each_of {P} s log (suc n) holds_at =
    Each.more (holds_at 0 (omega arith))
    (each_of s (log + len_at s log) n (λ k within. subst (λ (j : ℕ). P (entry_at s j)) (offset-cons s log k) (holds_at (suc k) (omega arith))))

module _ (first : GlobalClock) (signed : Signatures) (d : List Item) (m : ℕ) (p : Call) where
  module _ (kind : Kind) (k : Confirmation) (es : List Entry) (closing : GlobalClock) (written : Written p kind k es closing) where
    -- the confirmation that it begins with stands in the list: so a yes that the host was handed for it has to be true
    pub confirmation-needed : Truth first signed d m p → (j : ℕ) × (j < m) × At d j (confirmed k)
    confirmation-needed truth =
        subst (λ (c : Confirmation). (j : ℕ) × (j < m) × At d j (confirmed c)) written.confirms
        (truth.confirmation-yes (accepted-passed p written.accepted).confirmation-yes)

    -- the clock has come to the reading that it closes on
    pub closing-needed : Truth first signed d m p → closing.0 ≤ (clock_after first (history (take m d))).0
    closing-needed truth =
        subst (λ (t : GlobalClock). t.0 ≤ (clock_after first (history (take m d))).0) written.closed
        (accepted-reached first signed d m p written.accepted truth)

    -- the module was given each entry's requests at its reading, and they are signed
    pub entries-needed : Borne first signed d m p → Each (Certified first signed (history (take m d))) es
    entries-needed bears =
        subst (Each (Certified first signed (history (take m d))))
        (ap (λ (q : Proof). entries_at p.proof (log_offset q.kind) q.count) written.shape ∙ written.entries)
        (each_of p.proof (log_offset (kind_of p)) (count_of p)
        (λ j within.
        subst (λ (n : ℕ). Certified first signed (history (take m d)) (entry_at p.proof (offset_at p.proof (log_offset (kind_of p)) n)))
        (let same : suc j - 1 ≡ j = omega arith in same)
        (record { carried = bears.carried (suc j) (omega arith) within; all-signed = bears.all-signed (suc j) (omega arith) within })))

  module _ (s : List ℕ) (kept : Kept s) where
    -- prove's has a clock read with its nonce at the image's clock
    pub prove-needs : (nonce : List ℕ) (id : CounterId) (output : List ℕ) → id.0 < 2 ^ 32 → Writes s (HostCall.prove nonce id output) p
        → Truth first signed d m p → ReadStands first (history (take m d)) (decode s).clock nonce
    prove-needs nonce id output id-fits writes truth =
        let there = prove-written s kept nonce id output p id-fits writes in
        let kind-is : kind_of p ≡ Kind.Read = ap (λ (q : Proof). q.kind) there.1.shape in
        subst (λ (c : Certificate). ReadStands first (history (take m d)) c.reading c.nonce) there.2
        (truth.certificate-yes kind-is ((accepted-passed p there.1.accepted).certificate-yes kind-is))

    -- last's has the module's increment to t: between a raise and its increment `last` writes a proof that nobody has certified
    pub last-needs : (id : CounterId) (t : GlobalClock) (output : List ℕ) → id.0 < 2 ^ 32 → Writes s (HostCall.last id t output) p → Truth first signed d m p
        → t.0 ≤ (clock_after first (history (take m d))).0
    last-needs id t output id-fits writes = closing-needed Kind.Increment _ _ t (last_written s kept id t output p id-fits writes).1

-- what a driver sees to before a proof is written is what true yeses on it say there
pub duty-needed : (first : GlobalClock) (signed : Signatures) (d : List Item) (s : List ℕ) → Kept s → (c : HostCall) (p : Call) → Widths c → Writes s c p
    → Truth first signed d (length d) p → Duty first signed d s c
duty-needed first signed d s kept (HostCall.prove nonce id output) p widths writes truth =
    subst (λ (f : List Item). ReadStands first (history f) (decode s).clock nonce) (take-length d)
    (prove-needs first signed d (length d) p s kept nonce id output widths.1 writes truth)
duty-needed first signed d s kept (HostCall.last id t output) p widths writes truth =
    subst (λ (f : List Item). t.0 ≤ (clock_after first (history f)).0) (take-length d)
    (last-needs first signed d (length d) p s kept id t output widths writes truth)
duty-needed first signed d s kept (HostCall.start clock) p widths writes truth = absurd writes
duty-needed first signed d s kept (HostCall.«open» k verdict) p widths writes truth = absurd writes
duty-needed first signed d s kept (HostCall.tick nonce) p widths writes truth = absurd writes
duty-needed first signed d s kept (HostCall.increment requests verdicts) p widths writes truth = absurd writes
duty-needed first signed d s kept (HostCall.read id) p widths writes truth = absurd writes
duty-needed first signed d s kept (HostCall.confirm k verdict) p widths writes truth = absurd writes
duty-needed first signed d s kept (HostCall.close k verdict) p widths writes truth = absurd writes
