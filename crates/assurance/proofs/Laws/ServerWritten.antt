-- What reads back from a proof that the host wrote: the confirmation that it holds, the certificate and the entries set out; its verdicts are all yes, and
-- the desk accepts it at the reading that it closes on. Assumes nothing.
use Rattle.std.specs.Prelude.{ℕ, ◌-◌, ◌^◌, ◌≤◌, ◌<◌, ◌≡◌, refl, true, List, length, drop, Ok}
use Rattle.std.proofs.Common.{sym, ap, subst, ◌∙◌}
use Rattle.std.proofs.lemmas.List.{length-replicate}
use Rattle.forms.specs.Entry.{Entry, entries_at, log_bytes}
use Rattle.forms.specs.Laws.EntryLaws.{EntriesFit}
use Rattle.forms.specs.Terms.{global_clock}
use Rattle.forms.specs.declared.confirmation.Confirmation.{Confirmation}
use Rattle.forms.specs.declared.running.Running.{Running}
use Rattle.forms.specs.declared.terms.CounterId.{CounterId}
use Rattle.forms.specs.declared.terms.GlobalClock.{GlobalClock}
use Rattle.validity.specs.Proof.{Fields, fields_len, shape_of, proof_bytes, shape_at, parsed, log_offset}
use Rattle.validity.specs.Laws.ProofLaws.{parsed-shape}
use Rattle.validity.specs.Laws.RoundTrip.{Takes, encode-reads}
use Rattle.validity.specs.declared.proof.Kind.{Kind}
use Rattle.desk_table.specs.Answer.{figures}
use Rattle.desk_table.specs.declared.answer.Figures.{Figures}
use Rattle.desk_table.specs.Desk.{verified, confirmation, certificate, all_yes, verdicts_for}
use Rattle.log_image.specs.Sound.{holds}
use Rattle.log_image.specs.State.{State, decode}
use Rattle.host.proofs.Laws.DoneLaws.{settled-passed}
use Rattle.host.specs.Host.{request_nonce, held_of, entries_of, last_entries, proof_of, last_of, prove_refusal, last_refusal, counted}
use Rattle.host.proofs.Laws.RefusalLaws.{prove-passed, last-passed}
use Rattle.assurance.proofs.Laws.AcceptLaws.{entries-back, read_back, increment-back, taken}
use Rattle.assurance.proofs.Laws.AcceptRows.{ones}
use Rattle.assurance.proofs.Laws.Accepted.{accepted-passed}
use Rattle.assurance.specs.DeskList.{Call, Accepted, closes}
use Rattle.assurance.specs.HostList.{HostCall, Taken}
use Rattle.assurance.proofs.Laws.HostProof.{prove-fair, last-fair}
use Rattle.assurance.proofs.Laws.HostProofs.{entries-set-out, set-out-take, found_some}
use Rattle.assurance.proofs.Laws.HostSteps.{Kept, kept-steady}
use Rattle.assurance.specs.ServerList.{Writes}

-- the proof of a call, from a confirmation by some entries to the reading that it closes on
pub record Written (p : Call) (kind : Kind) (k : Confirmation) (es : List Entry) (closing : GlobalClock) : Type 0 where
  pub confirms : confirmation p.proof ≡ k
  pub shape : shape_at p.proof ≡ record { kind = kind; count = length es }
  pub entries : entries_at p.proof (log_offset kind) (length es) ≡ es
  pub verdicts : p.verdicts ≡ ones (length p.verdicts)
  pub accepted : Accepted p
  pub closed : closes p ≡ closing

-- it reads back from fields that the desk takes
pub set-down : (p : Call) (fields : Fields) (kind : Kind) (k : Confirmation) (es : List Entry) (running : Running) (closing : GlobalClock)
    → p.verdicts ≡ all_yes fields → Taken p.proof fields p.id p.nonce running closing
    → parsed (proof_bytes fields) ≡ Ok (record { kind = kind; count = length es })
    → confirmation (proof_bytes fields) ≡ k → EntriesFit es → drop (log_offset kind) (proof_bytes fields) ≡ log_bytes es → Written p kind k es closing
set-down p fields kind k es running closing all_yes fair reads confirms fit back =
    let shown-is = ap (λ (v : List ℕ). figures (verified p.proof v p.id p.nonce)) all_yes ∙ fair.accepted in
    record {
      confirms = ap confirmation fair.set_out ∙ confirms;
      shape = ap shape_at fair.set_out ∙ sym (parsed-shape (proof_bytes fields) _ reads);
      entries =
          ap (λ (b : List ℕ). entries_at b (log_offset kind) (length es)) fair.set_out ∙ entries-back (proof_bytes fields) (log_offset kind) es fit back;
      verdicts = all_yes ∙ ap ones (sym (ap length all_yes ∙ length-replicate {A = ℕ} (verdicts_for (shape_of fields).kind (fields_len fields)) 1));
      accepted = ap (λ (f : Figures). f.number) shown-is;
      closed = ap (λ (f : Figures). global_clock f.closing) shown-is;
    }

module _ (s : List ℕ) (kept : Kept s) where
  -- prove's: from the held confirmation by all entries after it, closed by a certificate at the clock
  pub prove-written : (nonce : List ℕ) (id : CounterId) (output : List ℕ) (p : Call) → id.0 < 2 ^ 32 → Writes s (HostCall.prove nonce id output) p
      → (holds (decode s).records id ≡ true)
      × Written p Kind.Read (held_of (decode s) id) (entries_of (decode s) id) (decode s).clock
      × (certificate p.proof ≡ record { reading = (decode s).clock; nonce = nonce })
  prove-written nonce id output p id-fits writes =
      let st : State = decode s in
      let fields : Fields = proof_of st nonce id in
      let es : List Entry = entries_of st id in
      let number = prove_refusal st nonce id (fields_len fields) (length output) in
      let rows = prove-passed st nonce id (fields_len fields) (length output) (settled-passed s number (fields_len fields) (counted st id) writes.0).1 in
      let steady = kept-steady s kept in
      let set_out = entries-set-out st id steady.0 steady.1 id-fits rows.held in
      let takes : Takes fields = (
        taken id nonce (held_of st id) es set_out (record { counter = rows.named; long = rows.long }),
        record { reading = steady.1.clock; nonce = rows.long },
      ) in
      let back = read_back (held_of st id) (record { reading = st.clock; nonce = nonce }) (length es) (log_bytes es) takes in
      let fair = (prove-fair s kept nonce id output id-fits writes.0).1 in (
        rows.held,
        subst (λ (q : Call). Written q Kind.Read (held_of st id) es st.clock) (sym writes.1)
            (set-down _ fields Kind.Read (held_of st id) es _ st.clock refl fair (encode-reads fields takes) back.0 set_out.entries_fit back.2),
        ap (λ (q : Call). certificate q.proof) writes.1 ∙ ap certificate fair.set_out ∙ back.1,
      )

  -- last's: from the held confirmation by the entries after it up to t
  pub last_written : (id : CounterId) (t : GlobalClock) (output : List ℕ) (p : Call) → id.0 < 2 ^ 32 → Writes s (HostCall.last id t output) p
      → (holds (decode s).records id ≡ true) × Written p Kind.Increment (held_of (decode s) id) (last_entries (decode s) id t) t
  last_written id t output p id-fits writes =
      let st : State = decode s in
      let fields : Fields = last_of st id t in
      let es : List Entry = last_entries st id t in
      let number = last_refusal st id t (fields_len fields) (length output) in
      let rows = last-passed st id t (fields_len fields) (length output) (settled-passed s number (fields_len fields) (counted st id) writes.0).1 in
      let steady = kept-steady s kept in
      let all = entries-set-out st id steady.0 steady.1 id-fits rows.held in
      let set_out = set-out-take id (held_of st id) (entries_of st id) (t.0 - (held_of st id).reading.0) all in
      let some : 1 ≤ length es = found_some id t (held_of st id).reading.0 (entries_of st id) all.entries_fit all.steps rows.has in
      let fair = last-fair s kept id t output id-fits writes.0 in
      let nonce = request_nonce id t st.log in
      let passed = accepted-passed (record { proof = _; verdicts = all_yes fields; id = id; nonce = nonce }) (ap (λ (x : Figures). x.number) fair.accepted) in
      let takes : Takes fields = (taken id nonce (held_of st id) es set_out (record { counter = passed.counter; long = passed.nonce }), some) in
      let back = increment-back (held_of st id) (length es) (log_bytes es) takes in (
        rows.held,
        subst (λ (q : Call). Written q Kind.Increment (held_of st id) es t) (sym writes.1)
            (set-down _ fields Kind.Increment (held_of st id) es _ t refl fair (encode-reads fields takes) back.0 set_out.entries_fit back.1),
      )
