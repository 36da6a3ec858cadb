-- confirm keeps the state sound: the confirmation's reading is not below the held one and its value is the counter's there, so that the
-- current value stays. The rest is the cut's. Assumes nothing.
use Rattle.std.specs.Prelude.{◌≡◌, ℕ, true}
use Rattle.std.proofs.Common.{sym, ap, ◌∙◌}
use Rattle.forms.specs.Chain.{chains, value_after}
use Rattle.forms.specs.declared.confirmation.Confirmation.{Confirmation}
use Rattle.log_image.specs.State.{State}
use Rattle.log_image.specs.Sound.{base, after, sound_state, record_of}
use Rattle.log_store.specs.Effect.{confirmed_by}
use Rattle.log_store.proofs.Laws.EachRecordLaws.{each-updated, oldest-updated, distinct-updated, confirmation-keeps}
use Rattle.host.specs.Host.{replaced, confirmed_state, confirm_refusal}
use Rattle.host.proofs.Laws.HeldLaws.{later-chains, later-end, current-stored}
use Rattle.host.proofs.Laws.CutLaws.{Recut, cut_parts}
use Rattle.host.proofs.Laws.RefusalLaws.{ConfirmPassed, confirm-passed}
use Rattle.host.proofs.Laws.SoundParts.{Chained, SoundState, sound-parts, sound-whole}

confirmed-records : (st : State) (c : Confirmation) (verdict : ℕ) → SoundState st → ConfirmPassed st c verdict → Recut st (replaced st.records c)
confirmed-records st c verdict s p =
    record {
      up = oldest-updated st.clock st.records c.id (confirmed_by c) p.later;
      differ = distinct-updated c.id (confirmed_by c) (confirmation-keeps c) st.records ∙ s.differ;
      bounds = each-updated c.id (confirmed_by c) s.differ s.bounds (λ held. record { low = p.low; past = p.past }) (λ r other before. before);
      chain = each-updated c.id (confirmed_by c) s.differ s.chain (λ held. own) (λ r other before. before);
    }
  where
    -- the entries after its reading chain from its value, and end where the counter's chain did
    own : Chained (base st) st.log (confirmed_by c (record_of st.records c.id))
    own =
        let later = after (base st) c.reading st.log in
        record {
          links = ap (λ (v : ℕ). chains c.id v later) p.value ∙ later-chains st c.id c.reading s p.held p.later;
          end = current-stored st c.id s p.held
              ∙ sym (ap (λ (v : ℕ). value_after c.id v later) p.value ∙ later-end st c.id c.reading s p.held p.later);
        }

-- a confirmation taken keeps the state sound
pub confirmed-sound : (st : State) (c : Confirmation) (verdict : ℕ) → sound_state st ≡ true → confirm_refusal st c verdict ≡ 0
    → sound_state (confirmed_state st c) ≡ true
confirmed-sound st c verdict sound accepted =
    let s = sound-parts st sound in
    sound-whole (confirmed_state st c) (cut_parts st (replaced st.records c) s (confirmed-records st c verdict s (confirm-passed st c verdict accepted)))
