-- A proof counted in its counter's record: the figure is no part of soundness, and an image has room for it. Assumes nothing.
use Rattle.std.specs.Prelude.{◌≡◌, refl, ℕ, true}
use Rattle.std.proofs.Common.{sym, subst, ◌∙◌, arith}
use Rattle.forms.specs.declared.terms.CounterId.{CounterId}
use Rattle.log_image.specs.Laws.ImageRoundTrip.{StateFits}
use Rattle.log_image.specs.Sound.{base, consecutive, sound_state}
use Rattle.log_image.specs.State.{State}
use Rattle.log_store.proofs.Laws.EachRecordLaws.{Each, each-held, each-updated, distinct-updated, held_keeps, KeepsHeld, oldest-kept}
use Rattle.log_store.specs.Effect.{proved}
use Rattle.log_store.proofs.Laws.RecordStores.{record-of-fits, updated-fits}
use Rattle.host.specs.Host.{counted}
use Rattle.host.proofs.Laws.SoundParts.{Chained, SoundState, sound-parts, sound-whole}

keeps : KeepsHeld proved
keeps r = refl

counted-parts : (st : State) (id : CounterId) → SoundState st → SoundState (counted st id)
counted-parts st id s =
    let same : base st ≡ base (counted st id) = sym (oldest-kept st.clock st.records id proved keeps) in
    record {
      differ = distinct-updated id proved (held_keeps id proved keeps) st.records ∙ s.differ;
      bounds = each-updated id proved s.differ s.bounds
          (λ held. let b = each-held id s.bounds held in record { low = b.low; past = b.past })
          (λ r other b. b);
      span = omega (arith, same, s.span);
      steps = subst (λ (b : ℕ). consecutive b st.log ≡ true) same s.steps;
      proper = s.proper;
      chain = subst (λ (b : ℕ). Each (Chained b st.log) (counted st id).records) same
          (each-updated id proved s.differ s.chain (λ held. each-held id s.chain held) (λ r other c. c));
    }

-- the state stays sound
pub counted-sound : (st : State) (id : CounterId) → sound_state st ≡ true → sound_state (counted st id) ≡ true
counted-sound st id sound = sound-whole (counted st id) (counted-parts st id (sound-parts st sound))

-- the figure stops at the largest number of 32 bits
pub counted-fits : (st : State) (id : CounterId) → StateFits st → StateFits (counted st id)
counted-fits st id fits =
    let own = record-of-fits st.records id fits.records in
    updated-fits st id proved fits (record { held = own.held; current = own.current; proofs = omega arith })
