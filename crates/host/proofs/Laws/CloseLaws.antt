-- close keeps the state sound: the records left are as they were, and none of their readings is older than the oldest before. The rest is
-- the cut's. Assumes nothing.
use Rattle.std.specs.Prelude.{◌≡◌, true}
use Rattle.forms.specs.declared.terms.CounterId.{CounterId}
use Rattle.log_image.specs.State.{State}
use Rattle.log_image.specs.Sound.{sound_state}
use Rattle.log_store.specs.Effect.{without}
use Rattle.log_store.proofs.Laws.EachRecordLaws.{each-without, oldest-without, distinct_without}
use Rattle.host.specs.Host.{closed_state}
use Rattle.host.proofs.Laws.CutLaws.{Recut, cut_parts}
use Rattle.host.proofs.Laws.SoundParts.{SoundState, sound-parts, sound-whole}

records-left : (st : State) (id : CounterId) → SoundState st → Recut st (without st.records id)
records-left st id s =
    record {
      up = oldest-without st.clock st.records id;
      differ = distinct_without st.records id s.differ;
      bounds = each-without id s.bounds;
      chain = each-without id s.chain;
    }

-- a counter closed leaves the state sound, whatever its value
pub closed-sound : (st : State) (id : CounterId) → sound_state st ≡ true → sound_state (closed_state st id) ≡ true
closed-sound st id sound =
    let s = sound-parts st sound in
    sound-whole (closed_state st id) (cut_parts st (without st.records id) s (records-left st id s))
