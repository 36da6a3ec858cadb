-- A sound image that the code finds is that of a state which fits: what is not at its end has room. Assumes nothing.
use Rattle.std.specs.Prelude.{◌≡◌, ℕ, ◌≤◌, ◌<◌, true, List, length}
use Rattle.std.proofs.Common.{sym, ap, arith}
use Rattle.forms.specs.Bytes.{Bytes}
use Rattle.forms.specs.Entry.{units}
use Rattle.forms.specs.Limits.{max_word, image_log_offset, max_counters, max_units}
use Rattle.forms.specs.Laws.LogLaws.{walk_ends}
use Rattle.forms.specs.Laws.RequestLaws.{length-requests}
use Rattle.forms.specs.declared.log.LogEnd.{LogEnd}
use Rattle.log_image.specs.Laws.EndLaws.{end-held, held-units}
use Rattle.log_image.specs.Laws.ImageRoundTrip.{StateFits, encode-decode, decode-fits, laid-out-parts, sound-laid-out}
use Rattle.log_image.specs.Sound.{sound}
use Rattle.log_image.specs.State.{decode, encode, entry_count, log_end}

module _ (s : List ℕ) (bytes : Bytes s) (is-sound : sound s ≡ true) where
  -- it is the image of its state, which fits
  pub image-of : s ≡ encode (decode s)
  image-of = sym (encode-decode s bytes (sound-laid-out s is-sound))

  pub state-fits : StateFits (decode s)
  state-fits = decode-fits s bytes (sound-laid-out s is-sound)

  -- what is not at its end has room
  pub clock-runs : ((decode s).clock.0 ≡ max_word → ⊥) → (decode s).clock.0 < max_word
  clock-runs some = omega (arith, state-fits.clock, some)

  pub entry-room : (units (decode s).log ≡ max_units → ⊥) → units (decode s).log < max_units
  entry-room some = omega (arith, state-fits.units, some)

  pub record-room : (length (decode s).records ≡ max_counters → ⊥) → length (decode s).records < max_counters
  record-room some = omega (arith, state-fits.counters, some)

-- what the code finds of a sound image's log
pub found_units : (s : List ℕ) → sound s ≡ true → (log_end s).units ≡ units (decode s).log
found_units s is-sound = held-units s (sound-laid-out s is-sound)

pub few_units : (s : List ℕ) → sound s ≡ true → (log_end s).units ≤ max_units
few_units s is-sound =
    let laid = sound-laid-out s is-sound in
    let all = (walk_ends s image_log_offset (entry_count s) _ (laid-out-parts s laid).walked).2 in
    omega (arith, all, ap (λ (end : LogEnd). end.units) (end-held s laid))

-- what is asked of them, and of the requests behind them
pub ruleset log_room = (found_units, few_units, length-requests)
