-- `host::close::close` meets its contract where it is not refused: the record is taken out, and the entries no longer needed are dropped. Assumes
-- nothing.
use Rattle.std.proofs.Common.{◌≡◌, sym, ap, ◌∙◌, Some, is_some, List, ℕ, rules}
use Rattle.std.proofs.lemmas.Option.{same_Some}
use Rattle.forms.specs.Bytes.{Bytes}
use Rattle.log_image.specs.Laws.ImageRoundTrip.{sound-decode}
use Rattle.log_image.specs.Sound.{record_of}
use Rattle.log_image.specs.State.{decode, encode}
use Rattle.log_store.specs.Effect.{with_records, without}
use Rattle.log_store.proofs.Laws.CutStores.{cut-stored}
use Rattle.log_store.proofs.Laws.EachRecordLaws.{oldest-without}
use Rattle.log_store.proofs.Laws.RemoveStores.{removed-proofs, removed-stored, without-fits}
use Rattle.log_store.specs.Store.{log_cut, proofs_removed, record_removed}
use Rattle.host.proofs.Laws.FittingLaws.{image-of, state-fits}
use Rattle.host.specs.Host.{close_refusal, closed_state}
use Rattle.host.proofs.Laws.RefusalLaws.{close_passed}
use Rattle.host.proofs.Laws.SettledLaws.{ends-done}
use Rattle.host.proofs.Laws.SoundParts.{sound-parts}
use Rattle.host.proofs.close.close.Goals as goal
use Rattle.host.proofs.close.close.Goals.{After-remove_record}

passes : (c : After-remove_record) → close_refusal (decode c.args.image.now) c.args.confirmation c.args.verdict ≡ 0
passes c =
    ap (λ (l : List ℕ). close_refusal (decode l) c.args.confirmation c.args.verdict) (sym c.in_ok-of.ensures.0) ∙ sym c.in_ok-close_refusal.ensures

-- the counter is held, and the number of its proofs is answered
counted : (c : After-remove_record) → c.remove_record.result ≡ Some (record_of (decode c.args.image.now).records c.args.confirmation.id).proofs
unfolding Bytes
counted c =
    let a = c.args in
    let s = a.image.now in
    let st = decode s in
    let id = a.confirmation.id in
    let is-sound = c.in_ok-of.ensures.1 in
    let bytes : Bytes s = λ k. search rules in
    let held = (close_passed st a.confirmation a.verdict (passes c)).held in
    c.remove_record.ensures.value ∙ ap (λ (l : List ℕ). proofs_removed l id) (image-of s bytes is-sound) ∙ removed-proofs st (state-fits s bytes is-sound) id held

pub unwrap-value-requires : goal.unwrap-value-requires
unwrap-value-requires c = ap is_some (counted (goal.at.unwrap-value-requires c).After-remove_record)

pub returns : goal.returns
unfolding Bytes
returns c =
    let a = c.args in
    let s = a.image.now in
    let st = decode s in
    let id = a.confirmation.id in
    let others = without st.records id in
    let is-sound = c.in_ok-of.ensures.1 in
    let at = (goal.at.returns c).After-remove_record in
    let none = passes at in
    let bytes : Bytes s = λ k. search rules in
    let fits = state-fits s bytes is-sound in
    let held = (close_passed st a.confirmation a.verdict none).held in
    let removed : c.remove_record.new.image ≡ encode (with_records st others) =
    c.remove_record.ensures.image_after ∙ ap (λ (l : List ℕ). record_removed l id) (image-of s bytes is-sound) ∙ removed-stored st fits id held in
    let all = ends-done s _ _ (closed_state st id) c.unwrap-value.result c.cut.new.image is-sound none
    (same_Some _ _ (sym c.unwrap-value.ensures ∙ counted at))
    (c.cut.ensures.image_after
    ∙ ap log_cut removed
    ∙ cut-stored st others (sound-parts st (sound-decode s is-sound)).span (oldest-without st.clock st.records id) (without-fits st id fits held)) in
    record { value = all.0; image_after = all.1 }
