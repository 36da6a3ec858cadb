-- `host::open::open` meets its contract where it is not refused: the record is stored. Assumes nothing.
use Rattle.std.proofs.Common.{◌≡◌, sym, ap, ◌∙◌, ◌+◌, Ok, length, List, ℕ, rules}
use Rattle.std.specs.Result.{is_ok, result_ok}
use Rattle.std.proofs.lemmas.Option.{same_Some}
use Rattle.forms.specs.Bytes.{Bytes}
use Rattle.log_image.specs.State.{decode}
use Rattle.log_store.proofs.Laws.RecordStores.{added-counted, added-stored}
use Rattle.log_store.specs.Store.{counters_added, record_added}
use Rattle.log_store.specs.Effect.{opened}
use Rattle.host.proofs.Laws.FittingLaws.{image-of, record-room, state-fits}
use Rattle.host.specs.Host.{open_refusal}
use Rattle.host.proofs.Laws.RefusalLaws.{open-passed}
use Rattle.host.proofs.Laws.SettledLaws.{ends-done}
use Rattle.host.proofs.open.open.Goals as goal
use Rattle.host.proofs.open.open.Goals.{After-add_record}

passes : (c : After-add_record) → open_refusal (decode c.args.image.now) c.args.confirmation c.args.verdict ≡ 0
passes c =
    ap (λ (l : List ℕ). open_refusal (decode l) c.args.confirmation c.args.verdict) (sym c.in_ok-of.ensures.0) ∙ sym c.in_ok-open_refusal.ensures

-- there is a place left, and the count with the record is answered
counted : (c : After-add_record) → c.add_record.result ≡ Ok (length (decode c.args.image.now).records + 1)
unfolding Bytes
counted c =
    let a = c.args in
    let s = a.image.now in
    let st = decode s in
    let is-sound = c.in_ok-of.ensures.1 in
    let bytes : Bytes s = λ k. search rules in
    let room = record-room s bytes is-sound (open-passed st a.confirmation a.verdict (passes c)).room in
    c.add_record.ensures.value ∙ ap counters_added (image-of s bytes is-sound) ∙ added-counted st (state-fits s bytes is-sound) room

pub unwrap-requires : goal.unwrap-requires
unwrap-requires c = ap is_ok (counted (goal.at.unwrap-requires c).After-add_record)

pub returns : goal.returns
unfolding Bytes
returns c =
    let a = c.args in
    let s = a.image.now in
    let st = decode s in
    let is-sound = c.in_ok-of.ensures.1 in
    let at = (goal.at.returns c).After-add_record in
    let none = passes at in
    let bytes : Bytes s = λ k. search rules in
    let fits = state-fits s bytes is-sound in
    let room = record-room s bytes is-sound (open-passed st a.confirmation a.verdict none).room in
    let all = ends-done s _ _ (opened st a.confirmation) c.unwrap.result c.add_record.new.image is-sound none
    (same_Some _ _ (ap result_ok (sym c.unwrap.ensures ∙ counted at)))
    (c.add_record.ensures.image_after ∙ ap (λ (l : List ℕ). record_added l a.confirmation) (image-of s bytes is-sound) ∙ added-stored st fits room a.confirmation) in
    record { value = all.0; image_after = all.1 }
