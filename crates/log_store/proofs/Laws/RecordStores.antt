-- The stores of one record into the image of a state: written over at its counter's index, whatever the change, and put behind the others. Assumes
-- nothing.
use Rattle.std.specs.Prelude.{◌≡◌, Bool, true, false, Result, Ok, Err, ltb, length, set, refl, ℕ, ◌+◌, ◌*◌, ◌<◌, min, cond, List, [], ◌∷◌}
use Rattle.std.proofs.Common.{sym, subst, ◌∙◌, arith, lit<, lt-ltb, ap}
use Rattle.forms.specs.Bytes.{Bytes, overwrite}
use Rattle.forms.specs.Limits.{records_offset, record_len, max_counters}
use Rattle.forms.specs.Number.{digits}
use Rattle.forms.specs.Confirmation.{ConfirmationFits}
use Rattle.forms.specs.Laws.PartsLaws.{RecordFits}
use Rattle.forms.specs.Record.{record_at, record_bytes, taken}
use Rattle.forms.specs.Terms.{same_id}
use Rattle.forms.specs.declared.confirmation.Confirmation.{Confirmation}
use Rattle.forms.specs.declared.terms.CounterId.{CounterId}
use Rattle.log_image.specs.Laws.DecodeLaws.{count-counters}
use Rattle.log_image.specs.Laws.FitLaws.{replace-record-fits}
use Rattle.log_image.specs.Laws.ImageParts.{RecordsFit}
use Rattle.log_image.specs.Laws.ImageRoundTrip.{StateFits, decode-encode, encode-bytes, encode-decode, encode-laid-out, laid-out-parts}
use Rattle.log_image.specs.Sound.{holds, index_of, laid_out, record_of}
use Rattle.log_image.specs.State.{Record, State, records_at, counter_count, counters_place, decode, encode}
use Rattle.log_store.proofs.Laws.StoreLaws.{append-record, replace-record}
use Rattle.log_store.proofs.Laws.EachRecordLaws.{updated_set}
use Rattle.log_store.specs.Effect.{Change, changed_by, confirmed_by, opened, updated_state}
use Rattle.log_store.proofs.Laws.FoundLaws.{found-record, image-counters, image-has, image_holds}
use Rattle.log_store.specs.Store.{counters_added, index_in, record_added, record_changed, record_place}

-- a state with another record at an index
abbrev set_state : State → ℕ → Record → State
set_state st i r = record { clock = st.clock; records = set st.records i r; log = st.log }

-- the counter's index is where its record changes
updated-state : (st : State) (id : CounterId) (change : Record → Record)
    → set_state st (index_of st.records id) (change (record_of st.records id)) ≡ updated_state st id change
updated-state st id change =
    ap (λ (rs : List Record). record { clock = st.clock; records = rs; log = st.log }) (sym (updated_set st.records id change))

-- a counter's record has numbers of 32 bits where every record has
pub record-of-fits : (rs : List Record) (id : CounterId) → RecordsFit rs → RecordFits (record_of rs id)
unfolding record_of
record-of-fits [] id RecordsFit.none = record { held = record { id = lit< tt; value = lit< tt; reading = lit< tt }; current = lit< tt; proofs = lit< tt }
record-of-fits (r ∷ rs) id (RecordsFit.one_more first fit) = go (same_id r.held.id id) (record-of-fits rs id fit)
  where
    go : (b : Bool) → RecordFits (record_of rs id) → RecordFits (cond b r (record_of rs id))
    go true rest = first
    go false rest = rest

-- an image has room for the state with it changed
pub updated-fits : (st : State) (id : CounterId) (change : Record → Record) → StateFits st → RecordFits (change (record_of st.records id))
    → StateFits (updated_state st id change)
updated-fits st id change fits changed =
    subst StateFits (updated-state st id change) (replace-record-fits st fits (index_of st.records id) (change (record_of st.records id)) changed)

-- the record read, changed and written over itself leaves the image of that state
pub update-stored : (s : List ℕ) (id : CounterId) (change : Record → Record) (index : ℕ) → Bytes s → laid_out s ≡ true → holds (decode s).records id ≡ true
    → index ≡ index_of (records_at s records_offset (min (counter_count s) max_counters)) id →
    let place = records_offset + record_len * index in
    overwrite s place (record_bytes (change (record_at s place))) ≡ encode (updated_state (decode s) id change)
unfolding decode
update-stored s id change index bytes laid held found =
    let st = decode s in
    let place = records_offset + record_len * index in
    let mine = change (record_of st.records id) in
    let here = found-record s id index (laid-out-parts s laid).frame.counters held found in
    ap (λ (r : Record). overwrite s place (record_bytes (change r))) (sym here.own)
    ∙ ap (λ (l : List ℕ). overwrite l place (record_bytes mine)) (sym (encode-decode s bytes laid))
    ∙ replace-record st index mine (omega (arith, here.within, count-counters s))
    ∙ ap (λ (i : ℕ). encode (set_state st i mine)) (sym here.among)
    ∙ ap encode (updated-state st id change)

-- a state with a counter's confirmation replaced
abbrev pub replaced_state : State → Confirmation → State
replaced_state st c = updated_state st c.id (confirmed_by c)

-- it fits where both did
pub replaced-fits : (st : State) (c : Confirmation) → StateFits st → ConfirmationFits c → StateFits (replaced_state st c)
replaced-fits st c fits confirmation =
    let own = record-of-fits st.records c.id fits.records in
    updated-fits st c.id (confirmed_by c) fits (record { held = confirmation; current = own.current; proofs = own.proofs })

-- ---- the stores

module _ (st : State) (fits : StateFits st) where
  -- a held counter's record changed
  pub change-stored : (id : CounterId) (change : Change) → holds st.records id ≡ true
      → record_changed (encode st) id change ≡ encode (updated_state st id (changed_by change))
  unfolding record_changed
  change-stored id change held =
      let s = encode st in
      let place = record_place (index_in s id) in
      ap (λ (b : Bool). cond b (overwrite s place (record_bytes (changed_by change (record_at s place)))) s) (image-has st fits id held)
      ∙ update-stored s id (changed_by change) (index_in s id) (encode-bytes st fits) (encode-laid-out st fits) (image_holds st fits id held) refl
      ∙ ap (λ (x : State). encode (updated_state x id (changed_by change))) (decode-encode st fits)

  -- a record put behind the others
  module _ (room : length st.records < max_counters) where
    pub added-stored : (c : Confirmation) → record_added (encode st) c ≡ encode (opened st c)
    unfolding record_added
    added-stored c =
        let s = encode st in
        let stores : ℕ → List ℕ = λ n. overwrite (overwrite s (record_place n) (record_bytes (taken c))) counters_place (digits 4 (n + 1)) in
        ap (λ (n : ℕ). cond (ltb n max_counters) (stores n) s) (image-counters st fits)
        ∙ ap (λ (b : Bool). cond b (stores (length st.records)) s) (lt-ltb (length st.records) max_counters room)
        ∙ append-record st (taken c) room

    pub added-counted : counters_added (encode st) ≡ Ok (length st.records + 1)
    added-counted =
        let answer : Bool → ℕ → Result ℕ ℕ = λ b n. cond b (Ok (cond b (n + 1) n)) (Err (cond b (n + 1) n)) in
        ap (λ (n : ℕ). answer (ltb n max_counters) n) (image-counters st fits)
        ∙ ap (λ (b : Bool). answer b (length st.records)) (lt-ltb (length st.records) max_counters room)
