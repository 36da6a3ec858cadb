-- A counter's record taken out of the image of a state, those behind it moved down. Assumes nothing.
use Rattle.std.specs.Prelude.{◌≡◌, ℕ, zero, suc, ◌+◌, ◌-◌, ◌*◌, ◌≤◌, ◌<◌, min, Bool, true, false, Option, Some, None, List, [], ◌∷◌, ◌++◌, length, replicate, take, drop, refl, cond}
use Rattle.std.proofs.Common.{sym, ap₂, ◌∙◌, arith, ltb-true, ap}
use Rattle.std.proofs.lemmas.List.Edits.{length-remove}
use Rattle.forms.specs.Bytes.{Bytes, window, overwrite}
use Rattle.forms.specs.Limits.{records_offset, record_len, max_counters}
use Rattle.forms.specs.Number.{digits}
use Rattle.forms.specs.Record.{record_at}
use Rattle.forms.specs.Terms.{same_id}
use Rattle.forms.specs.declared.terms.CounterId.{CounterId}
use Rattle.log_image.specs.Laws.DecodeLaws.{count-counters}
use Rattle.log_image.specs.Laws.ImageParts.{RecordsFit, records-window}
use Rattle.log_image.specs.Laws.ImageRoundTrip.{StateFits, decode-encode, encode-bytes, encode-decode, encode-laid-out, laid-out-parts}
use Rattle.log_image.specs.Laws.RecordsLaws.{holds-index}
use Rattle.log_image.specs.Sound.{holds, index_of, laid_out, record_of}
use Rattle.log_image.specs.State.{Record, State, records_at, records_bytes, counter_count, decode, encode, counters_place}
use Rattle.log_store.proofs.Laws.StoreLaws.{remove-record}
use Rattle.log_store.specs.Store.{index_in, proofs_removed, record_place, record_removed, vacated}
use Rattle.log_store.specs.Effect.{with_records, without}
use Rattle.log_store.proofs.Laws.FoundLaws.{few-counters, found-record, image-has, image_holds}

-- ---- the records left

-- those before the counter's index and those behind it
without-index : (rs : List Record) (id : CounterId) → without rs id ≡ take (index_of rs id) rs ++ drop (suc (index_of rs id)) rs
unfolding without index_of
without-index [] id = refl
without-index (r ∷ rs) id = go (same_id r.held.id id) (without-index rs id)
  where
    go : (b : Bool) → without rs id ≡ take (index_of rs id) rs ++ drop (suc (index_of rs id)) rs
        → cond b rs (r ∷ without rs id) ≡ take (cond b 0 (suc (index_of rs id))) (r ∷ rs) ++ drop (suc (cond b 0 (suc (index_of rs id)))) (r ∷ rs)
    go true rest = refl
    go false rest = ap (λ (l : List Record). r ∷ l) rest

-- one fewer, where the counter is held
length_without : (rs : List Record) (id : CounterId) → holds rs id ≡ true → length (without rs id) ≡ length rs - 1
length_without rs id held =
    let i = index_of rs id in
    let within : i < length rs = ltb-true _ _ (sym (holds-index rs id) ∙ held) in
    ap length (without-index rs id) ∙ (omega (arith, length-remove rs i within))

without-records-fit : (rs : List Record) (id : CounterId) → RecordsFit rs → RecordsFit (without rs id)
unfolding without
without-records-fit [] id RecordsFit.none = RecordsFit.none
without-records-fit (r ∷ rs) id (RecordsFit.one_more first fit) = go (same_id r.held.id id) (without-records-fit rs id fit)
  where
    go : (b : Bool) → RecordsFit (without rs id) → RecordsFit (cond b rs (r ∷ without rs id))
    go true rest = fit
    go false rest = RecordsFit.one_more first rest

-- an image has room for the state with them
pub without-fits : (st : State) (id : CounterId) → StateFits st → holds st.records id ≡ true → StateFits (with_records st (without st.records id))
without-fits st id fits held =
    record {
      clock = fits.clock;
      records = without-records-fit st.records id fits.records;
      counters = omega (arith, length_without st.records id held, fits.counters);
      log = fits.log;
      counted = fits.counted;
      units = fits.units;
    }

-- ---- the record taken out

-- the records behind a place
drop-records : (s : List ℕ) (k n m : ℕ) → m ≤ n → drop m (records_at s k n) ≡ records_at s (k + record_len * m) (n - m)
unfolding records_at
drop-records s k n zero low =
    let here : k ≡ k + record_len * zero = omega arith in
    let all : n ≡ n - zero = omega arith in
    ap₂ (records_at s) here all
drop-records s k zero (suc m) low = let no : ⊥ = omega arith in absurd no
drop-records s k (suc n) (suc m) low =
    let there : k + record_len + record_len * m ≡ k + record_len * suc m = omega arith in
    let left : n - m ≡ suc n - suc m = omega arith in
    drop-records s (k + record_len) n m (omega arith) ∙ ap₂ (records_at s) there left

-- their bytes
behind-bytes : (s : List ℕ) (i : ℕ) → Bytes s → i < counter_count s
    → window s (records_offset + record_len * i + record_len) (record_len * (counter_count s - 1 - i)) ≡ records_bytes (drop (suc i) (decode s).records)
unfolding decode
behind-bytes s i bytes within =
    let there : records_offset + record_len * i + record_len ≡ records_offset + record_len * suc i = omega arith in
    let left : counter_count s - 1 - i ≡ counter_count s - suc i = omega arith in
    ap₂ (λ (j n : ℕ). window s j (record_len * n)) there left
    ∙ sym (records-window s (records_offset + record_len * suc i) (counter_count s - suc i) bytes)
    ∙ ap records_bytes (sym (drop-records s records_offset (counter_count s) (suc i) (omega arith)))

-- so that the state without it is stored
pub remove-stored : (s : List ℕ) (id : CounterId) (index : ℕ) → Bytes s → laid_out s ≡ true → holds (decode s).records id ≡ true
    → index ≡ index_of (records_at s records_offset (min (counter_count s) max_counters)) id →
    let left = counter_count s - 1 in
    overwrite (vacated s (records_offset + record_len * index) record_len (record_len * (left - index))) counters_place (digits 4 left)
    ≡ encode (with_records (decode s) (without (decode s).records id))
unfolding decode
remove-stored s id index bytes laid held found =
    let st = decode s in
    let few = (laid-out-parts s laid).frame.counters in
    let here = found-record s id index few held found in
    let stores : List ℕ → List ℕ → ℕ → List ℕ = λ l moved left.
    overwrite (overwrite l (records_offset + record_len * index) (moved ++ replicate {A = ℕ} record_len 0)) counters_place (digits 4 left) in
    ap₂ (λ (l moved : List ℕ). stores l moved (counter_count s - 1)) (sym (encode-decode s bytes laid)) (behind-bytes s index bytes here.within)
    ∙ ap (λ (m : ℕ). stores (encode st) (records_bytes (drop (suc index) st.records)) (m - 1)) (sym (count-counters s))
    ∙ remove-record st index (omega (arith, here.within, count-counters s)) (omega (arith, few, count-counters s))
    ∙ ap (λ (i : ℕ). encode (with_records st (take i st.records ++ drop (suc i) st.records))) (sym here.among)
    ∙ ap (λ (rs : List Record). encode (with_records st rs)) (sym (without-index st.records id))

-- ---- the store, and what it answers

module _ (st : State) (fits : StateFits st) (id : CounterId) (held : holds st.records id ≡ true) where
  pub removed-stored : record_removed (encode st) id ≡ encode (with_records st (without st.records id))
  unfolding record_removed
  removed-stored =
      let s = encode st in
      let left = counter_count s - 1 in
      ap (λ (b : Bool). cond b (overwrite (vacated s (record_place (index_in s id)) record_len (record_len * (left - index_in s id))) counters_place (digits 4 left)) s)
      (image-has st fits id held)
      ∙ remove-stored s id (index_in s id) (encode-bytes st fits) (encode-laid-out st fits) (image_holds st fits id held) refl
      ∙ ap (λ (x : State). encode (with_records x (without x.records id))) (decode-encode st fits)

  pub removed-proofs : proofs_removed (encode st) id ≡ Some (record_of st.records id).proofs
  removed-proofs =
      let s = encode st in
      let here = found-record s id (index_in s id) (few-counters st fits) (image_holds st fits id held) refl in
      let answer : Bool → Option ℕ = λ b. cond b (Some (cond b (record_at s (record_place (index_in s id))).proofs 0)) None in
      ap answer (image-has st fits id held)
      ∙ ap (λ (r : Record). Some r.proofs) (sym here.own)
      ∙ ap (λ (x : State). Some (record_of x.records id).proofs) (decode-encode st fits)
