-- What the dock's display may rely on (document 02, Note 2: "The dock's display looks values up in the image and cannot walk the log"): in a
-- sound image the current value that stands in each record is what `read` answers for the counter that the record names. Assumes nothing.
use Rattle.std.specs.Prelude.{◌≡◌, refl, ℕ, zero, suc, ◌+◌, ◌*◌, ◌<◌, min, Bool, true, false, not, cond, ◌||◌, List}
use Rattle.std.proofs.Common.{sym, ap, ap₂, ◌∙◌, arith, true≢false, eq-eqb, ne_eqb}
use Rattle.std.proofs.Math.Bool.{or-true}
use Rattle.forms.specs.Confirmation.{confirmation_at}
use Rattle.forms.specs.Limits.{records_offset, record_len, max_counters}
use Rattle.forms.specs.Number.{be32}
use Rattle.forms.specs.Record.{current_place, record_at}
use Rattle.forms.specs.Terms.{counter_id, same_id}
use Rattle.forms.specs.Laws.TermsLaws.{same_id_lem}
use Rattle.forms.specs.declared.terms.CounterId.{CounterId}
use Rattle.log_image.specs.Laws.DecodeLaws.{sound-framed}
use Rattle.log_image.specs.Laws.LookupLaws.{zero-unheld}
use Rattle.log_image.specs.Laws.PassLaws.{distinct-parts}
use Rattle.log_image.specs.Sound.{holds, index_of, distinct, sound}
use Rattle.log_image.specs.Laws.SoundLaws.{records_of}
use Rattle.log_image.specs.State.{Record, records_at, counter_count, decode}
use Rattle.host.specs.declared.answer.Figures.{Figures}
use Rattle.host.specs.Host.{read_refusal, read_call, current_of}
use Rattle.host.proofs.Laws.IndexLaws.{bytes-sound, held-counter}
use Rattle.host.proofs.Laws.SettledLaws.{answered-done}

-- the counter that the record at an index of some records names
abbrev id_at : List ℕ → ℕ → ℕ → CounterId
id_at s k i = counter_id (be32 s (k + record_len * i))

first-id : (s : List ℕ) (k : ℕ) → same_id (confirmation_at s k).id (id_at s k zero) ≡ true
unfolding confirmation_at
first-id s k =
    let here : k ≡ k + record_len * zero = omega arith in
    eq-eqb (be32 s k) (be32 s (k + record_len * zero)) (ap (λ (j : ℕ). be32 s j) here)

later-id : (s : List ℕ) (k i : ℕ) → id_at s k (suc i) ≡ id_at s (k + record_len) i
later-id s k i =
    let there : k + record_len * suc i ≡ k + record_len + record_len * i = omega arith in
    ap (λ (j : ℕ). counter_id (be32 s j)) there

-- it is held
named-held : (s : List ℕ) (k n i : ℕ) → i < n → holds (records_at s k n) (id_at s k i) ≡ true
unfolding records_at holds
named-held s k zero i within = let no : ⊥ = omega arith in absurd no
named-held s k (suc n) zero within = ap (λ (b : Bool). b || holds (records_at s (k + record_len) n) (id_at s k zero)) (first-id s k)
named-held s k (suc n) (suc i) within =
    ap (λ (b : Bool). same_id (confirmation_at s k).id (id_at s k (suc i)) || b)
    (ap (holds (records_at s (k + record_len) n)) (later-id s k i) ∙ named-held s (k + record_len) n i (omega arith))
    ∙ or-true (same_id (confirmation_at s k).id (id_at s k (suc i)))

-- and where ids differ, the record is the first that names it
named-index : (s : List ℕ) (k n i : ℕ) → distinct (records_at s k n) ≡ true → i < n → index_of (records_at s k n) (id_at s k i) ≡ i
unfolding records_at index_of
named-index s k zero i differ within = let no : ⊥ = omega arith in absurd no
named-index s k (suc n) zero differ within = ap (λ (b : Bool). cond b 0 (suc (index_of (records_at s (k + record_len) n) (id_at s k zero)))) (first-id s k)
named-index s k (suc n) (suc i) differ within =
    let parts = distinct-parts (record_at s k) (records_at s (k + record_len) n) differ in
    go (same_id (confirmation_at s k).id (id_at s k (suc i))) refl parts.0
    (ap (holds (records_at s (k + record_len) n)) (later-id s k i) ∙ named-held s (k + record_len) n i (omega arith))
    (ap (index_of (records_at s (k + record_len) n)) (later-id s k i) ∙ named-index s (k + record_len) n i parts.1 (omega arith))
  where
    others : List Record
    others = records_at s (k + record_len) n

    go : (b : Bool) → same_id (confirmation_at s k).id (id_at s k (suc i)) ≡ b
        → holds others (confirmation_at s k).id ≡ false → holds others (id_at s k (suc i)) ≡ true
        → index_of others (id_at s k (suc i)) ≡ i → cond b 0 (suc (index_of others (id_at s k (suc i)))) ≡ suc i
    go true same apart held rest = absurd (true≢false (sym held ∙ ap (holds others) (sym (same_id_lem (confirmation_at s k).id (id_at s k (suc i)) same)) ∙ apart))
    go false other apart held rest = ap suc rest

-- what the display shows is what read answers
pub display-reads : (s : List ℕ) (i : ℕ) → sound s ≡ true → i < counter_count s →
    let place = records_offset + record_len * i in
    let answer = read_call s (counter_id (be32 s place)) in
    (answer.number ≡ 0) × (answer.value ≡ be32 s (current_place place))
unfolding decode
display-reads s i is within =
    let id = id_at s records_offset i in
    let differ = (bytes-sound s is).differ in
    let held : holds (records_of s) id ≡ true = named-held s records_offset (counter_count s) i within in
    let all : counter_count s ≡ min (counter_count s) max_counters = omega (arith, (sound-framed s is).counters) in
    let found : i ≡ index_of (records_at s records_offset (min (counter_count s) max_counters)) id =
    sym (named-index s records_offset (counter_count s) i differ within) ∙ ap (λ (n : ℕ). index_of (records_at s records_offset n) id) all in
    let some : id.0 ≡ 0 → ⊥ = λ none. true≢false (sym held ∙ zero-unheld (records_of s) id differ none) in
    let none : read_refusal (decode s) id ≡ 0 = ap₂ (λ (a b : Bool). cond {A = ℕ} a 16 (cond {A = ℕ} (not b) 17 0)) (ne_eqb id.0 0 some) held in
    let answer = answered-done s (read_refusal (decode s) id) (current_of (decode s) id) is none in
    (ap (λ (f : Figures). f.number) answer, ap (λ (f : Figures). f.value) answer ∙ sym (held-counter s id i is held found).current)
