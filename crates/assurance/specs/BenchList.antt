-- The bench's tablets, as statements: document 02, Note 8: "After 22 a tablet's next act succeeds if no other tablet of its box acted between, the log
-- has space and the clock can rise"; and that what an act does behind 22 and 24 comes about. Definitions alone; the proofs stand in files of their own.
-- Assumes nothing.
use Rattle.std.specs.Prelude.{ℕ, ◌^◌, ◌≤◌, ◌<◌, ◌≡◌, ◌⊎◌, length, get_or, List, [], ◌∷◌, ◌++◌}
use Rattle.desk_table.specs.Answer.{shows}
use mathlib.Core.List.{foldl}
use Rattle.forms.specs.Entry.{units}
use Rattle.forms.specs.Limits.{image_len, max_word, max_units}
use Rattle.forms.specs.declared.terms.CounterId.{CounterId}
use Rattle.forms.specs.declared.terms.GlobalClock.{GlobalClock}
use Rattle.log_image.specs.State.{decode}
use Rattle.host.specs.Host.{Settled, confirm_call, current_of, prove_call, running_of}
use Rattle.console.specs.Step.{empty_output, yes}
use Rattle.tablets.specs.Act.{Acted, acted, judged_for, tried}
use Rattle.tablets.specs.Rounds.{Depot, Turn, after_rounds, after_turns, answer_at, nobody, tablet_of, turned, turns_of}
use Rattle.tablets.specs.Tablet.{for_proof, max_tablets, nonce_for}
use Rattle.tablets.specs.declared.tablet.Tablet.{Tablet}
use Rattle.bench.specs.Bench.{placed, started}

-- ---- the depot of a run

-- what a line `tablet` gives: a box, which is not 0, and figures of 32 bits
pub record Proper (t : Tablet) : Type 0 where
  pub counter : t.id.0 ≡ 0 → ⊥
  pub id-fits : t.id.0 < 2 ^ 32
  pub belief-fits : t.belief < 2 ^ 32

-- tablets that the lines of an input may give
pub record FleetFits (ts : List Tablet) : Type 0 where
  pub few : length ts ≤ max_tablets
  pub all-proper : (k : ℕ) → k < length ts → Proper (get_or ts k nobody)

-- behind the lines `start` and `tablet`, by the definitions that the bench's contracts cite: the host is started on a buffer, whatever it held, and the
-- tablets are placed one after the other
abbrev pub set_up : List ℕ → GlobalClock → List Tablet → Depot
set_up buffer clock ts = foldl (placed clock) (started buffer clock) ts

-- "the log has space and the clock can rise"
pub record Open (d : Depot) : Type 0 where
  pub space : units (decode d.image).log ≡ max_units → ⊥
  pub rises : (decode d.image).clock.0 ≡ max_word → ⊥

-- "no other tablet of its box acted between", nor did the tablet itself: each turn is that of a tablet with another box
unfoldable pub Elsewhere : List Tablet → ℕ → List Turn → Type 0
Elsewhere ts number [] = Unit
Elsewhere ts number (x ∷ xs) =
    ((get_or ts x.number nobody).id.0 ≡ (get_or ts number nobody).id.0 → ⊥) × Elsewhere ts number xs

-- ---- the claim

-- a tablet's next act, behind one of its turns and turns between: it succeeds if no other tablet of its box acted between, the log has space and the
-- clock can rise
abbrev pub Succeeds : Depot → List Tablet → List Turn → Turn → List Turn → Turn → Type 0
Succeeds d ts before first between next =
    let then : Depot = after_turns d (before ++ (first ∷ between)) in
    first.number ≡ next.number → next.number < length ts → Elsewhere ts next.number between → Open then → answer_at then next ≡ 0

-- "After 22": for every buffer of an image's length, every clock, every list of tablets, and turns in any order, those of a run's rounds among them
abbrev pub BenchClaim : Type 0
BenchClaim =
    (buffer : List ℕ) (clock : GlobalClock) (ts : List Tablet) → length buffer ≡ image_len → clock.0 < 2 ^ 32 → FleetFits ts
    → (before : List Turn) (first : Turn) (between : List Turn) (next : Turn) → answer_at (after_turns (set_up buffer clock ts) before) first ≡ 22
    → Succeeds (set_up buffer clock ts) ts before first between next

-- and so behind every turn of a tablet, whatever it was answered
abbrev pub ActClaim : Type 0
ActClaim =
    (buffer : List ℕ) (clock : GlobalClock) (ts : List Tablet) → length buffer ≡ image_len → clock.0 < 2 ^ 32 → FleetFits ts
    → (before : List Turn) (first : Turn) (between : List Turn) (next : Turn) → Succeeds (set_up buffer clock ts) ts before first between next

-- what a run's rounds pass through: a turn of theirs is taken in the depot that those before it left, so that the claim is about each of them
abbrev pub RunPasses : Type 0
RunPasses =
    (d : Depot) (rounds : ℕ) (before : List Turn) (next : Turn) (later : List Turn) → turns_of 0 rounds d.tablets ≡ before ++ (next ∷ later)
    → after_rounds 0 rounds d ≡ after_turns (turned (after_turns d before) next) later

-- ---- the confirmation of an act

-- "it proves, .. confirms", for a nonce and a counter, on an image: what is confirmed is the counter's current value, at the clock
abbrev pub confirm_of : List ℕ → List ℕ → CounterId → Settled
confirm_of s nonce id =
    confirm_call (prove_call s nonce id (length empty_output)).image (record { id = id; value = current_of (decode s) id; reading = (decode s).clock }) yes

-- the desk accepts the proof and shows that value and reading, the host takes the confirmation, and an act leaves its image and believes the value
pub record Confirms (s nonce : List ℕ) (id : CounterId) (after : Acted) : Type 0 where
  pub accepted : judged_for s nonce id ≡ shows (running_of (decode s) id) (decode s).clock
  pub taken : (confirm_of s nonce id).figures.number ≡ 0
  pub left : after.image ≡ (confirm_of s nonce id).image
  pub believed : after.tablet.belief ≡ current_of (decode s) id

-- "on 22 it proves, has the desk judge, confirms and adopts the value. On 24 it proves and confirms only": so it comes about in every act of a tablet
-- that is answered so, on the image that its raise left. On 24 the tablet believed the current value before
abbrev pub ConfirmClaim : Type 0
ConfirmClaim =
    (buffer : List ℕ) (clock : GlobalClock) (ts : List Tablet) → length buffer ≡ image_len → clock.0 < 2 ^ 32 → FleetFits ts
    → (before : List Turn) (next : Turn)
    → let then : Depot = after_turns (set_up buffer clock ts) before in
    let t : Tablet = tablet_of then next.number in
    next.number < length ts → (answer_at then next ≡ 22) ⊎ (answer_at then next ≡ 24)
    → Confirms (tried next.round next.number then.image t).image (nonce_for for_proof next.round next.number) t.id
    (acted next.round next.number then.image t)
