-- The desk's half of demand 3, as a statement: document 01, "The two lists of demand 3", and document 02, Note 7. Definitions alone; the proof stands in
-- files of its own. Assumes nothing.
use Rattle.std.specs.Prelude.{ℕ, ◌≤◌, ◌<◌, ◌≡◌, true, false, ◌⊎◌, List, [], ◌∷◌, get_or, take}
use Rattle.std.proofs.Math.Option.{some}
use Rattle.std.proofs.Math.ListN.{get_elem?}
use Rattle.forms.specs.Terms.{global_clock}
use Rattle.forms.specs.declared.terms.CounterId.{CounterId}
use Rattle.forms.specs.declared.terms.GlobalClock.{GlobalClock}
use Rattle.forms.specs.declared.confirmation.Confirmation.{Confirmation}
use Rattle.forms.specs.declared.request.Request.{Request}
use Rattle.forms.specs.Bytes.{Bytes}
use Rattle.forms.specs.Entry.{Entry}
use Rattle.forms.specs.Request.{RequestsFit, names, nonce_of, before_of, joined}
use Rattle.digest.specs.Sha1.{sha1}
use Rattle.validity.specs.Proof.{log_offset, shape_at}
use Rattle.validity.specs.declared.proof.Kind.{Kind}
use Rattle.desk_table.specs.Answer.{figures}
use Rattle.desk_table.specs.declared.answer.Figures.{Figures}
use Rattle.desk_table.specs.Desk.{verified, confirmation, certificate, entry, verdicts_before, module_verdict, owner_verdict}
use Rattle.history.specs.History.{HistoryEvent, list, given_nonce, clock_after, Made, made, unmade, increment_at, ReadStands}
use Rattle.history.specs.Nonce.{New}
use Rattle.history.specs.Openings.{openings_between}
use Rattle.history.specs.Value.{Signatures, value_at}

-- ---- the list

-- a call of the desk: what it is handed, any bytes
pub record Call : Type 0 where
  pub proof : List ℕ
  pub verdicts : List ℕ
  pub id : CounterId
  pub nonce : List ℕ

-- "The desk's list holds module events, owner's confirmations and desk calls"
pub data Item : Type 0 where
  event : HistoryEvent → Item
  confirmed : Confirmation → Item
  call : Call → Item

-- item x stands at place i of the list
abbrev pub At : List Item → ℕ → Item → Type 0
At l i x = get_elem? l i ≡ some x

-- "Its events, in order, are the history, and nothing else moves the clock"
unfoldable pub history : List Item → List HistoryEvent
history [] = []
history (event e ∷ l) = e ∷ history l
history (confirmed k ∷ l) = history l
history (call c ∷ l) = history l

-- ---- what the desk answers

-- the five figures that the desk's contract gives
abbrev pub shown : Call → Figures
shown c = figures (verified c.proof c.verdicts c.id c.nonce)

-- "Accepted means number 0"
abbrev pub Accepted : Call → Type 0
Accepted c = (shown c).number ≡ 0

-- the reading that an accepted proof closes on
abbrev pub closes : Call → GlobalClock
closes c = global_clock (shown c).closing

-- ---- truth of verdicts

abbrev pub kind_of : Call → Kind
kind_of c = (shape_at c.proof).kind

abbrev pub call_entry : Call → ℕ → Entry
call_entry c k = entry c.proof (log_offset (kind_of c)) k

-- the counter's request in an entry that names it
abbrev pub request_of : CounterId → Entry → Request
request_of id e = record { nonce = nonce_of id e.requests; id = id; before = before_of id e.requests }

-- "A module's yes for an entry now means that the history has an increment with its t and nonce, no more"
abbrev pub Certifies : Made → Entry → Type 0
Certifies (made given) e = given_nonce given ≡ e.nonce
Certifies unmade e = ⊥

-- the module's verdict on entry k, and the owner's on the wanted counter's request in it
abbrev pub module_said : Call → ℕ → ℕ
module_said c k = module_verdict c.proof (log_offset (kind_of c)) c.verdicts (verdicts_before (kind_of c)) k

abbrev pub owner_said : Call → ℕ → ℕ
owner_said c k = owner_verdict c.proof (log_offset (kind_of c)) c.verdicts (verdicts_before (kind_of c)) c.id k

-- the verdicts of a call at place i that count. "A verdict speaks of what stands before its call". Of the confirmation, the certificate and the
-- module a no refuses the proof, so their yes is supposed true. An owner's verdict counts on requests of the wanted counter alone, where no passes the
-- request over: it is supposed true both ways.
pub record Truth (first : GlobalClock) (signed : Signatures) (l : List Item) (i : ℕ) (c : Call) : Type 0 where
  -- the owner's on the confirmation: "a confirmation is signed when it stands there"
  pub confirmation-yes : get_or c.verdicts 0 0 ≡ 1 → (j : ℕ) × (j < i) × At l j (confirmed (confirmation c.proof))
  -- the module's on the clock certificate, in kind 1: the history has that clock read
  pub certificate-yes : kind_of c ≡ Kind.Read → get_or c.verdicts 1 0 ≡ 1
      → ReadStands first (history (take i l)) (certificate c.proof).reading (certificate c.proof).nonce
  -- the module's on entry k: the history has an increment with its reading and its nonce
  pub module-yes : (k : ℕ) → 1 ≤ k → k ≤ (shape_at c.proof).count → module_said c k ≡ 1
      → Certifies (increment_at first (history (take i l)) (call_entry c k).reading) (call_entry c k)
  -- the owner's on the wanted counter's request in entry k: it is signed, or it is not
  pub owner-yes : (k : ℕ) → 1 ≤ k → k ≤ (shape_at c.proof).count → names c.id (call_entry c k).requests ≡ true
      → owner_said c k ≡ 1 → signed (request_of c.id (call_entry c k)) ≡ true
  pub owner-no : (k : ℕ) → 1 ≤ k → k ≤ (shape_at c.proof).count → names c.id (call_entry c k).requests ≡ true
      → owner_said c k ≡ 0 → signed (request_of c.id (call_entry c k)) ≡ false

-- ---- suppositions

-- no confirmation of the counter stands before place i
abbrev pub Unopened : List Item → CounterId → ℕ → Type 0
Unopened l id i = (j : ℕ) (k : Confirmation) → j < i → At l j (confirmed k) → k.id ≡ id → ⊥

-- "A box's opening is its first confirmation in the list"
pub record Opening (l : List Item) (id : CounterId) (i : ℕ) (k : Confirmation) : Type 0 where
  pub stands : At l i (confirmed k)
  pub own : k.id ≡ id
  pub before : Unopened l id i

-- "A confirmation made from an accepted proof has its box, value and closing reading"
pub record MadeFrom (l : List Item) (i : ℕ) (k : Confirmation) : Type 0 where
  pub place : ℕ
  pub from : Call
  pub earlier : place < i
  pub stands : At l place (call from)
  pub accepted : Accepted from
  pub id : from.id ≡ k.id
  pub value : (shown from).value ≡ k.value
  pub reading : closes from ≡ k.reading

-- what demand 3 supposes of a counter, of the list up to place i alone: true verdicts in its accepted calls, opened once, each other
-- confirmation made from a proof accepted before it stood in the list
pub record Supposed (first : GlobalClock) (signed : Signatures) (l : List Item) (id : CounterId) (i : ℕ) : Type 0 where
  pub truth : (j : ℕ) (c : Call) → j ≤ i → At l j (call c) → c.id ≡ id → Accepted c → Truth first signed l j c
  pub opened : (j : ℕ) (k : Confirmation) → j ≤ i → Opening l id j k → k.value ≡ k.reading.0
  pub others : (j place : ℕ) (k opening : Confirmation) → j ≤ i → Opening l id place opening → place < j → At l j (confirmed k) → k.id ≡ id → MadeFrom l j k

-- ---- the claim

-- the value shown is the one that the history gives the counter at the reading that the proof closes on; the openings shown are "the history's
-- number of increments after g, the reading of the proof's confirmation, up to T with an owner-signed request for the box"
pub record Sound (first : GlobalClock) (signed : Signatures) (l : List Item) (c : Call) : Type 0 where
  pub place : ℕ
  pub opening : Confirmation
  pub opens : Opening l c.id place opening
  pub within : opening.reading.0 ≤ (closes c).0
  pub value : (shown c).value ≡ value_at signed c.id first (history l) opening.reading (closes c)
  pub openings : (shown c).openings ≡ openings_between signed c.id first (history l) (confirmation c.proof).reading (closes c)

-- that reading is no lower than the clock was at any place of the list where the wanted nonce was still new to the module
abbrev pub Fresh : GlobalClock → List Item → Call → Type 0
Fresh first l c = (j : ℕ) → New c.nonce (history (take j l)) → (clock_after first (history (take j l))).0 ≤ (closes c).0

-- "two different byte strings with one digest are exhibited: the joined requests of an entry, in the proof .. and those of the history's increment at
-- its t", of a call at place i
pub record Clash (first : GlobalClock) (l : List Item) (i : ℕ) (c : Call) : Type 0 where
  pub entry : ℕ
  pub low : 1 ≤ entry
  pub high : entry ≤ (shape_at c.proof).count
  pub given : List Request
  pub fit : RequestsFit given
  pub stands : increment_at first (history (take i l)) (call_entry c entry).reading ≡ made (list given fit)
  pub differ : joined (call_entry c entry).requests ≡ joined given → ⊥
  pub agree : sha1 (joined (call_entry c entry).requests) ≡ sha1 (joined given)

-- in the proof of a call "or one accepted earlier for the box"
pub record Clashed (first : GlobalClock) (l : List Item) (id : CounterId) (i : ℕ) : Type 0 where
  pub place : ℕ
  pub from : Call
  pub up_to : place ≤ i
  pub stands : At l place (call from)
  pub own : from.id ≡ id
  pub passed : Accepted from
  pub clash : Clash first l place from

-- what the desk is handed are bytes, as the code's types give it
abbrev pub Lent : List Item → Type 0
Lent l = (i : ℕ) (c : Call) → At l i (call c) → Bytes c.proof

-- For every first reading, every choice of signed requests and every list: each accepted call is sound where demand 3's suppositions of
-- its counter hold up to the call, and fresh where its verdicts are true; or a clash is exhibited, for freshness in the call's own proof.
abbrev pub DeskClaim : Type 0
DeskClaim =
    (first : GlobalClock) (signed : Signatures) (l : List Item) → Lent l → (i : ℕ) (c : Call) → At l i (call c) → Accepted c
    → (Supposed first signed l c.id i → Sound first signed l c ⊎ Clashed first l c.id i)
    × (Truth first signed l i c → Fresh first l c ⊎ Clash first l i c)
