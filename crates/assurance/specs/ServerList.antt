-- An honest server, as a statement: the two lists of demand 3 in one. Calls of the host on one image stand between the module's events, the owners'
-- confirmations and the desk's calls; the desk's list and the host's list are what one sees of it. Definitions alone; the proof stands in files of its
-- own. Assumes nothing.
use Rattle.std.specs.Prelude.{ℕ, ◌+◌, ◌^◌, ◌≤◌, ◌<◌, ◌≡◌, true, false, cond, ◌⊎◌, List, [], ◌∷◌, ◌++◌, eqb, length, take, drop, get_or}
use Rattle.std.proofs.Math.Option.{some}
use Rattle.std.proofs.Math.ListN.{get_elem?}
use Rattle.forms.specs.Limits.{image_len}
use Rattle.forms.specs.Request.{RequestsFit}
use Rattle.forms.specs.declared.confirmation.Confirmation.{Confirmation}
use Rattle.forms.specs.declared.request.Request.{Request}
use Rattle.forms.specs.declared.terms.CounterId.{CounterId}
use Rattle.forms.specs.declared.terms.GlobalClock.{GlobalClock}
use Rattle.validity.specs.Proof.{log_offset, shape_at}
use Rattle.validity.specs.declared.proof.Kind.{Kind}
use Rattle.desk_table.specs.Desk.{confirmation, certificate, all_yes, verdicts_before, verdict_count, verdict_place}
use Rattle.history.specs.History.{Given, HistoryEvent, list, increment, read, clock_after, increment_at, Carries, ReadStands}
use Rattle.history.specs.Value.{Signatures}
use Rattle.log_image.specs.State.{decode}
use Rattle.host.specs.Host.{asked, judged_batch, request_nonce, start_call, open_call, tick_call, increment_call, prove_call, last_call, proof_of, last_of, prove_output, last_output}
use Rattle.assurance.specs.DeskList.{Call, Item, event, confirmed, call, At, history, Accepted, kind_of, call_entry, Certifies, module_said, Truth, Opening, Sound, Fresh}
use Rattle.assurance.specs.HostList.{HostCall, settled_by, Widths}
use Rattle.assurance.specs.Valued.{Valued}

-- ---- the list

-- a call of the host on the image, or an item of the desk's list beside it
pub data ServerItem : Type 0 where
  host : HostCall → ServerItem
  beside : Item → ServerItem

-- item x stands at place i of the list
abbrev pub ItemAt : List ServerItem → ℕ → ServerItem → Type 0
ItemAt l i x = get_elem? l i ≡ some x

-- what a desk sees of it
unfoldable pub desk_list : List ServerItem → List Item
desk_list [] = []
desk_list (host c ∷ l) = desk_list l
desk_list (beside x ∷ l) = x ∷ desk_list l

-- what the image sees of it
unfoldable pub host_list : List ServerItem → List HostCall
host_list [] = []
host_list (host c ∷ l) = c ∷ host_list l
host_list (beside x ∷ l) = host_list l

-- "Each call gets the image as the last one left it"
unfoldable pub image_after : List ℕ → List HostCall → List ℕ
image_after s [] = s
image_after s (c ∷ cs) = image_after (settled_by s c).image cs

-- ---- what the module owes

-- a tick or an increment raises, and the module owes it, where it answers with a new clock: by the requests that passed, a tick by none
abbrev pub owing : ℕ → List Request → List (List Request)
owing value qs = cond (eqb value 0) [] (qs ∷ [])

-- the increments that the host has stored and the module has not done yet, by their requests, oldest first: one more behind a raise, none behind a
-- start, which gives them up
abbrev pub owed_by : List ℕ → List (List Request) → HostCall → List (List Request)
owed_by s owed (HostCall.start clock) = []
owed_by s owed (HostCall.«open» k verdict) = owed
owed_by s owed (HostCall.tick nonce) = owed ++ owing (tick_call s nonce).figures.value []
owed_by s owed (HostCall.increment requests verdicts) =
    owed ++ owing (increment_call s requests verdicts).figures.value (judged_batch (decode s) (asked requests verdicts)).passed
owed_by s owed (HostCall.read id) = owed
owed_by s owed (HostCall.prove nonce id output) = owed
owed_by s owed (HostCall.last id t output) = owed
owed_by s owed (HostCall.confirm k verdict) = owed
owed_by s owed (HostCall.close k verdict) = owed

-- one less behind an increment of the module
abbrev pub paid_by : List (List Request) → Item → List (List Request)
paid_by owed (event (increment given)) = drop 1 owed
paid_by owed (event (read nonce)) = owed
paid_by owed (confirmed k) = owed
paid_by owed (call p) = owed

unfoldable pub owed_after : List ℕ → List (List Request) → List ServerItem → List (List Request)
owed_after s owed [] = owed
owed_after s owed (host c ∷ l) = owed_after (settled_by s c).image (owed_by s owed c) l
owed_after s owed (beside x ∷ l) = owed_after s (paid_by owed x) l

-- ---- a place of a list that begins with the image of a start at the module's first reading

-- the image that a call at place i gets
abbrev pub image_at : List ℕ → GlobalClock → List ServerItem → ℕ → List ℕ
image_at buffer first l i = image_after (start_call buffer first).image (host_list (take i l))

-- what the module owes there
abbrev pub owed_at : List ℕ → GlobalClock → List ServerItem → ℕ → List (List Request)
owed_at buffer first l i = owed_after (start_call buffer first).image [] (take i l)

-- what stands before it in the desk's list
abbrev pub desk_at : List ServerItem → ℕ → List Item
desk_at l i = desk_list (take i l)

-- ---- suppositions

-- a confirmation stands in a list: its owner signed it
abbrev pub Stood : List Item → Confirmation → Type 0
Stood d k = (j : ℕ) × At d j (confirmed k)

-- each of some requests is signed
abbrev pub AllSigned : Signatures → List Request → Type 0
AllSigned signed [] = Unit
AllSigned signed (q ∷ qs) = (signed q ≡ true) × AllSigned signed qs

-- what the driver sees to before a call that is not refused, on an image s, behind the items d of the desk's list. A start is at the module's clock. A
-- yes for a confirmation, or for a request that passes, is true. A proof is written behind the event that it closes on: of kind 1 behind a clock read
-- with its nonce at the image's clock, of kind 2 behind the increment that made t.
abbrev pub Duty : GlobalClock → Signatures → List Item → List ℕ → HostCall → Type 0
Duty first signed d s (HostCall.start clock) = clock ≡ clock_after first (history d)
Duty first signed d s (HostCall.«open» k verdict) = Stood d k
Duty first signed d s (HostCall.tick nonce) = Unit
Duty first signed d s (HostCall.increment requests verdicts) = AllSigned signed (judged_batch (decode s) (asked requests verdicts)).passed
Duty first signed d s (HostCall.read id) = Unit
Duty first signed d s (HostCall.prove nonce id output) = ReadStands first (history d) (decode s).clock nonce
Duty first signed d s (HostCall.last id t output) = t.0 ≤ (clock_after first (history d)).0
Duty first signed d s (HostCall.confirm k verdict) = Stood d k
Duty first signed d s (HostCall.close k verdict) = Unit

-- what the module is given with an increment: the oldest list that is owed; where none is, it makes no increment
abbrev pub Paid : List (List Request) → Given → Type 0
Paid [] given = ⊥
Paid (qs ∷ owed) given = (fit : RequestsFit qs) × (given ≡ list qs fit)

-- an item that an honest server may have in its list: nothing is asked of a refused call, of a clock read, of a confirmation, of a desk
abbrev pub SeenTo : GlobalClock → Signatures → List Item → List ℕ → List (List Request) → ServerItem → Type 0
SeenTo first signed d s owed (host c) = (settled_by s c).figures.number ≡ 0 → Duty first signed d s c
SeenTo first signed d s owed (beside (event (increment given))) = Paid owed given
SeenTo first signed d s owed (beside (event (read nonce))) = Unit
SeenTo first signed d s owed (beside (confirmed k)) = Unit
SeenTo first signed d s owed (beside (call p)) = Unit

-- the item at place i is such a one
abbrev pub HonestAt : GlobalClock → Signatures → List ℕ → List ServerItem → ℕ → Type 0
HonestAt first signed buffer l i =
    (x : ServerItem) → ItemAt l i x → SeenTo first signed (desk_at l i) (image_at buffer first l i) (owed_at buffer first l i) x

-- an honest server up to place i; nothing is supposed of what stands behind it
abbrev pub Honest : GlobalClock → Signatures → List ℕ → List ServerItem → ℕ → Type 0
Honest first signed buffer l i = (j : ℕ) → j ≤ i → HonestAt first signed buffer l j

-- what the host is handed has the widths that the code's types give
abbrev pub Typed : List ServerItem → Type 0
Typed l = (i : ℕ) (c : HostCall) → ItemAt l i (host c) → Widths c

-- a confirmation tells the value that a history gives its counter, at a reading that the clock had come to
abbrev pub Tells : GlobalClock → Signatures → List Item → List HistoryEvent → Confirmation → Type 0
Tells first signed l h k = (k.reading.0 ≤ (clock_after first h).0) × Valued first signed l h k.id k.reading k.value

-- each confirmation by which a counter was opened on the image before place i is the counter's first in the list, or tells its value
abbrev pub OpenedTruly : GlobalClock → Signatures → List ℕ → List ServerItem → ℕ → CounterId → Type 0
OpenedTruly first signed buffer l i id =
    (j : ℕ) (k : Confirmation) (verdict : ℕ) → j < i → ItemAt l j (host (HostCall.«open» k verdict))
    → (open_call (image_at buffer first l j) k verdict).figures.number ≡ 0 → k.id ≡ id
    → ((n : ℕ) × Opening (desk_list l) id n k) ⊎ Tells first signed (desk_list l) (history (desk_at l j)) k

-- ---- a proof written

-- what a desk is handed of what prove writes on an image s, and of what last writes: "a proof at its length, a verdict list of ones, its box and its
-- nonce (for `last` that of the box's request in entry t)"
abbrev pub handed_prove : List ℕ → List ℕ → CounterId → List ℕ → Call
handed_prove s nonce id output = record {
  proof = take (prove_call s nonce id (length output)).figures.value (prove_output s nonce id output);
  verdicts = all_yes (proof_of (decode s) nonce id);
  id = id;
  nonce = nonce;
}

abbrev pub handed_last : List ℕ → CounterId → GlobalClock → List ℕ → Call
handed_last s id t output = record {
  proof = take (last_call s id t (length output)).figures.value (last_output s id t output);
  verdicts = all_yes (last_of (decode s) id t);
  id = id;
  nonce = request_nonce id t (decode s).log;
}

-- a call on an image s writes a proof, and p hands it to the desk
abbrev pub Writes : List ℕ → HostCall → Call → Type 0
Writes s (HostCall.prove nonce id output) p = ((prove_call s nonce id (length output)).figures.number ≡ 0) × (p ≡ handed_prove s nonce id output)
Writes s (HostCall.last id t output) p = ((last_call s id t (length output)).figures.number ≡ 0) × (p ≡ handed_last s id t output)
Writes s (HostCall.start clock) p = ⊥
Writes s (HostCall.«open» k verdict) p = ⊥
Writes s (HostCall.tick nonce) p = ⊥
Writes s (HostCall.increment requests verdicts) p = ⊥
Writes s (HostCall.read id) p = ⊥
Writes s (HostCall.confirm k verdict) p = ⊥
Writes s (HostCall.close k verdict) p = ⊥

-- at place m of the desk's list d every yes of the call is true, and so it is accepted. Beyond what a verdict says, the history's increment at each
-- entry's reading carries the entry's very requests, and all of these are signed, whichever counter is wanted; so it is fresh with no clash
pub record Borne (first : GlobalClock) (signed : Signatures) (d : List Item) (m : ℕ) (p : Call) : Type 0 where
  pub truth : Truth first signed d m p
  pub carried : (k : ℕ) → 1 ≤ k → k ≤ (shape_at p.proof).count
      → Carries (increment_at first (history (take m d)) (call_entry p k).reading) (call_entry p k).requests
  pub all-signed : (k : ℕ) → 1 ≤ k → k ≤ (shape_at p.proof).count → AllSigned signed (call_entry p k).requests
  pub accepted : Accepted p
  pub fresh : Fresh first d p

-- ---- a station's verdicts

-- the same proof for the same counter and nonce, with other verdicts
abbrev pub with_verdicts : Call → List ℕ → Call
with_verdicts p v = record { proof = p.proof; verdicts = v; id = p.id; nonce = p.nonce }

-- where the verdict on the q-th request of entry k stands, q from 0
abbrev pub owner_place : Call → ℕ → ℕ → ℕ
owner_place p k q = verdict_place p.proof (log_offset (kind_of p)) (verdicts_before (kind_of p)) k + 1 + q

-- the verdicts of a call at place m of the desk's list d are as many as its proof asks for, each 0 or 1, and each no is true: what it denies does not
-- hold. Of a request that is whichever counter it names.
pub record TrueNo (first : GlobalClock) (signed : Signatures) (d : List Item) (m : ℕ) (p : Call) : Type 0 where
  pub as_many : length p.verdicts ≡ verdict_count p.proof (shape_at p.proof)
  pub zero-or-one : (k : ℕ) → get_or p.verdicts k 0 ≤ 1
  pub confirmation-no : get_or p.verdicts 0 0 ≡ 0 → (j : ℕ) → j < m → At d j (confirmed (confirmation p.proof)) → ⊥
  pub certificate-no : kind_of p ≡ Kind.Read → get_or p.verdicts 1 0 ≡ 0
      → ReadStands first (history (take m d)) (certificate p.proof).reading (certificate p.proof).nonce → ⊥
  pub module-no : (k : ℕ) → 1 ≤ k → k ≤ (shape_at p.proof).count → module_said p k ≡ 0
      → Certifies (increment_at first (history (take m d)) (call_entry p k).reading) (call_entry p k) → ⊥
  pub owner-no : (k q : ℕ) (r : Request) → 1 ≤ k → k ≤ (shape_at p.proof).count → get_elem? (call_entry p k).requests q ≡ some r
      → get_or p.verdicts (owner_place p k q) 0 ≡ 0 → signed r ≡ false

-- ---- the claim

-- For every first reading, every choice of signed requests, every buffer of an image's length and every list that begins with the image of a start at
-- that reading: each proof written, where the server was honest up to it, gets from its place on a true yes to everything, and a station each of whose
-- noes is true says yes to all of it; and where its counter was opened truly, value and openings that it shows are the history's, with no clash and
-- with nothing supposed of a desk.
abbrev pub ServerClaim : Type 0
ServerClaim =
    (first : GlobalClock) (signed : Signatures) (buffer : List ℕ) (l : List ServerItem) → length buffer ≡ image_len → first.0 < 2 ^ 32 → Typed l
    → (i : ℕ) (c : HostCall) (p : Call) → Honest first signed buffer l i → ItemAt l i (host c) → Writes (image_at buffer first l i) c p
    → ((m : ℕ) → length (desk_at l i) ≤ m
    → Borne first signed (desk_list l) m p × ((v : List ℕ) → TrueNo first signed (desk_list l) m (with_verdicts p v) → v ≡ p.verdicts))
    × (OpenedTruly first signed buffer l i p.id → Sound first signed (desk_list l) p)
