-- What the invoice rests on, as a statement: document 02, Note 6, "the number of proofs written for that box since opening, taken from the calls,
-- with the same ceiling", "Proving for one box alters no other box's figure" and "Close answers with the box's figure". Definitions alone; the
-- proof stands in a file of its own. Assumes nothing.
use Rattle.std.specs.Prelude.{ℕ, ◌+◌, ◌^◌, ◌<◌, min, ◌≡◌, Bool, true, false, cond, List, [], ◌∷◌, eqb, length}
use Rattle.forms.specs.Limits.{max_word, image_len}
use Rattle.forms.specs.Terms.{same_id}
use Rattle.forms.specs.declared.terms.CounterId.{CounterId}
use Rattle.forms.specs.declared.terms.GlobalClock.{GlobalClock}
use Rattle.log_image.specs.Sound.{holds, record_of}
use Rattle.log_image.specs.State.{decode}
use Rattle.host.specs.Host.{start_call, close_call}
use Rattle.assurance.specs.HostList.{HostCall, settled_by, Widths}

-- ---- what the calls say

-- the proofs written for a counter since its opening, n before a call and these after it, where the call is not refused: prove and last add one
-- to their own counter's, and open begins its own counter's anew
abbrev pub counted_by : CounterId → ℕ → HostCall → ℕ
counted_by id n (HostCall.prove nonce own output) = cond (same_id own id) (n + 1) n
counted_by id n (HostCall.last own t output) = cond (same_id own id) (n + 1) n
counted_by id n (HostCall.«open» c verdict) = cond (same_id c.id id) 0 n
counted_by id n (HostCall.start clock) = n
counted_by id n (HostCall.tick nonce) = n
counted_by id n (HostCall.increment requests verdicts) = n
counted_by id n (HostCall.read own) = n
counted_by id n (HostCall.confirm c verdict) = n
counted_by id n (HostCall.close c verdict) = n

-- a refused call counts nothing
abbrev pub counted_after : CounterId → ℕ → List ℕ → HostCall → ℕ
counted_after id n s c = cond (eqb (settled_by s c).figures.number 0) (counted_by id n c) n

-- a call is for its own counter; start, after which none is held, is for every one; tick and increment, which touch no figure, are for none
abbrev pub is_for : HostCall → CounterId → Bool
is_for (HostCall.prove nonce own output) id = same_id own id
is_for (HostCall.last own t output) id = same_id own id
is_for (HostCall.«open» c verdict) id = same_id c.id id
is_for (HostCall.start clock) id = true
is_for (HostCall.tick nonce) id = false
is_for (HostCall.increment requests verdicts) id = false
is_for (HostCall.read own) id = same_id own id
is_for (HostCall.confirm c verdict) id = same_id c.id id
is_for (HostCall.close c verdict) id = same_id c.id id

-- ---- what the image says

abbrev pub is_held : List ℕ → CounterId → Bool
is_held s id = holds (decode s).records id

-- the figure in the record of a held counter
abbrev pub figure_of : List ℕ → CounterId → ℕ
figure_of s id = (record_of (decode s).records id).proofs

-- ---- what is claimed of an image and a call

-- the figure is the number counted, "with the same ceiling"
abbrev pub FigureIs : CounterId → ℕ → List ℕ → Type 0
FigureIs id n s = is_held s id ≡ true → figure_of s id ≡ min n max_word

-- a call for another counter leaves this one held or not held, and its figure as it was
abbrev pub Unaltered : CounterId → List ℕ → HostCall → Type 0
Unaltered id s c =
    is_for c id ≡ false
    → (is_held (settled_by s c).image id ≡ is_held s id)
    × (is_held s id ≡ true → figure_of (settled_by s c).image id ≡ figure_of s id)

-- the close of the counter, where it is not refused, answers with the number counted
abbrev pub Invoiced : CounterId → ℕ → List ℕ → HostCall → Type 0
Invoiced id n s (HostCall.close c verdict) =
    let r = (close_call s c verdict).figures in
    same_id c.id id ≡ true → r.number ≡ 0 → r.value ≡ min n max_word
Invoiced id n s (HostCall.prove nonce own output) = Unit
Invoiced id n s (HostCall.last own t output) = Unit
Invoiced id n s (HostCall.«open» c verdict) = Unit
Invoiced id n s (HostCall.start clock) = Unit
Invoiced id n s (HostCall.tick nonce) = Unit
Invoiced id n s (HostCall.increment requests verdicts) = Unit
Invoiced id n s (HostCall.read own) = Unit
Invoiced id n s (HostCall.confirm c verdict) = Unit

-- along a list, n counted before it
unfoldable pub Counts : CounterId → ℕ → List ℕ → List HostCall → Type 0
Counts id n s [] = FigureIs id n s
Counts id n s (c ∷ cs) =
    FigureIs id n s × (Widths c → Unaltered id s c × Invoiced id n s c × Counts id (counted_after id n s c) (settled_by s c).image cs)

-- ---- the claim

-- from the image of a start that succeeded, for every counter and every list of calls, refused ones included
abbrev pub InvoiceClaim : Type 0
InvoiceClaim = (buffer : List ℕ) (clock : GlobalClock) (cs : List HostCall) (id : CounterId) → length buffer ≡ image_len → clock.0 < 2 ^ 32
    → Counts id 0 (start_call buffer clock).image cs
