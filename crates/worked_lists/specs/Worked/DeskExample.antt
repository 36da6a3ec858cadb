-- An example of the desk's list, with the calls in it: clock reads, a tick, increments of which two are shared by two counters and one carries a
-- stranger's request, four accepted calls, of which the second goes on from the first and the first and the third have the stranger's entry in them, and
-- a refused one. The digest is left as it is: nothing here says what it makes of any bytes. DeskWitness.antt says what holds of the list. Assumes nothing.
use Rattle.std.specs.Prelude.{ℕ, zero, suc, ◌^◌, ◌<◌, refl, not, List, [], ◌∷◌, replicate}
use Rattle.std.proofs.Common.{lit<}
use Rattle.forms.specs.Bytes.{Bytes, same, window}
use Rattle.forms.specs.Entry.{Entry, log_bytes}
use Rattle.forms.specs.Limits.{nonce_len}
use Rattle.forms.specs.Request.{RequestFits, RequestsFit, none, one_more}
use Rattle.forms.specs.Terms.{counter_id, global_clock}
use Rattle.forms.specs.declared.certificate.Certificate.{Certificate}
use Rattle.forms.specs.declared.confirmation.Confirmation.{Confirmation}
use Rattle.forms.specs.declared.request.Request.{Request}
use Rattle.forms.specs.declared.terms.CounterId.{CounterId}
use Rattle.forms.specs.declared.terms.GlobalClock.{GlobalClock}
use Rattle.digest.specs.Seal.{digest_of}
use Rattle.validity.specs.Proof.{Fields, proof_bytes}
use Rattle.history.specs.History.{increment, read, list}
use Rattle.history.specs.Value.{Signatures}
use Rattle.assurance.specs.DeskList.{Call, Item, event, confirmed, call}

-- ---- the terms

-- a nonce of twenty bytes b
unfoldable pub nonce : ℕ → List ℕ
nonce b = replicate {A = ℕ} 20 b

-- the counter that the calls ask for, and another
unfoldable pub seven : CounterId
seven = counter_id 7

unfoldable pub nine : CounterId
nine = counter_id 9

-- the first reading
unfoldable pub start : GlobalClock
start = global_clock 100

-- every request is signed but those with nonce 2
unfoldable pub signed : Signatures
signed request = not (same request.nonce (nonce 2))

-- the opening of counter 7
unfoldable pub opening : Confirmation
opening = record { id = seven; value = 100; reading = start }

-- the confirmation made from the proof that `by_read` hands in
unfoldable pub later : Confirmation
later = record { id = seven; value = 101; reading = global_clock 103 }

-- ---- the increments

-- a request
unfoldable pub request : ℕ → CounterId → ℕ → Request
request b id before = record { nonce = nonce b; id = id; before = before }

-- the requests under the increment to 101, which counters 7 and 9 share; the stranger's, for counter 7; none; those to 104, shared too; and one of
-- counter 9
unfoldable pub to-101 : List Request
to-101 = request 1 seven 100 ∷ request 8 nine 100 ∷ []

unfoldable pub to-102 : List Request
to-102 = request 2 seven 55 ∷ []

unfoldable pub to-104 : List Request
to-104 = request 6 nine 101 ∷ request 4 seven 101 ∷ []

unfoldable pub to-105 : List Request
to-105 = request 9 nine 104 ∷ []

-- the entry of an increment: its nonce is the twenty bytes of its requests' digest
unfoldable pub entry_for : ℕ → List Request → Entry
entry_for t qs = record { reading = global_clock t; nonce = window (digest_of qs) 0 nonce_len; requests = qs }

-- ---- the calls

-- the certificate of a clock read
unfoldable pub read_at : ℕ → ℕ → Certificate
read_at t b = record { reading = global_clock t; nonce = nonce b }

-- a kind 1 proof over readings 101 to 103: the shared increment, the stranger's request, which the owner did not sign, and the tick. Of counter 9's
-- owner nothing is known, and its verdict is no
unfoldable pub three : List Entry
three = entry_for 101 to-101 ∷ entry_for 102 to-102 ∷ entry_for 103 [] ∷ []

unfoldable pub by_read : Call
by_read =
    record {
      proof = proof_bytes (Fields.read opening (read_at 103 5) 3 (log_bytes three));
      verdicts = 1 ∷ 1 ∷ 1 ∷ 1 ∷ 0 ∷ 1 ∷ 0 ∷ 1 ∷ [];
      id = seven;
      nonce = nonce 5;
    }

-- the same with the shared increment left out, and yes to everything, the stranger's request too
unfoldable pub two : List Entry
two = entry_for 102 to-102 ∷ entry_for 103 [] ∷ []

unfoldable pub left_out : Call
left_out =
    record {
      proof = proof_bytes (Fields.read opening (read_at 103 5) 2 (log_bytes two));
      verdicts = 1 ∷ 1 ∷ 1 ∷ 1 ∷ 1 ∷ [];
      id = seven;
      nonce = nonce 5;
    }

-- a kind 2 proof from the later confirmation on, over reading 104: it closes on the second request there
unfoldable pub one : List Entry
one = entry_for 104 to-104 ∷ []

unfoldable pub by-increment : Call
by-increment =
    record {
      proof = proof_bytes (Fields.increment later 1 (log_bytes one));
      verdicts = 1 ∷ 1 ∷ 0 ∷ 1 ∷ [];
      id = seven;
      nonce = nonce 4;
    }

-- a kind 1 proof from the opening on, over readings 101 to 105: both raises of counter 7, with the stranger's request between them
unfoldable pub five : List Entry
five = entry_for 101 to-101 ∷ entry_for 102 to-102 ∷ entry_for 103 [] ∷ entry_for 104 to-104 ∷ entry_for 105 to-105 ∷ []

unfoldable pub since-opening : Call
since-opening =
    record {
      proof = proof_bytes (Fields.read opening (read_at 105 7) 5 (log_bytes five));
      verdicts = 1 ∷ 1 ∷ 1 ∷ 1 ∷ 0 ∷ 1 ∷ 0 ∷ 1 ∷ 1 ∷ 0 ∷ 1 ∷ 1 ∷ 0 ∷ [];
      id = seven;
      nonce = nonce 7;
    }

-- a kind 1 proof without entries, from the later confirmation on
unfoldable pub unraised : Call
unraised = record { proof = proof_bytes (Fields.read later (read_at 103 5) 0 (log_bytes [])); verdicts = 1 ∷ 1 ∷ []; id = seven; nonce = nonce 5 }

-- ---- the list

-- the requests are of 28 bytes each
bytes_of : (n b : ℕ) → b < 256 → Bytes (replicate {A = ℕ} n b)
unfolding Bytes
bytes_of zero b low k = lit< tt
bytes_of (suc n) b low zero = low
bytes_of (suc n) b low (suc k) = bytes_of n b low k

pub fits : (b id before : ℕ) → b < 256 → id < 2 ^ 32 → before < 2 ^ 32 → RequestFits (request b (counter_id id) before)
unfolding nonce request
fits b id before byte small low = record { nonce = refl; bytes = bytes_of 20 b byte; id = small; before = low }

pub fits-101 : RequestsFit to-101
unfolding seven nine to-101
fits-101 = one_more (fits 1 7 100 (lit< tt) (lit< tt) (lit< tt)) (one_more (fits 8 9 100 (lit< tt) (lit< tt) (lit< tt)) none)

pub fits-102 : RequestsFit to-102
unfolding seven to-102
fits-102 = one_more (fits 2 7 55 (lit< tt) (lit< tt) (lit< tt)) none

pub fits-104 : RequestsFit to-104
unfolding seven nine to-104
fits-104 = one_more (fits 6 9 101 (lit< tt) (lit< tt) (lit< tt)) (one_more (fits 4 7 101 (lit< tt) (lit< tt) (lit< tt)) none)

pub fits-105 : RequestsFit to-105
unfolding nine to-105
fits-105 = one_more (fits 9 9 104 (lit< tt) (lit< tt) (lit< tt)) none

-- the items by place, from 0; the clock goes from 100 to 105
unfoldable pub items : List Item
items =
    confirmed opening
    ∷ confirmed (record { id = nine; value = 100; reading = start })
    ∷ event (increment (list to-101 fits-101))
    ∷ event (increment (list to-102 fits-102))
    ∷ event (increment (list [] none))
    ∷ event (read (nonce 5))
    ∷ call by_read
    ∷ call left_out
    ∷ confirmed later
    ∷ event (increment (list to-104 fits-104))
    ∷ call by-increment
    ∷ event (increment (list to-105 fits-105))
    ∷ event (read (nonce 7))
    ∷ call since-opening
    ∷ call unraised
    ∷ []
