-- A list with one fault: honest at every place but one, and with a proof that the history does not bear out. And what such lists have in common: the calls
-- that open counter 7 at 100, raise it to 101 and write its proof. Assumes nothing.
use Rattle.std.specs.Prelude.{ℕ, ◌≡◌, refl, true, List, [], ◌∷◌, length, take}
use Rattle.std.proofs.Common.{sym, ap, ap₂, subst, arith, lit<}
use Rattle.forms.specs.Bytes.{window}
use Rattle.forms.specs.Chain.{running_after}
use Rattle.forms.specs.Entry.{units}
use Rattle.forms.specs.Request.{RequestsFit, request_at, request_bytes, joined, names}
use Rattle.forms.specs.Terms.{global_clock}
use Rattle.forms.specs.declared.request.Request.{Request}
use Rattle.forms.specs.declared.terms.GlobalClock.{GlobalClock}
use Rattle.validity.specs.declared.proof.Kind.{Kind}
use Rattle.history.specs.History.{Given, list, increment, carried, Made, made, unmade}
use Rattle.history.specs.Value.{Signatures}
use Rattle.log_image.specs.Sound.{holds, oldest, after, ending, record_of}
use Rattle.log_image.specs.State.{State, decode}
use Rattle.log_store.proofs.Laws.EachRecordLaws.{Each}
use Rattle.log_store.specs.Effect.{updated}
use Rattle.host.specs.Host.{held_of, has_entry, asked, asked_from, judge_next, judged_batch, counted, last_entries, increment_call}
use Rattle.host.specs.declared.answer.Figures.{Figures}
use Rattle.worked_lists.specs.Worked.CloseWitness.{seven, single, raising, raise_at, room, holding, raised, holding-image, raised-image, holding-here, raised-here, raise-seven}
use Rattle.assurance.specs.DeskList.{Call, Item, event, confirmed, history}
use Rattle.assurance.specs.HostList.{HostCall, settled_by}
use Rattle.worked_lists.specs.Worked.HostListWitness.{byte_nonce, nonce-bytes, blank}
use Rattle.worked_lists.specs.Worked.Places.{Done, signed, opening, proves, lasts}
use Rattle.assurance.proofs.Laws.ServerLaws.{Certified}
use Rattle.assurance.specs.ServerList.{ServerItem, host, beside, ItemAt, desk_list, image_at, desk_at, owing, handed_prove, handed_last, AllSigned, Paid, HonestAt, Typed, Writes, Borne}
use Rattle.assurance.proofs.Laws.ServerNeeds.{entries-needed}
use Rattle.assurance.proofs.Laws.ServerWritten.{Written, last_written}

-- the first of some
pub each_first : {A : Type 0} {P : A → Type 0} {x : A} {xs : List A} → Each P (x ∷ xs) → P x
each_first (Each.more p ps) = p

-- a list with one fault: at every place but one the server is honest, and a proof that it writes does not get a true yes to everything
pub record Faulty (first : GlobalClock) (signing : Signatures) (l : List ServerItem) (fault : ℕ) : Type 0 where
  pub typed : Typed l
  pub honest-else : (j : ℕ) → (j ≡ fault → ⊥) → HonestAt first signing blank l j
  pub place : ℕ
  pub from : HostCall
  pub handed : Call
  pub stands : ItemAt l place (host from)
  pub writes : Writes (image_at blank first l place) from handed
  pub not-borne : Borne first signing (desk_list l) (length (desk_at l place)) handed → ⊥

-- ---- the calls

-- every request is signed
abbrev pub all-signed : Signatures
all-signed q = true

pub any-signed : (qs : List Request) → AllSigned all-signed qs
any-signed [] = tt
any-signed (q ∷ qs) = (refl, any-signed qs)

abbrev pub asks : List Request
asks = single 1 100

pub asks-fit : RequestsFit asks
asks-fit = RequestsFit.one_more (record { nonce = refl; bytes = nonce-bytes 1 (lit< tt); id = lit< tt; before = lit< tt }) RequestsFit.none

abbrev pub nothing-asked : Given
nothing-asked = list [] RequestsFit.none

abbrev pub raise : HostCall
raise = raising 1 100

abbrev pub lasting : HostCall
lasting = HostCall.last seven (global_clock 101) room

pub last-seven : Done (settled_by raised-image lasting) 92 (counted raised seven)
unfolding holds record_of updated oldest after has_entry names
last-seven = lasts seven (global_clock 101) room raised-here refl refl

-- the proof that it writes
abbrev pub handed-last : Call
handed-last = handed_last raised-image seven (global_clock 101) room

pub last-writes : Writes raised-image lasting handed-last
last-writes = (ap (λ (f : Figures). f.number) last-seven.answers, refl)

-- it begins with the opening and has one entry
pub last-is : Written handed-last Kind.Increment (signed seven 100) (raise_at 101 asks ∷ []) (global_clock 101)
unfolding record_of after oldest
last-is =
    subst (λ (st : State). Written handed-last Kind.Increment (held_of st seven) (last_entries st seven (global_clock 101)) (global_clock 101)) raised-here.says
    (last_written raised-image raised-here.kept seven (global_clock 101) room handed-last (lit< tt) last-writes).1

-- the request passes, and so it is owed
abbrev pub passed : List Request
passed = (judged_batch (decode holding-image) (asked (joined asks) (1 ∷ []))).passed

abbrev pub owed : List (List Request)
owed = owing (increment_call holding-image (joined asks) (1 ∷ [])).figures.value passed

pub owed-asks : owed ≡ asks ∷ []
unfolding judged_batch judge_next asked_from request_at joined request_bytes window holds record_of ending oldest after running_after units names
owed-asks =
    ap₂ owing (ap (λ (f : Figures). f.value) raise-seven.answers)
    (ap (λ (x : State). (judged_batch x (asked (joined asks) (1 ∷ []))).passed) holding-here.says)

pub signed-asks : AllSigned all-signed passed
signed-asks = any-signed passed

-- the module is given it
pub paid-asks : Paid owed (list asks asks-fit)
paid-asks = subst (λ (o : List (List Request)). Paid o (list asks asks-fit)) (sym owed-asks) (asks-fit, refl)

-- ---- a list that ends with that proof

pub last-faulty : (first : GlobalClock) (signing : Signatures) (l : List ServerItem) (fault place : ℕ) → Typed l
    → ((j : ℕ) → (j ≡ fault → ⊥) → HonestAt first signing blank l j) → ItemAt l place (host lasting) → image_at blank first l place ≡ raised-image
    → (Borne first signing (desk_list l) (length (desk_at l place)) handed-last → ⊥) → Faulty first signing l fault
last-faulty first signing l fault place typed honest-else stands image not-borne =
    record {
      typed = typed;
      honest-else = honest-else;
      place = place;
      from = lasting;
      handed = handed-last;
      stands = stands;
      writes = subst (λ (s : List ℕ). Writes s lasting handed-last) (sym image) last-writes;
      not-borne = not-borne;
    }

-- its entry, where it is borne out
pub entry-borne : (first : GlobalClock) (signing : Signatures) (d : List Item) (m : ℕ) → Borne first signing d m handed-last
    → Certified first signing (history (take m d)) (raise_at 101 asks)
entry-borne first signing d m bears =
    each_first (entries-needed first signing d m handed-last Kind.Increment (signed seven 100) (raise_at 101 asks ∷ []) (global_clock 101) last-is bears)

-- the module made no increment there, or one with no request
pub not_made : (given : Given) → unmade ≡ made given → ⊥
not_made given same = let z : ◌≡◌ {A = ℕ} 0 1 = cc in omega arith

pub not-asked : (fit : RequestsFit asks) → made nothing-asked ≡ made (list asks fit) → ⊥
not-asked fit same = let none : ◌≡◌ {A = ℕ} 0 1 = ap requests_in same in omega (arith, none)
  where
    requests_in : Made → ℕ
    requests_in (made given) = length (carried given)
    requests_in unmade = 0

-- what follows a start at 100: 7 is opened and raised, the module increments, and the proof is written
abbrev pub behind-start : List ServerItem
behind-start =
    beside (confirmed (signed seven 100))
    ∷ host (opening seven 100)
    ∷ host raise
    ∷ beside (event (increment (list asks asks-fit)))
    ∷ host lasting
    ∷ []

-- ---- a proof of the other kind

-- prove for 7 with the nonce of a byte, and the proof that it writes on an image
abbrev pub proving : ℕ → HostCall
proving b = HostCall.prove (byte_nonce b) seven room

abbrev pub handed-from : ℕ → List ℕ → Call
handed-from b s = handed_prove s (byte_nonce b) seven room

pub prove-opened : Done (settled_by holding-image (proving 4)) 60 (counted holding seven)
unfolding holds record_of updated oldest after
prove-opened = proves 4 seven room holding-here refl refl

pub opened-writes : Writes holding-image (proving 4) (handed-from 4 holding-image)
opened-writes = (ap (λ (f : Figures). f.number) prove-opened.answers, refl)
