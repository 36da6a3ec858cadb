-- The list of CallExample.antt meets every supposition of the claim of CallClaim.antt, and no clash stands in it. By computing, but for the digest, of
-- which nothing but its length and its bytes is used. Assumes nothing.
use Rattle.std.specs.Prelude.{ℕ, zero, suc, ◌<◌, ◌≡◌, refl, ◌++◌, List, [], ◌∷◌, take}
use Rattle.std.proofs.Common.{ap, ◌∙◌, lit<, arith}
use Rattle.forms.specs.Request.{none, joined}
use Rattle.forms.specs.Terms.{global_clock}
use Rattle.forms.specs.declared.confirmation.Confirmation.{Confirmation}
use Rattle.forms.specs.declared.terms.CounterId.{CounterId}
use Rattle.validity.specs.Proof.{shape_at}
use Rattle.desk_table.specs.declared.answer.Figures.{Figures}
use Rattle.history.specs.History.{HistoryEvent, increment, read, list, bare, increment_at}
use Rattle.assurance.specs.CallClaim.{LentUpTo}
use Rattle.assurance.specs.DeskList.{Call, Item, event, confirmed, call, history, Accepted, call_entry, Certifies, Truth, Unopened, Opening, MadeFrom, Supposed, Clash, Clashed}
use Rattle.assurance.proofs.Laws.ServerAlong.{◌and◌}
use Rattle.worked_lists.specs.Worked.CallExample.{earlier-start, short, short_none, to-100, fits-100, longer}
use Rattle.worked_lists.specs.Worked.DeskExample.{nonce, seven, signed, opening, later, to-101, to-102, to-104, to-105, by_read, left_out, by-increment, since-opening, unraised, fits-101, fits-102, fits-104, fits-105}
use Rattle.worked_lists.specs.Worked.DeskWitness.{the-list, computed, Everywhere, everywhere-at, UpTo, up-to-at, other-id, by-read-shows, left-out-refused, spelled, OwnerTrue, owner-says, by-read-owner, by-increment-owner, since-opening-owner, LentAt, all-lent, carried_by}

-- ---- what is computed with

unfoldable pub longer-list : Unit {0}
unfolding the-list earlier-start short to-100 longer
longer-list = tt

unfoldable pub longer-computed : Unit {0}
unfolding computed longer-list
longer-computed = tt

-- ---- true verdicts

-- the history's increment at entry k's reading, before place i, has that entry's nonce
abbrev ModuleTrue : ℕ → Call → ℕ → Type 0
ModuleTrue i c k = Certifies (increment_at earlier-start (history (take i longer)) (call_entry c k).reading) (call_entry c k)

-- the events up to reading 103
abbrev to-103 : List HistoryEvent
to-103 =
    increment (bare short short_none)
    ∷ increment (list to-100 fits-100)
    ∷ increment (list to-101 fits-101)
    ∷ increment (list to-102 fits-102)
    ∷ increment (list [] none)
    ∷ []

-- the verdicts of the first call are true, the no on entry 2 too
by-read-true : Truth earlier-start signed longer 8 by_read
unfolding longer-computed
by-read-true =
    record {
      confirmation-yes = λ is-yes. (2, lit< tt, refl);
      certificate-yes = λ kind is-yes. record {
        earlier = to-103;
        later = [];
        split = refl;
        reached = refl;
      };
      module-yes = λ k low high is-yes. up-to-at (ModuleTrue 8 by_read) 3 (((tt, spelled to-101), spelled to-102), spelled []) k low high;
      owner-yes = λ k low high. owner-says by_read k 1 (by-read-owner k low high);
      owner-no = λ k low high. owner-says by_read k 0 (by-read-owner k low high);
    }

-- and those of the third
by-increment-true : Truth earlier-start signed longer 12 by-increment
unfolding longer-computed
by-increment-true =
    record {
      confirmation-yes = λ is-yes. (10, lit< tt, refl);
      certificate-yes = λ kind is-yes. absurd (let z : ◌≡◌ {A = ℕ} 0 1 = cc in omega arith);
      module-yes = λ k low high is-yes. up-to-at (ModuleTrue 12 by-increment) 1 (tt, spelled to-104) k low high;
      owner-yes = λ k low high. owner-says by-increment k 1 (by-increment-owner k low high);
      owner-no = λ k low high. owner-says by-increment k 0 (by-increment-owner k low high);
    }

-- and those of the last two
since-opening-true : Truth earlier-start signed longer 15 since-opening
unfolding longer-computed
since-opening-true =
    record {
      confirmation-yes = λ is-yes. (2, lit< tt, refl);
      certificate-yes = λ kind is-yes. record {
        earlier = to-103 ++ (read (nonce 5) ∷ increment (list to-104 fits-104) ∷ increment (list to-105 fits-105) ∷ []);
        later = [];
        split = refl;
        reached = refl;
      };
      module-yes = λ k low high is-yes.
          up-to-at (ModuleTrue 15 since-opening) 5
          (((((tt, spelled to-101), spelled to-102), spelled []), spelled to-104), spelled to-105) k low high;
      owner-yes = λ k low high. owner-says since-opening k 1 (since-opening-owner k low high);
      owner-no = λ k low high. owner-says since-opening k 0 (since-opening-owner k low high);
    }

unraised-true : Truth earlier-start signed longer 16 unraised
unfolding longer-computed
unraised-true =
    record {
      confirmation-yes = λ is-yes. (10, lit< tt, refl);
      certificate-yes = λ kind is-yes. record {
        earlier = to-103;
        later = increment (list to-104 fits-104) ∷ increment (list to-105 fits-105) ∷ read (nonce 7) ∷ [];
        split = refl;
        reached = refl;
      };
      module-yes = λ k low high is-yes. up-to-at (ModuleTrue 16 unraised) 0 tt k low high;
      owner-yes = λ k low high. owner-says unraised k 1 (up-to-at (OwnerTrue unraised) 0 tt k low high);
      owner-no = λ k low high. owner-says unraised k 0 (up-to-at (OwnerTrue unraised) 0 tt k low high);
    }

-- ---- the suppositions

-- each of them, of the item at a place: the verdicts of an accepted call are true
abbrev pub TrueAt : ℕ → Item → Type 0
TrueAt i (event e) = Unit {0}
TrueAt i (confirmed k) = Unit {0}
TrueAt i (call c) = Accepted c → Truth earlier-start signed longer i c

-- a confirmation before which there is none opens with its reading as value
abbrev OpenedAt : ℕ → Item → Type 0
OpenedAt i (event e) = Unit {0}
OpenedAt i (confirmed k) = k.id ≡ seven → Unopened longer seven i → k.value ≡ k.reading.0
OpenedAt i (call c) = Unit {0}

-- one with an opening before it was made from an accepted call
abbrev MadeAt : ℕ → Item → Type 0
MadeAt i (event e) = Unit {0}
MadeAt i (confirmed k) = k.id ≡ seven → (j : ℕ) (first : Confirmation) → j < i → Opening longer seven j first → MadeFrom longer i k
MadeAt i (call c) = Unit {0}

-- the later confirmation was made from the first call
later-made : MadeFrom longer 10 later
unfolding longer-list
later-made =
    record {
      place = 8;
      from = by_read;
      earlier = lit< tt;
      stands = refl;
      accepted = ap (λ (f : Figures). f.number) by-read-shows;
      id = refl;
      value = ap (λ (f : Figures). f.value) by-read-shows;
      reading = ap (λ (f : Figures). global_clock f.closing) by-read-shows;
    }

-- every accepted call's verdicts are true
pub all_true : Everywhere TrueAt longer
unfolding longer-list
all_true =
    tt and tt and tt and tt and tt and tt and tt and tt
    and (λ accepted. by-read-true)
    and (λ accepted. absurd (omega (arith, accepted, ap (λ (f : Figures). f.number) left-out-refused)))
    and tt and tt
    and (λ accepted. by-increment-true)
    and tt and tt
    and (λ accepted. since-opening-true)
    and (λ accepted. unraised-true)
    and tt

-- counter 7 is opened with its reading as value
all-opened : Everywhere OpenedAt longer
unfolding longer-list
all-opened =
    tt and tt
    and (λ own unopened. refl)
    and (λ own unopened. other-id 9 7 refl own)
    and tt and tt and tt and tt and tt and tt
    and (λ own unopened. absurd (unopened 2 opening (lit< tt) refl refl))
    and tt and tt and tt and tt and tt and tt and tt

-- its opening is the first confirmation: before it stand two events
pub opens : Opening longer seven 2 opening
unfolding longer-list
opens = record { stands = refl; own = refl; before = before }
  where
    before : Unopened longer seven 2
    before zero k earlier stands own = let z : ◌≡◌ {A = ℕ} 0 1 = cc in omega arith
    before (suc zero) k earlier stands own = let z : ◌≡◌ {A = ℕ} 0 1 = cc in omega arith
    before (suc (suc j)) k earlier stands own = omega arith

-- its other confirmation was made from an accepted call
all_made : Everywhere MadeAt longer
unfolding longer-list
all_made =
    tt and tt
    and (λ own j first earlier opens-first. absurd (opens.before j first earlier opens-first.stands opens-first.own))
    and (λ own j first earlier opens-first. other-id 9 7 refl own)
    and tt and tt and tt and tt and tt and tt
    and (λ own j first earlier opens-first. later-made)
    and tt and tt and tt and tt and tt and tt and tt

-- what demand 3 supposes of counter 7 holds of the list, up to every place
pub supposed : (i : ℕ) → Supposed earlier-start signed longer seven i
supposed i =
    record {
      truth = λ j c up_to_lem stands own accepted. everywhere-at TrueAt longer all_true j (call c) stands accepted;
      opened = λ j k up_to_lem opens. everywhere-at OpenedAt longer all-opened j (confirmed k) opens.stands opens.own opens.before;
      others = λ j place k first up_to_lem opens earlier stands own. everywhere-at MadeAt longer all_made j (confirmed k) stands own place first earlier opens;
    }

-- ---- what the desk is lent are bytes

pub lent : (id : CounterId) (i : ℕ) → LentUpTo longer id i
unfolding longer-list
lent id i j c up_to_lem stands own accepted = everywhere-at LentAt longer (tt and tt and all-lent) j (call c) stands

-- ---- no clash

-- at entry k's reading, before place i, that is the entry's requests
abbrev Agrees : ℕ → Call → ℕ → Type 0
Agrees i c k = (call_entry c k).requests ≡ carried_by (increment_at earlier-start (history (take i longer)) (call_entry c k).reading)

-- and so it clashes nowhere
abbrev pub ApartAt : ℕ → Item → Type 0
ApartAt i (event e) = Unit {0}
ApartAt i (confirmed k) = Unit {0}
ApartAt i (call c) = Clash earlier-start longer i c → ⊥

agrees-apart : (i : ℕ) (c : Call) → UpTo (Agrees i c) (shape_at c.proof).count → ApartAt i (call c)
agrees-apart i c agrees clash =
    clash.differ
    (ap joined
    (up-to-at (Agrees i c) (shape_at c.proof).count agrees clash.entry clash.low clash.high ∙ ap carried_by clash.stands))

pub all_apart : Everywhere ApartAt longer
unfolding longer-computed
all_apart =
    tt and tt and tt and tt and tt and tt and tt and tt
    and agrees-apart 8 by_read (((tt, refl), refl), refl)
    and agrees-apart 9 left_out ((tt, refl), refl)
    and tt and tt
    and agrees-apart 12 by-increment (tt, refl)
    and tt and tt
    and agrees-apart 15 since-opening (((((tt, refl), refl), refl), refl), refl)
    and agrees-apart 16 unraised tt
    and tt

-- no clash stands in the list
pub no-clash : (id : CounterId) (i : ℕ) → Clashed earlier-start longer id i → ⊥
no-clash id i clashed = everywhere-at ApartAt longer all_apart clashed.place (call clashed.from) clashed.stands clashed.clash
