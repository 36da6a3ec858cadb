-- What the claim of CallClaim.antt says of the accepted calls in the list of CallExample.antt, in figures: those of DeskWitness.antt, though the history
-- begins earlier; and that the nonces of the two increments ahead are used up by them. Assumes nothing.
use Rattle.std.specs.Prelude.{ℕ, zero, suc, ◌<◌, ◌≡◌, refl, true, false, List, [], ◌∷◌, eqb, length, get_or, take, drop}
use Rattle.std.proofs.Common.{sym, ap, subst, ◌∙◌, ⊎_elim, arith}
use Rattle.std.proofs.Math.Option.{some}
use Rattle.std.proofs.Math.ListN.{get_elem?}
use Rattle.std.proofs.lemmas.Bool.{eqb-false}
use Rattle.forms.specs.Request.{names_twice}
use Rattle.forms.specs.Terms.{global_clock}
use Rattle.forms.specs.declared.confirmation.Confirmation.{Confirmation}
use Rattle.forms.specs.declared.request.Request.{Request}
use Rattle.forms.specs.declared.terms.CounterId.{CounterId}
use Rattle.desk_table.specs.declared.answer.Figures.{Figures}
use Rattle.desk_table.specs.Desk.{confirmation}
use Rattle.history.specs.History.{increment, bare, clock_after}
use Rattle.history.specs.Nonce.{InRequest, New}
use Rattle.history.proofs.Laws.NonceLaws.{bare-not-new, request-not-new}
use Rattle.history.specs.Openings.{number_of, openings_between}
use Rattle.history.specs.Value.{signed_among, counts, value_at}
use Rattle.assurance.specs.CallClaim.{Counted}
use Rattle.assurance.specs.DeskList.{Call, call, At, history, shown, Accepted, closes, Opening, Supposed, Fresh}
use Rattle.assurance.specs.Valued.{Valued}
use Rattle.assurance.proofs.Laws.CallProof.{call-claim}
use Rattle.assurance.proofs.Laws.ListLaws.{opening-once}
use Rattle.assurance.proofs.Laws.ServerAlong.{◌and◌}
use Rattle.worked_lists.specs.Worked.CallExample.{earlier-start, short, short_none, to-100, fits-100, longer}
use Rattle.worked_lists.specs.Worked.CallSupposed.{longer-list, longer-computed, TrueAt, all_true, opens, supposed, lent, ApartAt, all_apart, no-clash}
use Rattle.worked_lists.specs.Worked.DeskExample.{nonce, seven, nine, start, signed, opening, later, request, by_read, by-increment, since-opening, unraised}
use Rattle.worked_lists.specs.Worked.DeskWitness.{everywhere-at, by-read-shows, by-increment-shows, since-opening-shows, unraised-shows}

-- ---- what the claim says of it

-- an accepted call of counter 7 shows the history's value
valued : (i : ℕ) (c : Call) → At longer i (call c) → c.id ≡ seven → Accepted c → Valued earlier-start signed longer (history longer) c.id (closes c) (shown c).value
valued i c stands own accepted =
    ⊎_elim (λ holds. holds) (λ clashed. absurd (no-clash c.id i clashed))
    ((call-claim earlier-start signed longer i c stands accepted (lent c.id i)).0
    (subst (λ (id : CounterId). Supposed earlier-start signed longer id i) (sym own) (supposed i)))

-- and by its true verdicts alone it shows the history's openings and is fresh
counted-fresh : (i : ℕ) (c : Call) → At longer i (call c) → Accepted c → Counted earlier-start signed longer c × Fresh earlier-start longer c
counted-fresh i c stands accepted =
    ⊎_elim (λ holds. holds) (λ clash. absurd (everywhere-at ApartAt longer all_apart i (call c) stands clash))
    ((call-claim earlier-start signed longer i c stands accepted (lent c.id i)).1 (everywhere-at TrueAt longer all_true i (call c) stands accepted))

-- such a call shows the value that the history gives the counter from reading 100 on
shows-value : (i : ℕ) (c : Call) (f : Figures) → At longer i (call c) → c.id ≡ seven → shown c ≡ f → f.number ≡ 0
    → value_at signed seven earlier-start (history longer) start (global_clock f.closing) ≡ f.value
unfolding opening
shows-value i c f stands own shows accepted =
    let holds = valued i c stands own (ap (λ (g : Figures). g.number) shows ∙ accepted) in
    let same : holds.opening ≡ opening =
    opening-once longer c.id holds.place 2 holds.opening opening holds.opens
    (subst (λ (id : CounterId). Opening longer id 2 opening) (sym own) opens)
    in
    sym
    (sym (ap (λ (g : Figures). g.value) shows)
    ∙ holds.given
    ∙ ap (λ (k : Confirmation). value_at signed c.id earlier-start (history longer) k.reading (closes c)) same
    ∙ ap (λ (id : CounterId). value_at signed id earlier-start (history longer) start (closes c)) own
    ∙ ap (λ (g : Figures). value_at signed seven earlier-start (history longer) start (global_clock g.closing)) shows)

-- by the claim, the history's value of counter 7 at reading 103 is the 101 that the first accepted call shows: the stranger's request, by which the
-- clock came to 102, counts nothing
pub longer-value-at-103 : value_at signed seven earlier-start (history longer) start (global_clock 103) ≡ 101
unfolding longer-list
longer-value-at-103 = shows-value 8 by_read (record { number = 0; value = 101; closing = 103; place = 0; openings = 1 }) refl refl by-read-shows refl

-- and at reading 104 it is the 104 that the second shows
pub longer-value-at-104 : value_at signed seven earlier-start (history longer) start (global_clock 104) ≡ 104
unfolding longer-list
longer-value-at-104 = shows-value 12 by-increment (record { number = 0; value = 104; closing = 104; place = 0; openings = 1 }) refl refl by-increment-shows refl

-- such a call shows the history's openings since its own confirmation
shows-openings : (i : ℕ) (c : Call) (k : Confirmation) (f : Figures) → At longer i (call c) → c.id ≡ seven → confirmation c.proof ≡ k → shown c ≡ f
    → f.number ≡ 0
    → openings_between signed seven earlier-start (history longer) k.reading (global_clock f.closing) ≡ f.openings
shows-openings i c k f stands own confirms shows accepted =
    sym
    (sym (ap (λ (g : Figures). g.openings) shows)
    ∙ (counted-fresh i c stands (ap (λ (g : Figures). g.number) shows ∙ accepted)).0
    ∙ ap (λ (id : CounterId). openings_between signed id earlier-start (history longer) (confirmation c.proof).reading (closes c)) own
    ∙ ap (λ (q : Confirmation). openings_between signed seven earlier-start (history longer) q.reading (closes c)) confirms
    ∙ ap (λ (g : Figures). openings_between signed seven earlier-start (history longer) k.reading (global_clock g.closing)) shows)

-- by the claim: two since the opening, none right behind the second confirmation, and one behind it up to the next raise ..
pub longer-openings-at-105 : openings_between signed seven earlier-start (history longer) start (global_clock 105) ≡ 2
unfolding longer-computed
longer-openings-at-105 =
    shows-openings 15 since-opening opening (record { number = 0; value = 104; closing = 105; place = 0; openings = 2 }) refl refl refl since-opening-shows refl

pub longer-openings-none : openings_between signed seven earlier-start (history longer) (global_clock 103) (global_clock 103) ≡ 0
unfolding longer-computed
longer-openings-none = shows-openings 16 unraised later (record { number = 0; value = 101; closing = 103; place = 0; openings = 0 }) refl refl refl unraised-shows refl

pub longer-openings-behind-later : openings_between signed seven earlier-start (history longer) (global_clock 103) (global_clock 104) ≡ 1
unfolding longer-computed
longer-openings-behind-later =
    shows-openings 12 by-increment later (record { number = 0; value = 104; closing = 104; place = 0; openings = 1 }) refl refl refl by-increment-shows refl

-- .. where since the opening there are two
pub longer-openings-at-104 : openings_between signed seven earlier-start (history longer) start (global_clock 104) ≡ 2
unfolding longer-computed openings_between number_of counts signed_among
longer-openings-at-104 = refl

-- nonces of twenty bytes that differ, and the one of nineteen
other-nonce : (a b : ℕ) → eqb a b ≡ false → nonce a ≡ nonce b → ⊥
unfolding nonce
other-nonce a b other same = eqb-false a b other (ap (λ (l : List ℕ). get_or l 0 0) same)

shorter : (b : ℕ) → short ≡ nonce b → ⊥
unfolding nonce short
shorter b same = omega (arith, ap (λ (l : List ℕ). length l) same)

-- the first call's nonce was new right before its clock read, where the clock was at the reading that the proof closes on
pub longer-nonce-new : New (nonce 5) (history (take 7 longer)) × (clock_after earlier-start (history (take 7 longer)) ≡ closes by_read)
unfolding longer-computed New InRequest
longer-nonce-new = (
  shorter 5
      and ⊎_elim (other-nonce 3 5 refl) (⊎_elim (other-nonce 10 5 refl) (λ none_left. none_left))
      and ⊎_elim (other-nonce 1 5 refl) (⊎_elim (other-nonce 8 5 refl) (λ none_left. none_left))
      and ⊎_elim (other-nonce 2 5 refl) (λ none_left. none_left)
      and (λ none_left. none_left)
      and tt,
  sym (ap (λ (f : Figures). global_clock f.closing) by-read-shows),
)

-- by the claim, that reading is no lower than the clock was wherever the nonce was new; and so it is of kind 2
pub longer-by-read-fresh : Fresh earlier-start longer by_read
unfolding longer-list
longer-by-read-fresh = (counted-fresh 8 by_read refl (ap (λ (f : Figures). f.number) by-read-shows)).1

pub longer-by-increment-fresh : Fresh earlier-start longer by-increment
unfolding longer-list
longer-by-increment-fresh = (counted-fresh 12 by-increment refl (ap (λ (f : Figures). f.number) by-increment-shows)).1

-- ---- nonces that are used up

-- a nonce was new before place i of the list, and is so nowhere behind it
abbrev pub UsedAt : List ℕ → ℕ → Type 0
UsedAt used i = New used (history (take i longer)) × ((j : ℕ) → i < j → New used (history (take j longer)) → ⊥)

-- so it is with what the increment to 99 was given, the digest of no list
pub short-used : UsedAt short 0
unfolding longer-list history New
short-used = (tt, gone)
  where
    gone : (j : ℕ) → 0 < j → New short (history (take j longer)) → ⊥
    gone zero behind new = omega arith
    gone (suc j) behind new = bare-not-new short short_none [] (history (take j (drop 1 longer))) new

-- the increment to 100 names counter 9 twice, and so it is with the nonce of each of its requests
pub named-twice : names_twice to-100 ≡ true
unfolding longer-computed
named-twice = refl

pub twice-used : (place : ℕ) (q : Request) → get_elem? to-100 place ≡ some q → UsedAt q.nonce 1
unfolding longer-list history New
twice-used place q stands = (first place stands and tt, gone)
  where
    first : (k : ℕ) → get_elem? to-100 k ≡ some q → short ≡ q.nonce → ⊥
    first zero is equal = let r : request 3 nine 98 ≡ q = cc in shorter 3 (equal ∙ ap (λ (x : Request). x.nonce) (sym r))
    first (suc zero) is equal = let r : request 10 nine 98 ≡ q = cc in shorter 10 (equal ∙ ap (λ (x : Request). x.nonce) (sym r))
    first (suc (suc k)) is equal = let z : ◌≡◌ {A = ℕ} 0 1 = cc in omega arith

    gone : (j : ℕ) → 1 < j → New q.nonce (history (take j longer)) → ⊥
    gone zero behind new = omega arith
    gone (suc zero) behind new = omega arith
    gone (suc (suc j)) behind new = request-not-new to-100 fits-100 place q stands (increment (bare short short_none) ∷ [])
        (history (take j (drop 2 longer))) new
