-- The list of DeskExample.antt meets every supposition of the desk's claim, and no clash stands in it, so the claim speaks of something; and what it says
-- of the accepted calls there, in figures. By computing, but for the digest, of which nothing but its length and its bytes is used. Assumes nothing.
use Rattle.std.specs.Prelude.{ℕ, zero, suc, ◌+◌, ◌^◌, ◌≤◌, ◌<◌, ◌≡◌, refl, Bool, true, false, not, cond, ◌&&◌, List, [], ◌∷◌, ◌++◌, eqb, ltb, length, get_or, take, drop, Ok}
use Rattle.std.proofs.Common.{sym, ap, subst, ◌∙◌, ⊎_elim, lit<, arith, ltb-true}
use Rattle.std.proofs.lemmas.Bool.{false≢true, eqb-false}
use Rattle.std.proofs.Math.Decide.{dec_le}
use Rattle.forms.specs.Bytes.{Bytes, same, window}
use Rattle.forms.specs.Laws.BytesLaws.{same_refl, window-whole, length-window, bytes-window}
use Rattle.forms.specs.Certificate.{certificate_at, certificate_bytes}
use Rattle.forms.specs.Checks.{Row, first_answer}
use Rattle.forms.specs.Confirmation.{confirmation_at, confirmation_bytes}
use Rattle.forms.specs.Entry.{Entry, entry_at, offset_at, head_bytes, entry_bytes, log_bytes}
use Rattle.forms.specs.Laws.EntryLaws.{EntryFits, EntriesFit, one_more, none as no_more}
use Rattle.forms.specs.Limits.{nonce_len}
use Rattle.forms.specs.Log.{walked}
use Rattle.forms.specs.Request.{RequestsFit, none, request_at, request_bytes, requests_at, joined, names, place_of, before_of, nonce_of, names_twice}
use Rattle.forms.specs.Laws.TestsLaws.{both}
use Rattle.forms.specs.Terms.{counter_id, global_clock}
use Rattle.forms.specs.declared.certificate.Certificate.{Certificate}
use Rattle.forms.specs.declared.confirmation.Confirmation.{Confirmation}
use Rattle.forms.specs.declared.request.Request.{Request}
use Rattle.forms.specs.declared.terms.CounterId.{CounterId}
use Rattle.digest.specs.Seal.{digest_of, is_sealed}
use Rattle.digest.specs.Laws.SealLaws.{digest-length, digest-bytes}
use Rattle.validity.specs.Proof.{Fields, header_of, header_bytes, proof_bytes, parsed, log_offset, shape_at}
use Rattle.validity.specs.declared.proof.Kind.{Kind}
use Rattle.validity.specs.declared.proof.Proof.{Proof}
use Rattle.desk_table.specs.Answer.{figures, Answer, refuses}
use Rattle.desk_table.specs.declared.answer.Figures.{Figures}
use Rattle.desk_table.specs.Desk.{confirmation, zero_or_one, is_no, verdicts_to, is_own, running_to, bad_wanted, bad_verdicts, bad_confirmation, certificate_denied, module_denied, forged, repeated, closes_elsewhere, wrong_reading, wrong_closing, breaks_chain, closing, later_checks, accepted, judged, verified}
use Rattle.desk_table.proofs.Laws.DeskLaws.{answer_of, verified-parsed}
use Rattle.desk_table.specs.Lowest.{lowest, lowest_from}
use Rattle.desk_table.proofs.Laws.LowestLaws.{lowest-none}
use Rattle.history.specs.History.{increment, read, list, carried, increments, clock_after, Made, made, unmade, increment_at}
use Rattle.history.specs.Nonce.{InRequest, New}
use Rattle.history.specs.Openings.{number_of, openings_between}
use Rattle.history.specs.Value.{signed_among, counts, value_at}
use Rattle.log_image.specs.Laws.ImageParts.{bytes-append, bytes-log}
use Rattle.worked_lists.specs.Worked.DeskExample.{nonce, seven, nine, start, signed, opening, later, request, to-101, to-102, to-104, to-105, entry_for, read_at, three, two, one, five, by_read, left_out, by-increment, since-opening, unraised, fits-101, fits-102, fits-104, fits-105, items}
use Rattle.assurance.specs.DeskList.{Call, Item, event, confirmed, call, At, history, shown, Accepted, closes, kind_of, call_entry, request_of, owner_said, Certifies, Truth, Unopened, Opening, MadeFrom, Supposed, Sound, Fresh, Clash, Clashed, Lent}
use Rattle.assurance.proofs.Laws.DeskProof.{desk-claim}
use Rattle.assurance.proofs.Laws.ListLaws.{opening-once}

-- ---- what is computed with, named once

-- the list and its history, the byte forms, the desk's tests, and its table
the-terms : Unit {0}
unfolding nonce seven nine start signed opening later request to-101 to-102 to-104 to-105 entry_for read_at
the-terms = tt

unfoldable pub the-list : Unit {0}
unfolding the-terms three two one five by_read left_out by-increment since-opening unraised items
the-list = tt

the-history : Unit {0}
unfolding history increments clock_after increment_at
the-history = tt

the-forms : Unit {0}
unfolding same window header_of header_bytes proof_bytes confirmation_at confirmation_bytes certificate_at certificate_bytes entry_at offset_at head_bytes entry_bytes log_bytes
the-forms = tt

the-requests : Unit {0}
unfolding request_at request_bytes requests_at joined names place_of before_of names_twice nonce_of walked parsed
the-requests = tt

the-desk : Unit {0}
unfolding zero_or_one verdicts_to is_own running_to bad_wanted bad_verdicts bad_confirmation certificate_denied module_denied forged is_sealed repeated closes_elsewhere wrong_reading
the-desk = tt

the-table : Unit {0}
unfolding wrong_closing breaks_chain closing judged verified lowest_from
the-table = tt

-- all of it
unfoldable pub computed : Unit {0}
unfolding the-list the-history the-forms the-requests the-desk the-table
computed = tt

-- ---- facts place by place

-- a fact of every item of a list at its place
abbrev pub Everywhere : (ℕ → Item → Type 0) → List Item → Type 0
Everywhere P [] = Unit {0}
Everywhere P (x ∷ l) = P 0 x × Everywhere (λ i. P (suc i)) l

-- holds of the item at each place
pub everywhere-at : (P : ℕ → Item → Type 0) (l : List Item) → Everywhere P l → (i : ℕ) (x : Item) → At l i x → P i x
everywhere-at P [] all i x stands = absurd (let z : ◌≡◌ {A = ℕ} 0 1 = cc in omega arith)
everywhere-at P (y ∷ l) all zero x stands = subst (P 0) (let same : y ≡ x = cc in same) all.0
everywhere-at P (y ∷ l) all (suc i) x stands = everywhere-at (λ j. P (suc j)) l all.1 i x stands

-- a fact of each number from 1 to n
abbrev pub UpTo : (ℕ → Type 0) → ℕ → Type 0
UpTo P zero = Unit {0}
UpTo P (suc n) = UpTo P n × P (suc n)

-- holds of each number from 1 to n
pub up-to-at : (P : ℕ → Type 0) (n : ℕ) → UpTo P n → (k : ℕ) → 1 ≤ k → k ≤ n → P k
up-to-at P zero all k low high = absurd (omega arith)
up-to-at P (suc n) all k low high = from (dec_le k n) (up-to-at P n all.0 k low)
  where
    from : Dec (k ≤ n) → (k ≤ n → P k) → P k
    from (yes less) below = below less
    from (no more) below = subst P (let same : suc n ≡ k = omega arith in same) all.1

-- ids that differ are not the same
pub other-id : {A : Type 0} (m n : ℕ) → eqb m n ≡ false → counter_id m ≡ counter_id n → A
other-id m n other same = absurd (eqb-false m n other (ap (λ (x : CounterId). x.0) same))

-- ---- what the desk answers

-- an entry with the twenty bytes of its requests' digest is sealed
sealed : (qs : List Request) → not (same (window (digest_of qs) 0 nonce_len) (digest_of qs)) ≡ false
sealed qs =
    ap not (ap (λ (n : List ℕ). same n (digest_of qs)) (window-whole (digest_of qs) nonce_len (digest-length qs)) ∙ same_refl (digest_of qs))

-- the first rows of a table do not hold
abbrev Unheld : ℕ → List (Row Answer) → Type 0
Unheld zero rows = Unit {0}
Unheld (suc k) [] = Unit {0}
Unheld (suc k) (row ∷ rows) = (row.test ≡ false) × Unheld k rows

-- so the answer is that of the others
unheld-behind : (k : ℕ) (rows : List (Row Answer)) (otherwise : Answer) → Unheld k rows → first_answer rows otherwise ≡ first_answer (drop k rows) otherwise
unheld-behind zero rows otherwise unheld = refl
unheld-behind (suc k) [] otherwise unheld = refl
unheld-behind (suc k) (row ∷ rows) otherwise unheld =
    ap (λ (held : Bool). cond held row.answer (first_answer rows otherwise)) unheld.0 ∙ unheld-behind k rows otherwise unheld.1

-- the answer to a call whose proof reads, behind its first rows up to 30
answered : (c : Call) (p : Proof) → bad_wanted c.id c.nonce ≡ false → parsed c.proof ≡ Ok p
    → Unheld 6 (later_checks p c.proof c.verdicts c.id c.nonce)
    → verified c.proof c.verdicts c.id c.nonce
    ≡ first_answer (drop 6 (later_checks p c.proof c.verdicts c.id c.nonce)) (accepted p c.proof c.verdicts c.id)
unfolding judged
answered c p wanted reads unheld =
    let judge : Proof → Answer = λ q. judged q c.proof c.verdicts c.id c.nonce in
    verified-parsed c.proof c.verdicts c.id c.nonce
    ∙ ap (λ (held : Bool). cond held (refuses 1 0) (answer_of judge (parsed c.proof))) wanted
    ∙ ap (answer_of judge) reads
    ∙ unheld-behind 6 (later_checks p c.proof c.verdicts c.id c.nonce) (accepted p c.proof c.verdicts c.id) unheld

-- 30 does not hold where every entry is sealed
none-forged : (c : Call) (n : ℕ) → UpTo (λ k. forged c.proof (log_offset (kind_of c)) k ≡ false) n
    → not (eqb (lowest (forged c.proof (log_offset (kind_of c))) n) 0) ≡ false
none-forged c n clear =
    let bad : ℕ → Bool = forged c.proof (log_offset (kind_of c)) in
    ap (λ (place : ℕ). not (eqb place 0)) (lowest-none bad n (up-to-at (λ k. bad k ≡ false) n clear))

-- the first call is accepted, though its second entry is counter 7's and unsigned
pub by-read-shows : shown by_read ≡ record { number = 0; value = 101; closing = 103; place = 0; openings = 1 }
unfolding computed
by-read-shows =
    ap figures
    (answered by_read (record { kind = Kind.Read; count = 3 }) refl refl
    (refl, (refl, (refl, (refl, (refl, (none-forged by_read 3 (((tt, sealed to-101), sealed to-102), sealed []), tt)))))))

-- the second is not: its first entry has t = 102
pub left-out-refused : shown left_out ≡ record { number = 11; value = 0; closing = 0; place = 1; openings = 0 }
unfolding computed
left-out-refused =
    ap figures
    (answered left_out (record { kind = Kind.Read; count = 2 }) refl refl
    (refl, (refl, (refl, (refl, (refl, (none-forged left_out 2 ((tt, sealed to-102), sealed []), tt)))))))

-- the third is accepted; its openings are those behind the second confirmation
pub by-increment-shows : shown by-increment ≡ record { number = 0; value = 104; closing = 104; place = 0; openings = 1 }
unfolding computed
by-increment-shows =
    ap figures
    (answered by-increment (record { kind = Kind.Increment; count = 1 }) refl refl
    (refl, (refl, (refl, (refl, (refl, (none-forged by-increment 1 (tt, sealed to-104), tt)))))))

-- and so are the last two
pub since-opening-shows : shown since-opening ≡ record { number = 0; value = 104; closing = 105; place = 0; openings = 2 }
unfolding computed
since-opening-shows =
    ap figures
    (answered since-opening (record { kind = Kind.Read; count = 5 }) refl refl (
      refl,
      (
        refl,
        (
          refl,
          (
            refl,
            (
              refl,
              (none-forged since-opening 5 (((((tt, sealed to-101), sealed to-102), sealed []), sealed to-104), sealed to-105), tt),
            ),
          ),
        ),
      ),
    ))

pub unraised-shows : shown unraised ≡ record { number = 0; value = 101; closing = 103; place = 0; openings = 0 }
unfolding computed
unraised-shows = refl

-- ---- true verdicts

-- the history's increment at entry k's reading, before place i, has that entry's nonce
abbrev ModuleTrue : ℕ → Call → ℕ → Type 0
ModuleTrue i c k = Certifies (increment_at start (history (take i items)) (call_entry c k).reading) (call_entry c k)

-- which is the digest of its requests
pub spelled : (qs : List Request) → digest_of qs ≡ window (digest_of qs) 0 nonce_len
spelled qs = sym (window-whole (digest_of qs) nonce_len (digest-length qs))

-- the owner's verdict on the wanted counter's request in entry k says whether it is signed
abbrev pub OwnerTrue : Call → ℕ → Type 0
OwnerTrue c k = names c.id (call_entry c k).requests ≡ true → signed (request_of c.id (call_entry c k)) ≡ not (is_no (owner_said c k))

-- a verdict that is known
pub owner-says : (c : Call) (k verdict : ℕ) → OwnerTrue c k → names c.id (call_entry c k).requests ≡ true → owner_said c k ≡ verdict
    → signed (request_of c.id (call_entry c k)) ≡ not (is_no verdict)
owner-says c k verdict says named is = says named ∙ ap (λ (v : ℕ). not (is_no v)) is

-- the verdicts of the first call are true, the no on entry 2 too
pub by-read-owner : (k : ℕ) → 1 ≤ k → k ≤ 3 → OwnerTrue by_read k
unfolding computed
by-read-owner = up-to-at (OwnerTrue by_read) 3 (((tt, λ named. refl), λ named. refl), λ named. absurd (false≢true named))

by-read-true : Truth start signed items 6 by_read
unfolding computed
by-read-true =
    record {
      confirmation-yes = λ is-yes. (0, lit< tt, refl);
      certificate-yes = λ kind is-yes. record {
        earlier = increment (list to-101 fits-101) ∷ increment (list to-102 fits-102) ∷ increment (list [] none) ∷ [];
        later = [];
        split = refl;
        reached = refl;
      };
      module-yes = λ k low high is-yes. up-to-at (ModuleTrue 6 by_read) 3 (((tt, spelled to-101), spelled to-102), spelled []) k low high;
      owner-yes = λ k low high. owner-says by_read k 1 (by-read-owner k low high);
      owner-no = λ k low high. owner-says by_read k 0 (by-read-owner k low high);
    }

-- and those of the third
pub by-increment-owner : (k : ℕ) → 1 ≤ k → k ≤ 1 → OwnerTrue by-increment k
unfolding computed
by-increment-owner = up-to-at (OwnerTrue by-increment) 1 (tt, λ named. refl)

by-increment-true : Truth start signed items 10 by-increment
unfolding computed
by-increment-true =
    record {
      confirmation-yes = λ is-yes. (8, lit< tt, refl);
      certificate-yes = λ kind is-yes. absurd (let z : ◌≡◌ {A = ℕ} 0 1 = cc in omega arith);
      module-yes = λ k low high is-yes. up-to-at (ModuleTrue 10 by-increment) 1 (tt, spelled to-104) k low high;
      owner-yes = λ k low high. owner-says by-increment k 1 (by-increment-owner k low high);
      owner-no = λ k low high. owner-says by-increment k 0 (by-increment-owner k low high);
    }

-- and those of the last two
pub since-opening-owner : (k : ℕ) → 1 ≤ k → k ≤ 5 → OwnerTrue since-opening k
unfolding computed
since-opening-owner =
    up-to-at (OwnerTrue since-opening) 5
    (((((tt, λ named. refl), λ named. refl), λ named. absurd (false≢true named)), λ named. refl), λ named. absurd (false≢true named))

since-opening-true : Truth start signed items 13 since-opening
unfolding computed
since-opening-true =
    record {
      confirmation-yes = λ is-yes. (0, lit< tt, refl);
      certificate-yes = λ kind is-yes. record {
        earlier =
            increment (list to-101 fits-101)
            ∷ increment (list to-102 fits-102)
            ∷ increment (list [] none)
            ∷ read (nonce 5)
            ∷ increment (list to-104 fits-104)
            ∷ increment (list to-105 fits-105)
            ∷ [];
        later = [];
        split = refl;
        reached = refl;
      };
      module-yes = λ k low high is-yes.
          up-to-at (ModuleTrue 13 since-opening) 5
          (((((tt, spelled to-101), spelled to-102), spelled []), spelled to-104), spelled to-105) k low high;
      owner-yes = λ k low high. owner-says since-opening k 1 (since-opening-owner k low high);
      owner-no = λ k low high. owner-says since-opening k 0 (since-opening-owner k low high);
    }

unraised-true : Truth start signed items 14 unraised
unfolding computed
unraised-true =
    record {
      confirmation-yes = λ is-yes. (8, lit< tt, refl);
      certificate-yes = λ kind is-yes. record {
        earlier = increment (list to-101 fits-101) ∷ increment (list to-102 fits-102) ∷ increment (list [] none) ∷ [];
        later = increment (list to-104 fits-104) ∷ increment (list to-105 fits-105) ∷ read (nonce 7) ∷ [];
        split = refl;
        reached = refl;
      };
      module-yes = λ k low high is-yes. up-to-at (ModuleTrue 14 unraised) 0 tt k low high;
      owner-yes = λ k low high. owner-says unraised k 1 (up-to-at (OwnerTrue unraised) 0 tt k low high);
      owner-no = λ k low high. owner-says unraised k 0 (up-to-at (OwnerTrue unraised) 0 tt k low high);
    }

-- ---- the suppositions

-- each of them, of the item at a place: the verdicts of an accepted call are true
abbrev TrueAt : ℕ → Item → Type 0
TrueAt i (event e) = Unit {0}
TrueAt i (confirmed k) = Unit {0}
TrueAt i (call c) = Accepted c → Truth start signed items i c

-- a confirmation before which there is none opens with its reading as value
abbrev OpenedAt : ℕ → Item → Type 0
OpenedAt i (event e) = Unit {0}
OpenedAt i (confirmed k) = k.id ≡ seven → Unopened items seven i → k.value ≡ k.reading.0
OpenedAt i (call c) = Unit {0}

-- one with places before it was made from an accepted call
abbrev MadeAt : ℕ → Item → Type 0
MadeAt i (event e) = Unit {0}
MadeAt i (confirmed k) = k.id ≡ seven → (j : ℕ) → j < i → MadeFrom items i k
MadeAt i (call c) = Unit {0}

-- the later confirmation was made from the first call
later-made : MadeFrom items 8 later
unfolding the-list
later-made =
    record {
      place = 6;
      from = by_read;
      earlier = lit< tt;
      stands = refl;
      accepted = ap (λ (f : Figures). f.number) by-read-shows;
      id = refl;
      value = ap (λ (f : Figures). f.value) by-read-shows;
      reading = ap (λ (f : Figures). global_clock f.closing) by-read-shows;
    }

-- every accepted call's verdicts are true
all_true : Everywhere TrueAt items
unfolding the-list
all_true = (
  tt,
  (
    tt,
    (
      tt,
      (
        tt,
        (
          tt,
          (
            tt,
            (
              λ accepted. by-read-true,
              (
                λ accepted. absurd (omega (arith, accepted, ap (λ (f : Figures). f.number) left-out-refused)),
                (
                  tt,
                  (
                    tt,
                    (
                      λ accepted. by-increment-true,
                      (tt, (tt, (λ accepted. since-opening-true, (λ accepted. unraised-true, tt)))),
                    ),
                  ),
                ),
              ),
            ),
          ),
        ),
      ),
    ),
  ),
)

-- counter 7 is opened with its reading as value
all-opened : Everywhere OpenedAt items
unfolding the-list
all-opened = (
  λ own unopened. refl,
  (
    λ own unopened. other-id 9 7 refl own,
    (tt, (tt, (tt, (tt, (tt, (tt, (λ own unopened. absurd (unopened 0 opening (lit< tt) refl refl), (tt, (tt, (tt, (tt, (tt, (tt, tt))))))))))))),
  ),
)

-- its other confirmation was made from an accepted call
all_made : Everywhere MadeAt items
unfolding the-list
all_made = (
  λ own j earlier. absurd (omega arith),
  (λ own j earlier. other-id 9 7 refl own, (tt, (tt, (tt, (tt, (tt, (tt, (λ own j earlier. later-made, (tt, (tt, (tt, (tt, (tt, (tt, tt)))))))))))))),
)

-- what demand 3 supposes of counter 7 holds of the list, up to every place
pub supposed : (i : ℕ) → Supposed start signed items seven i
supposed i =
    record {
      truth = λ j c up_to_lem stands own accepted. everywhere-at TrueAt items all_true j (call c) stands accepted;
      opened = λ j k up_to_lem opens. everywhere-at OpenedAt items all-opened j (confirmed k) opens.stands opens.own opens.before;
      others = λ j place k first up_to_lem opens earlier stands own. everywhere-at MadeAt items all_made j (confirmed k) stands own place earlier;
    }

-- ---- what the desk is lent are bytes

-- each number is below 256
abbrev low : List ℕ → Bool
low [] = true
low (b ∷ l) = ltb b 256 && low l

low-bytes : (l : List ℕ) → low l ≡ true → Bytes l
unfolding Bytes
low-bytes [] is k = lit< tt
low-bytes (b ∷ l) is zero = ltb-true b 256 (both (ltb b 256) (low l) is).0
low-bytes (b ∷ l) is (suc k) = low-bytes l (both (ltb b 256) (low l) is).1 k

-- an entry's, the digest's among them
entry-fits : (t : ℕ) (qs : List Request) → t < 2 ^ 32 → length qs < 2 ^ 32 → RequestsFit qs → EntryFits (entry_for t qs)
unfolding entry_for
entry-fits t qs small few fit =
    record {
      reading = small;
      nonce = length-window (digest_of qs) 0 nonce_len;
      bytes = bytes-window (digest_of qs) 0 nonce_len (digest-bytes qs);
      count = few;
      requests = fit;
    }

five-fit : EntriesFit five
unfolding five to-101 to-102 to-104 to-105
five-fit =
    one_more (entry-fits 101 to-101 (lit< tt) (lit< tt) fits-101)
    (one_more (entry-fits 102 to-102 (lit< tt) (lit< tt) fits-102)
    (one_more (entry-fits 103 [] (lit< tt) (lit< tt) none)
    (one_more (entry-fits 104 to-104 (lit< tt) (lit< tt) fits-104)
    (one_more (entry-fits 105 to-105 (lit< tt) (lit< tt) fits-105) no_more))))

-- a proof's, by those before its entries
abbrev read_front : Confirmation → Certificate → ℕ → List Entry → List ℕ
read_front k certificate n es =
    header_bytes (record { kind = Kind.Read; count = n }) (log_offset Kind.Read + length (log_bytes es)) ++ confirmation_bytes k ++ certificate_bytes certificate

read-lent : (k : Confirmation) (certificate : Certificate) (n : ℕ) (es : List Entry) → low (read_front k certificate n es) ≡ true → EntriesFit es
    → Bytes (proof_bytes (Fields.read k certificate n (log_bytes es)))
unfolding proof_bytes
read-lent k certificate n es is fit =
    bytes-append (read_front k certificate n es) (log_bytes es) (low-bytes (read_front k certificate n es) is) (bytes-log es fit)

abbrev increment_front : Confirmation → ℕ → List Entry → List ℕ
increment_front k n es = header_bytes (record { kind = Kind.Increment; count = n }) (log_offset Kind.Increment + length (log_bytes es)) ++ confirmation_bytes k

increment-lent : (k : Confirmation) (n : ℕ) (es : List Entry) → low (increment_front k n es) ≡ true → EntriesFit es
    → Bytes (proof_bytes (Fields.increment k n (log_bytes es)))
unfolding proof_bytes
increment-lent k n es is fit =
    bytes-append (increment_front k n es) (log_bytes es) (low-bytes (increment_front k n es) is) (bytes-log es fit)

abbrev pub LentAt : ℕ → Item → Type 0
LentAt i (event e) = Unit {0}
LentAt i (confirmed k) = Unit {0}
LentAt i (call c) = Bytes c.proof

-- some of them, in a row
part-fit : (n m : ℕ) (es : List Entry) → EntriesFit es → EntriesFit (take m (drop n es))
part-fit n m es fit = taken m (drop n es) (dropped n es fit)
  where
    dropped : (k : ℕ) (fs : List Entry) → EntriesFit fs → EntriesFit (drop k fs)
    dropped zero fs all = all
    dropped (suc k) [] no_more = no_more
    dropped (suc k) (e ∷ fs) (one_more here all) = dropped k fs all

    taken : (k : ℕ) (fs : List Entry) → EntriesFit fs → EntriesFit (take k fs)
    taken zero fs all = no_more
    taken (suc k) [] no_more = no_more
    taken (suc k) (e ∷ fs) (one_more here all) = one_more here (taken k fs all)

pub all-lent : Everywhere LentAt items
unfolding computed
all-lent = (
  tt,
  (
    tt,
    (
      tt,
      (
        tt,
        (
          tt,
          (
            tt,
            (
              read-lent opening (read_at 103 5) 3 three refl (part-fit 0 3 five five-fit),
              (
                read-lent opening (read_at 103 5) 2 two refl (part-fit 1 2 five five-fit),
                (
                  tt,
                  (
                    tt,
                    (
                      increment-lent later 1 one refl (part-fit 3 1 five five-fit),
                      (tt, (tt, (read-lent opening (read_at 105 7) 5 five refl five-fit, (read-lent later (read_at 103 5) 0 [] refl no_more, tt)))),
                    ),
                  ),
                ),
              ),
            ),
          ),
        ),
      ),
    ),
  ),
)

pub lent : Lent items
lent i c stands = everywhere-at LentAt items all-lent i (call c) stands

-- ---- no clash

-- what an increment carries
abbrev pub carried_by : Made → List Request
carried_by (made given) = carried given
carried_by unmade = []

-- at entry k's reading, before place i, that is the entry's requests
abbrev Agrees : ℕ → Call → ℕ → Type 0
Agrees i c k = (call_entry c k).requests ≡ carried_by (increment_at start (history (take i items)) (call_entry c k).reading)

-- and so it clashes nowhere
abbrev ApartAt : ℕ → Item → Type 0
ApartAt i (event e) = Unit {0}
ApartAt i (confirmed k) = Unit {0}
ApartAt i (call c) = Clash start items i c → ⊥

agrees-apart : (i : ℕ) (c : Call) → UpTo (Agrees i c) (shape_at c.proof).count → ApartAt i (call c)
agrees-apart i c agrees clash =
    clash.differ
    (ap joined
    (up-to-at (Agrees i c) (shape_at c.proof).count agrees clash.entry clash.low clash.high ∙ ap carried_by clash.stands))

all_apart : Everywhere ApartAt items
unfolding computed
all_apart = (
  tt,
  (
    tt,
    (
      tt,
      (
        tt,
        (
          tt,
          (
            tt,
            (
              agrees-apart 6 by_read (((tt, refl), refl), refl),
              (
                agrees-apart 7 left_out ((tt, refl), refl),
                (
                  tt,
                  (
                    tt,
                    (
                      agrees-apart 10 by-increment (tt, refl),
                      (tt, (tt, (agrees-apart 13 since-opening (((((tt, refl), refl), refl), refl), refl), (agrees-apart 14 unraised tt, tt)))),
                    ),
                  ),
                ),
              ),
            ),
          ),
        ),
      ),
    ),
  ),
)

-- no clash stands in the list
pub no-clash : (id : CounterId) (i : ℕ) → Clashed start items id i → ⊥
no-clash id i clashed = everywhere-at ApartAt items all_apart clashed.place (call clashed.from) clashed.stands clashed.clash

-- ---- what the claim says of it

-- so an accepted call of counter 7 is sound
sound : (i : ℕ) (c : Call) → At items i (call c) → c.id ≡ seven → Accepted c → Sound start signed items c
sound i c stands own accepted =
    ⊎_elim (λ holds. holds) (λ clashed. absurd (no-clash c.id i clashed))
    ((desk-claim start signed items lent i c stands accepted).0 (subst (λ (id : CounterId). Supposed start signed items id i) (sym own) (supposed i)))

-- the opening of counter 7 stands first
opens : Opening items seven 0 opening
unfolding the-list
opens = record { stands = refl; own = refl; before = λ j k earlier stands own. omega arith }

-- such a call shows the value that the history gives the counter from reading 100 on
shows-value : (i : ℕ) (c : Call) (f : Figures) → At items i (call c) → c.id ≡ seven → shown c ≡ f → f.number ≡ 0
    → value_at signed seven start (history items) start (global_clock f.closing) ≡ f.value
unfolding opening
shows-value i c f stands own shows accepted =
    let holds = sound i c stands own (ap (λ (g : Figures). g.number) shows ∙ accepted) in
    let same : holds.opening ≡ opening =
    opening-once items c.id holds.place 0 holds.opening opening holds.opens
    (subst (λ (id : CounterId). Opening items id 0 opening) (sym own) opens)
    in
    sym
    (sym (ap (λ (g : Figures). g.value) shows)
    ∙ holds.value
    ∙ ap (λ (k : Confirmation). value_at signed c.id start (history items) k.reading (closes c)) same
    ∙ ap (λ (id : CounterId). value_at signed id start (history items) start (closes c)) own
    ∙ ap (λ (g : Figures). value_at signed seven start (history items) start (global_clock g.closing)) shows)

-- by the claim, the history's value of counter 7 at reading 103 is the 101 that the first accepted call shows: the stranger's request, by which the
-- clock came to 102, counts nothing
pub value-at-103 : value_at signed seven start (history items) start (global_clock 103) ≡ 101
unfolding the-list
value-at-103 = shows-value 6 by_read (record { number = 0; value = 101; closing = 103; place = 0; openings = 1 }) refl refl by-read-shows refl

-- and at reading 104 it is the 104 that the second shows
pub value-at-104 : value_at signed seven start (history items) start (global_clock 104) ≡ 104
unfolding the-list
value-at-104 = shows-value 10 by-increment (record { number = 0; value = 104; closing = 104; place = 0; openings = 1 }) refl refl by-increment-shows refl

-- such a call shows the history's openings since its own confirmation
shows-openings : (i : ℕ) (c : Call) (k : Confirmation) (f : Figures) → At items i (call c) → c.id ≡ seven → confirmation c.proof ≡ k → shown c ≡ f
    → f.number ≡ 0
    → openings_between signed seven start (history items) k.reading (global_clock f.closing) ≡ f.openings
shows-openings i c k f stands own confirms shows accepted =
    sym
    (sym (ap (λ (g : Figures). g.openings) shows)
    ∙ (sound i c stands own (ap (λ (g : Figures). g.number) shows ∙ accepted)).openings
    ∙ ap (λ (id : CounterId). openings_between signed id start (history items) (confirmation c.proof).reading (closes c)) own
    ∙ ap (λ (q : Confirmation). openings_between signed seven start (history items) q.reading (closes c)) confirms
    ∙ ap (λ (g : Figures). openings_between signed seven start (history items) k.reading (global_clock g.closing)) shows)

-- by the claim: two since the opening, none right behind the second confirmation, and one behind it up to the next raise ..
pub openings-at-105 : openings_between signed seven start (history items) start (global_clock 105) ≡ 2
unfolding computed
openings-at-105 =
    shows-openings 13 since-opening opening (record { number = 0; value = 104; closing = 105; place = 0; openings = 2 }) refl refl refl since-opening-shows refl

pub openings-none : openings_between signed seven start (history items) (global_clock 103) (global_clock 103) ≡ 0
unfolding computed
openings-none = shows-openings 14 unraised later (record { number = 0; value = 101; closing = 103; place = 0; openings = 0 }) refl refl refl unraised-shows refl

pub openings-behind-later : openings_between signed seven start (history items) (global_clock 103) (global_clock 104) ≡ 1
unfolding computed
openings-behind-later =
    shows-openings 10 by-increment later (record { number = 0; value = 104; closing = 104; place = 0; openings = 1 }) refl refl refl by-increment-shows refl

-- .. where since the opening there are two
pub openings-at-104 : openings_between signed seven start (history items) start (global_clock 104) ≡ 2
unfolding computed openings_between number_of counts signed_among
openings-at-104 = refl

-- the first call's nonce was new right before its clock read, where the clock was at the reading that the proof closes on
pub nonce-new : New (nonce 5) (history (take 5 items)) × (clock_after start (history (take 5 items)) ≡ closes by_read)
unfolding computed New InRequest
nonce-new = (
  (
    ⊎_elim (other-nonce 1 refl) (⊎_elim (other-nonce 8 refl) (λ none_left. none_left)),
    (⊎_elim (other-nonce 2 refl) (λ none_left. none_left), (λ none_left. none_left, tt)),
  ),
  sym (ap (λ (f : Figures). global_clock f.closing) by-read-shows),
)
  where
    other-nonce : (b : ℕ) → eqb b 5 ≡ false → nonce b ≡ nonce 5 → ⊥
    other-nonce b other same = eqb-false b 5 other (ap (λ (l : List ℕ). get_or l 0 0) same)

-- by the claim, that reading is no lower than the clock was wherever the nonce was new; and so it is of kind 2
fresh : (i : ℕ) (c : Call) → At items i (call c) → Accepted c → Truth start signed items i c → Fresh start items c
fresh i c stands accepted truth =
    ⊎_elim (λ holds. holds) (λ clash. absurd (everywhere-at ApartAt items all_apart i (call c) stands clash))
    ((desk-claim start signed items lent i c stands accepted).1 truth)

pub by-read-fresh : Fresh start items by_read
unfolding the-list
by-read-fresh = fresh 6 by_read refl (ap (λ (f : Figures). f.number) by-read-shows) by-read-true

pub by-increment-fresh : Fresh start items by-increment
unfolding the-list
by-increment-fresh = fresh 10 by-increment refl (ap (λ (f : Figures). f.number) by-increment-shows) by-increment-true
