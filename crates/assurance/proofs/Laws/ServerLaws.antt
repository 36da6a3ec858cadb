-- Laws of an honest server's list: what stands at its next place, what the two lists that one sees of it are of two in a row, and which entries its
-- history certifies. Assumes nothing.
use Rattle.std.specs.Prelude.{ℕ, zero, suc, ◌+◌, ◌≤◌, ◌<◌, ◌≡◌, refl, List, [], ◌∷◌, ◌++◌, length, take}
use Rattle.std.proofs.Common.{sym, ap, subst, ◌∙◌, arith}
use Rattle.forms.specs.Entry.{Entry, entry_at, entries_at, offset_at, len_at}
use Rattle.forms.specs.Laws.EntryLaws.{offset-cons}
use Rattle.forms.specs.Request.{RequestsFit}
use Rattle.forms.specs.declared.request.Request.{Request}
use Rattle.forms.specs.declared.terms.GlobalClock.{GlobalClock}
use Rattle.history.specs.History.{HistoryEvent, list, increment, read, clock_after, increment_at, Carries}
use Rattle.history.proofs.Laws.HistoryLaws.{increment-stays, made-within, stands-made}
use Rattle.history.proofs.Laws.ReadLaws.{read-keeps-increment}
use Rattle.history.specs.Value.{Signatures}
use Rattle.log_store.proofs.Laws.EachRecordLaws.{Each}
use Rattle.assurance.specs.DeskList.{Item}
use Rattle.assurance.specs.HostList.{HostCall, settled_by}
use Rattle.assurance.specs.ServerList.{ServerItem, host, beside, ItemAt, desk_list, host_list, image_after, owed_by, paid_by, owed_after, AllSigned}

-- ---- two lists in a row

pub desk-append : (l m : List ServerItem) → desk_list (l ++ m) ≡ desk_list l ++ desk_list m
unfolding desk_list
desk-append [] m = refl
desk-append (host c ∷ l) m = desk-append l m
desk-append (beside x ∷ l) m = ap (λ (d : List Item). x ∷ d) (desk-append l m)

pub host-append : (l m : List ServerItem) → host_list (l ++ m) ≡ host_list l ++ host_list m
unfolding host_list
host-append [] m = refl
host-append (host c ∷ l) m = ap (λ (cs : List HostCall). c ∷ cs) (host-append l m)
host-append (beside x ∷ l) m = host-append l m

pub image-append : (s : List ℕ) (cs ds : List HostCall) → image_after s (cs ++ ds) ≡ image_after (image_after s cs) ds
unfolding image_after
image-append s [] ds = refl
image-append s (c ∷ cs) ds = image-append (settled_by s c).image cs ds

pub owed-append : (s : List ℕ) (owed : List (List Request)) (l m : List ServerItem)
    → owed_after s owed (l ++ m) ≡ owed_after (image_after s (host_list l)) (owed_after s owed l) m
unfolding owed_after image_after host_list
owed-append s owed [] m = refl
owed-append s owed (host c ∷ l) m = owed-append (settled_by s c).image (owed_by s owed c) l m
owed-append s owed (beside x ∷ l) m = owed-append s (paid_by owed x) l m

-- ---- the next place

pub record Next (l : List ServerItem) (i : ℕ) : Type 0 where
  pub item : ServerItem
  pub stands : ItemAt l i item
  pub cut : take (suc i) l ≡ take i l ++ (item ∷ [])

pub next-item : (l : List ServerItem) (i : ℕ) → i < length l → Next l i
next-item [] i within = absurd (omega arith)
next-item (x ∷ l) zero within = record { item = x; stands = refl; cut = refl }
next-item (x ∷ l) (suc i) within =
    let there = next-item l i (omega arith) in
    record { item = there.item; stands = there.stands; cut = ap (λ (m : List ServerItem). x ∷ m) there.cut }

-- ---- entries that a history certifies

-- what holds of every entry of some bytes holds of the one at a place
pub each_at : {P : Entry → Type 0} (s : List ℕ) (log n : ℕ) → Each P (entries_at s log n) → (k : ℕ) → k < n → P (entry_at s (offset_at s log k))
unfolding entries_at offset_at
each_at s log zero ps k within = absurd (omega arith)
each_at s log (suc n) (Each.more p ps) zero within = p
each_at {P} s log (suc n) (Each.more p ps) (suc k) within =
    subst (λ (j : ℕ). P (entry_at s j)) (sym (offset-cons s log k)) (each_at s (log + len_at s log) n ps k (omega arith))

-- the history's increment at an entry's reading carries its requests, and they are signed
pub record Certified (first : GlobalClock) (signed : Signatures) (h : List HistoryEvent) (e : Entry) : Type 0 where
  pub carried : Carries (increment_at first h e.reading) e.requests
  pub all-signed : AllSigned signed e.requests

module _ (first : GlobalClock) (signed : Signatures) where
  -- it is so with every history that has the same increment there
  certified-same : (h h' : List HistoryEvent) (e : Entry) → increment_at first h' e.reading ≡ increment_at first h e.reading → Certified first signed h e
      → Certified first signed h' e
  certified-same h h' e same c = record { carried = (c.carried.0, same ∙ c.carried.1); all-signed = c.all-signed }

  -- in every longer one
  pub certified-stays : (h fs : List HistoryEvent) (e : Entry) → Certified first signed h e → Certified first signed (h ++ fs) e
  certified-stays h fs e c =
      certified-same h (h ++ fs) e
      (increment-stays first h fs e.reading (made-within first h e.reading (list e.requests c.carried.0) c.carried.1).1) c

  -- with a clock read among its events
  pub certified-read : (h fs : List HistoryEvent) (nonce : List ℕ) (e : Entry) → Certified first signed (h ++ fs) e
      → Certified first signed ((h ++ (read nonce ∷ [])) ++ fs) e
  certified-read h fs nonce e = certified-same (h ++ fs) _ e (read-keeps-increment first h fs nonce e.reading)

  -- and without its end, where the clock had come to the reading
  pub certified-before : (h fs : List HistoryEvent) (e : Entry) → e.reading.0 ≤ (clock_after first h).0 → Certified first signed (h ++ fs) e
      → Certified first signed h e
  certified-before h fs e reached = certified-same (h ++ fs) h e (sym (increment-stays first h fs e.reading reached))

  -- one more increment certifies its own entry
  pub certified-next : (h : List HistoryEvent) (e : Entry) (fit : RequestsFit e.requests) → e.reading.0 ≡ (clock_after first h).0 + 1
      → AllSigned signed e.requests → Certified first signed (h ++ (increment (list e.requests fit) ∷ [])) e
  certified-next h e fit next all =
      let given = list e.requests fit in
      record {
        carried = (
          fit,
          stands-made first (h ++ (increment given ∷ [])) (clock_after first h) e.reading given next
              (record { earlier = h; later = []; split = refl; reached = refl }),
        );
        all-signed = all;
      }
