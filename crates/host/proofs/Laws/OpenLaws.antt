-- open keeps the state sound: the new reading lies within the log, so that the oldest one stays, and no entry after it names the new counter.
-- An entry of the log may name any counter, so that nothing but the row of 28 says so; and what that row says by the entries' readings. Assumes
-- nothing.
use Rattle.std.specs.Prelude.{◌≡◌, refl, ℕ, suc, ◌+◌, ◌-◌, ◌≤◌, Bool, true, false, not, cond, ◌&&◌, ◌||◌, List, [], ◌∷◌, ◌++◌, eqb, ltb, drop}
use Rattle.std.proofs.Common.{sym, ap, ap₂, subst, ◌∙◌, zero-add, arith, eqb-true, ne_eqb, lt-ltb, le-ltb}
use Rattle.std.proofs.Math.Decide.{dec_le}
use Rattle.std.proofs.Math.Bool.{and-false}
use Rattle.std.proofs.Math.Seq.{drop-nil}
use Rattle.forms.specs.Chain.{passes, chains, running_after, value_after, own_entries}
use Rattle.forms.specs.Laws.ChainLaws.{chains_cons, value-cons, follows-other, step_other}
use Rattle.forms.specs.Entry.{Entry}
use Rattle.forms.specs.Laws.TestsLaws.{both}
use Rattle.forms.specs.Record.{taken}
use Rattle.forms.specs.Request.{names}
use Rattle.forms.specs.declared.confirmation.Confirmation.{Confirmation}
use Rattle.forms.specs.declared.terms.CounterId.{CounterId}
use Rattle.forms.specs.declared.terms.GlobalClock.{GlobalClock}
use Rattle.log_image.specs.State.{State}
use Rattle.log_image.specs.Sound.{base, consecutive, after, sound_state}
use Rattle.log_store.specs.Effect.{opened}
use Rattle.log_store.proofs.Laws.EachRecordLaws.{Each, each_snoc, distinct_snoc, oldest-snoc}
use Rattle.host.specs.Host.{named_after, open_refusal}
use Rattle.host.proofs.Laws.RefusalLaws.{OpenPassed, open-passed}
use Rattle.host.proofs.Laws.SoundParts.{ChainsTo, Chained, SoundState, sound-parts, sound-whole}

-- where no entry is the counter's, its chain ends where it begins. Only open needs it, and has it from the row of 28 alone: the other rows and
-- the soundness before leave room for entries of a counter that was closed.
unnamed-chains : (c : Confirmation) (es : List Entry) → own_entries c.id es ≡ 0 → ChainsTo c es c.value
unfolding own_entries chains passes value_after running_after
unnamed-chains c [] none = record { links = refl; end = refl }
unnamed-chains c (e ∷ es) none =
    let id = c.id in
    let value = c.value in
    let other = apart (names id e.requests) refl none in
    let rest = unnamed-chains c es (omega (arith, none)) in
    record {
      links = chains_cons id value e es ∙ ap₂ ◌&&◌ (follows-other id value e other) (ap (λ (v : ℕ). chains id v es) (step_other id value e other) ∙ rest.links);
      end = rest.end ∙ sym (value-cons id value e es ∙ ap (λ (v : ℕ). value_after id v es) (step_other id value e other));
    }
  where
    apart : (b : Bool) → names c.id e.requests ≡ b → cond b 1 0 + own_entries c.id es ≡ 0 → names c.id e.requests ≡ false
    apart false other none = other
    apart true own none = let no : ⊥ = omega arith in absurd no

-- ---- what 28 looks at, by the entries' readings

-- an entry with a reading later than one given names the counter
unfoldable pub named_later : CounterId → GlobalClock → List Entry → Bool
named_later id reading [] = false
named_later id reading (e ∷ es) = (names id e.requests && ltb reading.0 e.reading.0) || named_later id reading es

-- the entries after a reading, where readings are consecutive, are those with a later one
later-entries : (low : ℕ) (es : List Entry) (id : CounterId) (reading : GlobalClock) → consecutive low es ≡ true
    → not (eqb (own_entries id (after low reading es)) 0) ≡ named_later id reading es
unfolding consecutive named_later after own_entries
later-entries low [] id reading steps = ap (λ (l : List Entry). not (eqb (own_entries id l) 0)) (drop-nil (reading.0 - low))
later-entries low (e ∷ es) id reading steps =
    let parts = both (eqb e.reading.0 (low + 1)) (consecutive (low + 1) es) steps in
    let next = eqb-true e.reading.0 (low + 1) parts.0 in
    let rest = later-entries (low + 1) es id reading parts.1 in
    elim (dec_le reading.0 low) [ yes early ↦ here next early rest | no late ↦ there next late rest ]
  where
    here : e.reading.0 ≡ low + 1 → reading.0 ≤ low → not (eqb (own_entries id (drop (reading.0 - (low + 1)) es)) 0) ≡ named_later id reading es
        → not (eqb (own_entries id (drop (reading.0 - low) (e ∷ es))) 0) ≡ ((names id e.requests && ltb reading.0 e.reading.0) || named_later id reading es)
    here next early rest =
        let none : reading.0 - low ≡ 0 = omega arith in
        let none-next : 0 ≡ reading.0 - (low + 1) = omega arith in
        ap (λ (k : ℕ). not (eqb (own_entries id (drop k (e ∷ es))) 0)) none
        ∙ own (names id e.requests)
        ∙ ap₂ (λ (a b : Bool). (names id e.requests && a) || b) (sym (lt-ltb reading.0 e.reading.0 (omega arith)))
        (ap (λ (k : ℕ). not (eqb (own_entries id (drop k es)) 0)) none-next ∙ rest)
      where
        own : (b : Bool) → not (eqb (cond b 1 0 + own_entries id es) 0) ≡ ((b && true) || not (eqb (own_entries id es) 0))
        own true = ap not (ne_eqb (1 + own_entries id es) 0 (λ none. let no : ⊥ = omega arith in no))
        own false = ap (λ (n : ℕ). not (eqb n 0)) (zero-add (own_entries id es))

    there : e.reading.0 ≡ low + 1 → (reading.0 ≤ low → ⊥) → not (eqb (own_entries id (drop (reading.0 - (low + 1)) es)) 0) ≡ named_later id reading es
        → not (eqb (own_entries id (drop (reading.0 - low) (e ∷ es))) 0) ≡ ((names id e.requests && ltb reading.0 e.reading.0) || named_later id reading es)
    there next late rest =
        let more : reading.0 - low ≡ suc (reading.0 - (low + 1)) = omega (arith, late) in
        ap (λ (k : ℕ). not (eqb (own_entries id (drop k (e ∷ es))) 0)) more
        ∙ rest
        ∙ sym (ap (λ (b : Bool). (names id e.requests && b) || named_later id reading es) (le-ltb reading.0 e.reading.0 (omega (arith, late)))
        ∙ ap (λ (b : Bool). b || named_later id reading es) (and-false (names id e.requests)))

-- so the row of 28 holds in a sound state where a held entry with a greater t than the given reading names the counter, and only there
pub named-later : (st : State) (id : CounterId) (reading : GlobalClock) → sound_state st ≡ true → named_after st id reading ≡ named_later id reading st.log
named-later st id reading sound = later-entries (base st) st.log id reading (sound-parts st sound).steps

-- ---- the opening

opened-parts : (st : State) (c : Confirmation) (verdict : ℕ) → SoundState st → OpenPassed st c verdict → SoundState (opened st c)
opened-parts st c verdict s p =
    record {
      differ = distinct_snoc st.records (taken c) s.differ p.unheld p.named;
      bounds = each_snoc s.bounds (record { low = p.low; past = p.past });
      span = omega (arith, same, s.span);
      steps = subst (λ (b : ℕ). consecutive b st.log ≡ true) same s.steps;
      proper = s.proper;
      chain = subst (λ (b : ℕ). Each (Chained b st.log) (st.records ++ (taken c ∷ []))) same
          (each_snoc s.chain (unnamed-chains c (after (base st) c.reading st.log) p.unnamed));
    }
  where
    same : base st ≡ base (opened st c)
    same =
        let low : base st ≤ c.reading.0 = omega (arith, s.span, p.recent) in
        omega (arith, low, oldest-snoc st.clock st.records (taken c) p.past)

-- a counter opened keeps the state sound
pub opened-sound : (st : State) (c : Confirmation) (verdict : ℕ) → sound_state st ≡ true → open_refusal st c verdict ≡ 0 → sound_state (opened st c) ≡ true
opened-sound st c verdict sound accepted = sound-whole (opened st c) (opened-parts st c verdict (sound-parts st sound) (open-passed st c verdict accepted))
