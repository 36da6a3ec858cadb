-- A clock read among the events of a history moves nothing: neither the clock, nor the increment that made a reading, nor a counter's value. Assumes
-- nothing.
use Rattle.std.specs.Prelude.{ℕ, ◌+◌, ◌-◌, ◌≡◌, refl, Bool, true, false, eqb, List, [], ◌∷◌, ◌++◌}
use Rattle.std.proofs.Math.Path.{fun_ext}
use Rattle.std.proofs.Common.{◌∙◌, ap, append_assoc, arith}
use Rattle.forms.specs.Terms.{global_clock}
use Rattle.forms.specs.declared.terms.CounterId.{CounterId}
use Rattle.forms.specs.declared.terms.GlobalClock.{GlobalClock}
use Rattle.history.specs.History.{HistoryEvent, read, adds, increments, clock_after, Made, made_by, increment_at}
use Rattle.history.specs.Value.{Signatures, carries_signed, counts, largest, value_at}

-- where a read would have made the reading, what stands later does
read_made : (b : Bool) (nonce : List ℕ) (later : Made) → made_by b (read nonce) later ≡ later
read_made true nonce later = refl
read_made false nonce later = refl

module _ (nonce : List ℕ) (fs : List HistoryEvent) where
  increments-read : (es : List HistoryEvent) → increments (es ++ (read nonce ∷ fs)) ≡ increments (es ++ fs)
  unfolding increments
  increments-read [] = omega arith
  increments-read (e ∷ es) = ap (λ (n : ℕ). adds e + n) (increments-read es)

  increment-read : (first : GlobalClock) (es : List HistoryEvent) (t : GlobalClock)
      → increment_at first (es ++ (read nonce ∷ fs)) t ≡ increment_at first (es ++ fs) t
  unfolding increment_at
  increment-read first [] t =
      read_made (eqb t.0 (first.0 + 1)) nonce (increment_at (global_clock (first.0 + 0)) fs t)
      ∙ ap (λ (n : ℕ). increment_at (global_clock n) fs t) (omega arith)
  increment-read first (e ∷ es) t = ap (made_by (eqb t.0 (first.0 + 1)) e) (increment-read (global_clock (first.0 + adds e)) es t)

module _ (first : GlobalClock) (es fs : List HistoryEvent) (nonce : List ℕ) where
  pub read-keeps-clock : clock_after first ((es ++ (read nonce ∷ [])) ++ fs) ≡ clock_after first (es ++ fs)
  unfolding clock_after
  read-keeps-clock =
      ap (λ (l : List HistoryEvent). global_clock (first.0 + increments l)) (append_assoc es (read nonce ∷ []) fs)
      ∙ ap (λ (n : ℕ). global_clock (first.0 + n)) (increments-read nonce fs es)

  pub read-keeps-increment : (t : GlobalClock) → increment_at first ((es ++ (read nonce ∷ [])) ++ fs) t ≡ increment_at first (es ++ fs) t
  read-keeps-increment t =
      ap (λ (l : List HistoryEvent). increment_at first l t) (append_assoc es (read nonce ∷ []) fs) ∙ increment-read nonce fs first es t

  pub read-keeps-value : (signed : Signatures) (id : CounterId) (opened reading : GlobalClock)
      → value_at signed id first ((es ++ (read nonce ∷ [])) ++ fs) opened reading ≡ value_at signed id first (es ++ fs) opened reading
  unfolding value_at counts
  read-keeps-value signed id opened reading =
      ap (λ (c : GlobalClock → Bool). largest c opened.0 (reading.0 - opened.0)) (fun_ext (λ t. ap (carries_signed signed id) (read-keeps-increment t)))
