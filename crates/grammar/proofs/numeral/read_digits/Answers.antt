-- `grammar::numeral::read_digits` meets its contract: the digits passed stand for the number so far. Assumes nothing.
use Rattle.std.proofs.Common.{◌≡◌, ℕ, ◌≤◌, sym, ap, ◌∙◌, Bor, List, [], ◌∷◌, length, Option, None, Some, rules, arith, Iter}
use Rattle.std.specs.Fn.{Called}
use Rattle.std.specs.Iterator.{Yields, TryFoldTurn}
use Rattle.std.specs.List.{FoldsTo}
use Rattle.std.specs.Option.{MatchOption}
use Rattle.std.specs.ControlFlow.{continue_value}
use Rattle.std.proofs.lemmas.List.{nil_from_length}
use Rattle.std.proofs.iter.Yields.{fronts}
use denote.Param.Members.{Mut}
use Rattle.forms.specs.Limits.{max_word}
use Rattle.grammar.specs.Laws.NumeralLaws.{read_behind, with_digit, read-none, read-digit, read-stops, with-digit-fits}
use Rattle.grammar.proofs.numeral.read_digits.Goals as goal

-- a call of the closure for each digit, for as long as there is a number
module _ {F : Type 0} (E : Type 0) (g : Mut F (ℕ × (Bor ℕ × Unit {0})) (Option ℕ)) (r : Option ℕ)
    (calls : (f f' : F) (n : ℕ) (x : Bor ℕ) (m : Option ℕ) → Called g f (n, (x, tt)) m f' → m ≡ with_digit n x.now) where
  folded : (xs : List (Bor ℕ)) (p q : F × ℕ) (o : Option (Bor ℕ)) (s t u : Iter ℕ) → p.1 ≤ max_word → Yields fronts s xs t → fronts t o u
      → FoldsTo (TryFoldTurn {E = E} g (λ m c. m ≡ continue_value c)) p xs q
      → MatchOption o (r ≡ Some q.1) (λ x. (m : Option ℕ) × (f : F) × (e : E) × Called g q.0 (q.1, (x, tt)) m f × (m ≡ None) × (r ≡ None))
      → r ≡ read_behind p.1 s.rest.now
  folded [] p q None s t u h at last same is =
      is ∙ ap (λ (w : F × ℕ). Some w.1) (sym same) ∙ sym (ap (read_behind p.1) (nil_from_length _ (ap (λ (i : Iter ℕ). length i.rest.now) at ∙ last.0)) ∙ read-none p.1 h)
  folded [] p q (Some x) s t u h at last same is =
      let stops = sym (calls q.0 is.1 q.1 x is.0 is.3) ∙ is.4 in
      is.5 ∙ sym (ap (λ (i : Iter ℕ). read_behind p.1 i.rest.now) at ∙ ap (read_behind p.1) last ∙ ap (λ (w : F × ℕ). read_behind w.1 (x.now ∷ u.rest.now)) same
      ∙ read-stops q.1 x.now u.rest.now stops)
  folded (x ∷ xs) p q o s t u h at last same is =
      let went = sym (calls p.0 same.0.0 p.1 x same.1.0 same.1.1) ∙ same.1.2 in
      folded xs same.0 q o at.0 t u (with-digit-fits p.1 x.now same.0.1 went) at.2 last same.2 is
      ∙ sym (ap (read_behind p.1) at.1 ∙ read-digit p.1 x.now same.0.1 at.0.rest.now went)

pub returns : goal.returns
returns c =
    let ran = c.try_fold.ensures.ran in
    folded _ _ c.try_fold.result (λ f f' n x m k. search rules) ran.0 (tt, 0) (ran.2, ran.3) ran.1 c.iter.result ran.4.0 c.try_fold.new.self (omega arith) ran.4.1 ran.4.2 ran.5 ran.6
    ∙ ap (read_behind 0) c.iter.ensures.rest
