-- `forms::nonce::nonce_at` meets its contract: after i turns the first i bytes are those of the window. Assumes nothing.
use Rattle.std.proofs.Common.{◌≡◌, sym, ap, ap₂, ◌∙◌, List, [], ◌∷◌, ◌++◌, ℕ, le_antisymm, add-one, arith, rules, take, set, length-set}
use Rattle.std.proofs.Common.{take-suc-set, take_all}
use Rattle.forms.specs.Bytes.{window}
use Rattle.forms.specs.Laws.BytesLaws.{window-snoc, window-past}
use Rattle.forms.specs.Limits.{nonce_len}
use Rattle.forms.proofs.nonce.nonce_at.Goals as goal

pub returns-then-s-at : goal.returns-then-s-at
returns-then-s-at c = sym (window-past c.args.s.now c.args.at nonce_len c.if-s-at.true)

pub loop-i-init : goal.loop-i-init
unfolding window
loop-i-init c = search rules

pub loop-i-preserved : goal.loop-i-preserved
loop-i-preserved c =
    let a = c.args in
    let now = c.loop-i in (
      search rules,
      search rules,
      simp length-set now.invariant.2,
      ap (λ (n : ℕ). take n (set now.nonce now.i c.byte_at.result)) (add-one now.i)
          ∙ take-suc-set now.nonce now.i c.byte_at.result (omega arith)
          ∙ ap₂ (λ (l : List ℕ) (b : ℕ). l ++ (b ∷ [])) now.invariant.3 c.byte_at.ensures
          ∙ sym (window-snoc a.s.now a.at now.i)
          ∙ ap (window a.s.now a.at) (sym (add-one now.i)),
    )

pub returns : goal.returns
returns c =
    let a = c.args in
    let now = c.loop-i in
    let full : now.i ≡ nonce_len = le_antisymm now.invariant.0 c.loop-i-test.false in
    sym (take_all now.i now.nonce (omega arith)) ∙ now.invariant.3 ∙ ap (window a.s.now a.at) full
