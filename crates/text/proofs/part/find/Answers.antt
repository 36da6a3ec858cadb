-- `text::part::find` meets its contract: what is looked through is what is left behind the place. Assumes nothing.
use Rattle.std.proofs.Common.{◌≡◌, ℕ, ◌+◌, ◌-◌, sym, ap, ◌∙◌, arith, length, length-drop, take, take_all, drop}
use Rattle.std.proofs.lemmas.List.{drop_min}
use Rattle.text.specs.Text.{before}
use Rattle.text.specs.Laws.TextLaws.{before_is}
use Rattle.text.proofs.part.find.Goals as goal

pub returns-clause-value : goal.returns-clause-value
returns-clause-value c =
    let a = c.args in
    let s = a.s.now in
    let at = c.min.result in
    let rest : take (length s - at) (drop at s) ≡ drop a.from s =
    take_all (length s - at) (drop at s) (omega (arith, length-drop at s)) ∙ ap (λ (n : ℕ). drop n s) c.min.ensures ∙ drop_min a.from s in
    let passed = c.len_before.ensures in
    ap (λ (n : ℕ). a.from + n)
    (sym (before_is a.byte (take (length s - at) (drop at s)) c.len_before.result passed.within passed.before passed.found) ∙ ap (before a.byte) rest)
