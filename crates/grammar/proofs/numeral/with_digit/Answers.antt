-- `grammar::numeral::with_digit` meets its contract: a byte of '0' to '9' is its digit. Assumes nothing.
use Rattle.std.proofs.Common.{◌≡◌, ℕ, ◌+◌, ◌*◌, ◌<◌, ◌^◌, sym, ap, ◌∙◌, arith, Option, None, Some}
use Rattle.std.specs.Option.{SomeIff}
use Rattle.std.proofs.lemmas.Str.{digit_value_digit}
use Rattle.std.proofs.lemmas.Str.Parse.{digit_from_value}
use Rattle.text.specs.Text.{zero_digit}
use Rattle.grammar.specs.Laws.NumeralLaws.{with_digit, no-digit, digit-large, digit-more}
use Rattle.grammar.proofs.numeral.with_digit.Goals as goal

-- a digit added to ten times a number
added : (n b d : ℕ) (r : Option ℕ) → zero_digit + d ≡ b → d < 10 → SomeIff r (n * 10 + d < 2 ^ 32) (n * 10 + d) → r ≡ with_digit n b
added n b d None is low large = sym (digit-large n b (omega arith))
added n b d (Some m) is low fits = ap Some (omega arith) ∙ sym (digit-more n b (omega arith) (omega arith) (omega arith))

pub returns-in_err-digit : goal.returns-in_err-digit
returns-in_err-digit c = let e = c.in_err-digit.ensures.cases in c.from_residual.ensures ∙ sym (no-digit c.args.number c.args.byte (λ low high. omega arith))

pub returns-in_err-checked_mul : goal.returns-in_err-checked_mul
returns-in_err-checked_mul c =
    let large = c.in_err-checked_mul.ensures in
    c.from_residual-in_err-checked_mul.ensures ∙ sym (digit-large c.args.number c.args.byte (omega arith))

pub returns : goal.returns
returns c =
    let value = c.in_ok-digit.ensures.value in
    let is = digit_value_digit c.from.result (digit_from_value c.from.result value.0) in
    let tens = c.in_ok-checked_mul.ensures in
    added c.args.number c.args.byte c.in_ok-digit.digit c.checked_add.result (omega arith) (omega arith) (rw tens.1 at c.checked_add.ensures)
