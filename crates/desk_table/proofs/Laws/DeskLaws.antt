-- Laws of the desk's answer: how it goes on from what the bytes read as. Assumes nothing.
use Rattle.std.specs.Prelude.{◌≡◌, refl, ℕ, Bool, true, false, not, cond, List, ltb, length, Ok, Err}
use Rattle.std.proofs.Common.{ap}
use Rattle.forms.specs.Limits.{proof_header_len}
use Rattle.forms.specs.declared.terms.CounterId.{CounterId}
use Rattle.validity.specs.Proof.{known_form, shape_at, miscounted, overcounted, proof_laid_out, log_offset, parsed, Parsed}
use Rattle.validity.specs.declared.proof.ParseError.{ParseError}
use Rattle.validity.specs.declared.proof.Proof.{Proof}
use Rattle.desk_table.specs.Answer.{Answer, refuses}
use Rattle.desk_table.specs.Desk.{bad_wanted, judged, verified}

-- checks 2 to 5 are those of reading; a proof is judged further
abbrev pub answer_of : (Proof → Answer) → Parsed → Answer
answer_of judge (Err ParseError.TooShort) = refuses 2 0
answer_of judge (Err ParseError.UnknownForm) = refuses 3 0
answer_of judge (Err ParseError.BadCount) = refuses 4 0
answer_of judge (Err ParseError.BadLayout) = refuses 5 0
answer_of judge (Ok p) = judge p

by_rows : (a b c d e : Bool) (judge : Proof → Answer) (p : Proof)
    → cond a (refuses 2 0)
    (cond b (refuses 3 0) (cond c (refuses 4 0) (cond d (refuses 4 0) (cond e (refuses 5 0) (judge p)))))
    ≡ answer_of judge
    (cond a (Err ParseError.TooShort) (cond b (Err ParseError.UnknownForm) (cond c (Err ParseError.BadCount) (cond d (Err ParseError.BadCount) (cond e (Err ParseError.BadLayout) (Ok p))))))
by_rows true b c d e judge p = refl
by_rows false true c d e judge p = refl
by_rows false false true d e judge p = refl
by_rows false false false true e judge p = refl
by_rows false false false false true judge p = refl
by_rows false false false false false judge p = refl

pub verified-parsed : (s verdicts : List ℕ) (id : CounterId) (nonce : List ℕ)
    → verified s verdicts id nonce ≡ cond (bad_wanted id nonce) (refuses 1 0) (answer_of (λ (p : Proof). judged p s verdicts id nonce) (parsed s))
unfolding verified judged parsed
verified-parsed s verdicts id nonce =
    ap (cond (bad_wanted id nonce) (refuses 1 0))
    (by_rows (ltb (length s) proof_header_len) (not (known_form s)) (miscounted (shape_at s))
    (overcounted s (log_offset (shape_at s).kind) (shape_at s).count) (not (proof_laid_out s (shape_at s)))
    (λ (p : Proof). judged p s verdicts id nonce) (shape_at s))
