-- `digest::seal::is_sealed` meets its contract: what is digested is the bytes behind the entry's head. Assumes nothing.
use Rattle.std.proofs.Common.{◌≡◌, ℕ, ◌+◌, ◌-◌, ◌*◌, take, drop, sym, ap, ◌∙◌, arith}
use Rattle.forms.specs.Bytes.{Bytes}
use Rattle.forms.specs.Entry.{count_at}
use Rattle.forms.specs.Limits.{head_len, request_len}
use Rattle.digest.specs.Sha1.{sha1}
use Rattle.digest.specs.Laws.SealLaws.{cut-unsealed, compared-sealed}
use Rattle.digest.proofs.seal.is_sealed.Goals.{then-s-len-via-then-s-len, then-s-len-via-else-s-len+then-s-len-2}
use Rattle.digest.proofs.seal.is_sealed.Goals as goal

pub returns-then-s-len : goal.returns-then-s-len
returns-then-s-len c =
    let a = c.args in
    elim c.then-s-len.branch [
      | then-s-len-via-then-s-len w ↦ sym (cut-unsealed a.s.now a.at (omega arith))
      | then-s-len-via-else-s-len+then-s-len-2 w ↦ sym (cut-unsealed a.s.now a.at (omega arith))
    ]

pub returns : goal.returns
unfolding Bytes
returns c =
    let s = c.args.s.now in
    let at = c.args.at in
    let bytes : Bytes s = λ k. omega (arith, c.type_inv.s k) in
    let part : at + c.entry_len-len.result - (at + head_len) ≡ request_len * count_at s at = omega arith in
    c.nonce_is.ensures
    ∙ compared-sealed s at c.sha1-digest.result bytes (omega arith)
    (c.sha1-digest.ensures ∙ ap (λ (n : ℕ). sha1 (take n (drop (at + head_len) s))) part)
