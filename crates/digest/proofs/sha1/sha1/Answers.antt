-- `digest::sha1::sha1` meets its contract: the whole blocks, then the last ones. Assumes nothing.
use Rattle.std.proofs.Common.{◌≡◌, ◌*◌, ◌/◌, ℕ, length, drop, ap, ◌∙◌, arith}
use Rattle.std.specs.List.{fold}
use Rattle.digest.specs.Laws.BlockLaws.{hashed-blocks}
use Rattle.digest.specs.Laws.PaddingLaws.{sha1-ends}
use Rattle.digest.proofs.sha1.sha1.Goals as goal

pub returns : goal.returns
returns c =
    let m = c.args.message.now in
    let n = length m / 64 in
    let at : n * 64 ≡ 64 * n = omega arith in
    sha1-ends m c.as_chunks.result.1.now (c.as_chunks.ensures.back ∙ ap (λ (k : ℕ). drop k m) at) c.initial.ensures
    (c.hashed-h.ensures ∙ ap (fold _ c.initial.result) c.as_chunks.ensures.front ∙ hashed-blocks c.initial.result m n)
    c.ended.ensures c.digest.ensures
