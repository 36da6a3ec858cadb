-- `digest::sha1::ended` meets its contract: what the three stores leave is the rest and the padding. Assumes nothing.
use Rattle.std.proofs.Common.{◌+◌, ◌/◌, length, refl, ap, ◌∙◌, arith}
use Rattle.std.specs.List.{fold}
use Rattle.digest.specs.Laws.BlockLaws.{hashed-front}
use Rattle.digest.specs.Laws.PaddingLaws.{ended-stored}
use Rattle.digest.proofs.sha1.ended.Goals as goal

pub returns : goal.returns
returns c =
    let a = c.args in
    let n = (length a.rest.now + 72) / 64 in
    c.hashed.ensures
    ∙ ap (fold _ a.h) c.as_chunks.ensures.front
    ∙ hashed-front a.h c.put-3.new.s n (omega arith)
    ∙ ended-stored a.h a.rest.now a.len n c.requires refl c.put.ensures c.put-2.ensures
    c.to_be_bytes.ensures c.put-3.ensures
