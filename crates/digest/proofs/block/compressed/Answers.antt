-- `digest::block::compressed` meets its contract: all rounds, and the sums with the hash value before. Assumes nothing.
use Rattle.std.proofs.Common.{ℕ, List, replicate, refl}
use Rattle.forms.specs.Number.{words}
use Rattle.digest.specs.Laws.BlockLaws.{done_none, done_all, length-words}
use Rattle.digest.proofs.block.compressed.Goals as goal

pub returns : goal.returns
returns c =
    let h = c.args.h in
    let m = words 16 c.args.block.now 0 in
    let room : List ℕ = replicate 80 0 in
    let done20 = c.twenty_rounds-v20.ensures h (done_none m h room (length-words 16 c.args.block.now 0) refl) in
    let done40 = c.twenty_rounds-v40.ensures h done20 in
    let done60 = c.twenty_rounds-v60.ensures h done40 in
    done_all m h c.twenty_rounds-v.result c.twenty_rounds-v.new.w (c.twenty_rounds-v.ensures h done60) refl refl refl refl refl
