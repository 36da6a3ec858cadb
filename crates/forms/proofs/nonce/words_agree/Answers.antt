-- `forms::nonce::words_agree` meets its contract: five words, one after the other. Assumes nothing.
use Rattle.std.proofs.Common.{refl, ◌∙◌, arith}
use Rattle.forms.specs.Bytes.{Bytes, same}
use Rattle.forms.specs.Number.{words}
use Rattle.forms.specs.Laws.WordsLaws.{words_more, nonces-compare}
use Rattle.forms.proofs.nonce.words_agree.Goals as goal

pub returns : goal.returns
unfolding words same Bytes
returns c =
    let bytes : Bytes c.args.a.now × Bytes c.args.b.now = (λ k. omega (arith, c.type_inv.a k), λ k. omega (arith, c.type_inv.b k)) in
    let a = c.args.a.now in
    let b = c.args.b.now in
    let one = words_more 0 a b 0 0 refl c.same_word.ensures in
    let two = words_more 1 a b 0 0 one c.same_word-2.ensures in
    let three = words_more 2 a b 0 0 two c.same_word-3.ensures in
    let four = words_more 3 a b 0 0 three c.same_word-4.ensures in
    words_more 4 a b 0 0 four c.same_word-5.ensures ∙ nonces-compare a b bytes.0 bytes.1 c.requires.0 c.requires.1
