-- `forms::bytes::put` meets its contract: one copy of all of v, or none. Assumes nothing.
use Rattle.std.proofs.Common.{refl, sym, ◌∙◌, arith, length, leb-true}
use Rattle.std.proofs.lemmas.Slice.{put_mid-paste}
use Rattle.forms.specs.Laws.BytesLaws.{not-stored, overwrite-paste}
use Rattle.forms.proofs.bytes.put.Goals as goal

pub returns-then-fits : goal.returns-then-fits
returns-then-fits c =
    let a = c.args in
    put_mid-paste a.at _ a.s.now _ a.v.now (length a.v.now) c.copy_from_slice.ensures.after (omega arith) refl
    ∙ overwrite-paste a.s.now a.at a.v.now (leb-true _ _ (sym c.fits.ensures ∙ c.if-fits.true))

pub returns-else-fits : goal.returns-else-fits
returns-else-fits c = not-stored c.args.s.now c.args.at c.args.v.now _ c.fits.ensures c.if-fits.false refl
