-- `forms::confirmation::Confirmation::write` meets its contract: three stores side by side are one. Assumes nothing.
use Rattle.std.proofs.Common.{refl, sym, ◌++◌, arith, ◌∙◌, leb-true}
use Rattle.forms.specs.Number.{digits}
use Rattle.forms.specs.Confirmation.{confirmation_bytes}
use Rattle.forms.specs.Laws.BytesLaws.{not-stored, stored_next}
use Rattle.forms.proofs.confirmation.Confirmation.write.Goals as goal

pub returns-then-not-fits : goal.returns-then-not-fits
unfolding confirmation_bytes
returns-then-not-fits c =
    let a = c.args in
    not-stored a.s.now a.at (confirmation_bytes a.self) _ c.fits.ensures c.if-not-fits.true (refl)

pub returns : goal.returns
unfolding confirmation_bytes
returns c =
    let a = c.args in
    let room = leb-true _ _ (sym c.fits.ensures ∙ c.if-not-fits.false) in
    let id = digits 4 a.self.id.0 in
    let value = digits 4 a.self.value in
    stored_next a.s.now a.at (id ++ value) (digits 4 a.self.reading.0)
    (stored_next a.s.now a.at id value c.put_u32.ensures c.put_u32-2.ensures refl (omega arith))
    c.put_u32-3.ensures refl (omega arith)
