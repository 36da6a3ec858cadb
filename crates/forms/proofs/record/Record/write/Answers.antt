-- `forms::record::Record::write` meets its contract: its parts stored side by side are one. Assumes nothing.
use Rattle.std.proofs.Common.{sym, ◌++◌, arith, ◌∙◌, leb-true}
use Rattle.forms.specs.Number.{digits}
use Rattle.forms.specs.Laws.BytesLaws.{not-stored, stored_next}
use Rattle.forms.specs.Confirmation.{confirmation_bytes}
use Rattle.forms.specs.Laws.PartsLaws.{confirmation-length, current-length, record-length}
use Rattle.forms.specs.Record.{record_bytes}
use Rattle.forms.proofs.record.Record.write.Goals as goal

pub returns-then-not-fits : goal.returns-then-not-fits
returns-then-not-fits c =
    let a = c.args in
    not-stored a.s.now a.at (record_bytes a.self) _ c.fits.ensures c.if-not-fits.true (sym (record-length a.self))

pub returns : goal.returns
returns c =
    let a = c.args in
    let room = leb-true _ _ (sym c.fits.ensures ∙ c.if-not-fits.false) in
    let held = confirmation_bytes a.self.held in
    let current = digits 4 a.self.current in
    let long = confirmation-length a.self.held in
    let longer = current-length a.self in
    stored_next a.s.now a.at (held ++ current) (digits 4 a.self.proofs)
    (stored_next a.s.now a.at held current c.write.ensures c.put_u32.ensures (omega (arith, long)) (omega (arith, long)))
    c.put_u32-2.ensures (omega (arith, longer)) (omega (arith, longer))
