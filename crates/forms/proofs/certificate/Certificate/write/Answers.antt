-- `forms::certificate::Certificate::write` meets its contract: two stores side by side are one. Assumes nothing.
use Rattle.std.proofs.Common.{◌≡◌, refl, sym, length, arith, rules, ◌∙◌, leb-true}
use Rattle.forms.specs.Limits.{nonce_len}
use Rattle.forms.specs.Number.{digits}
use Rattle.forms.specs.Certificate.{certificate_bytes}
use Rattle.forms.specs.Laws.BytesLaws.{not-stored, stored_next}
use Rattle.forms.proofs.certificate.Certificate.write.Goals as goal

pub returns-then-not-fits : goal.returns-then-not-fits
unfolding certificate_bytes
returns-then-not-fits c =
    let a = c.args in
    let long : length c.args.self.nonce ≡ nonce_len = search rules in
    not-stored a.s.now a.at (certificate_bytes a.self) _ c.fits.ensures c.if-not-fits.true (omega arith)

pub returns : goal.returns
unfolding certificate_bytes
returns c =
    let long : length c.args.self.nonce ≡ nonce_len = search rules in
    let a = c.args in
    let room = leb-true _ _ (sym c.fits.ensures ∙ c.if-not-fits.false) in
    stored_next a.s.now a.at (digits 4 a.self.reading.0) a.self.nonce
    c.put_u32.ensures c.put.ensures refl (omega arith)
