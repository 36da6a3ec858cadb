-- `forms::certificate::Certificate::reading_at` meets its contract. Assumes nothing.
use Rattle.std.proofs.Common.{ap}
use Rattle.forms.specs.Terms.{global_clock}
use Rattle.forms.specs.Certificate.{certificate_at}
use Rattle.forms.proofs.certificate.Certificate.reading_at.Goals as goal

pub returns : goal.returns
unfolding certificate_at
returns c = ap global_clock c.get_u32.ensures
