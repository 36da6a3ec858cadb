-- `forms::nonce::same_word` meets its contract. Assumes nothing.
use Rattle.std.proofs.Common.{ap₂, eqb}
use Rattle.forms.proofs.nonce.same_word.Goals as goal

pub returns : goal.returns
returns c = ap₂ eqb c.u32_at.ensures c.u32_at-2.ensures
