-- `tablets::tablet::nonce_for` meets its contract: its three numbers stand one behind the other. Assumes nothing.
use Rattle.tablets.specs.Laws.NonceLaws.{nonce-stored}
use Rattle.tablets.proofs.tablet.nonce_for.Goals as goal

pub returns : goal.returns
returns c =
    let a = c.args in
    nonce-stored a.purpose a.round a.number c.put_u32.ensures c.put_u32-2.ensures c.put_u32-3.ensures
