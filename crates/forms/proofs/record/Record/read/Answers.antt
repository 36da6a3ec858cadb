-- `forms::record::Record::read` meets its contract: its parts are what stands there, and past the end there is 0. Assumes nothing.
use Rattle.std.proofs.Common.{sym, arith}
use Rattle.forms.specs.Laws.NumberLaws.{big_endian-past}
use Rattle.forms.specs.Record.{current_place, proofs_place}
use Rattle.forms.proofs.record.Record.read.Goals as goal

pub returns-then-s-at : goal.returns-then-s-at
returns-then-s-at c =
    let a = c.args in
    λ i. record {
      held = c.read-held.ensures i;
      current = sym (big_endian-past 4 a.s.now (current_place a.at) (omega arith)) i;
      proofs = sym (big_endian-past 4 a.s.now (proofs_place a.at) (omega arith)) i;
    }

pub returns : goal.returns
returns c = λ i. record { held = c.read-held.ensures i; current = c.get_u32.ensures i; proofs = c.get_u32-2.ensures i }
