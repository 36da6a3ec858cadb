-- `forms::confirmation::Confirmation::read` meets its contract: past the end there is 0. Assumes nothing.
use Rattle.std.proofs.Common.{sym, ◌+◌, arith}
use Rattle.forms.specs.Laws.NumberLaws.{big_endian-past}
use Rattle.forms.specs.Terms.{counter_id, global_clock}
use Rattle.forms.specs.Confirmation.{confirmation_at}
use Rattle.forms.proofs.confirmation.Confirmation.read.Goals as goal

pub returns-then-s-at : goal.returns-then-s-at
unfolding confirmation_at
returns-then-s-at c =
    let a = c.args in
    λ i. record {
      id = counter_id (sym (big_endian-past 4 a.s.now a.at (omega arith)) i);
      value = sym (big_endian-past 4 a.s.now (a.at + 4) (omega arith)) i;
      reading = global_clock (sym (big_endian-past 4 a.s.now (a.at + 8) (omega arith)) i);
    }

pub returns : goal.returns
unfolding confirmation_at
returns c =
    λ i. record {
      id = counter_id (c.get_u32.ensures i);
      value = c.get_u32-2.ensures i;
      reading = global_clock (c.get_u32-3.ensures i);
    }
