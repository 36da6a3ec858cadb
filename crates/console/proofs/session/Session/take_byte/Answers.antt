-- `console::session::Session::take_byte` meets its contract: a newline closes the line, and another byte extends it. Assumes nothing.
use Rattle.std.proofs.Common.{subst, arith}
use Rattle.console.specs.Lines.{Session}
use Rattle.console.specs.Laws.LinesLaws.{Took, session_at, byte-newline, took-other}
use Rattle.console.proofs.session.Session.take_byte.Goals as goal

pub returns-then-byte-eq10 : goal.returns-then-byte-eq10
returns-then-byte-eq10 g c =
    let t = g.T.TakeLine in
    let a = c.args in
    let at = session_at a.self.now.line a.at (t.state_of a.self.now.taker a.image.now) a.text.now in
    let end = c.close_line.result in
    let last = c.close_line.new in
    record {
      took =
          subst (λ (k : Session t.State). Took k a.text.now last.self.line end (t.state_of last.self.taker last.image) last.text)
          (byte-newline t.answered at a.byte c.if-byte-eq10.true) c.close_line.ensures.took;
      short = c.close_line.ensures.short;
    }

pub returns : goal.returns
returns g c =
    let t = g.T.TakeLine in
    let a = c.args in
    record {
      took =
          took-other t.answered a.self.now.line a.at (t.state_of a.self.now.taker a.image.now) a.text.now a.byte
          (omega (arith, c.requires)) c.if-byte-eq10.false c.extended-self.ensures;
      short = omega arith;
    }
