-- `console::session::Session::close_line` meets its contract: the answer is stored behind the text. Assumes nothing.
use Rattle.console.specs.Laws.LinesLaws.{took-told}
use Rattle.console.proofs.session.Session.close_line.Goals as goal

pub returns : goal.returns
returns g c =
    let t = g.T.TakeLine in
    let a = c.args in
    let state = t.state_of a.self.now.taker a.image.now in
    let took = took-told t.answered t.MAX_TEXT a.self.now.line a.at state a.text.now c.requires c.take_line-end.ensures c.new-self.ensures in
    record { took = took.0; short = took.1 }
