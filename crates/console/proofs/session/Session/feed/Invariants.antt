-- `console::session::Session::feed` meets its contract: after i turns the session stands where i bytes of the part leave it. Assumes nothing.
use Rattle.std.proofs.Common.{◌≡◌, length}
use Rattle.console.specs.Laws.LinesLaws.{Feeding, session_at}
use Rattle.console.proofs.session.Session.feed.Given as goal

abbrev pub invariant-loop-byte : goal.invariant-loop-byte
invariant-loop-byte g l =
    let t = g.T.TakeLine in
    let first = l.initial.self in
    (length l.image ≡ length l.initial.image)
    × Feeding t.answered t.MAX_TEXT (session_at first.line l.initial.len (t.state_of first.taker l.initial.image) l.initial.text) l.part l.initial.text
    l.self.line l.len (t.state_of l.self.taker l.image) l.text l.byte-index
