-- `console::session::Session::finish` meets its contract: a line that was begun is closed. Assumes nothing.
use Rattle.std.proofs.Common.{◌≡◌, ◌<◌, ◌≤◌, refl, sym, ◌∙◌, subst, ℕ, zero-le, length}
use Rattle.console.specs.Lines.{Printed, Session, ended_session, resumed}
use Rattle.console.specs.Laws.LinesLaws.{ended-short, ended-idle, ended-closed, printed-at, took-printed}
use Rattle.console.proofs.session.Session.finish.Goals as goal
use Rattle.console.proofs.session.Session.finish.Goals.{then-text-MAX_TEXT-via-then-text-MAX_TEXT}
use Rattle.console.proofs.session.Session.finish.Goals.{then-text-MAX_TEXT-via-else-text-MAX_TEXT+then-not-begun}

pub returns-then-text-MAX_TEXT : goal.returns-then-text-MAX_TEXT
returns-then-text-MAX_TEXT g c =
    let t = g.T.TakeLine in
    let a = c.args in
    let line = a.self.now.line in
    let state = t.state_of a.self.now.taker a.image.now in
    let room = length a.text.now in
    let idle : ended_session t.answered t.MAX_TEXT line state room ≡ resumed line state = elim c.then-text-MAX_TEXT.branch [
      | then-text-MAX_TEXT-via-then-text-MAX_TEXT w ↦
          ended-short t.answered t.MAX_TEXT line state room (subst (λ (m : ℕ). room < m) c.MAX_TEXT.ensures w.if-text-MAX_TEXT.true)
      | then-text-MAX_TEXT-via-else-text-MAX_TEXT+then-not-begun w ↦
          ended-idle t.answered t.MAX_TEXT line state room (sym w.begun.ensures ∙ w.if-not-begun.true)
    ] in
    printed-at line 0 state a.text.now a.text.now idle zero-le refl

pub returns : goal.returns
returns g c =
    let t = g.T.TakeLine in
    let a = c.args in
    let state = t.state_of a.self.now.taker a.image.now in
    let begun = sym c.begun.ensures ∙ c.if-not-begun.false in
    let room = subst (λ (m : ℕ). m ≤ length a.text.now) c.MAX_TEXT.ensures c.if-text-MAX_TEXT.false in
    let last = c.close_line.new in
    subst
    (λ (k : Session t.State). Printed k a.text.now last.self.line c.close_line.result (t.state_of last.self.taker last.image) last.text)
    (sym (ended-closed t.answered t.MAX_TEXT a.self.now.line state (length a.text.now) room begun))
    (took-printed c.close_line.ensures.took)
