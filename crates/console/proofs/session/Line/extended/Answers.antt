-- `console::session::Line::extended` meets its contract: the byte is stored behind the others, or the line is full. Assumes nothing.
use Rattle.std.proofs.Common.{◌≡◌, ◌∙◌, ap, arith, length}
use Rattle.console.specs.Laws.LinesLaws.{extended-held, over-held}
use Rattle.console.specs.Lines.{max_line, pending_of}
use Rattle.console.specs.declared.session.Line.{Line}
use Rattle.console.proofs.session.Line.extended.Goals as goal
use Rattle.console.proofs.session.Line.extended.Goals.{then-self-lt-MAX_LINE, else-self-lt-MAX_LINE}

pub returns : goal.returns
returns c =
    let line = c.args.self in
    let full : length line.bytes ≡ max_line = omega arith in
    let n = c.saturating_add.result in
    let bytes = λ (l : Line). pending_of (record { bytes = l.bytes; len = n }) in
    elim c.if-self-lt-MAX_LINE.branch [
      | then-self-lt-MAX_LINE w ↦
          let same = ap (λ (l : Line). l.len) w.self-is in
          ap bytes w.self-is ∙ extended-held line full c.args.byte n w.if-self-lt-MAX_LINE.true (omega (arith, same, c.saturating_add.ensures))
      | else-self-lt-MAX_LINE w ↦
          let same = ap (λ (l : Line). l.len) w.self-is in
          ap bytes w.self-is ∙ over-held line full c.args.byte n w.if-self-lt-MAX_LINE.false (omega (arith, same, c.saturating_add.ensures))
    ]
