-- `console::session::Session::feed` meets its contract: after i turns the session stands where i bytes of the part leave it. Assumes nothing.
use Rattle.std.proofs.Common.{◌<◌, ◌≤◌, ◌/◌, ℕ, refl, subst, ◌∙◌, zero-le, length}
use Rattle.console.specs.Laws.LinesLaws.{fed-none, fed-all, feeding-all, feeding-begun, feeding-more, feeding-room, printed-at}
use Rattle.console.proofs.session.Session.feed.Goals as goal

pub returns-then-text-MAX_TEXT : goal.returns-then-text-MAX_TEXT
returns-then-text-MAX_TEXT g c =
    let t = g.T.TakeLine in
    let a = c.args in
    let state = t.state_of a.self.now.taker a.image.now in
    let short = subst (λ (m : ℕ). length a.text.now / m < length a.part.now) c.MAX_TEXT.ensures c.if-text-MAX_TEXT.true in
    printed-at a.self.now.line 0 state a.text.now a.text.now
    (fed-none t.answered t.MAX_TEXT a.self.now.line state a.part.now (length a.text.now) short) zero-le refl

pub loop-byte-init : goal.loop-byte-init
loop-byte-init g c =
    let t = g.T.TakeLine in
    let a = c.args in
    let room = subst (λ (m : ℕ). length a.part.now ≤ length a.text.now / m) c.MAX_TEXT.ensures c.if-text-MAX_TEXT.false in
    (refl, feeding-begun t.answered t.MAX_TEXT a.self.now.line (t.state_of a.self.now.taker a.image.now) a.part.now a.text.now room)

pub take_byte-len-requires : goal.take_byte-len-requires
take_byte-len-requires g c = feeding-room c.loop-byte.invariant.1 c.loop-byte-test.true

pub loop-byte-preserved : goal.loop-byte-preserved
loop-byte-preserved g c =
    let t = g.T.TakeLine in
    let took = c.take_byte-len.ensures in
    let last = c.take_byte-len.new in (
      c.take_byte-len.auto.image ∙ c.loop-byte.invariant.0,
      feeding-more {after = t.state_of last.self.taker last.image} c.loop-byte.invariant.1 c.loop-byte-test.true took.took took.short,
    )

pub returns : goal.returns
returns g c =
    let t = g.T.TakeLine in
    let a = c.args in
    let state = t.state_of a.self.now.taker a.image.now in
    let room = subst (λ (m : ℕ). length a.part.now ≤ length a.text.now / m) c.MAX_TEXT.ensures c.if-text-MAX_TEXT.false in
    feeding-all (fed-all t.answered t.MAX_TEXT a.self.now.line state a.part.now (length a.text.now) room) c.loop-byte.invariant.1
    c.loop-byte-test.false
