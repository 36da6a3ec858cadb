-- `console::judge::request_nonce` meets its contract: nothing is promised of bytes without an image's layout. Assumes nothing.
use Rattle.std.proofs.Common.{subst, ℕ}
use Rattle.forms.specs.Entry.{entries_at}
use Rattle.forms.specs.Limits.{image_log_offset}
use Rattle.log_image.specs.State.{decode}
use Rattle.console.specs.Laws.StepLaws.{FoundNonce}
use Rattle.console.proofs.judge.request_nonce.Goals as goal

pub returns : goal.returns
unfolding decode
returns c laid =
    let a = c.args in
    subst (λ (n : ℕ). FoundNonce a.id a.t (entries_at a.image.now image_log_offset n) c.nonce_among.result)
    c.entry_count.ensures c.nonce_among.ensures
