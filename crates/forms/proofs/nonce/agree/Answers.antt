-- `forms::nonce::agree` meets its contract: where the bytes are there the parts are the windows, and elsewhere the nonces read are. Assumes nothing.
use Rattle.std.proofs.Common.{◌≡◌, sym, ap, ap₂, ◌∙◌, List, ℕ, ◌+◌, ◌-◌, ◌≤◌, arith, leb-true, length, take, drop, length-take-le}
use Rattle.forms.specs.Bytes.{window, same}
use Rattle.forms.specs.Laws.BytesLaws.{length-window, window-part}
use Rattle.forms.specs.Limits.{nonce_len}
use Rattle.forms.proofs.nonce.agree.Goals as goal

-- where a nonce is there whole, it is the window
part : (s : List ℕ) (at : ℕ) → at + nonce_len ≤ length s → take (at + nonce_len - at) (drop at s) ≡ window s at nonce_len
part s at h =
    let count : at + nonce_len - at ≡ nonce_len = omega arith in
    ap (λ (n : ℕ). take n (drop at s)) count ∙ sym (window-part s at nonce_len h)

pub overflow_add-at : goal.overflow_add-at
overflow_add-at c = record { fits = omega (arith, leb-true _ _ (sym c.fits.ensures ∙ c.if-fits.true)) }

pub slice_bounds-words_agree-end : goal.slice_bounds-words_agree-end
slice_bounds-words_agree-end c = omega (arith, leb-true _ _ (sym c.fits.ensures ∙ c.if-fits.true))

pub words_agree-requires : goal.words_agree-requires
words_agree-requires c =
    let a = c.args in (
      ap length (part a.s.now a.at (leb-true _ _ (sym c.fits.ensures ∙ c.if-fits.true))) ∙ length-window a.s.now a.at nonce_len,
      length-take-le nonce_len a.nonce.now c.if-nonce-ge-LEN.true,
    )

pub returns-then-nonce-ge-LEN : goal.returns-then-nonce-ge-LEN
returns-then-nonce-ge-LEN c =
    let a = c.args in
    c.words_agree.ensures
    ∙ ap₂ same (part a.s.now a.at (leb-true _ _ (sym c.fits.ensures ∙ c.if-fits.true))) (part a.nonce.now 0 c.if-nonce-ge-LEN.true)

pub returns : goal.returns
returns c = c.words_agree-2.ensures ∙ ap₂ same c.nonce_at.ensures c.nonce_at-2.ensures
