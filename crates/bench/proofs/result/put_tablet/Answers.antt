-- `bench::result::put_tablet` meets its contract: three figures and a newline stand side by side. Assumes nothing.
use Rattle.std.proofs.Common.{◌≡◌, ◌∙◌, ◌+◌, arith, length}
use Rattle.text.specs.Line.{numeral, spaced}
use Rattle.text.specs.Laws.LineLaws.{length-numeral, stored-fits}
use Rattle.bench.specs.Laws.ResultLaws.{line-length, line-stored}
use Rattle.bench.proofs.result.put_tablet.Goals as goal
use Rattle.bench.proofs.result.put_tablet.Goals.{After-put_numeral-raises_end, After-put_figure-stale_end, After-put_figure-full_end}

-- there is room for each figure behind the one before it
raises-at : (c : After-put_numeral-raises_end) → c.put_numeral-raises_end.result ≡ c.args.at + length (numeral c.args.tablet.raises)
raises-at c =
    let a = c.args in
    c.put_numeral-raises_end.ensures.value
    ∙ stored-fits a.text.now a.at (numeral a.tablet.raises) (omega (arith, length-numeral 10 a.tablet.raises, c.requires))

stale-at : (c : After-put_figure-stale_end) → c.put_figure-stale_end.result ≡ c.put_numeral-raises_end.result + length (spaced c.args.tablet.stale)
stale-at c =
    let t = c.args.tablet in
    let raises = (goal.at.After-put_figure-stale_end c).After-put_numeral-raises_end in
    c.put_figure-stale_end.ensures.value
    ∙ stored-fits c.put_numeral-raises_end.new.text c.put_numeral-raises_end.result (spaced t.stale)
    (omega (arith, c.put_numeral-raises_end.auto.text, raises-at raises, length-numeral 10 t.raises, length-numeral 10 t.stale, c.requires))

full_at : (c : After-put_figure-full_end) → c.put_figure-full_end.result ≡ c.put_figure-stale_end.result + length (spaced c.args.tablet.full)
full_at c =
    let t = c.args.tablet in
    let raises = (goal.at.After-put_figure-full_end c).After-put_numeral-raises_end in
    let stale = (goal.at.After-put_figure-full_end c).After-put_figure-stale_end in
    c.put_figure-full_end.ensures.value
    ∙ stored-fits c.put_figure-stale_end.new.text c.put_figure-stale_end.result (spaced t.full)
    (omega (
      arith,
      c.put_numeral-raises_end.auto.text,
      c.put_figure-stale_end.auto.text,
      stale-at stale,
      raises-at raises,
      length-numeral 10 t.raises,
      length-numeral 10 t.stale,
      length-numeral 10 t.full,
      c.requires,
    ))

pub overflow_add-result : goal.overflow_add-result
overflow_add-result c =
    let at = goal.at.overflow_add-result c in
    let t = c.args.tablet in
    omega (
      arith,
      full_at at.After-put_figure-full_end,
      stale-at at.After-put_figure-stale_end,
      raises-at at.After-put_numeral-raises_end,
      length-numeral 10 t.raises,
      length-numeral 10 t.stale,
      length-numeral 10 t.full,
      c.requires,
    )

pub returns : goal.returns
returns c =
    let a = c.args in
    let r = raises-at (goal.at.returns c).After-put_numeral-raises_end in
    let s = stale-at (goal.at.returns c).After-put_figure-stale_end in
    let f = full_at (goal.at.returns c).After-put_figure-full_end in
    record {
      value = omega (arith, r, s, f, line-length a.tablet);
      text_after = line-stored a.tablet a.text.now a.at c.requires r s f c.put_numeral-raises_end.ensures.text_after
          c.put_figure-stale_end.ensures.text_after c.put_figure-full_end.ensures.text_after c.put.ensures;
    }
