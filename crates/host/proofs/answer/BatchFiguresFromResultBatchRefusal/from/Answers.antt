-- `host::answer::BatchFiguresFromResultBatchRefusal::from` meets its contract: each request's number is its own. Assumes nothing.
use Rattle.std.proofs.Common.{◌≡◌, sym, ap, ◌∙◌, ℕ, ◌<◌, None, length, map, rules, arith, slice_index_or}
use Rattle.std.proofs.lemmas.List.{get_or-map, length-map, same_lists}
use Rattle.host.specs.Outcome.{batch_figures_of, own_number, reading_of}
use Rattle.host.proofs.answer.BatchFiguresFromResultBatchRefusal.from.Goals as goal

pub returns-in-Ok : goal.returns-in-Ok
returns-in-Ok c =
    let refused = c.in-Ok.batch.refused in
    let eight : length refused ≡ 8 = search rules in
    let long : length c.map.result ≡ 8 = c.map.ensures.items.long in
    let each : (k d : ℕ) → k < length c.map.result → slice_index_or c.map.result k d ≡ slice_index_or (map own_number refused) k d =
    λ k d below.
    (c.map.ensures.items.at k None d (omega (arith, long, below))).2.met
    ∙ sym (get_or-map own_number refused k None d (omega (arith, eight, long, below))) in
    let numbers : c.map.result ≡ map own_number refused =
    same_lists c.map.result (map own_number refused) (long ∙ sym eight ∙ sym (length-map refused own_number)) each in
    let value : c.map_or.result ≡ reading_of c.in-Ok.batch.clock = search rules in
    (λ i. record { number = 0; value = value i; numbers = numbers i }) ∙ sym (ap batch_figures_of c.in-Ok.is)
