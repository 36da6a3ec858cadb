-- The text of a run's result: how long it is, and how it is stored, a line behind the other. Assumes nothing.
use Rattle.std.specs.Prelude.{ℕ, ◌+◌, ◌*◌, ◌≤◌, ◌<◌, ◌≡◌, List, [], ◌∷◌, ◌++◌, length, get_or, take}
use Rattle.std.proofs.Common.{add-zero, add-one, arith, sym, ◌∙◌, append_assoc, append-nil, length-take-le, take_all, take-suc, ap, length-append}
use Rattle.forms.specs.Bytes.{overwrite}
use Rattle.forms.specs.Laws.BytesLaws.{length-overwrite, stored_next}
use Rattle.tablets.specs.Tablet.{max_tablets}
use Rattle.tablets.specs.declared.tablet.Tablet.{Tablet}
use Rattle.text.specs.Line.{numeral, spaced}
use Rattle.text.specs.Laws.LineLaws.{length-numeral, nothing_put}
use Rattle.bench.specs.Result.{max_result, max_tablet_line, result_text, tablet_line}

-- ---- a tablet's line

module _ (t : Tablet) where
  pub line-length : length (tablet_line t) ≡ length (numeral t.raises) + length (spaced t.stale) + length (spaced t.full) + 1
  unfolding tablet_line
  line-length = simp length-append (omega arith)

  pub line-short : length (tablet_line t) ≤ max_tablet_line
  line-short = omega (arith, line-length, length-numeral 10 t.raises, length-numeral 10 t.stale, length-numeral 10 t.full)

  -- three figures and a newline, one behind the other
  pub line-stored : (s : List ℕ) (k : ℕ) → k + max_tablet_line ≤ length s → {a b c d : List ℕ} {i j l : ℕ} → i ≡ k + length (numeral t.raises)
      → j ≡ i + length (spaced t.stale) → l ≡ j + length (spaced t.full) → a ≡ overwrite s k (numeral t.raises)
      → b ≡ overwrite a i (spaced t.stale) → c ≡ overwrite b j (spaced t.full) → d ≡ overwrite c l (10 ∷ []) → d ≡ overwrite s k (tablet_line t)
  unfolding tablet_line
  line-stored s k room {a} {b} {c} {d} {i} {j} {l} at_i at_j at-l e₁ e₂ e₃ e₄ =
      let raises = numeral t.raises in
      let stale = spaced t.stale in
      let full = spaced t.full in
      let short = line-short in
      let long = line-length in
      let two : b ≡ overwrite s k (raises ++ stale) = stored_next s k raises stale e₁ e₂ at_i (omega arith) in
      let three : c ≡ overwrite s k ((raises ++ stale) ++ full) =
      stored_next s k (raises ++ stale) full two e₃ (simp length-append (omega arith)) (simp length-append (omega arith)) in
      let four : d ≡ overwrite s k (((raises ++ stale) ++ full) ++ (10 ∷ [])) =
      stored_next s k ((raises ++ stale) ++ full) (10 ∷ []) three e₄ (simp length-append (omega arith)) (simp length-append (omega arith)) in
      four ∙ ap (overwrite s k) (simp append_assoc)

-- ---- the lines of all tablets

pub result-short : (ts : List Tablet) → length (result_text ts) ≤ max_tablet_line * length ts
unfolding result_text
result-short [] = omega arith
result-short (t ∷ ts) = simp length-append (omega (arith, line-short t, result-short ts))

pub result_fits : (ts : List Tablet) → length ts ≤ max_tablets → length (result_text ts) ≤ max_result
result_fits ts few = omega (arith, result-short ts)

-- a tablet more, behind the others
result-behind : (ts : List Tablet) (t : Tablet) → result_text (ts ++ (t ∷ [])) ≡ result_text ts ++ tablet_line t
unfolding result_text
result-behind [] t = append-nil (tablet_line t)
result-behind (s ∷ ts) t =
    ap (λ (l : List ℕ). tablet_line s ++ l) (result-behind ts t) ∙ sym (append_assoc (tablet_line s) (result_text ts) (tablet_line t))

result-next : (ts : List Tablet) (i : ℕ) (d : Tablet) → i < length ts
    → result_text (take (i + 1) ts) ≡ result_text (take i ts) ++ tablet_line (get_or ts i d)
result-next ts i d h =
    ap (λ (k : ℕ). result_text (take k ts)) (add-one i) ∙ ap result_text (take-suc ts i d h) ∙ result-behind (take i ts) (get_or ts i d)

-- ---- stored so far

-- the lines of the first tablets are stored from a place on
pub record Stored (ts : List Tablet) (i : ℕ) (before : List ℕ) (at : ℕ) (text : List ℕ) (end : ℕ) : Type 0 where
  pub at-end : end ≡ at + length (result_text (take i ts))
  pub at-text : text ≡ overwrite before at (result_text (take i ts))

pub none-stored : (ts : List Tablet) (before : List ℕ) (at : ℕ) → Stored ts 0 before at before at
unfolding result_text
none-stored ts before at = record { at-end = sym (add-zero at); at-text = (nothing_put before at).1 }

pub all-stored : (ts : List Tablet) (i : ℕ) (before : List ℕ) (at : ℕ) {text : List ℕ} {end : ℕ} → length ts ≤ i → Stored ts i before at text end
    → (end ≡ at + length (result_text ts)) × (text ≡ overwrite before at (result_text ts))
all-stored ts i before at h so_far =
    let all = ap result_text (take_all i ts h) in
    (so_far.at-end ∙ ap (λ (l : List ℕ). at + length l) all, so_far.at-text ∙ ap (overwrite before at) all)

-- where there is room for all lines, there is room for one more of them
module _ (ts : List Tablet) (i : ℕ) (before : List ℕ) (at : ℕ) (few : length ts ≤ max_tablets) (h : i < length ts)
    (room : at + max_result ≤ length before) where
  pub room-left : {text : List ℕ} {end : ℕ} → Stored ts i before at text end → end + max_tablet_line ≤ length text
  room-left so_far =
      omega (
        arith,
        so_far.at-end,
        result-short (take i ts),
        length-take-le i ts (omega arith),
        ap length so_far.at-text ∙ length-overwrite before at (result_text (take i ts)),
      )

  pub one-stored : (d t : Tablet) {text after : List ℕ} {end next : ℕ} → get_or ts i d ≡ t → Stored ts i before at text end
      → (next ≡ end + length (tablet_line t)) × (after ≡ overwrite text end (tablet_line t)) → Stored ts (i + 1) before at after next
  one-stored d t is so_far put =
      let lines = result_text (take i ts) in
      let line = tablet_line t in
      let more : result_text (take (i + 1) ts) ≡ lines ++ line = result-next ts i d h ∙ ap (λ (x : Tablet). lines ++ tablet_line x) is in
      let fits : at + (length lines + length line) ≤ length before =
      omega (arith, result-short (take i ts), length-take-le i ts (omega arith), line-short t) in
      record {
        at-end = omega (arith, so_far.at-end, put.0, ap length more ∙ length-append lines line);
        at-text = stored_next before at lines line so_far.at-text put.1 so_far.at-end fits ∙ ap (overwrite before at) (sym more);
      }
