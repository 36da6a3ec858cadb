-- What is printed for an input is the transcript of its lines, and so it is however the input is cut, whatever it is that answers a line. Assumes
-- nothing.
use Rattle.std.proofs.Common.{add-one, arith, ◌∙◌, length-append, leb-false, sym, ap, append_assoc, append-nil}
use Rattle.std.specs.Prelude.{◌≡◌, Bool, cond, eqb, leb, length, ℕ, ◌<◌, refl, true, false, List, [], ◌∷◌, ◌++◌}
use mathlib.Core.List.{flatten}
use Rattle.std.proofs.lemmas.Bool.{lt-leb}
use Rattle.console.specs.Lines.{Answering, Session, Pending, within, over, begun, byte_taken, closed, ended, extended, lines, max_line, newline}
use Rattle.console.specs.Lines.{pending_for, taken, to_first, transcript}

-- an input may be cut anywhere
pub taken-append : {S : Type 0} (answer : Answering S) (k : Session S) (a b : List ℕ) → taken answer k (a ++ b) ≡ taken answer (taken answer k a) b
unfolding taken
taken-append answer k [] b = refl
taken-append answer k (x ∷ a) b = taken-append answer (byte_taken answer k x) a b

-- ---- a line so far

extended-for : (line : List ℕ) (b : ℕ) → extended (pending_for line) b ≡ pending_for (line ++ (b ∷ []))
unfolding extended pending_for
extended-for line b = go (leb (length line) max_line) refl
  where
    go : (t : Bool) → leb (length line) max_line ≡ t
        → extended (cond t (within line) over) b ≡ cond (leb (length (line ++ (b ∷ []))) max_line) (within (line ++ (b ∷ []))) over
    go true e = ap (λ (n : ℕ). cond (leb n max_line) (within (line ++ (b ∷ []))) over) (sym (length-append line (b ∷ []) ∙ add-one (length line)))
    go false e =
        let long : max_line < length (line ++ (b ∷ [])) = simp length-append (omega (arith, leb-false (length line) max_line e)) in
        rw (lt-leb _ _ long)

-- ---- the lines

-- a line begun, put before the first of some lines
behind : List ℕ → List (List ℕ) → List (List ℕ)
behind [] ls = ls
behind (b ∷ line) ls = to_first b (behind line ls)

behind-whole : (line : List ℕ) (ls : List (List ℕ)) → behind line ([] ∷ ls) ≡ line ∷ ls
unfolding behind
behind-whole [] ls = refl
behind-whole (b ∷ line) ls = ap (to_first b) (behind-whole line ls)

behind_more : (line : List ℕ) (b : ℕ) (ls : List (List ℕ)) → behind (line ++ (b ∷ [])) ls ≡ behind line (to_first b ls)
unfolding behind
behind_more [] b ls = refl
behind_more (a ∷ line) b ls = ap (to_first a) (behind_more line b ls)

behind-none : (b : ℕ) (line : List ℕ) → behind (b ∷ line) [] ≡ (b ∷ line) ∷ []
unfolding behind
behind-none b [] = refl
behind-none b (c ∷ line) = ap (to_first b) (behind-none c line)

begun-for : (b : ℕ) (line : List ℕ) → begun (pending_for (b ∷ line)) ≡ true
unfolding pending_for
begun-for b line = go (leb (length (b ∷ line)) max_line)
  where
    go : (t : Bool) → begun (cond t (within (b ∷ line)) over) ≡ true
    go true = refl
    go false = refl

-- ---- a session behind a text that was printed before it

later : {S : Type 0} → List ℕ → Session S → Session S
later text k = record { pending = k.pending; state = k.state; text = text ++ k.text }

-- no text yet
abbrev fresh : {S : Type 0} → Pending → S → Session S
fresh pending state = record { pending = pending; state = state; text = [] }

-- what is printed for an input in parts, from a line begun and a state on: `feed`'s text for each part, and `finish`'s at the end
unfoldable pub printed_in_parts : {S : Type 0} → Answering S → Pending → S → List (List ℕ) → List ℕ
printed_in_parts answer pending state [] = (ended answer (fresh pending state)).text
printed_in_parts answer pending state (part ∷ parts) =
    let k = taken answer (fresh pending state) part in
    k.text ++ printed_in_parts answer k.pending k.state parts

module _ {S : Type 0} (answer : Answering S) where
  -- ---- what a session prints in the end: its text, and the transcript of the line begun with the lines that follow

  ended-none : (line : List ℕ) (state : S) (text : List ℕ)
      → (ended answer (record { pending = pending_for line; state = state; text = text })).text ≡ text ++ transcript answer state (behind line [])
  unfolding ended closed transcript behind pending_for
  ended-none [] state text = sym (append-nil text)
  ended-none (b ∷ line) state text =
      let k : Session S = record { pending = pending_for (b ∷ line); state = state; text = text } in
      ap (λ (t : Bool). (cond t (closed answer k) k).text) (begun-for b line)
      ∙ ap (λ (s : List ℕ). text ++ s) (sym (append-nil (answer state (pending_for (b ∷ line))).text))
      ∙ ap (λ (ls : List (List ℕ)). text ++ transcript answer state ls) (sym (behind-none b line))

  ended-text : (line : List ℕ) (state : S) (text input : List ℕ)
      → (ended answer (taken answer (record { pending = pending_for line; state = state; text = text }) input)).text
      ≡ text ++ transcript answer state (behind line (lines input))
  unfolding taken byte_taken closed lines transcript behind pending_for
  ended-text line state text [] = ended-none line state text
  ended-text line state text (b ∷ s) = go (eqb b newline) (λ l i t. ended-text l i t s)
    where
      go : (t : Bool)
          → ((l : List ℕ) (i : S) (t : List ℕ)
          → (ended answer (taken answer (record { pending = pending_for l; state = i; text = t }) s)).text
          ≡ t ++ transcript answer i (behind l (lines s)))
          → (ended answer
          (taken answer
          (cond t (closed answer (record { pending = pending_for line; state = state; text = text }))
          (record { pending = extended (pending_for line) b; state = state; text = text }))
          s)).text
          ≡ text ++ transcript answer state (behind line (cond t ([] ∷ lines s) (to_first b (lines s))))
      go true rest =
          rest [] (answer state (pending_for line)).state (text ++ (answer state (pending_for line)).text)
          ∙ append_assoc text _ _
          ∙ ap (λ (ls : List (List ℕ)). text ++ transcript answer state ls) (sym (behind-whole line (lines s)))
      go false rest =
          ap (λ (p : Pending). (ended answer (taken answer (record { pending = p; state = state; text = text }) s)).text) (extended-for line b)
          ∙ rest (line ++ (b ∷ [])) state text
          ∙ ap (λ (ls : List (List ℕ)). text ++ transcript answer state ls) (behind_more line b (lines s))

  pub session-printed : (state : S) (input : List ℕ) → (ended answer (taken answer (fresh (within []) state) input)).text
      ≡ transcript answer state (lines input)
  unfolding behind pending_for
  session-printed state input = ended-text [] state [] input

  -- ---- part by part

  byte-later : (text : List ℕ) (k : Session S) (b : ℕ) → byte_taken answer (later text k) b ≡ later text (byte_taken answer k b)
  unfolding byte_taken closed later
  byte-later text k b = go (eqb b newline)
    where
      other : Session S
      other = record { pending = extended k.pending b; state = k.state; text = k.text }

      go : (t : Bool) → cond t (closed answer (later text k)) (later text other) ≡ later text (cond t (closed answer k) other)
      go true =
          let r = answer k.state k.pending in
          ap (λ (s : List ℕ). record { pending = within []; state = r.state; text = s }) (append_assoc text k.text r.text)
      go false = refl

  taken-later : (text : List ℕ) (k : Session S) (s : List ℕ) → taken answer (later text k) s ≡ later text (taken answer k s)
  unfolding taken
  taken-later text k [] = refl
  taken-later text k (b ∷ s) = ap (λ (j : Session S). taken answer j s) (byte-later text k b) ∙ taken-later text (byte_taken answer k b) s

  ended-later : (text : List ℕ) (k : Session S) → (ended answer (later text k)).text ≡ text ++ (ended answer k).text
  unfolding ended closed later
  ended-later text k = go (begun k.pending)
    where
      go : (t : Bool) → (cond t (closed answer (later text k)) (later text k)).text ≡ text ++ (cond t (closed answer k) k).text
      go true = append_assoc text k.text (answer k.state k.pending).text
      go false = refl

  parts-ended : (pending : Pending) (state : S) (parts : List (List ℕ))
      → printed_in_parts answer pending state parts ≡ (ended answer (taken answer (fresh pending state) (flatten parts))).text
  unfolding printed_in_parts taken flatten later
  parts-ended pending state [] = refl
  parts-ended pending state (part ∷ parts) =
      let k : Session S = taken answer (fresh pending state) part in
      let rest : List ℕ = flatten parts in
      ap (λ (s : List ℕ). k.text ++ s) (parts-ended k.pending k.state parts)
      ∙ sym (ended-later k.text (taken answer (fresh k.pending k.state) rest))
      ∙ ap (λ (j : Session S). (ended answer j).text) (sym (taken-later k.text (fresh k.pending k.state) rest))
      ∙ ap (λ (s : List ℕ). (ended answer (taken answer (record { pending = k.pending; state = k.state; text = s }) rest)).text) (append-nil k.text)
      ∙ ap (λ (j : Session S). (ended answer j).text) (sym (taken-append answer (fresh pending state) part rest))

  pub parts-printed : (state : S) (parts : List (List ℕ)) → printed_in_parts answer (within []) state parts
      ≡ transcript answer state (lines (flatten parts))
  parts-printed state parts = parts-ended (within []) state parts ∙ session-printed state (flatten parts)
