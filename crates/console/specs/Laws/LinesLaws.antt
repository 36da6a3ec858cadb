-- Where the code stands in a session, and what each of its functions does there, whatever it is that answers a line. Assumes nothing.
use Rattle.std.specs.Prelude.{ℕ, zero, suc, ◌+◌, ◌-◌, ◌*◌, ◌/◌, ◌≤◌, ◌<◌, ◌≡◌, Bool, List, [], ◌∷◌, ◌++◌, eqb, leb, ltb, length, take, drop, get_or}
use Rattle.std.specs.Prelude.{set, refl, true, false, cond}
use Rattle.std.proofs.Common.{mul-suc, add-one, arith, sym, ap₂, ◌∙◌, subst, append_assoc, length-append, length-take, take-append-drop}
use Rattle.std.proofs.Common.{drop_of_length-le, take_at, take-suc-set, drop_at, drop-cons, drop-drop, length-take-le, le-leb, lt-ltb, le-ltb, eq-eqb}
use Rattle.std.proofs.Common.{ne_eqb, ap, leb-false, div-mul-le_self, mul-le-mul_right, mul_comm, add-zero}
use Rattle.std.proofs.lemmas.Bool.{lt-leb}
use Rattle.forms.specs.Bytes.{overwrite}
use Rattle.forms.specs.Laws.BytesLaws.{overwrite-fits, length-overwrite}
use Rattle.text.specs.Laws.LineLaws.{nothing_put}
use Rattle.console.specs.Lines.{Answered, Answering, Session, Printed, Pending, Told, within, over, answered_within, begun, byte_taken, closed, ended}
use Rattle.console.specs.Lines.{ended_session}
use Rattle.console.specs.Lines.{extended, fed_session, max_line, newline, pending_of, resumed, taken}
use Rattle.console.specs.declared.session.Line.{Line}

-- where the code stands: the text so far is the first bytes of its buffer
abbrev pub session_at : {S : Type 0} → Line → ℕ → S → List ℕ → Session S
session_at line len state text = record { pending = pending_of line; state = state; text = take len text }

-- the code stands where a session stands; behind the text its buffer is as it was
pub record Took {S : Type 0} (k : Session S) (before : List ℕ) (line : Line) (len : ℕ) (state : S) (text : List ℕ) : Type 0 where
  pub pending : pending_of line ≡ k.pending
  pub at-state : state ≡ k.state
  pub printed : take len text ≡ k.text
  pub at_len : len ≡ length k.text
  pub behind : drop len text ≡ drop len before
  pub same_length : length text ≡ length before

-- ---- what the code holds of a line

module _ (line : Line) (full : length line.bytes ≡ max_line) where
  pub begun-held : ltb 0 line.len ≡ begun (pending_of line)
  begun-held = go (leb line.len max_line) refl
    where
      first : (n : ℕ) (s : List ℕ) → 0 < length s → ltb 0 n ≡ begun (within (take n s))
      first zero s l = refl
      first (suc n) [] l = absurd (omega arith)
      first (suc n) (b ∷ s) l = lt-ltb 0 (suc n) (omega arith)

      go : (t : Bool) → leb line.len max_line ≡ t → ltb 0 line.len ≡ begun (cond t (within (take line.len line.bytes)) over)
      go true e = first line.len line.bytes (omega arith)
      go false e = lt-ltb 0 line.len (omega (arith, leb-false line.len max_line e))

  -- a byte is stored behind those of a line that is not full
  pub extended-held : (b n : ℕ) → line.len < max_line → n ≡ line.len + 1
      → pending_of (record { bytes = set line.bytes line.len b; len = n }) ≡ extended (pending_of line) b
  unfolding extended
  extended-held b n some e =
      let inside : line.len < length line.bytes = omega arith in
      let short : length (take line.len line.bytes) < max_line = simp length-take (omega arith) in
      let within-n : n ≤ max_line = omega arith in
      let within-len : line.len ≤ max_line = omega arith in
      rw (le-leb _ _ within-n, le-leb _ _ within-len, e, add-one, take-suc-set line.bytes line.len b inside, lt-ltb _ _ short)

  -- one that is full has too many bytes with it
  pub over-held : (b n : ℕ) → max_line ≤ line.len → max_line < n → pending_of (record { bytes = line.bytes; len = n }) ≡ extended (pending_of line) b
  unfolding extended
  over-held b n full-line more = rw (lt-leb _ _ more) (go (leb line.len max_line))
    where
      go : (t : Bool) → over ≡ extended (cond t (within (take line.len line.bytes)) over) b
      go false = refl
      go true =
          let all : max_line ≤ length (take line.len line.bytes) = simp length-take (omega arith) in
          rw (le-ltb _ _ all)

-- ---- an answer behind the text

module _ (s : List ℕ) (k : ℕ) (v : List ℕ) (fits : k + length v ≤ length s) where
  split : overwrite s k v ≡ (take k s ++ v) ++ drop (k + length v) s
  split = overwrite-fits s k v fits ∙ sym (append_assoc (take k s) v (drop (k + length v) s))

  length-written : length (take k s ++ v) ≡ k + length v
  length-written = simp (length-append, length-take) (omega arith)

  take-written : take (k + length v) (overwrite s k v) ≡ take k s ++ v
  take-written = ap (take (k + length v)) split ∙ take_at (take k s ++ v) (drop (k + length v) s) (k + length v) length-written

  drop-written : drop (k + length v) (overwrite s k v) ≡ drop (k + length v) s
  drop-written = ap (drop (k + length v)) split ∙ drop_at (take k s ++ v) (drop (k + length v) s) (k + length v) length-written

-- an answer that is the same by another name
pub told-as : {S : Type 0} {a b : Answered S} {most : ℕ} {before : List ℕ} {at : ℕ} {state : S} {len : ℕ} {text : List ℕ} → a ≡ b
    → Told b most before at state len text → Told a most before at state len text
told-as {S} {most = most} {before = before} {at = at} {state = state} {len = len} {text = text} e t =
    subst (λ (a : Answered S). Told a most before at state len text) (sym e) t

-- one without text
pub told-empty : {S : Type 0} (told : Answered S) (most : ℕ) (before : List ℕ) (at : ℕ) {state : S} → told.text ≡ [] → state ≡ told.state
    → Told told most before at state at before
told-empty told most before at none is =
    record {
      at-state = is;
      at_len = sym (ap (λ (s : List ℕ). at + length s) none ∙ add-zero at);
      stored = (nothing_put before at).1 ∙ ap (overwrite before at) (sym none);
      short = omega (arith, ap length none);
    }

module _ {S : Type 0} (answer : Answering S) (most : ℕ) (state : S) (line : Pending) where
  -- where there is room for the longest answer, the line is answered
  answered-room : (room : ℕ) → most ≤ room → answered_within answer most room state line ≡ answer state line
  unfolding answered_within
  answered-room room h = rw (le-leb most room h)

  answered-none : (room : ℕ) → room < most → answered_within answer most room state line ≡ record { state = state; text = [] }
  unfolding answered_within
  answered-none room h = rw (lt-leb most room h)

  -- with less room nothing is done
  pub told-none : (before : List ℕ) (at : ℕ) → length before - at < most
      → Told (answered_within answer most (length before - at) state line) most before at state at before
  told-none before at h = told-as (answered-none (length before - at) h) (told-empty (record { state = state; text = [] }) most before at refl refl)

  -- with room what was answered is stored
  pub told-room : (before : List ℕ) (at : ℕ) {after : S} {end : ℕ} {text : List ℕ} → most ≤ length before - at
      → Told (answer state line) most before at after end text
      → Told (answered_within answer most (length before - at) state line) most before at after end text
  told-room before at h told = told-as (answered-room (length before - at) h) told

-- the line's answer was stored behind the text
pub took-closed : {S : Type 0} (answer : Answering S) (line : Line) (len : ℕ) (state : S) (before : List ℕ) {told : Answered S} {next : Line}
    {end : ℕ}
    {after : S} {text : List ℕ} → told ≡ answer state (pending_of line) → len + length told.text ≤ length before → after ≡ told.state
    → end ≡ len + length told.text → text ≡ overwrite before len told.text → pending_of next ≡ within []
    → Took (closed answer (session_at line len state before)) before next end after text
unfolding closed
took-closed {S} answer line len state before {told} answered fits left ends stored new =
    let right : told.text ≡ (answer state (pending_of line)).text = ap (λ (a : Answered S). a.text) answered in
    record {
      pending = new;
      at-state = left ∙ ap (λ (a : Answered S). a.state) answered;
      printed = ap₂ take ends stored ∙ take-written before len told.text fits ∙ ap (λ (a : List ℕ). take len before ++ a) right;
      at_len = ends ∙ sym (length-written before len told.text fits) ∙ ap (λ (a : List ℕ). length (take len before ++ a)) right;
      behind = ap₂ drop ends stored ∙ drop-written before len told.text fits ∙ ap (λ (n : ℕ). drop n before) (sym ends);
      same_length = ap length stored ∙ length-overwrite before len told.text;
    }

-- and where there was room for the longest answer, the text has grown by no more than that
pub took-told : {S : Type 0} (answer : Answering S) (most : ℕ) (line : Line) (len : ℕ) (state : S) (before : List ℕ) {next : Line} {end : ℕ}
    {after : S} {text : List ℕ} → len + most ≤ length before
    → Told (answered_within answer most (length before - len) state (pending_of line)) most before len after end text → pending_of next ≡ within []
    → Took (closed answer (session_at line len state before)) before next end after text × (end ≤ len + most)
took-told answer most line len state before room told new =
    let own = told-as (sym (answered-room answer most state (pending_of line) (length before - len) (omega arith))) told in (
      took-closed answer line len state before refl (omega (arith, own.short)) own.at-state own.at_len own.stored new,
      omega (arith, own.at_len, own.short),
    )

-- ---- a byte

pub byte-newline : {S : Type 0} (answer : Answering S) (k : Session S) (b : ℕ) → b ≡ newline → closed answer k ≡ byte_taken answer k b
unfolding byte_taken
byte-newline answer k b e = rw (eq-eqb b newline e)

byte-other : {S : Type 0} (answer : Answering S) (k : Session S) (b : ℕ) → (b ≡ newline → ⊥)
    → record { pending = extended k.pending b; state = k.state; text = k.text } ≡ byte_taken answer k b
unfolding byte_taken
byte-other answer k b e = rw (ne_eqb b newline e)

pub took-other : {S : Type 0} (answer : Answering S) (line : Line) (len : ℕ) (state : S) (text : List ℕ) (b : ℕ) {next : Line} → len ≤ length text
    → (b ≡ newline → ⊥) → pending_of next ≡ extended (pending_of line) b
    → Took (byte_taken answer (session_at line len state text) b) text next len state text
took-other {S} answer line len state text b {next} inside other new =
    subst (λ (k : Session S). Took k text next len state text) (byte-other answer (session_at line len state text) b other)
    (record {
      pending = new;
      at-state = refl;
      printed = refl;
      at_len = sym (length-take-le len text inside);
      behind = refl;
      same_length = refl;
    })

-- the text does not get shorter
text-grows : {S : Type 0} (answer : Answering S) (k : Session S) (b : ℕ) → length k.text ≤ length (byte_taken answer k b).text
unfolding byte_taken closed
text-grows {S} answer k b = go (eqb b newline)
  where
    go : (t : Bool) →
        length k.text ≤ length (cond t (closed answer k) (record { pending = extended k.pending b; state = k.state; text = k.text })).text
    go true = simp length-append (omega arith)
    go false = omega arith

-- ---- where the code stands

took-session : {S : Type 0} {k : Session S} {before : List ℕ} {line : Line} {len : ℕ} {state : S} {text : List ℕ} → Took k before line len state text
    → k ≡ session_at line len state text
took-session {S} {k} {before} {line} {len} {state} {text} t =
    sym (ap (λ (p : Pending). record { pending = p; state = state; text = take len text }) t.pending
    ∙ ap (λ (s : S). record { pending = k.pending; state = s; text = take len text }) t.at-state
    ∙ ap (λ (s : List ℕ). record { pending = k.pending; state = k.state; text = s }) t.printed)

pub printed-at : {S : Type 0} (line : Line) (len : ℕ) (state : S) (text before : List ℕ) {k : Session S} → k ≡ session_at line len state text
    → len ≤ length text → drop len text ≡ drop len before → Printed k before line len state text
printed-at {S} line len state text before {k} e inside behind =
    let n : len ≡ length k.text = sym (ap (λ (j : Session S). length j.text) e ∙ length-take-le len text inside) in
    record {
      pending = ap (λ (j : Session S). j.pending) (sym e);
      at-state = ap (λ (j : Session S). j.state) (sym e);
      at_len = n;
      at-text =
          sym (take-append-drop len text)
          ∙ ap₂ ◌++◌ (ap (λ (j : Session S). j.text) (sym e)) (behind ∙ ap (λ (m : ℕ). drop m before) n);
    }

pub took-printed : {S : Type 0} {k : Session S} {before : List ℕ} {line : Line} {len : ℕ} {state : S} {text : List ℕ}
    → Took k before line len state text
    → Printed k before line len state text
took-printed {S} {k} {before} {line} {len} {state} {text} t =
    printed-at line len state text before (took-session t) (omega (arith, simp length-take at (ap length t.printed))) t.behind

-- ---- an input in parts

-- where the code stands when it has taken some bytes of a part: there is room for an answer to each of the others
pub record Feeding {S : Type 0} (answer : Answering S) (most : ℕ) (k : Session S) (part before : List ℕ) (line : Line) (len : ℕ) (state : S)
    (text : List ℕ) (i : ℕ) : Type 0 where
  pub inside : i ≤ length part
  pub room : len + most * (length part - i) ≤ length before
  pub to-come : taken answer k part ≡ taken answer (session_at line len state text) (drop i part)
  pub behind : drop len text ≡ drop len before
  pub same_length : length text ≡ length before

taken_next : {S : Type 0} (answer : Answering S) (k : Session S) (part : List ℕ) (i : ℕ) → i < length part
    → taken answer k (drop i part) ≡ taken answer (byte_taken answer k (get_or part i 0)) (drop (i + 1) part)
unfolding taken
taken_next answer k part i h =
    ap (taken answer k) (drop-cons part i 0 h) ∙ ap (λ (j : ℕ). taken answer (byte_taken answer k (get_or part i 0)) (drop j part)) (sym (add-one i))

drop-later : (m n : ℕ) (s t : List ℕ) → m ≤ n → drop m s ≡ drop m t → drop n s ≡ drop n t
drop-later m n s t h e =
    let sum : m + (n - m) ≡ n = omega arith in
    ap (λ (k : ℕ). drop k s) (sym sum)
    ∙ sym (drop-drop (n - m) m s)
    ∙ ap (drop (n - m)) e
    ∙ drop-drop (n - m) m t
    ∙ ap (λ (k : ℕ). drop k t) sum

-- none of them is taken yet
pub feeding-begun : {S : Type 0} (answer : Answering S) (most : ℕ) (line : Line) (state : S) (part before : List ℕ) → length part ≤ length before / most
    → Feeding answer most (resumed line state) part before line 0 state before 0
feeding-begun answer most line state part before h =
    let all : length part * most ≤ length before / most * most = mul-le-mul_right most h in
    let same : length part - 0 ≡ length part = omega arith in
    let left : most * (length part - 0) ≡ length part * most = ap (λ (n : ℕ). most * n) same ∙ mul_comm most (length part) in
    record { inside = omega arith; room = omega (arith, left, all, div-mul-le_self (length before) most); to-come = refl; behind = refl; same_length = refl }

-- there is room for the answer to one more
pub feeding-room : {S : Type 0} {answer : Answering S} {most : ℕ} {k : Session S} {part before : List ℕ} {line : Line} {len : ℕ} {state : S}
    {text : List ℕ} {i : ℕ} → Feeding answer most k part before line len state text i → i < length part → len + most ≤ length text
feeding-room {most = most} {part = part} {len = len} {text = text} {i = i} f h =
    let left : length part - i ≡ suc (length part - (i + 1)) = omega arith in
    let one : most * (length part - i) ≡ most * (length part - (i + 1)) + most =
    ap (λ (n : ℕ). most * n) left ∙ mul-suc most (length part - (i + 1)) in
    omega (arith, one, f.room, f.same_length)

-- a byte more, where the text has grown by at most so many bytes
pub feeding-more : {S : Type 0} {answer : Answering S} {most : ℕ} {k : Session S} {part before : List ℕ} {line next : Line} {len end : ℕ}
    {state after : S}
    {text printed : List ℕ} {i : ℕ} → Feeding answer most k part before line len state text i → i < length part
    → Took (byte_taken answer (session_at line len state text) (get_or part i 0)) text next end after printed → end ≤ len + most
    → Feeding answer most k part before next end after printed (i + 1)
feeding-more {S} {answer} {most} {k} {part} {before} {line} {next} {len} {end} {state} {after} {text} {printed} {i} f h t short =
    let left : length part - i ≡ suc (length part - (i + 1)) = omega arith in
    let one : most * (length part - i) ≡ most * (length part - (i + 1)) + most =
    ap (λ (n : ℕ). most * n) left ∙ mul-suc most (length part - (i + 1)) in
    let long : length (take len text) ≡ len = length-take-le len text (omega (arith, one, f.room, f.same_length)) in
    let grows = text-grows answer (session_at line len state text) (get_or part i 0) in
    record {
      inside = omega arith;
      room = omega (arith, one, short, f.room);
      to-come =
          f.to-come
          ∙ taken_next answer (session_at line len state text) part i h
          ∙ ap (λ (j : Session S). taken answer j (drop (i + 1) part)) (took-session t);
      behind = t.behind ∙ drop-later len end text before (omega (arith, long, grows, t.at_len)) f.behind;
      same_length = t.same_length ∙ f.same_length;
    }

-- all of them are taken
pub feeding-all : {S : Type 0} {answer : Answering S} {most : ℕ} {j k : Session S} {part before : List ℕ} {line : Line} {len : ℕ} {state : S}
    {text : List ℕ}
    {i : ℕ} → j ≡ taken answer k part → Feeding answer most k part before line len state text i → length part ≤ i
    → Printed j before line len state text
unfolding taken
feeding-all {answer = answer} {part = part} {before = before} {line = line} {len = len} {state = state} {text = text} e f end =
    printed-at line len state text before
    (e ∙ f.to-come ∙ ap (taken answer (session_at line len state text)) (drop_of_length-le part end))
    (omega arith) f.behind

-- ---- with room, and without

module _ {S : Type 0} (answer : Answering S) (most : ℕ) (line : Line) (state : S) where
  pub fed-none : (part : List ℕ) (room : ℕ) → room / most < length part → fed_session answer most line state part room ≡ resumed line state
  unfolding fed_session
  fed-none part room h = rw (lt-leb _ _ h)

  pub fed-all : (part : List ℕ) (room : ℕ) → length part ≤ room / most
      → fed_session answer most line state part room ≡ taken answer (resumed line state) part
  unfolding fed_session
  fed-all part room h = rw (le-leb _ _ h)

  pub ended-short : (room : ℕ) → room < most → ended_session answer most line state room ≡ resumed line state
  unfolding ended_session
  ended-short room h = rw (lt-leb _ _ h)

  pub ended-idle : (room : ℕ) → begun (pending_of line) ≡ false → ended_session answer most line state room ≡ resumed line state
  unfolding ended_session ended
  ended-idle room h = go (leb most room)
    where
      go : (t : Bool) → cond t (ended answer (resumed line state)) (resumed line state) ≡ resumed line state
      go true = ap (λ (b : Bool). cond b (closed answer (resumed line state)) (resumed line state)) h
      go false = refl

  pub ended-closed : (room : ℕ) → most ≤ room → begun (pending_of line) ≡ true
      → ended_session answer most line state room ≡ closed answer (resumed line state)
  unfolding ended_session ended
  ended-closed room h b =
      ap (λ (t : Bool). cond t (ended answer (resumed line state)) (resumed line state)) (le-leb most room h)
      ∙ ap (λ (t : Bool). cond t (closed answer (resumed line state)) (resumed line state)) b
