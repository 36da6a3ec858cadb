-- Lines in, answers out: document 01, "The program", whatever it is that answers a line. What is printed for an input, and what stands between two
-- parts of an input that is read in parts. Assumes nothing.
use Rattle.std.specs.Prelude.{ℕ, ◌+◌, ◌/◌, ◌≤◌, Bool, true, false, cond, ◌≡◌, List, [], ◌∷◌, ◌++◌, eqb, leb, ltb, length, take, drop}
use Rattle.forms.specs.Bytes.{overwrite}
use Rattle.console.specs.declared.session.Line.{Line}

abbrev pub newline : ℕ
newline = 10

-- "lines of at most 80 bytes before the newline"
abbrev pub max_line : ℕ
max_line = 80

-- ---- an input as a whole

-- a byte put before the first of some lines
abbrev pub to_first : ℕ → List (List ℕ) → List (List ℕ)
to_first b [] = (b ∷ []) ∷ []
to_first b (l ∷ ls) = (b ∷ l) ∷ ls

-- the lines of an input, each up to a newline, "which the last may lack"
unfoldable pub lines : List ℕ → List (List ℕ)
lines [] = []
lines (b ∷ s) = cond (eqb b newline) ([] ∷ lines s) (to_first b (lines s))

-- what stands of a line: its bytes, or that they are too many
pub data Pending : Type 0 where
  within : List ℕ → Pending
  over : Pending

-- "a line over 80 bytes is one 27"
unfoldable pub pending_for : List ℕ → Pending
pending_for line = cond (leb (length line) max_line) (within line) over

-- what is answered to a line: the state that it leaves, and a text
pub record Answered (S : Type 0) : Type 0 where
  pub state : S
  pub text : List ℕ

-- what answers the lines of an input, with a state that is kept from each to the next
abbrev pub Answering : Type 0 → Type 0
Answering S = S → Pending → Answered S

-- a line is answered where there is room for the text of every answer; with less, nothing is done
unfoldable pub answered_within : {S : Type 0} → Answering S → ℕ → ℕ → S → Pending → Answered S
answered_within answer most room state line = cond (leb most room) (answer state line) (record { state = state; text = [] })

-- what is printed for some lines, from a state on
unfoldable pub transcript : {S : Type 0} → Answering S → S → List (List ℕ) → List ℕ
transcript answer state [] = []
transcript answer state (l ∷ ls) = (answer state (pending_for l)).text ++ transcript answer (answer state (pending_for l)).state ls

-- ---- an input in parts

-- one byte more of a line whose newline has not come yet
unfoldable pub extended : Pending → ℕ → Pending
extended (within line) b = cond (ltb (length line) max_line) (within (line ++ (b ∷ []))) over
extended over b = over

-- a line was begun
abbrev pub begun : Pending → Bool
begun (within []) = false
begun (within (b ∷ s)) = true
begun over = true

-- where a session stands: the line so far, the state, and the text that was printed
pub record Session (S : Type 0) : Type 0 where
  pub pending : Pending
  pub state : S
  pub text : List ℕ

-- the line is whole: it is answered
unfoldable pub closed : {S : Type 0} → Answering S → Session S → Session S
closed answer k =
    let r = answer k.state k.pending in
    record { pending = within []; state = r.state; text = k.text ++ r.text }

-- one byte more
unfoldable pub byte_taken : {S : Type 0} → Answering S → Session S → ℕ → Session S
byte_taken answer k b =
    cond (eqb b newline) (closed answer k) (record { pending = extended k.pending b; state = k.state; text = k.text })

-- a part of the input more
unfoldable pub taken : {S : Type 0} → Answering S → Session S → List ℕ → Session S
taken answer k [] = k
taken answer k (b ∷ s) = taken answer (byte_taken answer k b) s

-- the end of the input: a line without newline is a line too
unfoldable pub ended : {S : Type 0} → Answering S → Session S → Session S
ended answer k = cond (begun k.pending) (closed answer k) k

-- ---- what the code holds of a line

abbrev pub pending_of : Line → Pending
pending_of line = cond (leb line.len max_line) (within (take line.len line.bytes)) over

abbrev pub resumed : {S : Type 0} → Line → S → Session S
resumed line state = record { pending = pending_of line; state = state; text = [] }

-- a part of the input, with room for the text of every line that it could hold, of which each has at most some bytes; with less, nothing is taken
unfoldable pub fed_session : {S : Type 0} → Answering S → ℕ → Line → S → List ℕ → ℕ → Session S
fed_session answer most line state part room = cond (leb (length part) (room / most)) (taken answer (resumed line state) part) (resumed line state)

-- the end of the input, with room for an answer
unfoldable pub ended_session : {S : Type 0} → Answering S → ℕ → Line → S → ℕ → Session S
ended_session answer most line state room = cond (leb most room) (ended answer (resumed line state)) (resumed line state)

-- where the code stands behind a call: its line is the session's, its state too, and the text stands at the start of its buffer, with the rest as it
-- was
pub record Printed {S : Type 0} (k : Session S) (before : List ℕ) (line : Line) (len : ℕ) (state : S) (text : List ℕ) : Type 0 where
  pub pending : pending_of line ≡ k.pending
  pub at-state : state ≡ k.state
  pub at_len : len ≡ length k.text
  pub at-text : text ≡ k.text ++ drop (length k.text) before

-- where the code stands behind an answer of at most some bytes: the state is as told, and the text is stored from a place on
pub record Told {S : Type 0} (told : Answered S) (most : ℕ) (before : List ℕ) (at : ℕ) (state : S) (len : ℕ) (text : List ℕ) : Type 0 where
  pub at-state : state ≡ told.state
  pub at_len : len ≡ at + length told.text
  pub stored : text ≡ overwrite before at told.text
  pub short : length told.text ≤ most
