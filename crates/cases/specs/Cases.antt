-- What a line of a table of cases asks for, on bytes as lists of numbers: its figures, a call of the host, or a change of the image. Assumes nothing.
use Rattle.std.specs.Prelude.{ℕ, ◌+◌, ◌%◌, cond, eqb, leb, get_or, length, min, replicate, take, drop, List, ◌++◌, Option, Some, None}
use Rattle.forms.specs.Bytes.{overwrite}
use Rattle.forms.specs.Entry.{count_at, len_of}
use Rattle.forms.specs.Limits.{head_len, nonce_len}
use Rattle.forms.specs.Number.{digits}
use Rattle.forms.specs.declared.confirmation.Confirmation.{Confirmation}
use Rattle.digest.specs.Sha1.{sha1}
use Rattle.text.specs.Text.{between, first_place}
use Rattle.host.specs.declared.answer.Figures.{Figures}
use Rattle.host.specs.Host.{Settled, start_call, open_call, tick_call, prove_call, prove_output, last_call, last_output, confirm_call, close_call}
use Rattle.cases.specs.declared.call.Call.{Call}
use Rattle.cases.specs.declared.call.Call.TheVariants.{Start, Open, Tick, Prove, Last, Confirm, Close}
use Rattle.cases.specs.declared.table.Change.{Change}
use Rattle.cases.specs.declared.table.Change.TheVariants.{Word, Digest, Keep, Undo, Give}

-- ---- a line

-- the part that has its figures: from the first space up to the equals sign behind it
abbrev pub asked_of : List ℕ → List ℕ
asked_of line = let space : ℕ = first_place line 0 32 in between line space (first_place line space 61)

-- the call or the change of its word, by the first letters, in ASCII
abbrev pub call_of : List ℕ → Option Call
call_of line =
    let first : ℕ = get_or line 0 0 in
    cond (eqb first 115) (Some Start)
    (cond (eqb first 111) (Some Open)
    (cond (eqb first 116) (Some Tick)
    (cond (eqb first 112) (Some Prove)
    (cond (eqb first 108) (Some Last)
    (cond (eqb first 99) (cond (eqb (get_or line 1 0) 108) (Some Close) (Some Confirm)) None)))))

abbrev pub change_of : List ℕ → Option Change
change_of line =
    let first : ℕ = get_or line 0 0 in
    cond (eqb first 119) (Some Word)
    (cond (eqb first 100) (Some Digest)
    (cond (eqb first 107) (Some Keep)
    (cond (eqb first 117) (Some Undo)
    (cond (eqb first 103) (Some Give) None))))

-- ---- a call

-- what a call answers, and what image and output are after it
pub record Made : Type 0 where
  pub figures : Figures
  pub image : List ℕ
  pub out : List ℕ

abbrev pub figure : List ℕ → ℕ → ℕ
figure figures i = get_or figures i 0

-- a nonce of one byte, and so many bytes of it: of more than 21 none is made
abbrev pub nonce_of : ℕ → ℕ → List ℕ
nonce_of byte len = take len (replicate (nonce_len + 1) (byte % 256))

abbrev pub confirmation_of : List ℕ → Confirmation
confirmation_of f = record { id = record { 0 = figure f 0 }; value = figure f 1; reading = record { 0 = figure f 2 } }

abbrev pub beside : Settled → List ℕ → Made
beside c out = record { figures = c.figures; image = c.image; out = out }

-- the call of a word and figures: of the output it gets so many bytes
abbrev pub made : Call → List ℕ → List ℕ → List ℕ → Made
made Start f s out = beside (start_call s (record { 0 = figure f 0 })) out
made Open f s out = beside (open_call s (confirmation_of f) (figure f 3)) out
made Tick f s out = beside (tick_call s (nonce_of (figure f 0) (figure f 1))) out
made Prove f s out =
    let room : ℕ = min (figure f 3) (length out) in
    beside (prove_call s (nonce_of (figure f 0) (figure f 1)) (record { 0 = figure f 2 }) room)
    (prove_output s (nonce_of (figure f 0) (figure f 1)) (record { 0 = figure f 2 }) (take room out) ++ drop room out)
made Last f s out =
    let room : ℕ = min (figure f 2) (length out) in
    beside (last_call s (record { 0 = figure f 0 }) (record { 0 = figure f 1 }) room)
    (last_output s (record { 0 = figure f 0 }) (record { 0 = figure f 1 }) (take room out) ++ drop room out)
made Confirm f s out = beside (confirm_call s (confirmation_of f) (figure f 3)) out
made Close f s out = beside (close_call s (confirmation_of f) (figure f 3)) out

-- ---- a change

-- an image whose entry at a place has the digest of its requests as they stand; as it is where the place is past the end
abbrev pub sealed : List ℕ → ℕ → List ℕ
sealed image at =
    cond (leb (length image) at) image
    (overwrite image (at + 8) (sha1 (between image (at + head_len) (at + len_of (count_at image at)))))

abbrev pub image_changed : Change → ℕ → ℕ → List ℕ → List ℕ → List ℕ
image_changed Word at number image kept = overwrite image at (digits 4 number)
image_changed Digest at number image kept = sealed image at
image_changed Undo at number image kept = kept
image_changed _ at number image kept = image

abbrev pub kept_changed : Change → List ℕ → List ℕ → List ℕ
kept_changed Keep image kept = image
kept_changed _ image kept = kept

abbrev pub lent_changed : Change → ℕ → ℕ → ℕ
lent_changed Give at lent = at
lent_changed _ at lent = lent
