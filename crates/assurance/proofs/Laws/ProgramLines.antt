-- The host call that a line makes has figures of their widths, whatever bytes the line is. Assumes nothing.
use Rattle.std.specs.Prelude.{ℕ, zero, suc, ◌^◌, ◌<◌, ◌≡◌, refl, Bool, true, false, cond, ◌&&◌, List, [], ◌∷◌, ◌++◌, leb, length, replicate, Option, Some, None}
use Rattle.std.proofs.Common.{arith, leb-true}
use Rattle.forms.specs.Bytes.{Bytes, same}
use Rattle.forms.specs.Limits.{max_word, nonce_len}
use Rattle.forms.specs.Number.{digits}
use Rattle.forms.specs.Laws.NumberLaws.{bytes-digits}
use Rattle.forms.specs.Request.{request_bytes}
use Rattle.forms.specs.Laws.TestsLaws.{both}
use Rattle.forms.specs.declared.terms.CounterId.{CounterId}
use Rattle.log_image.specs.Laws.ImageParts.{bytes-append}
use Rattle.grammar.specs.Command.{start_name, open_name, tick_name, inc_name, read_name, prove_name, last_name, confirm_name, one_of, two_of, third_to, arguments_of, of_byte, named, by_words, words, command_of}
use Rattle.grammar.specs.Numeral.{unpadded, all_digits, value_of, figure_of}
use Rattle.grammar.specs.declared.command.Arguments.{Arguments}
use Rattle.grammar.specs.declared.command.Command.{Command}
use Rattle.console.specs.Session.{max_line, line_command}
use Rattle.console.specs.Step.{byte_nonce, empty_output, yes, request_of, request_with}
use Rattle.assurance.specs.HostList.{HostCall, Widths}

-- the call that a command makes; a line that is none of the commands makes none, and `read` leaves the image as it does
abbrev pub call_of : Command → HostCall
call_of (Command.Start clock) = HostCall.start clock
call_of (Command.Open c) = HostCall.«open» c yes
call_of (Command.Tick b) = HostCall.tick (byte_nonce b)
call_of (Command.Increment b id before) = HostCall.increment (request_of b id before) (yes ∷ [])
call_of (Command.Read id) = HostCall.read id
call_of (Command.Prove b id) = HostCall.prove (byte_nonce b) id empty_output
call_of (Command.Last id t) = HostCall.last id t empty_output
call_of (Command.Confirm c) = HostCall.confirm c yes
call_of Command.Other = HostCall.read (record { 0 = 0 })

abbrev Fits : Command → Type 0
Fits c = Widths (call_of c)

-- ---- figures

abbrev FigureFits : Option ℕ → Type 0
FigureFits (Some n) = n < 2 ^ 32
FigureFits None = Unit

figure-fits : (s : List ℕ) → FigureFits (figure_of s)
unfolding figure_of
figure-fits s = by-test (unpadded s && (all_digits s && leb (value_of s) max_word)) refl
  where
    by-test : (t : Bool) → (unpadded s && (all_digits s && leb (value_of s) max_word)) ≡ t → FigureFits (cond t (Some (value_of s)) None)
    by-test true e = omega (arith, leb-true (value_of s) max_word (both (all_digits s) _ (both (unpadded s) _ e).1).1)
    by-test false e = tt

abbrev pub ArgumentsFit : Option Arguments → Type 0
ArgumentsFit (Some (Arguments.One a)) = a < 2 ^ 32
ArgumentsFit (Some (Arguments.Two a b)) = (a < 2 ^ 32) × (b < 2 ^ 32)
ArgumentsFit (Some (Arguments.Three a b c)) = (a < 2 ^ 32) × (b < 2 ^ 32) × (c < 2 ^ 32)
ArgumentsFit None = Unit

one-fits : (f : Option ℕ) → FigureFits f → ArgumentsFit (one_of f)
one-fits (Some a) fits = fits
one-fits None fits = tt

two-fit : (f g : Option ℕ) → FigureFits f → FigureFits g → ArgumentsFit (two_of f g)
two-fit (Some a) (Some b) f g = (f, g)
two-fit (Some a) None f g = tt
two-fit None b f g = tt

third-fits : (a : Option Arguments) (f : Option ℕ) → ArgumentsFit a → FigureFits f → ArgumentsFit (third_to a f)
third-fits (Some (Arguments.Two a b)) (Some c) two f = (two.0, two.1, f)
third-fits (Some (Arguments.Two a b)) None two f = tt
third-fits (Some (Arguments.One a)) g one f = tt
third-fits (Some (Arguments.Three a b c)) g three f = tt
third-fits None g none f = tt

pub arguments-fit : (ws : List (List ℕ)) → ArgumentsFit (arguments_of ws)
unfolding arguments_of
arguments-fit [] = tt
arguments-fit (a ∷ []) = one-fits (figure_of a) (figure-fits a)
arguments-fit (a ∷ b ∷ []) = two-fit (figure_of a) (figure_of b) (figure-fits a) (figure-fits b)
arguments-fit (a ∷ b ∷ c ∷ []) =
    third-fits (two_of (figure_of a) (figure_of b)) (figure_of c) (two-fit (figure_of a) (figure_of b) (figure-fits a) (figure-fits b)) (figure-fits c)
arguments-fit (a ∷ b ∷ c ∷ d ∷ ws) = tt

-- ---- commands

choice-fits : (t : Bool) (x y : Command) → Fits x → Fits y → Fits (cond t x y)
choice-fits true x y fits others = fits
choice-fits false x y fits others = others

-- a nonce of one byte twenty times
nonce-bytes : (n b : ℕ) → b < 256 → Bytes (replicate {A = ℕ} n b)
unfolding Bytes
nonce-bytes zero b small zero = omega arith
nonce-bytes zero b small (suc k) = omega arith
nonce-bytes (suc n) b small zero = small
nonce-bytes (suc n) b small (suc k) = nonce-bytes n b small k

-- a request is bytes where its nonce is
pub request-with-bytes : (nonce : List ℕ) (id : CounterId) (before : ℕ) → Bytes nonce → Bytes (request_with nonce id before)
unfolding request_bytes
request-with-bytes nonce id before small =
    bytes-append (nonce ++ digits 4 id.0) (digits 4 before)
    (bytes-append nonce (digits 4 id.0) small (bytes-digits 4 id.0)) (bytes-digits 4 before)

-- and so where its nonce is of one byte
pub request-bytes : (b : ℕ) (id : CounterId) (before : ℕ) → b < 256 → Bytes (request_of b id before)
request-bytes b id before small = request-with-bytes (byte_nonce b) id before (nonce-bytes nonce_len b small)

byte_fits : (b : ℕ) (c : Command) → (b < 256 → Fits c) → Fits (of_byte b c)
byte_fits b c fits = by-test (leb b 255) refl
  where
    by-test : (t : Bool) → leb b 255 ≡ t → Fits (cond t c Command.Other)
    by-test true e = fits (omega (arith, leb-true b 255 e))
    by-test false e = omega arith

named-fits : (name : List ℕ) (a : Option Arguments) → ArgumentsFit a → Fits (named name a)
named-fits name (Some (Arguments.One a)) fits =
    choice-fits (same name start_name) _ _ fits
    (choice-fits (same name tick_name) _ _ (byte_fits a (Command.Tick a) (nonce-bytes nonce_len a))
    (choice-fits (same name read_name) _ _ fits (omega arith)))
named-fits name (Some (Arguments.Two a b)) fits =
    choice-fits (same name prove_name) _ _ (byte_fits a (Command.Prove a (record { 0 = b })) (λ small. (nonce-bytes nonce_len a small, fits.1)))
    (choice-fits (same name last_name) _ _ fits.0 (omega arith))
named-fits name (Some (Arguments.Three a b c)) fits =
    choice-fits (same name open_name) _ _ (record { id = fits.0; value = fits.1; reading = fits.2 })
    (choice-fits (same name inc_name) _ _
    (byte_fits a (Command.Increment a (record { 0 = b }) c) (request-bytes a (record { 0 = b }) c))
    (choice-fits (same name confirm_name) _ _ (record { id = fits.0; value = fits.1; reading = fits.2 }) (omega arith)))
named-fits name None fits = omega arith

words-fit : (ws : List (List ℕ)) → Fits (by_words ws)
words-fit [] = omega arith
words-fit (name ∷ figures) = named-fits name (arguments_of figures) (arguments-fit figures)

-- every line's call fits
pub line-fits : (line : List ℕ) → Widths (call_of (line_command line))
unfolding line_command command_of
line-fits line = choice-fits (leb (length line) max_line) (command_of line) Command.Other (words-fit (words line)) (omega arith)
