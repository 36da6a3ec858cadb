-- One command over an image: document 01, "The program". What it answers and the image after it, by the host's and the desk's own
-- definitions. "All verdicts, the host's and the desk's, are 1". Assumes nothing.
use Rattle.std.specs.Prelude.{ℕ, ◌+◌, ◌*◌, cond, List, [], ◌∷◌, ◌++◌, eqb, length, get_or, take, replicate}
use Rattle.forms.specs.Limits.{nonce_len, max_proof_len, max_units}
use Rattle.forms.specs.Request.{request_bytes}
use Rattle.forms.specs.declared.terms.CounterId.{CounterId}
use Rattle.validity.specs.Proof.{Fields}
use Rattle.validity.specs.declared.proof.Kind.{Kind}
use Rattle.desk_table.specs.Answer.{figures, Answer}
use Rattle.desk_table.specs.Desk.{all_yes, verdicts_for, verified}
use Rattle.log_image.specs.State.{decode}
use Rattle.host.specs.Host.{Settled, start_call, open_call, tick_call, increment_call, increment_figures, read_call, prove_call, last_call}
use Rattle.host.specs.Host.{confirm_call}
use Rattle.host.specs.declared.answer.BatchFigures.{BatchFigures}
use Rattle.host.specs.declared.answer.Figures.{Figures}
use Rattle.host.specs.declared.answer.ReadFigures.{ReadFigures}
use Rattle.host.specs.Host.{proof_of, last_of, prove_output, last_output, request_nonce}
use Rattle.grammar.specs.declared.command.Command.{Command}
use Rattle.text.specs.Line.{numeral}

-- "A byte b stands for a nonce of 20 bytes b"
abbrev pub byte_nonce : ℕ → List ℕ
byte_nonce b = replicate {A = ℕ} nonce_len b

-- a verdict of the owner's: yes
abbrev pub yes : ℕ
yes = 1

-- "Proofs go to outputs of their own": room for the longest
unfoldable pub empty_output : List ℕ
empty_output = replicate {A = ℕ} max_proof_len 0

-- the desk's number and value
abbrev pub desk_figures : Answer → Figures
desk_figures answer = record { number = (figures answer).number; value = (figures answer).value }

-- of what read gives, number and value
abbrev pub read_figures : ReadFigures → Figures
read_figures r = record { number = r.number; value = r.value }

-- a request as bytes, by its nonce and by a byte that stands for it
abbrev pub request_with : List ℕ → CounterId → ℕ → List ℕ
request_with nonce id before = request_bytes (record { nonce = nonce; id = id; before = before })

abbrev pub request_of : ℕ → CounterId → ℕ → List ℕ
request_of b id before = request_with (byte_nonce b) id before

-- of what increment gives for a batch of one, the request's own number, or that of the batch refused as a whole, and the value
abbrev pub single_figures : BatchFigures → Figures
single_figures f = record { number = cond (eqb f.number 0) (get_or f.numbers 0 0) f.number; value = f.value }

-- "`prove` and `last` print, when written, the desk's number and value": the desk gets the proof at its length. One that the host refuses has
-- the host's
unfoldable pub shown : Figures → Fields → List ℕ → CounterId → List ℕ → Figures
shown written fields output id nonce =
    cond (eqb written.number 0) (desk_figures (verified (take written.value output) (all_yes fields) id nonce)) written

-- a batch of one request, which the owner signed
abbrev pub raised_once : List ℕ → List ℕ → CounterId → ℕ → Settled
raised_once s nonce id before =
    record {
      figures = single_figures (increment_figures s (request_with nonce id before) (yes ∷ []));
      image = (increment_call s (request_with nonce id before) (yes ∷ [])).image;
    }

-- the most verdicts on a proof: on the confirmation, on the certificate, and two on each entry of one request (2,050)
abbrev pub max_verdicts : ℕ
max_verdicts = 2 + 2 * max_units

-- as many as a proof of a kind and a length asks for, all yes; for more bytes than a proof has, as many as there can be
abbrev pub yes_for : Kind → ℕ → List ℕ
yes_for kind len = take (verdicts_for kind len) (replicate {A = ℕ} max_verdicts yes)

unfoldable pub ran : List ℕ → Command → Settled
ran s (Command.Start clock) = start_call s clock
ran s (Command.Open c) = open_call s c yes
ran s (Command.Tick b) = tick_call s (byte_nonce b)
ran s (Command.Increment b id before) = raised_once s (byte_nonce b) id before
ran s (Command.Read id) = record { figures = read_figures (read_call s id); image = s }
ran s (Command.Prove b id) =
    let call : Settled = prove_call s (byte_nonce b) id (length empty_output) in
    record {
      figures = shown call.figures (proof_of (decode s) (byte_nonce b) id) (prove_output s (byte_nonce b) id empty_output) id (byte_nonce b);
      image = call.image;
    }
-- "For `last` the wanted nonce is that of the box's request in entry t"
ran s (Command.Last id t) =
    let call : Settled = last_call s id t (length empty_output) in
    record {
      figures = shown call.figures (last_of (decode s) id t) (last_output s id t empty_output) id (request_nonce id t (decode s).log);
      image = call.image;
    }
ran s (Command.Confirm c) = confirm_call s c yes
-- 27: "a line that is none of those"
ran s Command.Other = record { figures = record { number = 27; value = 0 }; image = s }

-- "Each line prints number and value"
unfoldable pub answer_text : Figures → List ℕ
answer_text f = numeral f.number ++ (32 ∷ numeral f.value ++ (10 ∷ []))

-- the most bytes of an answer: two numbers of ten digits, a space and a newline
abbrev pub max_answer : ℕ
max_answer = 22
