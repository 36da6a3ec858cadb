-- A tablet's act: document 02, Note 8: "A tablet tries a raise with its belief, which a success makes the new clock; on 22 it proves, has the desk
-- judge, confirms and adopts the value. On 24 it proves and confirms only, on 25 it does nothing." By the host's and the desk's own definitions.
-- Assumes nothing.
use Rattle.std.specs.Prelude.{ℕ, cond, List, eqb, length, take}
use Rattle.desk_table.specs.Answer.{Answer, shows, refuses}
use Rattle.forms.specs.declared.terms.CounterId.{CounterId}
use Rattle.validity.specs.declared.proof.Kind.{Kind}
use Rattle.desk_table.specs.Desk.{verified}
use Rattle.host.specs.Host.{Settled, confirm_call, prove_call, prove_output}
use Rattle.host.specs.declared.answer.Figures.{Figures}
use Rattle.console.specs.Step.{empty_output, raised_once, yes, yes_for}
use Rattle.tablets.specs.Tablet.{Tablet, adopting, for_proof, for_raise, nonce_for, refused_full, refused_stale, succeeded}

-- ---- "it proves, has the desk judge, confirms"

-- the desk's answer to what the host writes for a counter and a nonce, with every verdict yes. Of a prove that the host refuses the desk gets no
-- bytes, and says no
abbrev pub judged_for : List ℕ → List ℕ → CounterId → Answer
judged_for s nonce id =
    let len : ℕ = (prove_call s nonce id (length empty_output)).figures.value in
    verified (take len (prove_output s nonce id empty_output)) (yes_for Kind.Read len) id nonce

-- an image, and the value that a tablet may believe
pub record Renewed : Type 0 where
  pub belief : ℕ
  pub image : List ℕ

-- on the desk's yes the value that it shows is confirmed, with the reading that the proof closes on; on its no nothing is, and the belief stays
abbrev pub confirmed_shown : Answer → List ℕ → CounterId → ℕ → Renewed
confirmed_shown (shows running closing) s id belief =
    record { belief = running.value; image = (confirm_call s (record { id = id; value = running.value; reading = closing }) yes).image }
confirmed_shown (refuses number place) s id belief = record { belief = belief; image = s }

unfoldable pub renewed : List ℕ → List ℕ → CounterId → ℕ → Renewed
renewed s nonce id belief = confirmed_shown (judged_for s nonce id) (prove_call s nonce id (length empty_output)).image id belief

-- ---- the act

-- a tablet after its act, and the image
pub record Acted : Type 0 where
  pub tablet : Tablet
  pub image : List ℕ

-- "tries a raise with its belief", a batch of one
abbrev pub tried : ℕ → ℕ → List ℕ → Tablet → Settled
tried round number s t = raised_once s (nonce_for for_raise round number) t.id t.belief

-- what follows the answer to the raise, on the image that the raise left: "on 25 it does nothing", and so on every other refusal
unfoldable pub following : Figures → ℕ → ℕ → List ℕ → Tablet → Acted
following answer round number s t =
    let r : Renewed = renewed s (nonce_for for_proof round number) t.id t.belief in
    cond (eqb answer.number 0) (record { tablet = succeeded t answer.value; image = s })
    (cond (eqb answer.number 22) (record { tablet = adopting (refused_stale t) r.belief; image = r.image })
    (cond (eqb answer.number 24) (record { tablet = refused_full t; image = r.image })
    (record { tablet = t; image = s })))

unfoldable pub acted : ℕ → ℕ → List ℕ → Tablet → Acted
acted round number s t =
    let raise : Settled = tried round number s t in
    following raise.figures round number raise.image t
