-- An honest server's claim speaks of a day: each of its proofs gets from its place on a true yes to everything, and the value and openings of 9 that the
-- desk shows are the history's, of the proof before the second start and, by what was shown there, of the one behind it. Assumes nothing.
use Rattle.std.specs.Prelude.{ℕ, zero, suc, ◌<◌, ◌≡◌, refl, Bool, true, false, ◌⊎◌, List, [], eqb, take, drop}
use Rattle.std.proofs.Common.{sym, ap, ap₂, subst, subst₂, ◌∙◌, inl, inr, arith, lit<, eqb-true}
use Rattle.std.proofs.Math.Option.{some}
use Rattle.std.proofs.Math.ListN.{get_elem?}
use Rattle.std.proofs.lemmas.Bool.{eqb-false}
use Rattle.forms.specs.Chain.{step, running_after}
use Rattle.forms.specs.Request.{names}
use Rattle.forms.specs.Terms.{global_clock}
use Rattle.forms.specs.declared.confirmation.Confirmation.{Confirmation}
use Rattle.forms.specs.declared.running.Running.{Running}
use Rattle.forms.specs.declared.terms.CounterId.{CounterId}
use Rattle.desk_table.specs.Answer.{figures}
use Rattle.desk_table.specs.Desk.{all_yes, verified}
use Rattle.desk_table.specs.declared.answer.Figures.{Figures as DeskFigures}
use Rattle.log_image.specs.Sound.{holds, oldest, after, ending, record_of}
use Rattle.log_image.specs.State.{State}
use Rattle.host.specs.Host.{running_of, read_refusal, proof_of, start_call, prove_output}
use Rattle.host.specs.declared.answer.Figures.{Figures}
use Rattle.assurance.specs.DeskList.{confirmed, At, history, shown, Opening, Sound}
use Rattle.assurance.specs.HostList.{HostCall, settled_by}
use Rattle.worked_lists.specs.Worked.HostListWitness.{byte_nonce, blank, blank-long}
use Rattle.assurance.proofs.Laws.HostProof.{prove-fair}
use Rattle.worked_lists.specs.Worked.Places.{IsImageOf, Done, begun-image, signed, shows}
use Rattle.assurance.proofs.Laws.ServerAlong.{Asking, AlongBut, along-at, OpensItem}
use Rattle.worked_lists.specs.Worked.ServerDay.{seven, nine, signing, room, proving, lasting, seven-image, both-image, raised-image, ticked-image, proved-image, lasted-image, confirmed-image, closed-image, again-image, shown-image, ahead-image, restarted-image, reopened-image, ticked-here, prove-first, prove-second, again-here, prove-third, reopened-here, prove-fourth, proof_at, first-call, second_call, third-call, fourth-call, day, honest-day, AskedFrom, day-typed}
use Rattle.assurance.proofs.Laws.ServerLaws.{image-append}
use Rattle.assurance.specs.ServerList.{host, desk_list, host_list, image_after, owed_after, image_at, desk_at, Tells, OpenedTruly, Writes, Borne, TrueNo}
use Rattle.assurance.proofs.Laws.ServerProof.{server-claim, shown-tells}
use Rattle.assurance.proofs.Laws.ServerStation.{ones-true-no}
use Rattle.assurance.proofs.Laws.ServerWritten.{prove-written}

-- ---- where the proofs are written

second-place : image_at blank (global_clock 100) day 10 ≡ proved-image
unfolding image_after host_list begun-image seven-image both-image raised-image ticked-image proved-image
second-place = refl

third-place : image_at blank (global_clock 100) day 18 ≡ again-image
unfolding image_after host_list begun-image seven-image both-image raised-image ticked-image proved-image lasted-image confirmed-image closed-image again-image
third-place = refl

fourth-place : image_at blank (global_clock 100) day 25 ≡ reopened-image
unfolding image_after host_list shown-image ahead-image restarted-image reopened-image
fourth-place =
    image-append (start_call blank (global_clock 100)).image (host_list (take 18 day)) (host_list (take 7 (drop 18 day)))
    ∙ ap (λ (s : List ℕ). image_after s (host_list (take 7 (drop 18 day)))) third-place

-- ---- what the desk shows

-- of a proof of 9, where the state is known
shown-at : {s : List ℕ} {st : State} {len : ℕ} {to : State} (b : ℕ) (running : Running) → IsImageOf s st → Done (settled_by s (proving b)) len to
    → read_refusal st nine ≡ 0 → running_of st nine ≡ running
    → shown (proof_at s b) ≡ record { number = 0; value = running.value; closing = st.clock.0; place = 0; openings = running.openings }
shown-at {s} b running here proved none runs =
    ap₂ (λ (n : ℕ) (x : State). figures (verified (take n (prove_output s (byte_nonce b) nine room)) (all_yes (proof_of x (byte_nonce b) nine)) nine (byte_nonce b)))
    (ap (λ (f : Figures). f.value) proved.answers) here.says
    ∙ (shows b nine room running here proved (prove-fair s here.kept (byte_nonce b) nine room (lit< tt)) none runs).accepted

-- of the first proof the value 101 at 102, which the owner of 9 then confirms
pub first-shows : shown first-call ≡ record { number = 0; value = 101; closing = 102; place = 0; openings = 1 }
unfolding holds record_of ending oldest after running_after step names
first-shows = shown-at 4 (record { value = 101; openings = 1 }) ticked-here prove-first refl refl

-- of the third 103 at 103, with the one opening since then
pub third-shows : shown third-call ≡ record { number = 0; value = 103; closing = 103; place = 0; openings = 1 }
unfolding holds record_of ending oldest after running_after step names
third-shows = shown-at 5 (record { value = 103; openings = 1 }) again-here prove-third refl refl

-- of the fourth the same, with none
pub fourth-shows : shown fourth-call ≡ record { number = 0; value = 103; closing = 103; place = 0; openings = 0 }
unfolding holds record_of ending oldest after running_after step names
fourth-shows = shown-at 7 (record { value = 103; openings = 0 }) reopened-here prove-fourth refl refl

-- ---- the second proof

-- from its place on every yes on it is true, and the desk accepts it
pub second-borne : Borne (global_clock 100) signing (desk_list day) 5 second_call
unfolding desk_list
second-borne =
    ((server-claim (global_clock 100) signing blank day blank-long (lit< tt) day-typed 10 lasting second_call (honest-day 10) refl
    (subst (λ (s : List ℕ). Writes s lasting second_call) (sym second-place) (ap (λ (f : Figures). f.number) prove-second.answers, refl))
    ).0 5 (omega arith)).0

-- ---- the third proof

-- 9 has its first confirmation behind that of 7
nine-first : Opening (desk_list day) nine 1 (signed nine 100)
unfolding desk_list
nine-first = record { stands = refl; own = refl; before = before }
  where
    before : (j : ℕ) (k : Confirmation) → j < 1 → At (desk_list day) j (confirmed k) → k.id ≡ nine → ⊥
    before zero k low stands own =
        let same : signed seven 100 ≡ k = cc in
        omega (arith, ap (λ (x : Confirmation). x.id.0) same ∙ ap (λ (x : CounterId). x.0) own)
    before (suc j) k low stands own = omega arith

-- and is opened by it, but for the call behind the second start
abbrev Opens : Asking
Opens = OpensItem (global_clock 100) signing blank day nine

opens-but : AskedFrom Opens 23 0
unfolding AlongBut desk_list host_list image_after owed_after
opens-but =
    let rest : AskedFrom Opens 19 4 =
    (tt, (tt, (tt, (tt, (tt, (tt, (tt, (tt, (tt, (tt, (tt, (tt, (tt, (tt, (tt, (tt, (tt, (tt, (tt, (tt, (tt, tt))))))))))))))))))))) in
    (tt, ((λ own. absurd (omega (arith, ap (λ (x : CounterId). x.0) own))), (tt, ((λ own. inl (1, nine-first)), rest))))

opened-but : (j : ℕ) (k : Confirmation) (verdict : ℕ) → (j ≡ 23 → ⊥) → get_elem? day j ≡ some (host (HostCall.«open» k verdict)) → k.id ≡ nine
    → ((n : ℕ) × Opening (desk_list day) nine n k) ⊎ Tells (global_clock 100) signing (desk_list day) (history (desk_at day j)) k
unfolding desk_list host_list image_after owed_after
opened-but j k verdict other stands own =
    along-at Opens 23 (start_call blank (global_clock 100)).image [] [] day opens-but j other (host (HostCall.«open» k verdict)) stands own

-- the same of it, and the value and openings that it shows are the history's
pub third-borne : Borne (global_clock 100) signing (desk_list day) 9 third-call × Sound (global_clock 100) signing (desk_list day) third-call
unfolding desk_list
third-borne =
    let opened : OpenedTruly (global_clock 100) signing blank day 18 nine =
    λ j k verdict before stands done own. opened-but j k verdict (λ is. omega arith) stands own in
    let claimed = server-claim (global_clock 100) signing blank day blank-long (lit< tt) day-typed 18 (proving 5) third-call (honest-day 18) refl
    (subst (λ (s : List ℕ). Writes s (proving 5) third-call) (sym third-place) (ap (λ (f : Figures). f.number) prove-third.answers, refl)) in
    ((claimed.0 9 (omega arith)).0, claimed.1 opened)

-- a station that says yes to all of it says no untrue no: what the claim supposes of a station can be met
pub third-told : TrueNo (global_clock 100) signing (desk_list day) 9 third-call
third-told =
    let written = (prove-written again-image again-here.kept (byte_nonce 5) nine room third-call (lit< tt)
    (ap (λ (f : Figures). f.number) prove-third.answers, refl)).1 in
    ones-true-no (global_clock 100) signing (desk_list day) 9 third-call written.accepted written.verdicts

-- ---- the fourth proof

-- so what 9 is opened by behind the second start tells its value
shown-again : Tells (global_clock 100) signing (desk_list day) (history (desk_at day 23)) (signed nine 103)
unfolding desk_list history
shown-again =
    shown-tells (global_clock 100) signing (desk_list day) 9 third-call (signed nine 103) third-borne.0 third-borne.1 refl
    (ap (λ (f : DeskFigures). f.value) third-shows) (ap (λ (f : DeskFigures). global_clock f.closing) third-shows)

opened-again : OpenedTruly (global_clock 100) signing blank day 25 nine
opened-again j k verdict before stands done own = go (eqb j 23) refl
  where
    go : (b : Bool) → eqb j 23 ≡ b → ((n : ℕ) × Opening (desk_list day) nine n k) ⊎ Tells (global_clock 100) signing (desk_list day) (history (desk_at day j)) k
    go true is =
        let there : j ≡ 23 = eqb-true j 23 is in
        let item : get_elem? day 23 ≡ some (host (HostCall.«open» k verdict)) = ap (get_elem? day) (sym there) ∙ stands in
        let same : signed nine 103 ≡ k = cc in
        inr (subst₂ (λ (n : ℕ) (x : Confirmation). Tells (global_clock 100) signing (desk_list day) (history (desk_at day n)) x) (sym there) same shown-again)
    go false is = opened-but j k verdict (eqb-false j 23 is) stands own

-- and the same of the proof from there
pub fourth-borne : Borne (global_clock 100) signing (desk_list day) 12 fourth-call × Sound (global_clock 100) signing (desk_list day) fourth-call
unfolding desk_list
fourth-borne =
    let claimed = server-claim (global_clock 100) signing blank day blank-long (lit< tt) day-typed 25 (proving 7) fourth-call (honest-day 25) refl
    (subst (λ (s : List ℕ). Writes s (proving 7) fourth-call) (sym fourth-place) (ap (λ (f : Figures). f.number) prove-fourth.answers, refl)) in
    ((claimed.0 12 (omega arith)).0, claimed.1 opened-again)
