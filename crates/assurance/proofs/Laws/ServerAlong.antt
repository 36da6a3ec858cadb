-- What is supposed of an honest server's list, shown item by item: for the worked lists. Assumes nothing.
use Rattle.std.proofs.Common.{sym, arith, subst, append_assoc, append-nil}
use Rattle.std.specs.Prelude.{◌⊎◌, length, take, ℕ, zero, suc, ◌≡◌, List, [], ◌∷◌, ◌++◌}
use Rattle.forms.specs.declared.request.Request.{Request}
use Rattle.forms.specs.declared.terms.CounterId.{CounterId}
use Rattle.forms.specs.declared.terms.GlobalClock.{GlobalClock}
use Rattle.history.specs.Value.{Signatures}
use Rattle.host.specs.Host.{start_call}
use Rattle.assurance.specs.DeskList.{Item, history, Opening}
use Rattle.assurance.specs.HostList.{HostCall, settled_by, Widths}
use Rattle.assurance.proofs.Laws.ListLaws.{at-within}
use Rattle.assurance.specs.ServerList.{ServerItem, host, beside, ItemAt, desk_list, host_list, image_after, owed_by, paid_by, owed_after, SeenTo, HonestAt, Honest, Typed, Tells}

infixr 5 ◌and◌
-- of one item, and of those behind it
abbrev pub ◌and◌ : {A B : Type 0} → A → B → A × B
◌and◌ one others = (one, others)

-- ---- along a list

-- what may be asked of an item: with what stands before it in the desk's list, the image there and what is owed
abbrev pub Asking : Type 1
Asking = List Item → List ℕ → List (List Request) → ServerItem → Type 0

module _ (Asks : Asking) where
  -- it holds of every item but the n-th, along a list from an image, what is owed and what stands before
  unfoldable pub AlongBut : ℕ → List ℕ → List (List Request) → List Item → List ServerItem → Type 0
  AlongBut n s owed d [] = Unit
  AlongBut zero s owed d (host c ∷ l) = AlongBut (length l) (settled_by s c).image (owed_by s owed c) d l
  AlongBut zero s owed d (beside x ∷ l) = AlongBut (length l) s (paid_by owed x) (d ++ (x ∷ [])) l
  AlongBut (suc n) s owed d (host c ∷ l) = Asks d s owed (host c) × AlongBut n (settled_by s c).image (owed_by s owed c) d l
  AlongBut (suc n) s owed d (beside x ∷ l) = Asks d s owed (beside x) × AlongBut n s (paid_by owed x) (d ++ (x ∷ [])) l

  -- and so at each other place
  pub along-at : (n : ℕ) (s : List ℕ) (owed : List (List Request)) (d : List Item) (l : List ServerItem) → AlongBut n s owed d l → (j : ℕ) → (j ≡ n → ⊥)
      → (x : ServerItem) → ItemAt l j x → Asks (d ++ desk_list (take j l)) (image_after s (host_list (take j l))) (owed_after s owed (take j l)) x
  unfolding AlongBut desk_list host_list image_after owed_after
  along-at n s owed d [] seen j other x stands = absurd (let z : ◌≡◌ {A = ℕ} 0 1 = cc in omega arith)
  along-at zero s owed d (host c ∷ l) seen zero other x stands = absurd (other (omega arith))
  along-at zero s owed d (host c ∷ l) seen (suc j) other x stands =
      along-at (length l) (settled_by s c).image (owed_by s owed c) d l seen j (λ e. omega (arith, at-within l j x stands)) x stands
  along-at zero s owed d (beside y ∷ l) seen zero other x stands = absurd (other (omega arith))
  along-at zero s owed d (beside y ∷ l) seen (suc j) other x stands =
      subst (λ (f : List Item). Asks f (image_after s (host_list (take j l))) (owed_after s (paid_by owed y) (take j l)) x)
      (append_assoc d (y ∷ []) (desk_list (take j l)))
      (along-at (length l) s (paid_by owed y) (d ++ (y ∷ [])) l seen j (λ e. omega (arith, at-within l j x stands)) x stands)
  along-at (suc n) s owed d (host c ∷ l) seen zero other x stands =
      subst (λ (f : List Item). Asks f s owed x) (sym (append-nil d)) (subst (Asks d s owed) (let same : host c ≡ x = cc in same) seen.0)
  along-at (suc n) s owed d (host c ∷ l) seen (suc j) other x stands =
      along-at n (settled_by s c).image (owed_by s owed c) d l seen.1 j (λ e. other (omega arith)) x stands
  along-at (suc n) s owed d (beside y ∷ l) seen zero other x stands =
      subst (λ (f : List Item). Asks f s owed x) (sym (append-nil d)) (subst (Asks d s owed) (let same : beside y ≡ x = cc in same) seen.0)
  along-at (suc n) s owed d (beside y ∷ l) seen (suc j) other x stands =
      subst (λ (f : List Item). Asks f (image_after s (host_list (take j l))) (owed_after s (paid_by owed y) (take j l)) x)
      (append_assoc d (y ∷ []) (desk_list (take j l)))
      (along-at n s (paid_by owed y) (d ++ (y ∷ [])) l seen.1 j (λ e. other (omega arith)) x stands)

-- ---- what is supposed

module _ (first : GlobalClock) (signed : Signatures) (buffer : List ℕ) (l : List ServerItem) where
  abbrev begun : List ℕ
  begun = (start_call buffer first).image

  -- honest at every place but n
  pub honest-but : (n : ℕ) → AlongBut (SeenTo first signed) n begun [] [] l → (j : ℕ) → (j ≡ n → ⊥) → HonestAt first signed buffer l j
  honest-but n seen j other x stands = along-at (SeenTo first signed) n begun [] [] l seen j other x stands

  -- honest all along
  pub honest-along : AlongBut (SeenTo first signed) (length l) begun [] [] l → (i : ℕ) → Honest first signed buffer l i
  honest-along seen i j up_to_lem x stands = honest-but (length l) seen j (λ e. omega (arith, at-within l j x stands)) x stands

  -- with the widths of the code's types
  abbrev pub TypedItem : Asking
  TypedItem d s owed (host c) = Widths c
  TypedItem d s owed (beside x) = Unit

  pub typed-along : AlongBut TypedItem (length l) begun [] [] l → Typed l
  typed-along seen i c stands = along-at TypedItem (length l) begun [] [] l seen i (λ e. omega (arith, at-within l i (host c) stands)) (host c) stands

  -- what is supposed of a call that opens the counter, asked of it refused or not
  abbrev pub OpensItem : CounterId → Asking
  OpensItem id d s owed (host (HostCall.«open» k verdict)) =
      k.id ≡ id → ((n : ℕ) × Opening (desk_list l) id n k) ⊎ Tells first signed (desk_list l) (history d) k
  OpensItem id d s owed (host (HostCall.start clock)) = Unit
  OpensItem id d s owed (host (HostCall.tick nonce)) = Unit
  OpensItem id d s owed (host (HostCall.increment requests verdicts)) = Unit
  OpensItem id d s owed (host (HostCall.read id')) = Unit
  OpensItem id d s owed (host (HostCall.prove nonce id' output)) = Unit
  OpensItem id d s owed (host (HostCall.last id' t output)) = Unit
  OpensItem id d s owed (host (HostCall.confirm k verdict)) = Unit
  OpensItem id d s owed (host (HostCall.close k verdict)) = Unit
  OpensItem id d s owed (beside x) = Unit
