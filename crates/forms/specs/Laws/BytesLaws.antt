-- Laws of parts of bytes, of storing over them and of comparing them. Assumes nothing.
use Rattle.std.specs.Prelude.{◌≡◌, refl, ℕ, zero, suc, ◌+◌, ◌≤◌, ◌<◌, Bool, true, false, cond, ◌&&◌, List, [], ◌∷◌, ◌++◌, length, replicate, get_or, take, drop, ◌↔◌, leb, eqb}
use Rattle.std.proofs.Common.{sym, ap, ap₂, ◌∙◌, subst, zero-add, add-zero, add-suc, suc-add, add_assoc, arith, append_assoc, length-append, length-take, length-drop, get_or-drop, take_all, drop-cons, take_at, drop_at, length-take-le, drop-drop, lit<, le-leb, eqb-true, eq-eqb, leb-true}
use Rattle.std.proofs.lemmas.Bool.{false≢true, lt-leb, leb-false}
use Rattle.std.proofs.Math.Bool.{and_assoc}
use Rattle.std.proofs.Math.ListN.{get_or-eq_default}
use Rattle.std.proofs.lemmas.List.Edits.{sets, sets-eq}
use Rattle.std.proofs.Math.Seq.{paste, take-length}
use Rattle.forms.specs.Bytes.{Bytes, window, splice, overwrite, same}

-- ---- a window

pub length-window : (s : List ℕ) (k n : ℕ) → length (window s k n) ≡ n
unfolding window
length-window s k zero = refl
length-window s k (suc n) = ap suc (length-window s (suc k) n)

-- where the bytes are there, a window is the part of the list
pub window-part : (s : List ℕ) (k n : ℕ) → k + n ≤ length s → window s k n ≡ take n (drop k s)
unfolding window
window-part s k zero h = refl
window-part s k (suc n) h =
    let below : k < length s = omega arith in
    let rest : suc k + n ≤ length s = omega arith in
    ap (λ (l : List ℕ). get_or s k 0 ∷ l) (window-part s (suc k) n rest) ∙ sym (ap (λ (l : List ℕ). take (suc n) l) (drop-cons s k 0 below))

-- the window over all of the bytes
pub window-whole : (s : List ℕ) (n : ℕ) → length s ≡ n → window s 0 n ≡ s
window-whole s n long = window-part s 0 n (omega arith) ∙ take_all n s (omega arith)

-- a window that goes one byte further
pub window-snoc : (s : List ℕ) (k n : ℕ) → window s k (suc n) ≡ window s k n ++ (get_or s (k + n) 0 ∷ [])
unfolding window
window-snoc s k zero = ap (λ (j : ℕ). get_or s j 0 ∷ []) (sym (add-zero k))
window-snoc s k (suc n) =
    ap (λ (l : List ℕ). get_or s k 0 ∷ l)
    (window-snoc s (suc k) n ∙ ap (λ (j : ℕ). window s (suc k) n ++ (get_or s j 0 ∷ [])) (suc-add k n ∙ sym (add-suc k n)))

-- a window of what is left
pub window-drop : (s : List ℕ) (j k n : ℕ) → window (drop j s) k n ≡ window s (j + k) n
unfolding window
window-drop s j k zero = refl
window-drop s j k (suc n) =
    ap₂ ◌∷◌ (get_or-drop j s k 0) (window-drop s j (suc k) n ∙ ap (λ (i : ℕ). window s i n) (add-suc j k))

-- two windows side by side
pub window-append : (s : List ℕ) (k m n : ℕ) → window s k (m + n) ≡ window s k m ++ window s (k + m) n
unfolding window
window-append s k zero n = ap₂ (λ (i j : ℕ). window s i j) (sym (add-zero k)) (zero-add n)
window-append s k (suc m) n =
    ap (window s k) (suc-add m n)
    ∙ ap (λ (l : List ℕ). get_or s k 0 ∷ l)
    (window-append s (suc k) m n ∙ ap (λ (i : ℕ). window s (suc k) m ++ window s i n) (suc-add k m ∙ sym (add-suc k m)))

-- past the end there are zeros
pub window-past : (s : List ℕ) (k n : ℕ) → length s ≤ k → window s k n ≡ replicate {A = ℕ} n 0
unfolding window
window-past s k zero h = refl
window-past s k (suc n) h = ap₂ ◌∷◌ (get_or-eq_default s 0 h) (window-past s (suc k) n (omega arith))

-- ---- bytes

pub bytes-none : Bytes []
unfolding Bytes
bytes-none k = lit< tt

pub bytes-cons : (b : ℕ) (l : List ℕ) → b < 256 → Bytes l → Bytes (b ∷ l)
unfolding Bytes
bytes-cons b l byte bytes zero = byte
bytes-cons b l byte bytes (suc k) = bytes k

byte-below : (s : List ℕ) (k : ℕ) → Bytes s → get_or s k 0 < 256
unfolding Bytes
byte-below s k all = all k

-- a window of bytes has bytes
pub bytes-window : (s : List ℕ) (k n : ℕ) → Bytes s → Bytes (window s k n)
unfolding window
bytes-window s k zero all = bytes-none
bytes-window s k (suc n) all = bytes-cons (get_or s k 0) (window s (suc k) n) (byte-below s k all) (bytes-window s (suc k) n all)

-- ---- storing

pub overwrite-fits : (s : List ℕ) (k : ℕ) (v : List ℕ) → k + length v ≤ length s → overwrite s k v ≡ splice s k v
unfolding overwrite
overwrite-fits s k v h = ap (λ (b : Bool). cond b (splice s k v) s) (le-leb _ _ h)

pub overwrite-out : (s : List ℕ) (k : ℕ) (v : List ℕ) → length s < k + length v → overwrite s k v ≡ s
unfolding overwrite
overwrite-out s k v h = ap (λ (b : Bool). cond b (splice s k v) s) (lt-leb _ _ h)

-- what does not fit is not stored, as a test tells it
pub not-stored : (s : List ℕ) (k : ℕ) (v : List ℕ) (n : ℕ) {b : Bool} → b ≡ leb (k + n) (length s) → b ≡ false → n ≡ length v → s ≡ overwrite s k v
not-stored s k v n is short long = sym (overwrite-out s k v (omega (arith, leb-false _ _ (sym is ∙ short))))

-- one store a byte, from the first byte on
pub overwrite-sets : (s : List ℕ) (k : ℕ) (v : List ℕ) → k + length v ≤ length s → sets s k v ≡ overwrite s k v
overwrite-sets s k v h = sets-eq v s k h ∙ append_assoc (take k s) v (drop (k + length v) s) ∙ sym (overwrite-fits s k v h)

-- one copy of all of v
pub overwrite-paste : (s : List ℕ) (k : ℕ) (v : List ℕ) → k + length v ≤ length s → paste s k v (length v) ≡ overwrite s k v
overwrite-paste s k v h =
    ap (λ (l : List ℕ). take k s ++ l ++ drop (k + length v) s) (take-length v)
    ∙ append_assoc (take k s) v (drop (k + length v) s)
    ∙ sym (overwrite-fits s k v h)

pub length-overwrite : (s : List ℕ) (k : ℕ) (v : List ℕ) → length (overwrite s k v) ≡ length s
unfolding overwrite
length-overwrite s k v = go (leb (k + length v) (length s)) refl
  where
    go : (b : Bool) → leb (k + length v) (length s) ≡ b → length (cond b (splice s k v) s) ≡ length s
    go false e = refl
    go true e =
        let fits : k + length v ≤ length s = leb-true _ _ e in
        simp (length-append, length-take, length-drop) (omega arith)

-- what is stored right behind what was stored is stored with it
pub overwrite-next : (s : List ℕ) (k : ℕ) (a b : List ℕ) (j : ℕ) → j ≡ k + length a → k + (length a + length b) ≤ length s
    → overwrite (overwrite s k a) j b ≡ overwrite s k (a ++ b)
overwrite-next s k a b j e h =
    let first : k + length a ≤ length s = omega arith in
    let long : length (splice s k a) ≡ length s = ap length (sym (overwrite-fits s k a first)) ∙ length-overwrite s k a in
    let place : length (take k s ++ a) ≡ j = length-append (take k s) a ∙ ap (λ (n : ℕ). n + length a) (length-take-le k s (omega arith)) ∙ sym e in
    let split : splice s k a ≡ (take k s ++ a) ++ drop (k + length a) s = sym (append_assoc (take k s) a (drop (k + length a) s)) in
    ap (λ (l : List ℕ). overwrite l j b) (overwrite-fits s k a first)
    ∙ overwrite-fits (splice s k a) j b (omega arith)
    ∙ ap (λ (l : List ℕ). take j l ++ (b ++ drop (j + length b) l)) split
    ∙ ap₂ (λ (front back : List ℕ). front ++ (b ++ back))
    (take_at (take k s ++ a) (drop (k + length a) s) j place)
    (sym (drop-drop (length b) j ((take k s ++ a) ++ drop (k + length a) s))
    ∙ ap (λ (l : List ℕ). drop (length b) l) (drop_at (take k s ++ a) (drop (k + length a) s) j place)
    ∙ drop-drop (length b) (k + length a) s)
    ∙ append_assoc (take k s) a (b ++ drop (k + length a + length b) s)
    ∙ ap (λ (l : List ℕ). take k s ++ l) (sym (append_assoc a b (drop (k + length a + length b) s)))
    ∙ ap (λ (n : ℕ). take k s ++ ((a ++ b) ++ drop n s)) (add_assoc k (length a) (length b) ∙ ap (λ (n : ℕ). k + n) (sym (length-append a b)))
    ∙ sym (overwrite-fits s k (a ++ b) (subst (λ (n : ℕ). k + n ≤ length s) (sym (length-append a b)) h))

-- the same of lists that two stores left
pub stored_next : (s : List ℕ) (k : ℕ) (a b : List ℕ) {l m : List ℕ} {j : ℕ} → l ≡ overwrite s k a → m ≡ overwrite l j b → j ≡ k + length a
    → k + (length a + length b) ≤ length s → m ≡ overwrite s k (a ++ b)
stored_next s k a b {j = j} p q e h = q ∙ ap (λ (x : List ℕ). overwrite x j b) p ∙ overwrite-next s k a b j e h

-- ---- comparing

pub same_refl : (s : List ℕ) → same s s ≡ true
unfolding same
same_refl [] = refl
same_refl (a ∷ s) = ap₂ ◌&&◌ (eq-eqb a a refl) (same_refl s)

-- lists that compare as the same are the same
pub same-equal : (s t : List ℕ) → same s t ≡ true → s ≡ t
unfolding same
same-equal [] [] e = refl
same-equal [] (b ∷ t) e = absurd (false≢true e)
same-equal (a ∷ s) [] e = absurd (false≢true e)
same-equal (a ∷ s) (b ∷ t) e = go (eqb a b) refl e (same-equal s t)
  where
    go : (c : Bool) → eqb a b ≡ c → (c && same s t) ≡ true → (same s t ≡ true → s ≡ t) → a ∷ s ≡ b ∷ t
    go true p q rest = ap₂ ◌∷◌ (eqb-true a b p) (rest q)
    go false p q rest = absurd (false≢true q)

pub same-exactly : (s t : List ℕ) → (same s t ≡ true) ↔ (s ≡ t)
same-exactly s t = (same-equal s t, λ e. ap (same s) (sym e) ∙ same_refl s)

-- lists whose first parts are as long compare part by part
pub same-append : (a b c d : List ℕ) → length a ≡ length c → same (a ++ b) (c ++ d) ≡ (same a c && same b d)
unfolding same
same-append [] b [] d n = refl
same-append [] b (y ∷ c) d n = absurd (omega (arith, n))
same-append (x ∷ a) b [] d n = absurd (omega (arith, n))
same-append (x ∷ a) b (y ∷ c) d n =
    ap (λ (r : Bool). eqb x y && r) (same-append a b c d (omega (arith, n))) ∙ sym (and_assoc (eqb x y) (same a c) (same b d))
