-- Laws of a block's rounds: the words of its schedule, what is done after some of its rounds, and that hash values hang on the bytes of the blocks
-- alone. Assumes nothing.
use Rattle.std.specs.Prelude.{◌≡◌, ℕ, zero, suc, ◌+◌, ◌-◌, ◌*◌, ◌/◌, ◌<◌, ◌≤◌, List, [], ◌∷◌, ◌++◌, length, take, drop, bit_xor, slice_index, slice_set, refl}
use Rattle.std.specs.List.{fold}
use Rattle.std.specs.Simd.{first_chunks}
use Rattle.std.proofs.Common.{sym, ap, ap₂, ◌∙◌, add-zero, add-suc, add_assoc, zero-add, add-one, arith, below_more, length-append, length-set, length-take-le, get_or-take, get_or-drop, get_or-set_same, get_or-set_other}
use Rattle.std.proofs.Math.ListN.{get_or-append}
use Rattle.std.proofs.lemmas.List.{get_or_at}
use Rattle.forms.specs.Number.{big_endian, be32, words}
use Rattle.digest.specs.declared.block.Hash.{Hash}
use Rattle.digest.specs.Sha1.{sum, rotl, next_word, schedule, round, rounds, added, compressed, hashed}

-- ---- words in a row

pub length-words : (n : ℕ) (s : List ℕ) (k : ℕ) → length (words n s k) ≡ n
unfolding words
length-words zero s k = refl
length-words (suc n) s k = length-append (words n s k) (be32 s (k + 4 * n) ∷ []) ∙ ap (λ (m : ℕ). m + 1) (length-words n s k) ∙ omega arith

word_at : (n : ℕ) (s : List ℕ) (k t : ℕ) → t < n → slice_index (words n s k) t ≡ be32 s (k + 4 * t)
unfolding words
word_at zero s k t h = absurd (omega arith)
word_at (suc n) s k t h =
    below_more (λ (t : ℕ). slice_index (words n s k ++ (be32 s (k + 4 * n) ∷ [])) t ≡ be32 s (k + 4 * t)) n
    (λ t below. get_or-append (words n s k) (be32 s (k + 4 * n) ∷ []) 0 t (omega (arith, length-words n s k)) ∙ word_at n s k t below)
    (get_or_at (words n s k) (be32 s (k + 4 * n)) [] 0 n (length-words n s k))
    t (omega arith)

big_endian-same : (w : ℕ) (s u : List ℕ) (j k : ℕ) → ((i : ℕ) → i < w → slice_index s (j + i) ≡ slice_index u (k + i)) → big_endian w s j ≡ big_endian w u k
big_endian-same zero s u j k same = refl
big_endian-same (suc zero) s u j k same = ap (λ (i : ℕ). slice_index s i) (sym (add-zero j)) ∙ same 0 (omega arith) ∙ ap (λ (i : ℕ). slice_index u i) (add-zero k)
big_endian-same (suc (suc w)) s u j k same =
    ap₂ (λ (high low : ℕ). high * 256 + low) (big_endian-same (suc w) s u j k (λ i h. same i (omega arith))) (same (suc w) (omega arith))

-- the same bytes make the same words
words_same : (n : ℕ) (s u : List ℕ) (j k : ℕ) → ((i : ℕ) → i < 4 * n → slice_index s (j + i) ≡ slice_index u (k + i)) → words n s j ≡ words n u k
unfolding words
words_same zero s u j k same = refl
words_same (suc n) s u j k same =
    ap₂ (λ (front : List ℕ) (last : ℕ). front ++ (last ∷ [])) (words_same n s u j k (λ i h. same i (omega arith)))
    (big_endian-same 4 s u (j + 4 * n) (k + 4 * n)
    (λ i h. ap (λ (x : ℕ). slice_index s x) (add_assoc j (4 * n) i) ∙ same (4 * n + i) (omega arith) ∙ ap (λ (x : ℕ). slice_index u x) (sym (add_assoc k (4 * n) i))))

-- the words of a part
pub words-part : (n : ℕ) (s : List ℕ) (k : ℕ) → words n (take (4 * n) (drop k s)) 0 ≡ words n s k
words-part n s k =
    words_same n (take (4 * n) (drop k s)) s 0 k
    (λ i h.
    ap (λ (x : ℕ). slice_index (take (4 * n) (drop k s)) x) (zero-add i) ∙ get_or-take (4 * n) (drop k s) i 0 h ∙ get_or-drop k s i 0)

-- ---- the schedule

length-schedule : (m : List ℕ) (n : ℕ) → length m ≡ 16 → length (schedule m n) ≡ 16 + n
unfolding schedule
length-schedule m zero long = long
length-schedule m (suc n) long =
    length-append (schedule m n) (next_word (schedule m n) (16 + n) ∷ []) ∙ ap (λ (l : ℕ). l + 1) (length-schedule m n long) ∙ omega arith

-- words more do not change those before
schedule-more : (m : List ℕ) (n j k : ℕ) → length m ≡ 16 → k < 16 + n → slice_index (schedule m (n + j)) k ≡ slice_index (schedule m n) k
unfolding schedule
schedule-more m n zero k long h = ap (λ (i : ℕ). slice_index (schedule m i) k) (add-zero n)
schedule-more m n (suc j) k long h =
    ap (λ (i : ℕ). slice_index (schedule m i) k) (add-suc n j)
    ∙ get_or-append (schedule m (n + j)) (next_word (schedule m (n + j)) (16 + (n + j)) ∷ []) 0 k (omega (arith, length-schedule m (n + j) long))
    ∙ schedule-more m n j k long h

-- the block's own words
schedule-first : (m : List ℕ) (n t : ℕ) → length m ≡ 16 → t < 16 → slice_index (schedule m n) t ≡ slice_index m t
unfolding schedule
schedule-first m n t long small = ap (λ (i : ℕ). slice_index (schedule m i) t) (sym (zero-add n)) ∙ schedule-more m 0 n t long (omega arith)

-- a word hangs on those before it
next_word-same : (u w : List ℕ) (t : ℕ) → 16 ≤ t → ((k : ℕ) → k < t → slice_index u k ≡ slice_index w k) → next_word u t ≡ next_word w t
unfolding next_word
next_word-same u w t h same =
    ap (rotl 1)
    (ap₂ bit_xor
    (ap₂ bit_xor (ap₂ bit_xor (same (t - 3) (omega arith)) (same (t - 8) (omega arith))) (same (t - 14) (omega arith)))
    (same (t - 16) (omega arith)))

last_word : (m : List ℕ) (n : ℕ) → length m ≡ 16 → slice_index (schedule m (suc n)) (16 + n) ≡ next_word (schedule m n) (16 + n)
unfolding schedule
last_word m n long = get_or_at (schedule m n) (next_word (schedule m n) (16 + n)) [] 0 (16 + n) (length-schedule m n long)

-- each word behind the first 16 is the next one of those before it
schedule-next : (m : List ℕ) (n j : ℕ) {all : ℕ} → length m ≡ 16 → n + suc j ≡ all → slice_index (schedule m all) (16 + n) ≡ next_word (schedule m all) (16 + n)
schedule-next m n j {all} long e =
    ap (λ (i : ℕ). slice_index (schedule m i) (16 + n)) (sym e ∙ omega arith)
    ∙ schedule-more m (suc n) j (16 + n) long (omega arith)
    ∙ last_word m n long
    ∙ sym (next_word-same (schedule m all) (schedule m n) (16 + n) (omega arith)
    (λ k h. ap (λ (i : ℕ). slice_index (schedule m i) k) (sym e) ∙ schedule-more m n (suc j) k long h))

-- ---- after t rounds over the block of the words m, from the hash value h on

-- the first t words of the schedule stand in w, which has room for all, and v has the working variables
pub record Done (m : List ℕ) (h : Hash) (t : ℕ) (v : Hash) (w : List ℕ) : Type 0 where
  pub block : length m ≡ 16
  pub room : length w ≡ 80
  pub words : (k : ℕ) → k < t → slice_index w k ≡ slice_index (schedule m 64) k
  pub variables : v ≡ rounds (schedule m 64) h t

pub done_none : (m : List ℕ) (h : Hash) (w : List ℕ) → length m ≡ 16 → length w ≡ 80 → Done m h 0 h w
unfolding rounds
done_none m h w block room = record { block = block; room = room; words = λ k below. absurd (omega arith); variables = refl }

-- one round more
done_more : (m : List ℕ) (h : Hash) (t : ℕ) (v r : Hash) (w : List ℕ) (word : ℕ) → t < 80 → word ≡ slice_index (schedule m 64) t → r ≡ round t word v
    → Done m h t v w → Done m h (t + 1) r (slice_set w t word)
unfolding rounds
done_more m h t v r w word inside e turned done =
    record {
      block = done.block;
      room = length-set w t word ∙ done.room;
      words =
          below_more (λ (k : ℕ). slice_index (slice_set w t word) k ≡ slice_index (schedule m 64) k) t
          (λ k below. get_or-set_other w t k word 0 (λ same. omega arith) ∙ done.words k below)
          (get_or-set_same w t word 0 (omega (arith, done.room)) ∙ e);
      variables = turned ∙ ap₂ (round t) e done.variables ∙ ap (rounds (schedule m 64) h) (sym (add-one t));
    }

-- with the block's own word
pub done_first : (s : List ℕ) (h : Hash) (t : ℕ) (v r : Hash) (w : List ℕ) (word : ℕ) → t < 16 → word ≡ be32 s (4 * t) → r ≡ round t word v
    → Done (words 16 s 0) h t v w → Done (words 16 s 0) h (t + 1) r (slice_set w t word)
done_first s h t v r w word small e =
    done_more (words 16 s 0) h t v r w word (omega arith)
    (e ∙ ap (be32 s) (sym (zero-add (4 * t))) ∙ sym (word_at 16 s 0 t small) ∙ sym (schedule-first (words 16 s 0) 64 t (length-words 16 s 0) small))

-- with the next word
pub done_next : (m : List ℕ) (h : Hash) (t : ℕ) (v r : Hash) (w : List ℕ) (word : ℕ) → 16 ≤ t → t < 80 → word ≡ next_word w t → r ≡ round t word v
    → Done m h t v w → Done m h (t + 1) r (slice_set w t word)
done_next m h t v r w word large small e turned done =
    let place : t ≡ 16 + (t - 16) = omega arith in
    done_more m h t v r w word small
    (e
    ∙ next_word-same w (schedule m 64) t large done.words
    ∙ ap (next_word (schedule m 64)) place
    ∙ sym (schedule-next m (t - 16) (79 - t) done.block (omega arith))
    ∙ ap (λ (i : ℕ). slice_index (schedule m 64) i) (sym place))
    turned done

-- all rounds, and the sums with the hash value before, make the hash value behind the block
pub done_all : (m : List ℕ) (h v : Hash) (w : List ℕ) {a b c d e : ℕ} → Done m h 80 v w
    → a ≡ sum v.a h.a → b ≡ sum v.b h.b → c ≡ sum v.c h.c → d ≡ sum v.d h.d → e ≡ sum v.e h.e
    → ◌≡◌ {A = Hash} (record { a = a; b = b; c = c; d = d; e = e }) (compressed h m)
unfolding compressed added
done_all m h v w done ea eb ec ed ee = sums ea eb ec ed ee ∙ ap (added h) done.variables
  where
    sums : {a b c d e a' b' c' d' e' : ℕ} → a ≡ a' → b ≡ b' → c ≡ c' → d ≡ d' → e ≡ e'
        → ◌≡◌ {A = Hash} (record { a = a; b = b; c = c; d = d; e = e }) (record { a = a'; b = b'; c = c'; d = d'; e = e' })
    sums ea eb ec ed ee = cc

-- ---- hash values behind blocks

-- the same bytes make the same hash value
pub hashed-same : (h : Hash) (s u : List ℕ) (n : ℕ) → ((k : ℕ) → k < 64 * n → slice_index s k ≡ slice_index u k) → hashed h s n ≡ hashed h u n
unfolding hashed
hashed-same h s u zero same = refl
hashed-same h s u (suc n) same =
    ap₂ compressed (hashed-same h s u n (λ k below. same k (omega arith)))
    (words_same 16 s u (64 * n) (64 * n) (λ i below. same (64 * n + i) (omega arith)))

-- some blocks, and then others behind them
pub hashed-more : (h : Hash) (s : List ℕ) (i j : ℕ) → hashed h s (i + j) ≡ hashed (hashed h s i) (drop (64 * i) s) j
unfolding hashed
hashed-more h s i zero = ap (hashed h s) (add-zero i)
hashed-more h s i (suc j) =
    ap (hashed h s) (add-suc i j)
    ∙ ap₂ compressed (hashed-more h s i j)
    (words_same 16 s (drop (64 * i) s) (64 * (i + j)) (64 * j)
    (λ k below. ap (λ (x : ℕ). slice_index s x) (omega arith) ∙ sym (get_or-drop (64 * i) s (64 * j + k) 0)))

-- a turn for each block of some bytes, in the order of the blocks
pub hashed-blocks : (h : Hash) (s : List ℕ) (n : ℕ) → fold (λ v block. compressed v (words 16 block 0)) h (first_chunks 64 n s) ≡ hashed h s n
unfolding hashed
hashed-blocks h s zero = refl
hashed-blocks h s (suc n) =
    hashed-blocks (compressed h (words 16 (take 64 s) 0)) (drop 64 s) n
    ∙ ap (λ (m : List ℕ). hashed (compressed h m) (drop 64 s) n) (words-part 16 s 0)
    ∙ sym (hashed-more h s 1 n)
    ∙ ap (hashed h s) {y = suc n} (omega arith)

-- the same of a front of some bytes
pub hashed-front : (h : Hash) (s : List ℕ) (n : ℕ) → 64 * n ≤ length s
    → fold (λ v block. compressed v (words 16 block 0)) h (first_chunks 64 (length (take (64 * n) s) / 64) (take (64 * n) s)) ≡ hashed h s n
hashed-front h s n within =
    hashed-blocks h (take (64 * n) s) (length (take (64 * n) s) / 64)
    ∙ ap (hashed h (take (64 * n) s)) {y = n} (omega (arith, length-take-le (64 * n) s within))
    ∙ hashed-same h (take (64 * n) s) s n (λ k below. get_or-take (64 * n) s k 0 below)
