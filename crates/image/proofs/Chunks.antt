-- The bytes of an image cut into blocks, and those of a block into words.
use Rattle.std.proofs.Common.{◌≡◌, ℕ, zero, suc, ◌+◌, ◌*◌, ◌<◌, ◌≤◌, List, map, length, ap, Option, get_or, drop, ◌∙◌, w32, refl, subst, ⊎_elim, zero-add, arith}
use Rattle.std.proofs.lemmas.List.{get_or-take, get_or-drop}
use Rattle.std.proofs.lemmas.List.FromFn.{fill_by_all, get_or-map-range_with_len, length-map-range_with_len}
use Rattle.std.proofs.lemmas.Bool.{cases_lt}
use Rattle.std.specs.Array.{IsFromFnResultFrom}
use Rattle.std.specs.Fn.{Mut, Called}
use Rattle.std.specs.Int.{from_le_bytes}
use Rattle.std.specs.List.{range_with_len}
use Rattle.std.specs.Simd.{first_chunks}
use Rattle.image.specs.declared.refusal.Refusal.{Refusal}
use Rattle.image.specs.FirstRefusal.{block_refusal}
use Rattle.image.specs.Layout.{block_count, block_words, word_at}

-- the byte number j of the chunk number i is the byte number m of all
pub chunk_byte : (n k : ℕ) (bytes : List ℕ) (i j m : ℕ) (d : List ℕ) → i < k → j < n → n * i + j ≡ m → get_or (get_or (first_chunks n k bytes) i d) j 0 ≡ get_or bytes m 0
chunk_byte n zero bytes i j m d inside within at = absurd (omega arith)
chunk_byte n (suc k) bytes zero j m d inside within at =
    let start : j ≡ m = omega arith in
    get_or-take n bytes j 0 within ∙ ap (λ i. get_or bytes i 0) start
chunk_byte n (suc k) bytes (suc i) j m d inside within at =
    let front : n + (n * i + j) ≡ m = grind arith in
    rw front at (chunk_byte n k (drop n bytes) i j (n * i + j) d (omega arith) within refl ∙ get_or-drop n bytes (n * i + j) 0)

-- four bytes make the word that they are in others
four_bytes : (four bytes : List ℕ) (b : ℕ) → get_or four 0 0 ≡ get_or bytes (4 * b) 0 → get_or four 1 0 ≡ get_or bytes (4 * b + 1) 0 → get_or four 2 0 ≡ get_or bytes (4 * b + 2) 0 → get_or four 3 0 ≡ get_or bytes (4 * b + 3) 0 → from_le_bytes w32 four ≡ word_at bytes b
four_bytes four bytes b e0 e1 e2 e3 = omega (arith, e0, e1, e2, e3)

-- the word that a chunk of four bytes makes
pub chunk_word : (block : List ℕ) (k : ℕ) (d : List ℕ) → k < 128 → from_le_bytes w32 (get_or (first_chunks 4 128 block) k d) ≡ word_at block (128 * 0 + k)
chunk_word block k d inside =
    let e0 = chunk_byte 4 128 block k 0 (4 * (128 * 0 + k)) d inside (omega arith) (omega arith) in
    let e1 = chunk_byte 4 128 block k 1 (4 * (128 * 0 + k) + 1) d inside (omega arith) (omega arith) in
    let e2 = chunk_byte 4 128 block k 2 (4 * (128 * 0 + k) + 2) d inside (omega arith) (omega arith) in
    let e3 = chunk_byte 4 128 block k 3 (4 * (128 * 0 + k) + 3) d inside (omega arith) (omega arith) in
    four_bytes (get_or (first_chunks 4 128 block) k d) block (128 * 0 + k) e0 e1 e2 e3

-- two lists made from functions of the index
pub same_counted : (f g : ℕ → ℕ) (n : ℕ) → ((k : ℕ) → k < n → f k ≡ g k) → map f (range_with_len 0 n) ≡ map g (range_with_len 0 n)
same_counted f g n same =
    fill_by_all g (map f (range_with_len 0 n)) n 0 (length-map-range_with_len f 0 n) (λ k below. get_or-map-range_with_len f 0 n k k 0 below (zero-add k) ∙ same k below)

-- a block's words are the same where it stands in the bytes
pub chunk_block : (bytes : List ℕ) (n i : ℕ) (d : List ℕ) → i < n → block_words (get_or (first_chunks 512 n bytes) i d) 0 ≡ block_words bytes i
unfolding block_words
chunk_block bytes n i d inside = same_counted (word_at (get_or (first_chunks 512 n bytes) i d)) (λ k. word_at bytes (128 * i + k)) 128 (λ k below.
    let e0 = chunk_byte 512 n bytes i (4 * k) (4 * (128 * i + k)) d inside (omega arith) (omega arith) in
    let e1 = chunk_byte 512 n bytes i (4 * k + 1) (4 * (128 * i + k) + 1) d inside (omega arith) (omega arith) in
    let e2 = chunk_byte 512 n bytes i (4 * k + 2) (4 * (128 * i + k) + 2) d inside (omega arith) (omega arith) in
    let e3 = chunk_byte 512 n bytes i (4 * k + 3) (4 * (128 * i + k) + 3) d inside (omega arith) (omega arith) in
    cc)

-- what was read of the block at i, out of the bytes cut into blocks
pub chunk_words : (bytes words : List ℕ) (blocks : List (List ℕ)) (i : ℕ) (d : List ℕ) → blocks ≡ first_chunks 512 (block_count bytes) bytes → i < block_count bytes → words ≡ block_words (get_or blocks i d) 0 → words ≡ block_words bytes i
chunk_words bytes words blocks i d cut inside read =
    read ∙ ap (λ (bs : List (List ℕ)). block_words (get_or bs i d) 0) cut ∙ chunk_block bytes (block_count bytes) i d inside

-- and what the tests answer of it
pub chunk_answer : (bytes words : List ℕ) (blocks : List (List ℕ)) (i : ℕ) (d : List ℕ) {answer : Option Refusal} → blocks ≡ first_chunks 512 (block_count bytes) bytes → length blocks ≡ block_count bytes → i < length blocks → words ≡ block_words (get_or blocks i d) 0 → answer ≡ block_refusal (length blocks) i words → answer ≡ block_refusal (block_count bytes) i (block_words bytes i)
chunk_answer bytes words blocks i d cut many inside read answers =
    answers ∙ ap (λ n. block_refusal n i words) many ∙ ap (block_refusal (block_count bytes) i) (chunk_words bytes words blocks i d cut (omega arith) read)

-- what `from_fn` fills an array with, where each call leaves P true and gives h of the index
module _ {F : Type 0} (g : Mut F (ℕ × Unit {0}) ℕ) (P : F → Type 0) (h : ℕ → ℕ) (calls : (p q : F) (i y : ℕ) → P p → Called g p (i, tt) y q → (y ≡ h i) × P q) where
  pub from_calls : (n : ℕ) (f : F) (ys : List ℕ) (i k : ℕ) → P f → IsFromFnResultFrom g f ys i n → i ≤ k → k < i + n → get_or ys k 0 ≡ h k
  from_calls zero f ys i k start each from below = absurd (omega arith)
  from_calls (suc n) f ys i k start (q, y, element, call, rest) from below =
      let this = calls f q i y start call in
      ⊎_elim
      (λ (more : i < k). from_calls n q ys (i + 1) k this.1 rest (omega arith) (omega arith))
      (λ (here : k ≤ i). let same : i ≡ k = omega arith in let Q : ℕ → Type 0 = λ j. get_or ys j 0 ≡ h j in subst Q same (element.1 0 ∙ this.0))
      (cases_lt i k)
