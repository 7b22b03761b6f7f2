-- Words written as bytes are read back.
use Rattle.std.proofs.Common.{◌≡◌, ℕ, zero, suc, ◌+◌, ◌-◌, ◌*◌, ◌/◌, ◌%◌, ◌^◌, ◌<◌, ◌≤◌, List, [], ◌∷◌, ◌++◌, length, get_or, sym, refl, ap, ◌∙◌, arith}
use native.Mathlib.Nat.{div-div-eq-div-mul}
use Rattle.std.proofs.lemmas.List.FromFn.{fill_by_all}
use Rattle.std.proofs.lemmas.List.{get_or_append_left, get_or-append_right}
use Rattle.std.specs.List.{flat_map, AllByRecursion}
use Rattle.image.specs.Layout.{word_at, block_words}
use Rattle.image.proofs.Chunks.{same_counted}
use Rattle.packing.specs.Blocks.{little_endian}

-- a word fits 32 bits
abbrev pub Small : ℕ → Type 0
Small word = word < 2 ^ 32

pub length_bytes : (words : List ℕ) → length (flat_map little_endian words) ≡ 4 * length words
length_bytes [] = refl
length_bytes (word ∷ words) = omega (arith, length_bytes words)

-- a byte behind others
byte_behind : (xs ys : List ℕ) (n i j : ℕ) → length xs ≡ n → i ≡ n + j → get_or (xs ++ ys) i 0 ≡ get_or ys j 0
byte_behind xs ys n i j long at =
    let back : i - n ≡ j = omega arith in
    get_or-append_right xs ys n i 0 long (omega arith) ∙ ap (λ k. get_or ys k 0) back

-- a word behind whole words
pub word_behind : (xs ys : List ℕ) (b j : ℕ) → length xs ≡ 4 * b → word_at (xs ++ ys) (b + j) ≡ word_at ys j
word_behind xs ys b j long =
    let e0 = byte_behind xs ys (4 * b) (4 * (b + j)) (4 * j) long (omega arith) in
    let e1 = byte_behind xs ys (4 * b) (4 * (b + j) + 1) (4 * j + 1) long (omega arith) in
    let e2 = byte_behind xs ys (4 * b) (4 * (b + j) + 2) (4 * j + 2) long (omega arith) in
    let e3 = byte_behind xs ys (4 * b) (4 * (b + j) + 3) (4 * j + 3) long (omega arith) in
    cc

-- a word before others
word_before : (xs ys : List ℕ) (i : ℕ) → 4 * i + 4 ≤ length xs → word_at (xs ++ ys) i ≡ word_at xs i
word_before xs ys i inside =
    let e0 = get_or_append_left xs ys 0 (4 * i) (omega arith) in
    let e1 = get_or_append_left xs ys 0 (4 * i + 1) (omega arith) in
    let e2 = get_or_append_left xs ys 0 (4 * i + 2) (omega arith) in
    let e3 = get_or_append_left xs ys 0 (4 * i + 3) (omega arith) in
    cc

-- four bytes make the word again
word_again : (w : ℕ) → Small w → w % 256 + w / 256 % 256 * 256 + w / 65536 % 256 * 65536 + w / 16777216 % 256 * 16777216 ≡ w
word_again w small =
    let a : w / 256 ≡ w / 256 % 256 + w / 65536 * 256 = omega (arith, div-div-eq-div-mul w 256 256) in
    let b : w / 65536 ≡ w / 65536 % 256 + w / 16777216 * 256 = omega (arith, div-div-eq-div-mul w 65536 256) in
    let c : w / 16777216 % 256 ≡ w / 16777216 = omega arith in
    omega arith

-- each word is read back
word_back : (words : List ℕ) (i : ℕ) → AllByRecursion Small words → i < length words → word_at (flat_map little_endian words) i ≡ get_or words i 0
word_back [] i small inside = absurd (omega arith)
word_back (word ∷ words) zero small inside = word_again word small.0
word_back (word ∷ words) (suc i) small inside =
    let front : suc i ≡ 1 + i = omega arith in
    rw front (word_behind (little_endian word) (flat_map little_endian words) 1 i refl ∙ word_back words i small.1 (omega arith))

-- a block stays what it is when bytes follow it
pub block_before : (xs ys : List ℕ) (i : ℕ) → 512 * i + 512 ≤ length xs → block_words (xs ++ ys) i ≡ block_words xs i
unfolding block_words
block_before xs ys i inside = same_counted _ _ 128 (λ k below. word_before xs ys (128 * i + k) (omega arith))

-- the block that was put behind others
pub block_behind : (xs words : List ℕ) (k : ℕ) → length xs ≡ 512 * k → length words ≡ 128 → AllByRecursion Small words → block_words (xs ++ flat_map little_endian words) k ≡ words
unfolding block_words
block_behind xs words k long size small =
    sym
    (fill_by_all _ words 128 0 size (λ j below. sym (word_behind xs (flat_map little_endian words) (128 * k) j (omega arith) ∙ word_back words j small (omega arith))))
