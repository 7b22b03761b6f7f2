-- The words of an image's bytes, and the parts of a block.
use Rattle.std.specs.Prelude.{ℕ, ◌+◌, ◌*◌, ◌/◌, ◌%◌, cond, List, map, length, Some, None, Option, nat_lt, slice_index}
use Rattle.std.specs.List.{range_with_len, between}

-- the 32-bit word number `index` of the bytes: four bytes, the lowest first
abbrev pub word_at : List ℕ → ℕ → ℕ
word_at bytes index =
    slice_index bytes (4 * index)
    + slice_index bytes (4 * index + 1) * 256
    + slice_index bytes (4 * index + 2) * 65536
    + slice_index bytes (4 * index + 3) * 16777216

-- how many blocks of 512 bytes there are
abbrev pub block_count : List ℕ → ℕ
block_count bytes = length bytes / 512

-- the 128 words of the block at place i
unfoldable pub block_words : List ℕ → ℕ → List ℕ
block_words bytes i = map (λ k. word_at bytes (128 * i + k)) (range_with_len 0 128)

-- the two halves of a block's first word: which block it says it is, and how many words it says it carries
abbrev pub place_of : List ℕ → ℕ
place_of words = slice_index words 0 % 65536

abbrev pub count_of : List ℕ → ℕ
count_of words = slice_index words 0 / 65536

-- the words that a block carries, and those that only fill it up: between its first word and its check word, number 127
abbrev pub carried : List ℕ → List ℕ
carried words = between 1 (count_of words + 1) words

abbrev pub filler : List ℕ → List ℕ
filler words = between (count_of words + 1) 127 words

-- the word of that number in a list of words, if there is one
abbrev pub word_of : List ℕ → ℕ → Option ℕ
word_of words index = cond (nat_lt index (length words)) (Some (slice_index words index)) None
