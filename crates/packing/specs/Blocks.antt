-- The words of one block of an image, and their bytes.
use Rattle.std.specs.Prelude.{ℕ, ◌+◌, ◌-◌, ◌*◌, ◌/◌, ◌%◌, ◌^◌, List, [], ◌∷◌, ◌++◌, length, take, drop, replicate, sum}

-- the words that the block at a place carries: 126, or what is left
abbrev pub part_of : List ℕ → ℕ → List ℕ
part_of words place = take 126 (drop (126 * place) words)

-- a block's first word: its place, and how many words it carries
abbrev pub head_of : ℕ → List ℕ → ℕ
head_of place words = place + length words * 65536

abbrev pub filler_for : List ℕ → List ℕ
filler_for words = replicate (126 - length words) 0

-- what is missing to all ones from the sum of the other words, with carries out of bit 31 dropped
abbrev pub check_word : ℕ → List ℕ → ℕ
check_word place words = 0xFFFF_FFFF - (head_of place words + sum words) % 2 ^ 32

-- the 128 words of a block
unfoldable pub block_of : ℕ → List ℕ → List ℕ
block_of place words = head_of place words ∷ (words ++ (filler_for words ++ check_word place words ∷ []))

-- the four bytes of a word, the lowest first
abbrev pub little_endian : ℕ → List ℕ
little_endian word = word % 256 ∷ word / 256 % 256 ∷ word / 65536 % 256 ∷ word / 16777216 % 256 ∷ []
