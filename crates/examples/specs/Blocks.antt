-- An image of one block, written out from the words that it carries.
use Rattle.std.specs.Prelude.{ℕ, ◌-◌, ◌*◌, ◌/◌, ◌%◌, ◌^◌, List, [], ◌∷◌, ◌++◌, length, replicate, sum}
use Rattle.std.specs.List.{flat_map}

-- all but the check word: place 0 and the count, the words, and zeros
abbrev pub unchecked : List ℕ → List ℕ
unchecked words = length words * 65536 ∷ (words ++ replicate (126 - length words) 0)

-- what is left of all ones
abbrev pub check_word : List ℕ → ℕ
check_word words = 0xFFFF_FFFF - sum (unchecked words) % 2 ^ 32

-- the four bytes of a word, the lowest first
abbrev pub bytes_of : ℕ → List ℕ
bytes_of word = word % 256 ∷ word / 256 % 256 ∷ word / 65536 % 256 ∷ word / 16777216 % 256 ∷ []

abbrev pub block_bytes : List ℕ → ℕ → List ℕ
block_bytes words check = flat_map bytes_of (unchecked words ++ (check ∷ []))
