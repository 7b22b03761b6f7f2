-- A word in hexadecimal digits. A text is its bytes.
use Rattle.std.specs.Prelude.{ℕ, ◌+◌, ◌/◌, ◌%◌, ◌^◌, cond, List, [], ◌∷◌, map, nat_lt}

-- 0 to 9, then a to f
abbrev pub digit_code : ℕ → ℕ
digit_code d = cond (nat_lt d 10) (48 + d) (87 + d)

-- the digit of a word at a place, counted from the right
abbrev pub digit_at : ℕ → ℕ → ℕ
digit_at word place = digit_code (word / 16 ^ place % 16)

-- eight digits, the highest first
abbrev pub hex_text : ℕ → List ℕ
hex_text word = map (digit_at word) (7 ∷ 6 ∷ 5 ∷ 4 ∷ 3 ∷ 2 ∷ 1 ∷ 0 ∷ [])
