-- What reading a text comes to: words that are written out are read back, and examples.
use Rattle.std.specs.Prelude.{◌≡◌, ℕ, ◌+◌, ◌/◌, ◌%◌, ◌^◌, ◌<◌, cond, List, [], ◌∷◌, ◌++◌, map, Ok, Err, codes, nat_lt}
use Rattle.std.specs.List.{flat_map, AllByRecursion}
use Rattle.packing.specs.declared.error.Reason.TheVariants.{NotHex, TooLong, TwoWords}
use Rattle.packing.specs.Texts.{words_of}

-- 0 to 9, then a to f
abbrev pub digit_code : ℕ → ℕ
digit_code digit = cond (nat_lt digit 10) (48 + digit) (87 + digit)

-- the eight digits of a word, the highest first
unfoldable pub digits_of : ℕ → List ℕ
digits_of word = map (λ place. word / 16 ^ place % 16) (7 ∷ 6 ∷ 5 ∷ 4 ∷ 3 ∷ 2 ∷ 1 ∷ 0 ∷ [])

abbrev pub line_of : ℕ → List ℕ
line_of word = map digit_code (digits_of word) ++ 10 ∷ []

-- words that are written out, one to a line, are read back
abbrev pub ReadBack : Type 0
ReadBack = (words : List ℕ) → AllByRecursion (λ word. word < 2 ^ 32) words → words_of (flat_map line_of words) ≡ Ok words

pub record Examples : Type 0 where
  pub mixed : words_of (codes "# two words\n\n  e28c1015\t# the first\r\nFF#ff\n") ≡ Ok (0xE28C1015 ∷ 255 ∷ [])
  pub none : words_of (codes " \n# nothing") ≡ Ok []
  pub not_hex : words_of (codes "1\n0x2\n") ≡ Err (record { line = 2; reason = NotHex })
  pub too_long : words_of (codes "1\n\n000000002\n") ≡ Err (record { line = 3; reason = TooLong })
  pub two_words : words_of (codes "1 2\n3 4\n") ≡ Err (record { line = 1; reason = TwoWords })
