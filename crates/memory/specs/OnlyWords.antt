-- That each make of memory maps only multiples of four below 2^32: the law of the reading trait.
use Rattle.std.specs.Prelude.{◌≡◌, ℕ, true, List, is_some}
use Rattle.std.proofs.Common.{arith}
use Rattle.std.proofs.lemmas.Bool.Decides.{nat_tests}
use Rattle.memory.specs.Meaning.{Words, WordAddress}
use Rattle.memory.specs.Bank.{bank_words}
use Rattle.memory.specs.Split.{either}

pub bank_is_a_word : (base : ℕ) (words : List ℕ) (a : ℕ) → is_some (bank_words base words a) ≡ true → WordAddress a
bank_is_a_word base words a h = record { multiple = grind (arith, nat_tests); below = grind (arith, nat_tests) }

-- a split maps only multiples of four if both its parts do
pub either_is_a_word :
    (boundary : ℕ) (first second : Words) →
    ((a : ℕ) → is_some (first a) ≡ true → WordAddress a) →
    ((a : ℕ) → is_some (second a) ≡ true → WordAddress a) →
    (a : ℕ) → is_some (either boundary first second a) ≡ true → WordAddress a
either_is_a_word boundary first second f s a h = grind (arith, nat_tests)
