-- Which refusal bytes get: the first of the tests, in the order in which they are tried, that fails.
use Rattle.std.specs.Prelude.{ℕ, zero, suc, ◌+◌, ◌%◌, ◌^◌, Bool, cond, not, ◌&&◌, List, length, Some, None, sum, Option, ◌==◌, nat_le, nat_lt}
use Rattle.std.specs.List.{list_all}
use Rattle.std.specs.Option.{option_or}
use Rattle.image.specs.declared.refusal.Refusal.{Refusal}
use Rattle.image.specs.declared.refusal.Refusal.TheVariants.{Length, Check, Place, Count, Filler}
use Rattle.image.specs.Layout.{block_count, block_words, place_of, count_of, filler}

-- the number of bytes is that of 1 to 64 whole blocks
abbrev pub size_fits : ℕ → Bool
size_fits size = not (size == 0) && (size % 512 == 0 && nat_le size 32768)

-- the words of a block, its check word among them, add up as they should
abbrev pub sums_up : List ℕ → Bool
sums_up words = sum words % 2 ^ 32 == 0xFFFF_FFFF

-- a block says that it is at place i
abbrev pub place_fits : ℕ → List ℕ → Bool
place_fits i words = place_of words == i

-- the count is right for the block at place i out of n
abbrev pub count_fits : ℕ → ℕ → ℕ → Bool
count_fits n i count = cond (nat_lt (i + 1) n) (count == 126) (nat_le 1 count && nat_le count 126)

abbrev pub all_zero : List ℕ → Bool
all_zero words = list_all (λ word. word == 0) words

-- the refusal where the test fails, else what the tests after it say
abbrev pub require : Bool → Refusal → Option Refusal → Option Refusal
require test refusal rest = cond test rest (Some refusal)

-- what is wrong first with the words of the block at place i out of n
abbrev pub block_refusal : ℕ → ℕ → List ℕ → Option Refusal
block_refusal n i words =
    require (sums_up words) (Check i)
    (require (place_fits i words) (Place i)
    (require (count_fits n i (count_of words)) (Count i)
    (require (all_zero (filler words)) (Filler i) None)))

-- the first refusal among the first k blocks
abbrev pub first_refusal : List ℕ → ℕ → Option Refusal
first_refusal bytes zero = None
first_refusal bytes (suc k) = option_or (first_refusal bytes k) (block_refusal (block_count bytes) k (block_words bytes k))

-- what is wrong first with the bytes, if anything is
abbrev pub refusal_of : List ℕ → Option Refusal
refusal_of bytes = require (size_fits (length bytes)) Length (first_refusal bytes (block_count bytes))
