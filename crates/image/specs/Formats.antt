-- The format of an image, and what a refusal says of bytes that are not in it.
use Rattle.std.specs.Prelude.{◌≡◌, ℕ, ◌+◌, ◌*◌, ◌%◌, ◌^◌, ◌<◌, ◌≤◌, List, length, sum}
use Rattle.std.specs.List.{AllByRecursion}
use Rattle.image.specs.declared.refusal.Refusal.{Refusal}
use Rattle.image.specs.declared.refusal.Refusal.TheVariants.{Length, Check, Place, Count, Filler}
use Rattle.image.specs.Layout.{block_count, block_words, place_of, count_of, filler}

-- the bytes are whole blocks, 1 to 64 of them
pub record WholeBlocks (bytes : List ℕ) : Type 0 where
  pub whole : length bytes ≡ 512 * block_count bytes
  pub some : 1 ≤ block_count bytes
  pub most : block_count bytes ≤ 64

-- with the check word a block's words add up to all ones
abbrev pub SumRight : List ℕ → Type 0
SumRight words = sum words % 2 ^ 32 ≡ 0xFFFF_FFFF

-- a block says of itself the place that it is at
abbrev pub PlaceRight : ℕ → List ℕ → Type 0
PlaceRight i words = place_of words ≡ i

-- of the block at place i out of n: all but the last are full, and the last is not empty
abbrev pub CountRight : ℕ → ℕ → List ℕ → Type 0
CountRight n i words =
    (i + 1 < n → count_of words ≡ 126) × (i + 1 ≡ n → (1 ≤ count_of words) × (count_of words ≤ 126))

-- a block is filled up with zeros
abbrev pub FillerRight : List ℕ → Type 0
FillerRight words = AllByRecursion (λ word. word ≡ 0) (filler words)

-- the block at place i is as it should be
pub record Sound (bytes : List ℕ) (i : ℕ) : Type 0 where
  pub check : SumRight (block_words bytes i)
  pub place : PlaceRight i (block_words bytes i)
  pub count : CountRight (block_count bytes) i (block_words bytes i)
  pub filler : FillerRight (block_words bytes i)

-- bytes that can be opened
pub record Format (bytes : List ℕ) : Type 0 where
  pub size : WholeBlocks bytes
  pub sound : (i : ℕ) → i < block_count bytes → Sound bytes i

-- nothing is wrong before the block at place i
pub record Reached (bytes : List ℕ) (i : ℕ) : Type 0 where
  pub size : WholeBlocks bytes
  pub inside : i < block_count bytes
  pub before : (j : ℕ) → j < i → Sound bytes j

-- what each refusal says: what it names is wrong, and nothing that is tried earlier
abbrev pub AtFault : List ℕ → Refusal → Type 0
AtFault bytes Length = WholeBlocks bytes → ⊥
AtFault bytes (Check i) = Reached bytes i × (SumRight (block_words bytes i) → ⊥)
AtFault bytes (Place i) = Reached bytes i × SumRight (block_words bytes i) × (PlaceRight i (block_words bytes i) → ⊥)
AtFault bytes (Count i) =
    Reached bytes i
    × SumRight (block_words bytes i)
    × PlaceRight i (block_words bytes i)
    × (CountRight (block_count bytes) i (block_words bytes i) → ⊥)
AtFault bytes (Filler i) =
    Reached bytes i
    × SumRight (block_words bytes i)
    × PlaceRight i (block_words bytes i)
    × CountRight (block_count bytes) i (block_words bytes i)
    × (FillerRight (block_words bytes i) → ⊥)
