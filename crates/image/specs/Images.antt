-- The words of an image, and those that bytes carry.
use Rattle.std.specs.Prelude.{ℕ, List, map, take, Some, None, Ok, Err, vec_items, Option, Result}
use Rattle.std.specs.List.{range_with_len, flat_map}
use Rattle.image.specs.declared.block.Block.{Block}
use Rattle.image.specs.declared.image.Image.{Image}
use Rattle.image.specs.declared.refusal.OpenError.{OpenError}
use Rattle.image.specs.declared.refusal.OpenError.TheVariants.{Refused, OutOfMemory}
use Rattle.image.specs.declared.refusal.Refusal.{Refusal}
use Rattle.image.specs.Layout.{block_count, block_words, carried}

-- the words of a block that belong to the image
abbrev pub words_in : Block → List ℕ
words_in block = take block.count block.words

-- all words of an image, in order
abbrev pub image_words : Image → List ℕ
image_words image = flat_map words_in (vec_items image.blocks)

-- the words that bytes carry: those of each block in turn
abbrev pub bytes_words : List ℕ → List ℕ
bytes_words bytes = flat_map carried (map (block_words bytes) (range_with_len 0 (block_count bytes)))

-- the refusal that an answer of `open` brings, if any
abbrev pub refused_by : {X : Type 0} → Result X OpenError → Option Refusal
refused_by (Ok x) = None
refused_by (Err (Refused refusal)) = Some refusal
refused_by (Err OutOfMemory) = None
