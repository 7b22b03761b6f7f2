-- How the blocks of an opened image are filled, so that a word's place in them follows from its number.
use Rattle.std.specs.Prelude.{Bool, true, ◌&&◌, List, [], ◌∷◌, length, ◌==◌, nat_le}
use Rattle.image.specs.declared.block.Block.{Block}

-- each block carries 126 words, but for the last, which carries 1 to 126
abbrev pub packed : List Block → Bool
packed [] = true
packed (block ∷ []) = nat_le 1 block.count && nat_le block.count 126
packed (block ∷ next ∷ more) = block.count == 126 && packed (next ∷ more)

-- what an image keeps true of its blocks
abbrev pub well_filled : List Block → Bool
well_filled blocks = nat_le (length blocks) 64 && packed blocks
