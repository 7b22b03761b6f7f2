-- That an image maps only multiples of four below 2^32, as the reading trait asks.
use Rattle.std.specs.Prelude.{◌≡◌, ℕ, ◌*◌, ◌≤◌, true, List, [], ◌∷◌, length, is_some, vec_items, ◌==◌, nat_le}
use Rattle.std.proofs.Common.{arith}
use Rattle.std.specs.List.{flat_map}
use Rattle.std.proofs.lemmas.List.{length-append, length-take}
use Rattle.std.proofs.lemmas.Bool.{and_parts}
use Rattle.std.proofs.lemmas.Bool.Decides.{nat_tests}
use Rattle.memory.specs.Meaning.{WordAddress}
use Rattle.image.specs.declared.block.Block.{Block}
use Rattle.image.specs.declared.image.Image.{Image}
use Rattle.image.specs.Images.{image_words, words_in}
use Rattle.image.specs.Packing.{packed}
use Rattle.image.specs.Serving.{served}

-- packed blocks carry at most 126 words each
pub few : (blocks : List Block) → packed blocks ≡ true → length (flat_map words_in blocks) ≤ 126 * length blocks
few [] tight = omega arith
few (b ∷ []) tight = grind (arith, nat_tests, length-append (words_in b) [], length-take b.count b.words)
few (b ∷ next ∷ more) tight =
    let rest = few (next ∷ more) (and_parts (b.count == 126) _ tight).1 in
    grind (arith, nat_tests, length-append (words_in b) (flat_map words_in (next ∷ more)), length-take b.count b.words)

pub served_is_a_word : (image : Image) (a : ℕ) → is_some (served (image_words image) a) ≡ true → WordAddress a
served_is_a_word image a h =
    let filled = and_parts (nat_le (length (vec_items image.blocks)) 64) _ image.full in
    let most = few (vec_items image.blocks) filled.1 in
    record { multiple = grind (arith, nat_tests); below = grind (arith, nat_tests) }
