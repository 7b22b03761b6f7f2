use Rattle.std.proofs.Common.{◌≡◌, ◌++◌, take, vec_items}
use Rattle.std.specs.List.{flat_map}
use Rattle.packing.specs.Blocks.{little_endian}
use Rattle.packing.proofs.block.push_words.Given as goal

abbrev pub invariant-loop-word : goal.invariant-loop-word
invariant-loop-word l =
    vec_items l.bytes ≡ vec_items l.initial.bytes ++ flat_map little_endian (take l.word-index l.words)
