use Rattle.std.proofs.Common.{vec_items}
use Rattle.image.proofs.Growing.{Grown}
use Rattle.image.proofs.image.opening.read_blocks.Given as goal

abbrev pub invariant-loop-block : goal.invariant-loop-block
invariant-loop-block l = Grown l.bytes l.block-index (vec_items l.read)
