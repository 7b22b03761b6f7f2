-- The two sides of the table compute to the same.
use Rattle.std.proofs.Common.{refl}
use Rattle.std.specs.Fmt.{digits}
use Rattle.image.specs.Layout.{block_words}
use Rattle.isa.specs.Decoding.{decoded}
use Rattle.examples.proofs.examples_hold.Goals as goal

pub returns : goal.returns
unfolding decoded block_words digits
returns c = refl
