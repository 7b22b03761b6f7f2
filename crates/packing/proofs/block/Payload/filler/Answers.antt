use Rattle.std.proofs.Common.{length}
use Rattle.packing.proofs.OneBlock.{filler_is}
use Rattle.packing.proofs.block.Payload.filler.Goals as goal

pub returns : goal.returns
returns c = filler_is (length c.args.self.now.words.now)
