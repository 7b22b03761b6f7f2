use Rattle.std.proofs.Common.{vec_items}
use Rattle.image.proofs.Packed.{filled_packed, block_found}
use Rattle.image.proofs.image.Image.block_of.Goals as goal

pub returns : goal.returns
returns c =
    let blocks = vec_items c.args.self.now.blocks in
    block_found c.deref.result.now blocks c.args.index c.get.result c.deref.ensures.value (filled_packed blocks c.args.self.now.full) c.get.ensures.lookup
