use Rattle.std.proofs.Common.{vec_items, arith}
use Rattle.image.specs.ServedWords.{few}
use Rattle.image.proofs.Packed.{filled_few, filled_packed}
use Rattle.image.proofs.image.Image.len.Goals as goal

pub overflow_add-result : goal.overflow_add-result
overflow_add-result c =
    let kept = c.args.self.now.blocks in
    let blocks = filled_few (vec_items kept) c.args.self.now.full in
    omega (arith, blocks, kept.ok.0, few (vec_items kept) (filled_packed (vec_items kept) c.args.self.now.full), c.in-Some.ensures)
