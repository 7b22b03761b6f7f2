use Rattle.std.proofs.Common.{vec_items, vec_len}
use Rattle.image.proofs.Packed.{filled_packed, last_words}
use Rattle.image.proofs.image.Image.last_block.Goals as goal

pub returns : goal.returns
returns c =
    let kept = c.args.self.now.blocks in
    last_words
    c.as_slice.result.now
    (vec_items kept)
    (vec_len kept)
    c.last.result
    c.as_slice.ensures.value
    kept.ok.0
    (filled_packed (vec_items kept) c.args.self.now.full)
    c.last.ensures.item
