use Rattle.std.proofs.Common.{vec_items}
use Rattle.packing.proofs.OneBlock.{block_bytes_lem}
use Rattle.packing.proofs.block.Payload.push_onto.Goals as goal

pub returns : goal.returns
returns c =
    block_bytes_lem
    c.args.self.now.place
    c.args.self.now.words.now
    (vec_items c.args.bytes.now)
    c.in_ok-push_words.ensures
    c.in_ok-push_words-2.ensures
    c.in_ok-push_words-3.ensures
    c.in_ok-push_words-4.ensures
    c.head.ensures
    c.filler.ensures
    c.check_word.ensures
