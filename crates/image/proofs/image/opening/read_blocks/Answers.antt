use Rattle.std.proofs.Common.{◌<◌, ap, vec_items, arith}
use Rattle.image.specs.Layout.{block_count, count_of}
use Rattle.image.proofs.Chunks.{chunk_words}
use Rattle.image.proofs.Growing.{count_some, grown_all, grown_more}
use Rattle.image.proofs.image.opening.read_blocks.Goals as goal

pub new-requires : goal.new-requires
new-requires c =
    let k = c.loop-block.block-index in
    let inside : k < block_count c.args.bytes.now = omega (arith, c.as_chunks.ensures.front_len, c.loop-block-test.true) in
    let words = chunk_words c.args.bytes.now _ _ k _ c.as_chunks.ensures.front inside c.block_words.ensures in
    omega (arith, ap count_of words, count_some c.args.bytes.now k c.requires inside)

pub loop-block-preserved : goal.loop-block-preserved
loop-block-preserved c =
    let k = c.loop-block.block-index in
    let inside : k < block_count c.args.bytes.now = omega (arith, c.as_chunks.ensures.front_len, c.loop-block-test.true) in
    grown_more
    c.args.bytes.now
    k
    (vec_items c.loop-block.read)
    (vec_items c.push.new.self)
    c.new.result
    c.block_words.result
    c.requires
    c.loop-block.invariant
    inside
    (chunk_words c.args.bytes.now _ _ k _ c.as_chunks.ensures.front inside c.block_words.ensures)
    c.new.ensures.kept
    c.new.ensures.counted
    c.in_ok-push.ensures.items

pub returns-clause-filled : goal.returns-clause-filled
returns-clause-filled c =
    (grown_all c.args.bytes.now c.loop-block.block-index (vec_items c.loop-block.read) c.requires c.loop-block.invariant (omega (arith, c.as_chunks.ensures.front_len))).filled

pub returns-clause-words : goal.returns-clause-words
returns-clause-words c =
    (grown_all c.args.bytes.now c.loop-block.block-index (vec_items c.loop-block.read) c.requires c.loop-block.invariant (omega (arith, c.as_chunks.ensures.front_len))).words
