use Rattle.std.proofs.Common.{sym, ◌∙◌, arith, rules}
use Rattle.std.proofs.lemmas.Result.{err_from_is_err_and}
use Rattle.image.proofs.Chunks.{chunk_answer}
use Rattle.image.proofs.Exact.{refused_exactly}
use Rattle.image.proofs.Steps.{first_more, block_decides}
use Rattle.image.proofs.faults.check.Goals as goal

pub returns-clause-exact : goal.returns-clause-exact
returns-clause-exact c = refused_exactly c.args.bytes.now

pub returns-in_err-check_block-clause-exact : goal.returns-in_err-check_block-clause-exact
returns-in_err-check_block-clause-exact c = refused_exactly c.args.bytes.now

pub returns-in_err-check_block-clause-value : goal.returns-in_err-check_block-clause-value
returns-in_err-check_block-clause-value c =
    let p = err_from_is_err_and c.from_residual.result c.from_residual.ensures.1 in
    let refuses = chunk_answer c.args.bytes.now _ _ c.loop-place.place _ c.as_chunks.ensures.front c.as_chunks.ensures.front_len c.loop-place-test.true c.block_words.ensures c.in_err-check_block.ensures in
    rw (p.1, p.2) (block_decides c.args.bytes.now c.loop-place.place _ (search rules) (omega (arith, c.loop-place-test.true, c.as_chunks.ensures.front_len)) c.loop-place.invariant refuses)

pub loop-place-preserved : goal.loop-place-preserved
loop-place-preserved c =
    let passes = chunk_answer c.args.bytes.now _ _ c.loop-place.place _ c.as_chunks.ensures.front c.as_chunks.ensures.front_len c.loop-place-test.true c.block_words.ensures c.in_ok-check_block.ensures in
    first_more c.args.bytes.now c.loop-place.place c.loop-place.invariant ∙ sym passes
