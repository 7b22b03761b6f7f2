use Rattle.std.proofs.Common.{◌≡◌, ◌/◌, length, ap, ◌+◌, ◌*◌, get_or, [], w32, ◌∙◌, rules, arith}
use Rattle.std.proofs.lemmas.List.FromFn.{fill_by_all}
use Rattle.std.specs.Int.{from_le_bytes}
use Rattle.std.specs.Simd.{first_chunks}
use Rattle.image.specs.Layout.{block_words, word_at}
use Rattle.image.proofs.Chunks.{chunk_word, from_calls}
use Rattle.image.proofs.layout.block_words.Goals as goal

pub returns : goal.returns
unfolding block_words
returns c =
    let block = c.args.block.now in
    let count : length block / 4 ≡ 128 = omega (arith, c.told-block) in
    let chunks : c.as_chunks.result.0.now ≡ first_chunks 4 128 block = c.as_chunks.ensures.front ∙ ap (λ n. first_chunks 4 n block) count in
    fill_by_all (λ k. word_at block (128 * 0 + k)) c.from_fn.result 128 0 c.from_fn.ensures.items.long (λ k below.
    from_calls _ (λ p. p.0.now ≡ first_chunks 4 128 block) (λ k. from_le_bytes w32 (get_or (first_chunks 4 128 block) k []))
    (λ p q i y same called. (search rules, search rules)) 128 _ c.from_fn.result 0 k chunks c.from_fn.ensures.items.each (omega arith) (omega arith)
    ∙ chunk_word block k [] below)
