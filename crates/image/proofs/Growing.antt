-- The loop that reads the blocks: what it has after k of them.
use Rattle.std.proofs.Common.{◌≡◌, ℕ, ◌+◌, ◌-◌, ◌<◌, ◌≤◌, true, List, [], ◌∷◌, ◌++◌, map, length, take, drop, sym, ap, ◌∙◌, subst, ⊎_elim, arith}
use Rattle.std.proofs.lemmas.List.FromFn.{map-range_with_len_more}
use Rattle.std.proofs.ByRecursion.{All-push}
use Rattle.std.proofs.lemmas.List.{flat_map_more, length_push, take-take}
use Rattle.std.proofs.lemmas.Bool.{and_from, cases_lt, le-leb}
use Rattle.std.specs.List.{range_with_len, between, flat_map, AllByRecursion}
use Rattle.image.specs.declared.block.Block.{Block}
use Rattle.image.specs.Formats.{Format}
use Rattle.image.specs.Images.{bytes_words, words_in}
use Rattle.image.specs.Layout.{block_count, block_words, carried, count_of}
use Rattle.image.specs.Packing.{packed, well_filled}
use Rattle.image.proofs.Packed.{packed_push}

-- the blocks read so far: each is full while more are to come
pub record Grown (bytes : List ℕ) (k : ℕ) (blocks : List Block) : Type 0 where
  pub many : length blocks ≡ k
  pub whole : k < block_count bytes → AllByRecursion (λ (b : Block). b.count ≡ 126) blocks
  pub tight : packed blocks ≡ true
  pub words : flat_map words_in blocks ≡ flat_map carried (map (block_words bytes) (range_with_len 0 k))

-- a block in the format counts 1 to 126 words
pub count_some : (bytes : List ℕ) (k : ℕ) → Format bytes → k < block_count bytes → (1 ≤ count_of (block_words bytes k)) × (count_of (block_words bytes k) ≤ 126)
count_some bytes k format inside =
    let count = (format.sound k inside).count in
    ⊎_elim (λ (below : k + 1 < block_count bytes). let whole = count.0 below in (omega arith, omega arith)) (λ (last : block_count bytes ≤ k + 1). count.1 (omega arith)) (cases_lt (k + 1) (block_count bytes))

-- the words of one more block
words_more : (bytes : List ℕ) (k : ℕ) (blocks : List Block) (block : Block) → block.count ≤ 126 → block.words ≡ between 1 127 (block_words bytes k) → block.count ≡ count_of (block_words bytes k) → flat_map words_in blocks ≡ flat_map carried (map (block_words bytes) (range_with_len 0 k)) → flat_map words_in (blocks ++ block ∷ []) ≡ flat_map carried (map (block_words bytes) (range_with_len 0 (k + 1)))
words_more bytes k blocks block room kept counted so_far =
    let left = flat_map_more words_in [] blocks block in
    let right = flat_map_more carried [] (map (block_words bytes) (range_with_len 0 k)) (block_words bytes k) in
    let more = ap (flat_map carried) (map-range_with_len_more (block_words bytes) 0 k k (omega arith)) in
    let cut : take block.count (take 126 (drop 1 (block_words bytes k))) ≡ take block.count (drop 1 (block_words bytes k)) = take-take block.count 126 (drop 1 (block_words bytes k)) room in
    let size : count_of (block_words bytes k) + 1 - 1 ≡ block.count = omega arith in
    let here : words_in block ≡ carried (block_words bytes k) = cc in
    cc

-- one block more: `read` are the words that it was made of, and `grown` the blocks with it
pub grown_more : (bytes : List ℕ) (k : ℕ) (blocks grown : List Block) (block : Block) (read : List ℕ) → Format bytes → Grown bytes k blocks → k < block_count bytes → read ≡ block_words bytes k → block.words ≡ between 1 127 read → block.count ≡ count_of read → grown ≡ blocks ++ block ∷ [] → Grown bytes (k + 1) grown
grown_more bytes k blocks grown block read format so_far inside same kept counted pushed =
    let some = count_some bytes k format inside in
    let kept' : block.words ≡ between 1 127 (block_words bytes k) = cc in
    let counted' : block.count ≡ count_of (block_words bytes k) = cc in
    let P : List Block → Type 0 = Grown bytes (k + 1) in
    subst
    P
    (sym pushed)
    (record {
      many = omega (arith, length_push blocks block, so_far.many);
      whole = λ below. All-push (λ (b : Block). b.count ≡ 126) blocks block (so_far.whole inside) (counted' ∙ (format.sound k inside).count.0 below);
      tight = packed_push blocks block (so_far.whole inside) (omega (arith, some.0)) (omega (arith, some.1));
      words = words_more bytes k blocks block (omega (arith, some.1)) kept' counted' so_far.words;
    })

-- all blocks are read: they are filled as an image's are, and have the words of the bytes
pub record Read (bytes : List ℕ) (blocks : List Block) : Type 0 where
  pub filled : well_filled blocks ≡ true
  pub words : flat_map words_in blocks ≡ bytes_words bytes

pub grown_all : (bytes : List ℕ) (k : ℕ) (blocks : List Block) → Format bytes → Grown bytes k blocks → k ≡ block_count bytes → Read bytes blocks
grown_all bytes k blocks format grown all =
    record {
      filled = and_from _ _ (le-leb (length blocks) 64 (omega (arith, grown.many, format.size.most))) grown.tight;
      words = grown.words ∙ ap (λ n. flat_map carried (map (block_words bytes) (range_with_len 0 n))) all;
    }
