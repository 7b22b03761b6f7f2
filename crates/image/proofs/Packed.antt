-- Packed blocks: where the words of an image stand in them, and how a list of them grows.
use Rattle.std.proofs.Common.{◌≡◌, ℕ, zero, suc, ◌+◌, ◌-◌, ◌*◌, ◌/◌, ◌%◌, ◌<◌, ◌≤◌, true, leb, List, [], ◌∷◌, ◌++◌, length, get_or, Some, None, Option, sym, refl, ap, ◌∙◌, subst, ⊎_elim, arith, length-append, Bor, MatchOption}
use Rattle.std.proofs.lemmas.List.{get_or_append_left, get_or-append_right, length-take-le}
use Rattle.std.proofs.lemmas.Bool.{and_parts, and_from, cases_lt, cond_below, cond_above, eq-eqb, le-leb, leb-true}
use Rattle.std.proofs.lemmas.Bool.Decides.{nat_tests}
use Rattle.std.specs.Slice.{IsGetResult, IsItemAt}
use Rattle.std.specs.List.{flat_map, AllByRecursion}
use Rattle.image.specs.declared.block.Block.{Block}
use Rattle.image.specs.Images.{words_in}
use Rattle.image.specs.Layout.{word_of}
use Rattle.image.specs.ServedWords.{few}
use Rattle.image.specs.Packing.{packed, well_filled}

-- a block gives as many words as it counts
pub length_words_in : (block : Block) → length (words_in block) ≡ block.count
length_words_in block = length-take-le block.count block.words block.within

-- what follows a block is packed too
pub packed_tail : (block : Block) (blocks : List Block) → packed (block ∷ blocks) ≡ true → packed blocks ≡ true
packed_tail block [] tight = refl
packed_tail block (next ∷ more) tight = grind arith

-- a block with another behind it is full
pub packed_full : (block : Block) (blocks : List Block) → packed (block ∷ blocks) ≡ true → 0 < length blocks → block.count ≡ 126
packed_full block [] tight behind = absurd (omega arith)
packed_full block (next ∷ more) tight behind = grind (arith, nat_tests)

-- no block counts more words than it has room for
pub packed_room : (block : Block) (blocks : List Block) → packed (block ∷ blocks) ≡ true → block.count ≤ 126
packed_room block [] tight = grind (arith, nat_tests)
packed_room block (next ∷ more) tight = grind (arith, nat_tests)

-- the words of a block and of those behind it
length_words : (block : Block) (blocks : List Block) → length (flat_map words_in (block ∷ blocks)) ≡ block.count + length (flat_map words_in blocks)
length_words block blocks = length-append (words_in block) (flat_map words_in blocks) ∙ ap (λ n. n + length (flat_map words_in blocks)) (length_words_in block)

-- a word of a block is in the image, 126 further on for each block before it
pub word_in : (blocks : List Block) (q r : ℕ) (d : Block) → packed blocks ≡ true → q < length blocks → r < length (words_in (get_or blocks q d)) → (q * 126 + r < length (flat_map words_in blocks)) × (get_or (flat_map words_in blocks) (q * 126 + r) 0 ≡ get_or (words_in (get_or blocks q d)) r 0)
word_in [] q r d tight inside within = absurd (omega arith)
word_in (block ∷ blocks) zero r d tight inside within =
    let here : 0 * 126 + r ≡ r = omega arith in (
      omega (arith, length-append (words_in block) (flat_map words_in blocks)),
      rw here (get_or_append_left (words_in block) (flat_map words_in blocks) 0 r within),
    )
word_in (block ∷ blocks) (suc q) r d tight inside within =
    let whole = length_words_in block ∙ packed_full block blocks tight (omega arith) in
    let rest = word_in blocks q r d (packed_tail block blocks tight) (omega arith) within in
    let back : suc q * 126 + r - 126 ≡ q * 126 + r = omega arith in (
      omega (arith, length-append (words_in block) (flat_map words_in blocks), rest.0),
      get_or-append_right (words_in block) (flat_map words_in blocks) 126 (suc q * 126 + r) 0 whole (omega arith)
          ∙ (rw back rest.1),
    )

-- past the words of a block that is not full there is no other word
pub word_past : (blocks : List Block) (q r : ℕ) (d : Block) → packed blocks ≡ true → q < length blocks → length (words_in (get_or blocks q d)) ≤ r → r < 126 → length (flat_map words_in blocks) ≤ q * 126 + r
word_past [] q r d tight inside past small = absurd (omega arith)
word_past (block ∷ []) zero r d tight inside past small = omega (arith, length-append (words_in block) [])
word_past (block ∷ next ∷ more) zero r d tight inside past small =
    absurd (omega (arith, length_words_in block, packed_full block (next ∷ more) tight (omega arith)))
word_past (block ∷ blocks) (suc q) r d tight inside past small =
    omega (
      arith,
      length_words block blocks,
      packed_room block blocks tight,
      word_past blocks q r d (packed_tail block blocks tight) (omega arith) past small,
    )

-- all blocks but the last are full
pub words_in_all : (blocks : List Block) (q : ℕ) (last : Block) → packed blocks ≡ true → q + 1 ≡ length blocks → last ≡ get_or blocks q last → q * 126 + last.count ≡ length (flat_map words_in blocks)
words_in_all [] q last tight end is = absurd (omega arith)
words_in_all (block ∷ []) zero last tight end is = omega (arith, length_words block [], ap (λ (b : Block). b.count) is)
words_in_all (block ∷ []) (suc q) last tight end is = absurd (omega arith)
words_in_all (block ∷ next ∷ more) zero last tight end is = absurd (omega arith)
words_in_all (block ∷ next ∷ more) (suc q) last tight end is =
    omega (
      arith,
      length_words block (next ∷ more),
      packed_full block (next ∷ more) tight (omega arith),
      words_in_all (next ∷ more) q last (packed_tail block (next ∷ more) tight) (omega arith) is,
    )

-- what the last block says of the number of words; `xs` is the slice that it was read from
pub last_words : (xs blocks : List Block) (n : ℕ) (r : Option (Bor Block)) → xs ≡ blocks → n ≡ length blocks → packed blocks ≡ true → IsGetResult xs 0 (length xs - 1) r → MatchOption r (length (flat_map words_in blocks) ≡ 0) (λ last. (1 ≤ n) × (length (flat_map words_in blocks) ≡ (n - 1) * 126 + last.now.count))
last_words xs blocks n None same size tight item = omega (arith, ap length same, few blocks tight, item.3)
last_words xs blocks n (Some last) same size tight item =
    let some : 0 < length xs = item.3.0 in
    let long = ap length same in
    let at : last.now ≡ get_or blocks (length xs - 1) last.now = item.1 ∙ ap (λ (bs : List Block). get_or bs (length xs - 1) last.now) same in
    (omega arith, omega (arith, words_in_all blocks (length xs - 1) last.now tight (omega arith) at))

-- past the blocks there is no word
pub word_beyond : (blocks : List Block) (index : ℕ) → packed blocks ≡ true → length blocks ≤ index / 126 → word_of (flat_map words_in blocks) index ≡ None
word_beyond blocks index tight beyond =
    sym (cond_above index (length (flat_map words_in blocks)) _ None None (omega (arith, few blocks tight)) refl)

-- what the image has at an index is what one of its blocks has there
pub word_at : (blocks : List Block) (index : ℕ) (block : Block) → packed blocks ≡ true → index / 126 < length blocks → block ≡ get_or blocks (index / 126) block → word_of (flat_map words_in blocks) index ≡ word_of (words_in block) (index % 126)
word_at blocks index block tight inside is =
    let split : index / 126 * 126 + index % 126 ≡ index = omega arith in
    let P : Block → Type 0 = λ b. word_of (flat_map words_in blocks) index ≡ word_of (words_in b) (index % 126) in
    let there = get_or blocks (index / 126) block in
    subst
    P
    (sym is)
    (⊎_elim
    (λ (within : index % 126 < length (words_in there)).
    let found = word_in blocks (index / 126) (index % 126) block tight inside within in
    let below : index < length (flat_map words_in blocks) = rw split at found.0 in
    let value : get_or (flat_map words_in blocks) index 0 ≡ get_or (words_in there) (index % 126) 0 = rw split at found.1 in
    sym (cond_below index (length (flat_map words_in blocks)) _ None below)
    ∙ ap (λ (w : ℕ). Some w) value
    ∙ cond_below (index % 126) (length (words_in there)) _ None within)
    (λ (past : length (words_in there) ≤ index % 126).
    let end = word_past blocks (index / 126) (index % 126) block tight inside past (omega arith) in
    sym (cond_above index (length (flat_map words_in blocks)) _ None None (omega arith) refl)
    ∙ cond_above (index % 126) (length (words_in there)) _ None None past refl)
    (cases_lt (index % 126) (length (words_in there))))

-- what is looked up among the blocks has the word of that index, if any block has; `xs` is the slice that is read from
pub block_found : (xs blocks : List Block) (index : ℕ) (r : Option (Bor Block)) → xs ≡ blocks → packed blocks ≡ true → IsItemAt xs (index / 126) r → MatchOption r (word_of (flat_map words_in blocks) index ≡ None) (λ block. word_of (flat_map words_in blocks) index ≡ word_of (words_in block.now) (index % 126))
block_found xs blocks index None same tight item =
    word_beyond blocks index tight (omega (arith, ap length same, item.3))
block_found xs blocks index (Some block) same tight item =
    word_at blocks index block.now tight (omega (arith, ap length same, item.3.0)) (item.1 ∙ ap (λ (bs : List Block). get_or bs (index / 126) block.now) same)

-- the blocks of an image are packed
pub filled_packed : (blocks : List Block) → well_filled blocks ≡ true → packed blocks ≡ true
filled_packed blocks filled = (and_parts (leb (length blocks) 64) (packed blocks) filled).1

-- full blocks stay packed with one more behind them
pub packed_push : (blocks : List Block) (block : Block) → AllByRecursion (λ b. b.count ≡ 126) blocks → 1 ≤ block.count → block.count ≤ 126 → packed (blocks ++ block ∷ []) ≡ true
packed_push [] block all some most = and_from _ _ (le-leb 1 block.count some) (le-leb block.count 126 most)
packed_push (x ∷ []) block all some most = and_from _ _ (eq-eqb x.count 126 all.0) (packed_push [] block tt some most)
packed_push (x ∷ y ∷ ys) block all some most = and_from _ _ (eq-eqb x.count 126 all.0) (packed_push (y ∷ ys) block all.1 some most)

-- and there are at most 64
pub filled_few : (blocks : List Block) → well_filled blocks ≡ true → length blocks ≤ 64
filled_few blocks filled = leb-true (length blocks) 64 (and_parts (leb (length blocks) 64) (packed blocks) filled).0
