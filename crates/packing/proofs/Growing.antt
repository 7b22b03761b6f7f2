-- The loop that puts block behind block, and what it has made at its end.
use Rattle.std.proofs.Common.{◌≡◌, ℕ, zero, suc, ◌+◌, ◌-◌, ◌*◌, ◌^◌, ◌<◌, ◌≤◌, min, List, [], ◌++◌, map, length, get_or, take, drop, append-nil, sym, refl, ap, ◌∙◌, subst, ⊎_elim, arith, take-add}
use Rattle.std.proofs.lemmas.List.FromFn.{map-range_with_len_more}
use Rattle.std.proofs.ByRecursion.{All-drop, All-from_get_or, All-take}
use Rattle.std.proofs.lemmas.List.{drop_all, drop_at, drop-drop, flat_map_more, length-append, length-drop, length-take, take_all, take_at}
use Rattle.std.proofs.lemmas.Bool.{cases_lt}
use Rattle.std.specs.List.{range_with_len, flat_map}
use Rattle.image.specs.Formats.{Format, Sound}
use Rattle.image.specs.Layout.{block_count, block_words, carried, count_of}
use Rattle.image.proofs.Exact.{refused_exactly}
use Rattle.packing.specs.Blocks.{block_of, little_endian, part_of}
use Rattle.packing.specs.Packed.{ImageOf}
use Rattle.packing.proofs.Bytes.{Small, block_before, block_behind, length_bytes}
use Rattle.packing.proofs.OneBlock.{block_carries, block_count_lem, block_filler, block_length, block_place, block_small, block_sum}

-- the bytes of the first k blocks
pub record Grown (words : List ℕ) (k : ℕ) (bytes : List ℕ) : Type 0 where
  pub many : length bytes ≡ 512 * k
  pub blocks : (i : ℕ) → i < k → block_words bytes i ≡ block_of i (part_of words i)

-- the walk over the words in parts: what it has made of the first k, and what is left
pub record Packing (words : List ℕ) (k : ℕ) (bytes rest : List ℕ) : Type 0 where
  pub grown : Grown words k bytes
  pub left : rest ≡ drop (126 * k) words
  pub needed : 126 * k < length words + 126

pub part_few : (words : List ℕ) (i : ℕ) → length (part_of words i) ≤ 126
part_few words i = omega (arith, length-take 126 (drop (126 * i) words))

-- one block more
pub grown_more : (words : List ℕ) (k : ℕ) (bytes grown : List ℕ) → ((i : ℕ) → get_or words i 0 < 2 ^ 32) → k < 65536 → Grown words k bytes → grown ≡ bytes ++ flat_map little_endian (block_of k (part_of words k)) → Grown words (k + 1) grown
grown_more words k bytes grown small low so_far is =
    let block = block_of k (part_of words k) in
    let size = block_length k (part_of words k) low (part_few words k) in
    let fits = block_small k (part_of words k) low (part_few words k) (All-take Small 126 _ (All-drop Small (126 * k) words (All-from_get_or Small words 0 (λ i _. small i)))) in
    let P : List ℕ → Type 0 = Grown words (k + 1) in
    subst
    P
    (sym is)
    (record {
      many = omega (arith, so_far.many, length-append bytes (flat_map little_endian block), length_bytes block);
      blocks = λ i below.
          ⊎_elim
          (λ (before : i < k). block_before bytes (flat_map little_endian block) i (omega (arith, so_far.many)) ∙ so_far.blocks i before)
          (λ (here : k ≤ i).
          let same : k ≡ i = omega arith in
          let Q : ℕ → Type 0 = λ n. block_words (bytes ++ flat_map little_endian block) n ≡ block_of n (part_of words n) in
          subst Q same (block_behind bytes block k so_far.many size fits))
          (cases_lt i k);
    })

-- of the bytes of all blocks
module _ (words : List ℕ) (n : ℕ) (bytes : List ℕ) (grown : Grown words n bytes) (some : 1 ≤ n) (most : n ≤ 64) (room : length words ≤ 126 * n) (needed : 126 * (n - 1) < length words) where
  count : block_count bytes ≡ n
  count = omega (arith, grown.many)

  -- all parts but the last are full, and that is not empty
  part_length : (i : ℕ) → length (part_of words i) ≡ min 126 (length words - 126 * i)
  part_length i = length-take 126 (drop (126 * i) words) ∙ ap (min 126) (length-drop (126 * i) words)

  sound : (i : ℕ) → i < block_count bytes → Sound bytes i
  sound i inside =
      let at = grown.blocks i (omega (arith, count)) in
      let low : i < 65536 = omega (arith, count) in
      let few = part_few words i in
      let size = part_length i in
      let many = count in
      let counts = ap count_of at ∙ block_count_lem i (part_of words i) low few in
      record {
        check = rw at (block_sum i (part_of words i) low few);
        place = rw at (block_place i (part_of words i) low few);
        count = (λ next. omega arith, λ last. (omega arith, omega arith));
        filler = rw at (block_filler i (part_of words i) low few);
      }

  -- what the first k blocks carry
  carried_by : (k : ℕ) → k ≤ n → flat_map carried (map (block_words bytes) (range_with_len 0 k)) ≡ take (126 * k) words
  carried_by zero below = refl
  carried_by (suc k) below =
      let next : suc k ≡ k + 1 = omega arith in
      let at = grown.blocks k (omega arith) in
      let part = ap carried at ∙ block_carries k (part_of words k) (omega arith) (part_few words k) in
      let blocks = map-range_with_len_more (block_words bytes) 0 k k (omega arith) in
      let more = flat_map_more carried [] (map (block_words bytes) (range_with_len 0 k)) (block_words bytes k) in
      let so_far = carried_by k (omega arith) in
      let both = take-add (126 * k) 126 words in
      let size : 126 * k + 126 ≡ 126 * (k + 1) = omega arith in
      let step : flat_map carried (map (block_words bytes) (range_with_len 0 (k + 1))) ≡ take (126 * (k + 1)) words = cc in
      let P : ℕ → Type 0 = λ m. flat_map carried (map (block_words bytes) (range_with_len 0 m)) ≡ take (126 * m) words in
      subst P (sym next) step

  pub image_of : ImageOf words bytes
  image_of =
      let format : Format bytes =
      record {
        size = record { whole = omega (arith, count, grown.many); some = omega (arith, count); most = omega (arith, count) };
        sound = sound;
      } in
      record {
        format = format;
        carries = ap (λ m. flat_map carried (map (block_words bytes) (range_with_len 0 m))) count ∙ carried_by n (omega arith) ∙ take_all (126 * n) words room;
        opens = (refused_exactly bytes).all_in_format format;
      }

-- the front of a list is cut off: 126 words, or all
part_front : (rest part more : List ℕ) → rest ≡ part ++ more → length part ≡ min 126 (length rest) → (part ≡ take 126 rest) × (more ≡ drop 126 rest)
part_front rest part more cut size =
    let long = ap length cut ∙ length-append part more in
    ⊎_elim
    (λ (short : length rest < 126).
    let none : more ≡ [] = sym (take_all 0 more (omega arith)) in
    let whole : rest ≡ part = cut ∙ ap (λ (m : List ℕ). part ++ m) none ∙ append-nil part in
    (sym whole ∙ sym (take_all 126 rest (omega arith)), none ∙ sym (drop_all 126 rest (omega arith))))
    (λ (full : 126 ≤ length rest).
    let all : length part ≡ 126 = omega arith in
    (sym (ap (take 126) cut ∙ take_at part more 126 all), sym (ap (drop 126) cut ∙ drop_at part more 126 all)))
    (cases_lt (length rest) 126)

-- one part more, which the block at `place` carries
pub packing_more : (words : List ℕ) (k : ℕ) (bytes rest part more : List ℕ) {grown carried : List ℕ} {next place : ℕ} → ((i : ℕ) → get_or words i 0 < 2 ^ 32) → length words ≤ 8064 → Packing words k bytes rest → rest ≡ part ++ more → length part ≡ min 126 (length rest) → 0 < length rest → place ≡ k → carried ≡ part → next ≡ k + 1 → grown ≡ bytes ++ flat_map little_endian (block_of place carried) → Packing words next grown more
packing_more words k bytes rest part more {grown} {next = next} small fits so_far cut size some is-place is-part is-next is =
    let front = part_front rest part more cut size in
    let part_is : part ≡ part_of words k = front.0 ∙ ap (take 126) so_far.left in
    let left = ap length so_far.left ∙ length-drop (126 * k) words in
    let put : grown ≡ bytes ++ flat_map little_endian (block_of k (part_of words k)) = cc in
    let P : ℕ → Type 0 = λ n. Packing words n grown more in
    let on : 126 * k + 126 ≡ 126 * (k + 1) = omega arith in
    subst
    P
    (sym is-next)
    (record {
      grown = grown_more words k bytes grown small (omega (arith, so_far.needed)) so_far.grown put;
      left = front.1 ∙ ap (drop 126) so_far.left ∙ drop-drop 126 (126 * k) words ∙ ap (λ n. drop n words) on;
      needed = omega (arith, left);
    })

-- no part is left
pub packing_all : (words : List ℕ) (k : ℕ) (bytes rest : List ℕ) → Packing words k bytes rest → length rest ≡ 0 → 1 ≤ length words → length words ≤ 8064 → ImageOf words bytes
packing_all words k bytes rest made none some fits =
    let left = ap length made.left ∙ length-drop (126 * k) words in
    let needed = made.needed in
    image_of words k bytes made.grown (omega arith) (omega arith) (omega arith) (omega arith)

-- at the start no part is packed
pub packing_none : (words : List ℕ) {bytes rest : List ℕ} {k : ℕ} → bytes ≡ [] → rest ≡ words → k ≡ 0 → Packing words k bytes rest
packing_none words {bytes} {rest} {k} none all start =
    let P : ℕ → Type 0 = λ n. Packing words n bytes rest in
    subst
    P
    (sym start)
    (record { grown = record { many = omega (arith, ap length none); blocks = λ i below. absurd (omega arith) }; left = all; needed = omega arith })
