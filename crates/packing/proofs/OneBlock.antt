-- A block is in the format, and carries its words.
use Rattle.std.proofs.Common.{◌≡◌, ℕ, zero, suc, ◌+◌, ◌-◌, ◌<◌, ◌≤◌, List, [], ◌∷◌, ◌++◌, length, take, drop, replicate, sym, refl, ap, ◌∙◌, subst, append_assoc, arith}
use Rattle.std.proofs.ByRecursion.{All-append}
use Rattle.std.proofs.lemmas.List.{drop_at, drop-replicate, length-append, length-replicate, take_all, take_at}
use Rattle.std.proofs.lemmas.Grind.{flat_map-append}
use Rattle.std.proofs.lemmas.List.Folds.{sum_by-replicate}
use Rattle.std.proofs.lemmas.List.Sums.{sum_by-append, sum_by-cons}
use Rattle.std.specs.List.{flat_map, AllByRecursion}
use Rattle.image.specs.Formats.{FillerRight, PlaceRight, SumRight}
use Rattle.image.specs.Layout.{carried, count_of, filler}
use Rattle.packing.specs.Blocks.{block_of, check_word, filler_for, head_of, little_endian}
use Rattle.packing.proofs.Bytes.{Small}

all_zeros : (P : ℕ → Type 0) (n : ℕ) → P 0 → AllByRecursion P (replicate n 0)
all_zeros P zero h = tt
all_zeros P (suc n) h = (h, all_zeros P n h)

module _ (place : ℕ) (words : List ℕ) (low : place < 65536) (few : length words ≤ 126) where
  pub block_length : length (block_of place words) ≡ 128
  unfolding block_of
  block_length =
      omega (
        arith,
        length-append words (filler_for words ++ check_word place words ∷ []),
        length-append (filler_for words) (check_word place words ∷ []),
        length-replicate {A = ℕ} (126 - length words) 0,
      )

  pub block_place : PlaceRight place (block_of place words)
  unfolding block_of
  block_place = omega arith

  pub block_count_lem : count_of (block_of place words) ≡ length words
  unfolding block_of
  block_count_lem = omega arith

  pub block_sum : SumRight (block_of place words)
  unfolding block_of
  block_sum =
      omega (
        arith,
        sum_by-cons (λ x. x) (head_of place words) (words ++ (filler_for words ++ check_word place words ∷ [])),
        sum_by-append (λ x. x) words (filler_for words ++ check_word place words ∷ []),
        sum_by-append (λ x. x) (filler_for words) (check_word place words ∷ []),
        sum_by-replicate (λ x. x) (126 - length words) 0,
      )

  pub block_carries : carried (block_of place words) ≡ words
  unfolding block_of
  block_carries =
      let size : count_of (block_of place words) + 1 - 1 ≡ length words = omega (arith, block_count_lem) in
      ap (λ n. take n (drop 1 (block_of place words))) size ∙ take_at words _ _ refl

  pub block_filler : FillerRight (block_of place words)
  unfolding block_of
  block_filler =
      let count = block_count_lem in
      let from : count_of (block_of place words) + 1 ≡ suc (length words) = omega arith in
      let size : 127 - (count_of (block_of place words) + 1) ≡ length (filler_for words) = omega (arith, length-replicate {A = ℕ} (126 - length words) 0) in
      let rest : drop (suc (length words)) (block_of place words) ≡ filler_for words ++ check_word place words ∷ [] = drop_at words _ _ refl in
      let is : filler (block_of place words) ≡ filler_for words =
      ap (λ n. take (127 - (count_of (block_of place words) + 1)) (drop n (block_of place words))) from
      ∙ ap (λ (xs : List ℕ). take (127 - (count_of (block_of place words) + 1)) xs) rest
      ∙ take_at (filler_for words) _ _ (sym size) in
      let P : List ℕ → Type 0 = AllByRecursion (λ word. word ≡ 0) in
      subst P (sym is) (all_zeros (λ word. word ≡ 0) (126 - length words) refl)

  pub block_small : AllByRecursion Small words → AllByRecursion Small (block_of place words)
  unfolding block_of
  block_small small = (
    omega arith,
    All-append Small words _ small (All-append Small (filler_for words) _ (all_zeros Small _ (omega arith)) (omega arith, tt)),
  )

regroup : (a b c d e : List ℕ) → (((a ++ b) ++ c) ++ d) ++ e ≡ a ++ (b ++ (c ++ (d ++ e)))
regroup a b c d e = simp append_assoc

-- the bytes of a block's four parts, put behind others one after the other
pub block_bytes_lem : (place : ℕ) (words : List ℕ) (bytes : List ℕ) {head check : ℕ} {zeros b1 b2 b3 b4 : List ℕ} → b1 ≡ bytes ++ flat_map little_endian (head ∷ []) → b2 ≡ b1 ++ flat_map little_endian words → b3 ≡ b2 ++ flat_map little_endian zeros → b4 ≡ b3 ++ flat_map little_endian (check ∷ []) → head ≡ head_of place words → zeros ≡ filler_for words → check ≡ check_word place words → b4 ≡ bytes ++ flat_map little_endian (block_of place words)
unfolding block_of
block_bytes_lem place words bytes {head} {check} {zeros} {b4 = b4} e1 e2 e3 e4 is-head is-zeros is-check =
    let J : List ℕ → List ℕ = flat_map little_endian in
    let all : b4 ≡ bytes ++ (J (head ∷ []) ++ (J words ++ (J zeros ++ J (check ∷ [])))) =
    let group = regroup bytes (J (head ∷ [])) (J words) (J zeros) (J (check ∷ [])) in cc in
    let back : J (words ++ (zeros ++ check ∷ [])) ≡ J words ++ (J zeros ++ J (check ∷ [])) =
    flat_map-append little_endian words (zeros ++ check ∷ []) ∙ ap (λ (l : List ℕ). J words ++ l) (flat_map-append little_endian zeros (check ∷ [])) in
    let block : block_of place words ≡ head ∷ (words ++ (zeros ++ check ∷ [])) = cc in
    all ∙ ap (λ (l : List ℕ). bytes ++ (little_endian head ++ l)) (sym back) ∙ ap (λ (l : List ℕ). bytes ++ J l) (sym block)

-- as many zeros as are left of 126
pub filler_is : (count : ℕ) → take (126 - count) (drop count (replicate {A = ℕ} 126 0)) ≡ replicate (126 - count) 0
filler_is count =
    let zeros : List ℕ = replicate (126 - count) 0 in
    let long = length-replicate {A = ℕ} (126 - count) 0 in
    ap (λ (l : List ℕ). take (126 - count) l) (drop-replicate {X = ℕ} count 126 0) ∙ take_all (126 - count) zeros (omega arith)
