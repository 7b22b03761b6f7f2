-- One step of each loop over words or blocks, over plain variables.
use Rattle.std.proofs.Common.{◌≡◌, ℕ, zero, suc, ◌+◌, ◌-◌, ◌%◌, ◌^◌, ◌<◌, ◌≤◌, true, List, [], ◌∷◌, fold, length, Some, None, sum, sym, ap, ◌∙◌, add-zero, add-suc, add-one, arith}
use Rattle.std.proofs.lemmas.List.Sums.{sum_by-cons}
use Rattle.std.specs.Option.{option_or}
use Rattle.image.specs.declared.refusal.Refusal.{Refusal}
use Rattle.image.specs.Layout.{block_count, block_words}
use Rattle.image.specs.FirstRefusal.{block_refusal, first_refusal, refusal_of, size_fits}

-- a fold that wraps gives the sum modulo 2^32
pub fold_wraps : (words : List ℕ) (total : ℕ) → total < 2 ^ 32 → fold (λ t w. (t + w) % 2 ^ 32) total words ≡ (total + sum words) % 2 ^ 32
fold_wraps [] total small = omega arith
fold_wraps (word ∷ words) total small = omega (arith, fold_wraps words ((total + word) % 2 ^ 32) (omega arith), sum_by-cons (λ x. x) word words)

-- a refusal of the first k blocks is that of any more
pub first_keeps : (bytes : List ℕ) (k d : ℕ) (r : Refusal) → first_refusal bytes k ≡ Some r → first_refusal bytes (k + d) ≡ Some r
first_keeps bytes k zero r found = rw add-zero found
first_keeps bytes k (suc d) r found = rw (add-suc, first_keeps bytes k d r found)

pub first_stays : (bytes : List ℕ) (k n : ℕ) (r : Refusal) → k ≤ n → first_refusal bytes k ≡ Some r → first_refusal bytes n ≡ Some r
first_stays bytes k n r below found =
    let split : k + (n - k) ≡ n = omega arith in
    rw split at (first_keeps bytes k (n - k) r found)

-- where no block before k is refused, block k has the say
pub first_more : (bytes : List ℕ) (k : ℕ) → first_refusal bytes k ≡ None → first_refusal bytes (k + 1) ≡ block_refusal (block_count bytes) k (block_words bytes k)
first_more bytes k none =
    ap (first_refusal bytes) (add-one k) ∙ ap (λ o. option_or o (block_refusal (block_count bytes) k (block_words bytes k))) none

-- the refusal of the first block that has one is that of the bytes
pub block_decides : (bytes : List ℕ) (k : ℕ) (r : Refusal) → size_fits (length bytes) ≡ true → k < block_count bytes → first_refusal bytes k ≡ None → Some r ≡ block_refusal (block_count bytes) k (block_words bytes k) → Some r ≡ refusal_of bytes
block_decides bytes k r sized below none refuses =
    let here = first_more bytes k none ∙ sym refuses in
    let there = first_stays bytes (k + 1) (block_count bytes) r (omega arith) here in
    rw (sized, there)
