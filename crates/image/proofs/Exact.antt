-- The refusal that the tests give is the one that the format asks for.
use Rattle.std.proofs.Common.{◌≡◌, ℕ, zero, suc, ◌<◌, ◌≤◌, Bool, true, false, eqb, ◌⊎◌, List, length, Some, None, Decides, Option, sym, refl, subst, ⊎_elim, arith}
use Rattle.std.proofs.lemmas.Bool.{both_ways, cases_lt, not-true}
use Rattle.std.proofs.lemmas.Bool.Decides.{nat_tests, Decides-eqb, Decides-not, not_from_Decides}
use Rattle.std.proofs.ByRecursion.{Decides-by_and}
use Rattle.std.specs.Option.{option_or}
use Rattle.image.specs.declared.refusal.Refusal.{Refusal}
use Rattle.image.specs.declared.refusal.Refusal.TheVariants.{Length, Check, Place, Count, Filler}
use Rattle.image.specs.Exactness.{RefusedExactly}
use Rattle.image.specs.Formats.{AtFault, CountRight, FillerRight, Reached, Sound, WholeBlocks}
use Rattle.image.specs.Layout.{block_count, block_words, count_of, filler}
use Rattle.image.specs.FirstRefusal.{all_zero, block_refusal, count_fits, first_refusal, place_fits, refusal_of, require, size_fits, sums_up}
use Rattle.image.proofs.Steps.{block_decides}

-- each test decides what the format says of its subject
size_whole : (bytes : List ℕ) → size_fits (length bytes) ≡ true → WholeBlocks bytes
size_whole bytes fits = record { whole = grind (arith, nat_tests); some = grind (arith, nat_tests); most = grind (arith, nat_tests) }

size_fits_lem : (bytes : List ℕ) → WholeBlocks bytes → size_fits (length bytes) ≡ true
size_fits_lem bytes whole = grind (arith, nat_tests)

count_decides : (n i : ℕ) (words : List ℕ) → i < n → Decides (count_fits n i (count_of words)) (CountRight n i words)
count_decides n i words inside = (
  λ fits. (λ below. grind (arith, nat_tests), λ last. (grind (arith, nat_tests), grind (arith, nat_tests))),
  λ right. grind (arith, nat_tests),
)

filler_decides : (words : List ℕ) → Decides (all_zero (filler words)) (FillerRight words)
filler_decides words =
    Decides-by_and (λ w. eqb w 0) (λ w. w ≡ 0) all_zero (λ w. Decides-eqb w 0) refl (λ _ _. refl) (filler words)

-- the four tests of a block, whatever they test
abbrev tests : Bool → Bool → Bool → Bool → ℕ → Option Refusal
tests a b c d i = require a (Check i) (require b (Place i) (require c (Count i) (require d (Filler i) None)))

-- no refusal: all passed
tests_none : (a b c d : Bool) (i : ℕ) → tests a b c d i ≡ None → (a ≡ true) × (b ≡ true) × (c ≡ true) × (d ≡ true)
tests_none a b c d i none = grind arith

-- which test failed, and that those before it passed
abbrev FailedFirst : Bool → Bool → Bool → Bool → ℕ → Refusal → Type 0
FailedFirst a b c d i r =
    ((Check i ≡ r) × (a ≡ false))
    ⊎ (((Place i ≡ r) × (a ≡ true) × (b ≡ false))
    ⊎ (((Count i ≡ r) × (a ≡ true) × (b ≡ true) × (c ≡ false))
    ⊎ ((Filler i ≡ r) × (a ≡ true) × (b ≡ true) × (c ≡ true) × (d ≡ false))))

tests_some : (a b c d : Bool) (i : ℕ) (r : Refusal) → tests a b c d i ≡ Some r → FailedFirst a b c d i r
tests_some a b c d i r some = grind arith

-- of the block at place i
module _ (bytes : List ℕ) (i : ℕ) where
  abbrev n : ℕ
  n = block_count bytes

  abbrev words : List ℕ
  words = block_words bytes i

  -- a block that passes is sound
  block_sound : i < n → block_refusal n i words ≡ None → Sound bytes i
  block_sound inside none =
      let passed = tests_none (sums_up words) (place_fits i words) (count_fits n i (count_of words)) (all_zero (filler words)) i none in
      record {
        check = (Decides-eqb _ _).0 passed.0;
        place = (Decides-eqb _ _).0 passed.1;
        count = (count_decides n i words inside).0 passed.2;
        filler = (filler_decides words).0 passed.3;
      }

  -- a sound block passes
  sound_block : i < n → Sound bytes i → block_refusal n i words ≡ None
  sound_block inside sound =
      rw (
        (Decides-eqb _ _).1 sound.check,
        (Decides-eqb _ _).1 sound.place,
        (count_decides n i words inside).1 sound.count,
        (filler_decides words).1 sound.filler,
      )

  -- a block that fails is at fault in what its refusal names
  block_fault : (r : Refusal) → Reached bytes i → block_refusal n i words ≡ Some r → AtFault bytes r
  block_fault r reached some =
      let inside = reached.inside in
      let P : Refusal → Type 0 = AtFault bytes in
      ⊎_elim
      (λ (bad : (Check i ≡ r) × (sums_up words ≡ false)).
      subst P bad.0 (reached, not_from_Decides _ (Decides-eqb _ _) bad.1))
      (⊎_elim
      (λ (bad : (Place i ≡ r) × (sums_up words ≡ true) × (place_fits i words ≡ false)).
      subst P bad.0 (reached, (Decides-eqb _ _).0 bad.1, not_from_Decides _ (Decides-eqb _ _) bad.2))
      (⊎_elim
      (λ (bad : (Count i ≡ r) × (sums_up words ≡ true) × (place_fits i words ≡ true) × (count_fits n i (count_of words) ≡ false)).
      subst
      P
      bad.0 (
        reached,
        (Decides-eqb _ _).0 bad.1,
        (Decides-eqb _ _).0 bad.2,
        not_from_Decides _ (count_decides n i words inside) bad.3,
      ))
      (λ (bad : (Filler i ≡ r) × (sums_up words ≡ true) × (place_fits i words ≡ true) × (count_fits n i (count_of words) ≡ true) × (all_zero (filler words) ≡ false)).
      subst
      P
      bad.0 (
        reached,
        (Decides-eqb _ _).0 bad.1,
        (Decides-eqb _ _).0 bad.2,
        (count_decides n i words inside).0 bad.3,
        not_from_Decides _ (filler_decides words) bad.4,
      ))))
      (tests_some (sums_up words) (place_fits i words) (count_fits n i (count_of words)) (all_zero (filler words)) i r some)

-- a test and what follows it
require_none : (test : Bool) (q : Refusal) (rest : Option Refusal) → require test q rest ≡ None → (test ≡ true) × (rest ≡ None)
require_none test q rest none = grind arith

require_some : (test : Bool) (q : Refusal) (rest : Option Refusal) (r : Refusal) → require test q rest ≡ Some r → ((test ≡ false) × (q ≡ r)) ⊎ ((test ≡ true) × (rest ≡ Some r))
require_some test q rest r some = grind arith

-- of two answers the first that there is
or_none : (o p : Option Refusal) → option_or o p ≡ None → (o ≡ None) × (p ≡ None)
or_none o p none = grind arith

or_some : (o p : Option Refusal) (r : Refusal) → option_or o p ≡ Some r → (o ≡ Some r) ⊎ ((o ≡ None) × (p ≡ Some r))
or_some o p r some = grind arith

-- no refusal among the first k blocks: they are all sound
first_sound : (bytes : List ℕ) (k : ℕ) → k ≤ block_count bytes → first_refusal bytes k ≡ None → (j : ℕ) → j < k → Sound bytes j
first_sound bytes zero upto none j below = absurd (omega arith)
first_sound bytes (suc k) upto none j below =
    let both = or_none (first_refusal bytes k) (block_refusal (block_count bytes) k (block_words bytes k)) none in
    ⊎_elim
    (λ (before : j < k). first_sound bytes k (omega arith) both.0 j before)
    (λ (here : k ≤ j). let same : k ≡ j = omega arith in let P : ℕ → Type 0 = Sound bytes in subst P same (block_sound bytes k (omega arith) both.1))
    (cases_lt j k)

-- and where they are sound there is no refusal among them
sound_first : (bytes : List ℕ) (k : ℕ) → k ≤ block_count bytes → ((j : ℕ) → j < k → Sound bytes j) → first_refusal bytes k ≡ None
sound_first bytes zero upto sound = refl
sound_first bytes (suc k) upto sound =
    rw (
      sound_first bytes k (omega arith) (λ j below. sound j (omega arith)),
      sound_block bytes k (omega arith) (sound k (omega arith)),
    )

-- a refusal among the first k blocks names the first of them at fault
first_fault : (bytes : List ℕ) (k : ℕ) (r : Refusal) → WholeBlocks bytes → k ≤ block_count bytes → first_refusal bytes k ≡ Some r → AtFault bytes r
first_fault bytes zero r size upto some = grind arith
first_fault bytes (suc k) r size upto some =
    ⊎_elim
    (λ (before : first_refusal bytes k ≡ Some r). first_fault bytes k r size (omega arith) before)
    (λ (here : (first_refusal bytes k ≡ None) × (block_refusal (block_count bytes) k (block_words bytes k) ≡ Some r)).
    block_fault bytes k r (record { size = size; inside = omega arith; before = first_sound bytes k (omega arith) here.0 }) here.1)
    (or_some (first_refusal bytes k) (block_refusal (block_count bytes) k (block_words bytes k)) r some)

-- a refusal of a block that is reached is that of the bytes
reached_refusal : (bytes : List ℕ) (i : ℕ) (r : Refusal) → Reached bytes i → block_refusal (block_count bytes) i (block_words bytes i) ≡ Some r → refusal_of bytes ≡ Some r
reached_refusal bytes i r reached some =
    let inside = reached.inside in
    sym
    (block_decides
    bytes
    i
    r
    (size_fits_lem bytes reached.size)
    inside
    (sound_first bytes i (omega arith) reached.before)
    (sym some))

-- a test of what does not hold fails
fails : {P : Type 0} (test : Bool) → Decides test P → (P → ⊥) → test ≡ false
fails test decides no_way = not-true test ((Decides-not test decides).1 no_way)

-- a fault is refused as what it is
fault_refusal : (bytes : List ℕ) (r : Refusal) → AtFault bytes r → refusal_of bytes ≡ Some r
fault_refusal bytes Length fault = rw (fails (size_fits (length bytes)) (size_whole bytes, size_fits_lem bytes) fault)
fault_refusal bytes (Check i) fault =
    reached_refusal bytes i (Check i) fault.0 (rw (fails _ (Decides-eqb _ _) fault.1))
fault_refusal bytes (Place i) fault =
    reached_refusal
    bytes
    i
    (Place i)
    fault.0
    (rw ((Decides-eqb _ _).1 fault.1, fails _ (Decides-eqb _ _) fault.2))
fault_refusal bytes (Count i) fault =
    reached_refusal
    bytes
    i
    (Count i)
    fault.0
    (rw (
      (Decides-eqb _ _).1 fault.1,
      (Decides-eqb _ _).1 fault.2,
      fails _ (count_decides (block_count bytes) i (block_words bytes i) fault.0.inside) fault.3,
    ))
fault_refusal bytes (Filler i) fault =
    reached_refusal
    bytes
    i
    (Filler i)
    fault.0
    (rw (
      (Decides-eqb _ _).1 fault.1,
      (Decides-eqb _ _).1 fault.2,
      (count_decides (block_count bytes) i (block_words bytes i) fault.0.inside).1 fault.3,
      fails _ (filler_decides (block_words bytes i)) fault.4,
    ))

-- the length test comes first, and then the blocks decide
pub refused_exactly : (bytes : List ℕ) → RefusedExactly bytes
refused_exactly bytes =
    record {
      only_in_format = λ none.
          let passed = require_none (size_fits (length bytes)) Length (first_refusal bytes (block_count bytes)) none in
          record { size = size_whole bytes passed.0; sound = first_sound bytes (block_count bytes) (omega arith) passed.1 };
      all_in_format = λ format.
          rw (size_fits_lem bytes format.size, sound_first bytes (block_count bytes) (omega arith) format.sound);
      names_fault = λ r some.
          ⊎_elim
          (λ (bad : (size_fits (length bytes) ≡ false) × (Length ≡ r)).
          let P : Refusal → Type 0 = AtFault bytes in
          subst P bad.1 (λ whole. both_ways (size_fits (length bytes)) bad.0 (size_fits_lem bytes whole)))
          (λ (good : (size_fits (length bytes) ≡ true) × (first_refusal bytes (block_count bytes) ≡ Some r)).
          first_fault bytes (block_count bytes) r (size_whole bytes good.0) (omega arith) good.1)
          (require_some (size_fits (length bytes)) Length (first_refusal bytes (block_count bytes)) r some);
      only_fault = fault_refusal bytes;
    }
