-- Words that are written out are read back; the examples.
use Rattle.std.proofs.Common.{◌≡◌, ℕ, ◌+◌, ◌*◌, ◌/◌, ◌%◌, ◌^◌, ◌<◌, ◌≤◌, false, eqb, List, [], ◌∷◌, ◌++◌, map, length, Ok, fold, sym, refl, ap, ◌∙◌, append_assoc, append-nil, arith}
use native.Mathlib.Nat.{div-div-eq-div-mul}
use Rattle.std.proofs.lemmas.Bool.{lt-ltb}
use Rattle.std.proofs.lemmas.Bool.Decides.{nat_tests}
use Rattle.std.specs.List.{flat_map, AllByRecursion}
use Rattle.packing.specs.declared.line.Kind.TheVariants.{Digit}
use Rattle.packing.specs.declared.line.Place.{Place}
use Rattle.packing.specs.declared.line.Place.TheVariants.{Before, Within}
use Rattle.packing.specs.declared.reading.Reading.{Reading}
use Rattle.packing.specs.Digits.{Written}
use Rattle.packing.specs.Lines.{kind_of}
use Rattle.packing.specs.TextLaws.{Examples, ReadBack, digit_code, digits_of, line_of}
use Rattle.packing.specs.Texts.{read_on}

abbrev at : ℕ → Place → Reading
at ended place = record { ended = ended; place = place }

abbrev written : ℕ → ℕ → Written
written value count = record { word = value; digits = count }

digit_kind : (d : ℕ) → d < 16 → kind_of (digit_code d) ≡ Digit d
digit_kind d small = grind (arith, nat_tests)

digit_no_end : (d : ℕ) → d < 16 → eqb (digit_code d) 10 ≡ false
digit_no_end d small = grind (arith, nat_tests)

-- one digit more of a word that has begun, and the first
digit_on : (words : List ℕ) (ended value count d : ℕ) (rest : List ℕ) → count < 8 → d < 16 → read_on words (at ended (Within (written value count))) (digit_code d ∷ rest) ≡ read_on words (at ended (Within (written (value * 16 + d) (count + 1)))) rest
digit_on words ended value count d rest few small =
    rw (digit_no_end d small, digit_kind d small, lt-ltb count 8 few, append-nil words)

digit_first : (words : List ℕ) (ended d : ℕ) (rest : List ℕ) → d < 16 → read_on words (at ended Before) (digit_code d ∷ rest) ≡ read_on words (at ended (Within (written d 1))) rest
digit_first words ended d rest small = rw (digit_no_end d small, digit_kind d small, append-nil words)

-- the rest of a word's digits, and the line's end
abbrev value_on : ℕ → List ℕ → ℕ
value_on value digits = fold (λ v d. v * 16 + d) value digits

digits_on : (words : List ℕ) (ended value count : ℕ) (digits rest : List ℕ) → count + length digits ≤ 8 → AllByRecursion (λ d. d < 16) digits → read_on words (at ended (Within (written value count))) (map digit_code digits ++ 10 ∷ rest) ≡ read_on (words ++ value_on value digits ∷ []) (at (ended + 1) Before) rest
digits_on words ended value count [] rest few small = refl
digits_on words ended value count (d ∷ digits) rest few small =
    digit_on words ended value count d (map digit_code digits ++ 10 ∷ rest) (omega arith) small.0
    ∙ digits_on words ended (value * 16 + d) (count + 1) digits rest (omega arith) small.1

-- a line of digits
digits_line : (words : List ℕ) (ended : ℕ) (digits rest : List ℕ) → 0 < length digits → length digits ≤ 8 → AllByRecursion (λ d. d < 16) digits → read_on words (at ended Before) (map digit_code digits ++ 10 ∷ rest) ≡ read_on (words ++ value_on 0 digits ∷ []) (at (ended + 1) Before) rest
digits_line words ended [] rest some few small = absurd (omega arith)
digits_line words ended (d ∷ digits) rest some few small =
    let start : 0 * 16 + d ≡ d = omega arith in
    digit_first words ended d (map digit_code digits ++ 10 ∷ rest) small.0
    ∙ digits_on words ended d 1 digits rest (omega arith) small.1
    ∙ ap (λ v. read_on (words ++ value_on v digits ∷ []) (at (ended + 1) Before) rest) (sym start)

-- the digits of a word
digits_many : (word : ℕ) → length (digits_of word) ≡ 8
unfolding digits_of
digits_many word = refl

below_16 : (f : ℕ → ℕ) (places : List ℕ) → AllByRecursion (λ d. d < 16) (map (λ place. f place % 16) places)
below_16 f [] = tt
below_16 f (place ∷ places) = (omega arith, below_16 f places)

digits_small : (word : ℕ) → AllByRecursion (λ d. d < 16) (digits_of word)
unfolding digits_of
digits_small word = below_16 (λ place. word / 16 ^ place) (7 ∷ 6 ∷ 5 ∷ 4 ∷ 3 ∷ 2 ∷ 1 ∷ 0 ∷ [])

-- a number's last digit, behind the others
digit_behind : (word low high : ℕ) → word / low / 16 ≡ word / high → word / high * 16 + word / low % 16 ≡ word / low
digit_behind word low high shift = omega (arith, shift)

digits_value : (word : ℕ) → word < 2 ^ 32 → value_on 0 (digits_of word) ≡ word
unfolding digits_of
digits_value word small =
    let e7 : 0 * 16 + word / 268435456 % 16 ≡ word / 268435456 = omega arith in
    let e6 = digit_behind word 16777216 268435456 (div-div-eq-div-mul word 16777216 16) in
    let e5 = digit_behind word 1048576 16777216 (div-div-eq-div-mul word 1048576 16) in
    let e4 = digit_behind word 65536 1048576 (div-div-eq-div-mul word 65536 16) in
    let e3 = digit_behind word 4096 65536 (div-div-eq-div-mul word 4096 16) in
    let e2 = digit_behind word 256 4096 (div-div-eq-div-mul word 256 16) in
    let e1 = digit_behind word 16 256 (div-div-eq-div-mul word 16 16) in
    let e0 = digit_behind word 1 16 (div-div-eq-div-mul word 1 16) in
    let one : word / 1 ≡ word = omega arith in
    cc

-- a line's word
line_back : (words : List ℕ) (ended word : ℕ) (rest : List ℕ) → word < 2 ^ 32 → read_on words (at ended Before) (line_of word ++ rest) ≡ read_on (words ++ word ∷ []) (at (ended + 1) Before) rest
line_back words ended word rest small =
    let many = digits_many word in
    ap (read_on words (at ended Before)) (append_assoc (map digit_code (digits_of word)) (10 ∷ []) rest)
    ∙ digits_line words ended (digits_of word) rest (omega arith) (omega arith) (digits_small word)
    ∙ ap (λ v. read_on (words ++ v ∷ []) (at (ended + 1) Before) rest) (digits_value word small)

lines_back : (before : List ℕ) (ended : ℕ) (words : List ℕ) → AllByRecursion (λ word. word < 2 ^ 32) words → read_on before (at ended Before) (flat_map line_of words) ≡ Ok (before ++ words)
lines_back before ended [] small = refl
lines_back before ended (word ∷ words) small =
    line_back before ended word (flat_map line_of words) small.0
    ∙ lines_back (before ++ word ∷ []) (ended + 1) words small.1
    ∙ ap (λ (ws : List ℕ). Ok ws) (append_assoc before (word ∷ []) words)

pub read_back : ReadBack
read_back words small = lines_back [] 0 words small

pub examples : Examples
examples = record { mixed = refl; none = refl; not_hex = refl; too_long = refl; two_words = refl }
