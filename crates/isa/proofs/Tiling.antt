-- The laws of the fields of a word, for any fields that lie side by side.
use Rattle.std.proofs.Common.{◌≡◌, ℕ, ◌+◌, ◌*◌, ◌/◌, ◌%◌, ◌^◌, ◌<◌, true, eqb, ltb, [], ◌∷◌, refl, ap, ◌∙◌, subst, mod-eq_of_lt, mul_assoc, mul_comm, add-mul, arith}
use Rattle.std.proofs.lemmas.Nat.{pow_pos, pow-add, mod-pow-add, mul-add-lt, shr_high, mod_low, mod_below}
use Rattle.std.proofs.lemmas.Bool.{and_parts, and_from, eqb-true, ltb-true, lt-ltb}
use Rattle.isa.specs.Laws.{tiles, Reads, FieldsReturn, WordsAreFields}
use Rattle.isa.specs.Layout.{Fields, fit, assembled}

-- a value above a rest, each with its room, leaves room above itself
above_lt : (v a low width : ℕ) → v < 2 ^ width → a < 2 ^ low → v * 2 ^ low + a < 2 ^ (low + width)
above_lt v a low width h k = rw (pow-add 2 low width) (mul-add-lt v (2 ^ low) a (2 ^ width) h k)

-- the two ways to bracket a word: under the bits above, or above the bits below
brackets : (high v a low width : ℕ) → high * 2 ^ (low + width) + (v * 2 ^ low + a) ≡ (high * 2 ^ width + v) * 2 ^ low + a
brackets high v a low width =
    let p = pow-add 2 low width in
    let m = mul_comm (2 ^ low) (2 ^ width) in
    let q = mul_assoc high (2 ^ width) (2 ^ low) in
    let r = add-mul (high * 2 ^ width) v (2 ^ low) in
    let s : high * 2 ^ (low + width) ≡ high * 2 ^ width * 2 ^ low = cc in
    omega arith

-- the value is read back, whatever stands above it and below it
read_one :
    (high v a low width : ℕ) → v < 2 ^ width → a < 2 ^ low
    → ((high * 2 ^ width + v) * 2 ^ low + a) / 2 ^ low % 2 ^ width ≡ v
read_one high v a low width h k = rw (shr_high (high * 2 ^ width + v) low a k) (mod_low high width v h)

-- what is made of fields fits below the top
pub below : (top : ℕ) (fields : Fields) → tiles top fields ≡ true → fit fields ≡ true → assembled fields < 2 ^ top
below top [] t f = pow_pos top
below top (x ∷ xs) t f =
    let ts = and_parts (eqb (x.0.low + x.0.width) top) (tiles x.0.low xs) t in
    let fs = and_parts (ltb x.1 (2 ^ x.0.width)) (fit xs) f in
    let e = eqb-true (x.0.low + x.0.width) top ts.0 in
    let v = ltb-true x.1 (2 ^ x.0.width) fs.0 in
    subst (λ n. assembled (x ∷ xs) < 2 ^ n) e
    (above_lt x.1 (assembled xs) x.0.low x.0.width v (below x.0.low xs ts.1 fs.1))

-- each value is read back, whatever stands above the top
read_all :
    (top : ℕ) (fields : Fields) (high word : ℕ) → tiles top fields ≡ true → fit fields ≡ true
    → word ≡ high * 2 ^ top + assembled fields → Reads fields word
read_all top [] high word t f e = tt
read_all top (x ∷ xs) high word t f e =
    let ts = and_parts (eqb (x.0.low + x.0.width) top) (tiles x.0.low xs) t in
    let fs = and_parts (ltb x.1 (2 ^ x.0.width)) (fit xs) f in
    let at = eqb-true (x.0.low + x.0.width) top ts.0 in
    let v = ltb-true x.1 (2 ^ x.0.width) fs.0 in
    let k = below x.0.low xs ts.1 fs.1 in
    let b = brackets high x.1 (assembled xs) x.0.low x.0.width in
    let w : word ≡ (high * 2 ^ x.0.width + x.1) * 2 ^ x.0.low + assembled xs = cc in
    let r = read_one high x.1 (assembled xs) x.0.low x.0.width v k in (
      ap (λ n. n / 2 ^ x.0.low % 2 ^ x.0.width) w ∙ r,
      read_all x.0.low xs (high * 2 ^ x.0.width + x.1) word ts.1 fs.1 w,
    )

pub fields_return : FieldsReturn
fields_return top fields t f =
    (below top fields t f, read_all top fields 0 (assembled fields) t f (omega arith))

-- what is read below the top makes up the word below the top
made_of :
    (top : ℕ) (fields : Fields) (word : ℕ) → tiles top fields ≡ true → Reads fields word
    → assembled fields ≡ word % 2 ^ top
made_of top [] word t r =
    let e = eqb-true top 0 t in
    rw e (omega arith)
made_of top (x ∷ xs) word t r =
    let ts = and_parts (eqb (x.0.low + x.0.width) top) (tiles x.0.low xs) t in
    let at = eqb-true (x.0.low + x.0.width) top ts.0 in
    let v = r.0 in
    let rest = made_of x.0.low xs word ts.1 r.1 in
    let cut = mod-pow-add word x.0.width x.0.low in
    let sum : x.0.width + x.0.low ≡ top = omega arith in
    subst (λ n. assembled (x ∷ xs) ≡ word % 2 ^ n) sum (cc)

pub words_are_fields : WordsAreFields
words_are_fields top fields word t h r =
    made_of top fields word t r ∙ mod-eq_of_lt h

-- what is read from a word has room in its field
pub read_fit : (fields : Fields) (word : ℕ) → Reads fields word → fit fields ≡ true
read_fit [] word r = refl
read_fit (x ∷ xs) word r =
    let room = mod_below (word / 2 ^ x.0.low) (2 ^ x.0.width) (pow_pos x.0.width) in
    and_from (ltb x.1 (2 ^ x.0.width)) (fit xs)
    (lt-ltb x.1 (2 ^ x.0.width) (subst (λ n. n < 2 ^ x.0.width) r.0 room))
    (read_fit xs word r.1)
