-- Steps of a decoding that finds or fails.
use Rattle.std.proofs.Common.{◌≡◌, ℕ, Bool, true, false, cond, eqb, List, [], ◌∷◌, Some, None, Option, sym, refl, ap, ◌∙◌, ⊎_elim}
use Rattle.std.proofs.lemmas.Bool.{cases_Bool, cond-true, cond-false, eqb-true}
use Rattle.std.proofs.lemmas.Option.{none-some}
use Rattle.isa.specs.Decoding.{and_then}
use Rattle.isa.specs.Numbered.{numbered}

-- what was found goes on
pub then_on : {X Y : Type 0} (o : Option X) (x : X) (next : X → Option Y) → o ≡ Some x → and_then o next ≡ next x
then_on o x next e = ap (λ p. and_then p next) e

-- what was found in the end was found on the way
pub then_back :
    {X Y : Type 0} (o : Option X) (next : X → Option Y) (y : Y) → and_then o next ≡ Some y
    → (x : X) × (o ≡ Some x) × (next x ≡ Some y)
then_back None next y e = absurd (none-some y e)
then_back (Some x) next y e = (x, refl, e)

-- a test that let something through was passed
pub cond_back :
    {X : Type 0} (b : Bool) (x : X) (y : X) → cond b (Some x) None ≡ Some y → (b ≡ true) × (x ≡ y)
cond_back true x y e = (refl, cc)
cond_back false x y e = absurd (none-some y e)

-- what a number finds has that number
pub numbered_back :
    {X : Type 0} (number : X → ℕ) (xs : List X) (n : ℕ) (x : X) → numbered number xs n ≡ Some x → n ≡ number x
numbered_back number [] n x e = absurd (none-some x e)
numbered_back number (y ∷ ys) n x e =
    ⊎_elim
    (λ t.
    let same : Some y ≡ Some x = sym (cond-true (eqb n (number y)) (Some y) (numbered number ys n) t) ∙ e in
    let one : y ≡ x = cc in
    eqb-true n (number y) t ∙ ap number one)
    (λ f.
    numbered_back number ys n x
    (sym (cond-false (eqb n (number y)) (Some y) (numbered number ys n) f) ∙ e))
    (cases_Bool (eqb n (number y)))

-- what was found was found on one of two ways
pub either_back :
    {X : Type 0} {P : Type 0} (b : Bool) (x y : Option X) (z : X) → cond b x y ≡ Some z
    → (b ≡ true → x ≡ Some z → P) → (b ≡ false → y ≡ Some z → P) → P
either_back true x y z e p q = p refl e
either_back false x y z e p q = q refl e
