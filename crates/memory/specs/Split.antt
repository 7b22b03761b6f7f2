-- What a split of two memories means.
use Rattle.std.specs.Prelude.{ℕ, cond, nat_lt}

-- below the boundary the first memory's, elsewhere the second's: words, tags and leave to write alike
abbrev pub either : {X : Type 0} → ℕ → (ℕ → X) → (ℕ → X) → ℕ → X
either boundary first second a = cond (nat_lt a boundary) (first a) (second a)
