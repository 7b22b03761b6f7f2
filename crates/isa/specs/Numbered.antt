-- Things that have a number each.
use Rattle.std.specs.Prelude.{ℕ, cond, List, [], ◌∷◌, Some, None, Option, ◌==◌}

-- the first thing of a list that has the number n
abbrev pub numbered : {X : Type 0} → (X → ℕ) → List X → ℕ → Option X
numbered number [] n = None
numbered number (x ∷ xs) n = cond (n == number x) (Some x) (numbered number xs n)
