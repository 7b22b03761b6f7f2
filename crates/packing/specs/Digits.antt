-- The hexadecimal digits of a word: what they say so far, and how many they are.
use Rattle.std.specs.Prelude.{ℕ, ◌+◌, ◌*◌, cond, Some, None, Option, nat_lt}

pub record Written : Type 0 where
  pub word : ℕ
  pub digits : ℕ

-- with one more digit, behind at most seven
abbrev pub more_digits : Written → ℕ → Option Written
more_digits so_far digit = cond (nat_lt so_far.digits 8) (Some (record { word = so_far.word * 16 + digit; digits = so_far.digits + 1 })) None
