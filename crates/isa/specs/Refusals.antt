-- The numbers by which users know the refusals.
use Rattle.std.specs.Prelude.{ℕ}

-- an instruction that no word stands for
abbrev pub no_word : ℕ
no_word = 18
