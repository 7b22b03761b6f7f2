-- Text in a buffer of 80 bytes.
use Rattle.std.specs.Prelude.{◌≡◌, ℕ, ◌≤◌, List, ◌++◌, length, drop}

-- a text stands at the front of the buffer, and the bytes behind it are as they were before
pub record BeginsWith (text : List ℕ) (count : ℕ) (before after : List ℕ) : Type 0 where
  pub counted : count ≡ length text
  pub fits : count ≤ 80
  pub bytes : after ≡ text ++ drop (length text) before
