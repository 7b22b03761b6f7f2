-- What an image means as a memory.
use Rattle.std.specs.Prelude.{ℕ, ◌/◌, Bool, false, cond, List, None}
use Rattle.memory.specs.Meaning.{Words, aligned}
use Rattle.image.specs.Layout.{word_of}

-- word i stands at the address 4 * i
abbrev pub served : List ℕ → Words
served words a = cond (aligned a) (word_of words (a / 4)) None

-- no word of an image is writable
abbrev pub nowhere : ℕ → Bool
nowhere a = false
