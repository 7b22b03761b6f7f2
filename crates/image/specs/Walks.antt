-- What a walk over an image gives.
use Rattle.std.specs.Prelude.{ℕ, List, drop}
use Rattle.image.specs.declared.words.Words.{Words}
use Rattle.image.specs.Images.{image_words}

-- the words from the next one on
abbrev pub words_left : Words → List ℕ
words_left walk = drop walk.next (image_words walk.image.now)
