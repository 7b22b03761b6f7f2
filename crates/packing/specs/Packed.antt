-- What packing promises, in the words of the contract of `Image::open`.
use Rattle.std.specs.Prelude.{◌≡◌, ℕ, cond, List, Some, None, Ok, Err, Option, Result, ◌==◌, nat_lt}
use Rattle.image.specs.FirstRefusal.{refusal_of}
use Rattle.image.specs.Formats.{Format}
use Rattle.image.specs.Images.{bytes_words}
use Rattle.packing.specs.declared.error.PackError.{PackError}
use Rattle.packing.specs.declared.error.PackError.TheVariants.{NoWords, TooManyWords, OutOfMemory}

-- bytes in the format, which are opened and carry these words
pub record ImageOf (words bytes : List ℕ) : Type 0 where
  pub format : Format bytes
  pub carries : bytes_words bytes ≡ words
  pub opens : refusal_of bytes ≡ None

-- the refusal that so many words get, if any
abbrev pub refusal_for : ℕ → Option PackError
refusal_for count = cond (count == 0) (Some NoWords) (cond (nat_lt 8064 count) (Some TooManyWords) None)

-- the refusal that an answer brings, if any; want of memory is none
abbrev pub refused_by : {X : Type 0} → Result X PackError → Option PackError
refused_by (Ok x) = None
refused_by (Err NoWords) = Some NoWords
refused_by (Err TooManyWords) = Some TooManyWords
refused_by (Err OutOfMemory) = None
