-- The refusals: how users know each, and what is printed of it.
use Rattle.std.specs.Prelude.{ℕ, List, ◌++◌, codes, decimal}
use Rattle.image.specs.declared.refusal.OpenError.{OpenError}
use Rattle.image.specs.declared.refusal.OpenError.TheVariants.{Refused, OutOfMemory}
use Rattle.image.specs.declared.refusal.Refusal.{Refusal}
use Rattle.image.specs.declared.refusal.Refusal.TheVariants.{Length, Check, Place, Count, Filler}

abbrev pub refusal_number : Refusal → ℕ
refusal_number Length = 1
refusal_number (Check i) = 2
refusal_number (Place i) = 3
refusal_number (Count i) = 4
refusal_number (Filler i) = 5

-- the place of the block at fault, and 0 where it is the length
abbrev pub refusal_place : Refusal → ℕ
refusal_place Length = 0
refusal_place (Check i) = i
refusal_place (Place i) = i
refusal_place (Count i) = i
refusal_place (Filler i) = i

-- a text is its bytes
abbrev pub refusal_text : Refusal → List ℕ
refusal_text r = codes "image " ++ (decimal (refusal_number r) ++ (codes " " ++ decimal (refusal_place r)))

abbrev pub error_text : OpenError → List ℕ
error_text (Refused r) = refusal_text r
error_text OutOfMemory = codes "no memory for the image"
