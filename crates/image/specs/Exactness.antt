-- Opening refuses exactly the bytes that are not in the format, and each for its first fault.
use Rattle.std.specs.Prelude.{◌≡◌, ℕ, List, Some, None}
use Rattle.image.specs.declared.refusal.Refusal.{Refusal}
use Rattle.image.specs.FirstRefusal.{refusal_of}
use Rattle.image.specs.Formats.{AtFault, Format}

pub record RefusedExactly (bytes : List ℕ) : Type 0 where
  -- what is not refused is in the format, and what is in the format is not refused
  pub only_in_format : refusal_of bytes ≡ None → Format bytes
  pub all_in_format : Format bytes → refusal_of bytes ≡ None
  -- a refusal names the first fault, and the first fault is what is refused
  pub names_fault : (r : Refusal) → refusal_of bytes ≡ Some r → AtFault bytes r
  pub only_fault : (r : Refusal) → AtFault bytes r → refusal_of bytes ≡ Some r
