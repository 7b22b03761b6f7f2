-- What is said of each refusal. A text is its bytes.
use Rattle.std.specs.Prelude.{ℕ, List, ◌++◌, codes, decimal}
use Rattle.packing.specs.declared.error.PackError.{PackError}
use Rattle.packing.specs.declared.error.PackError.TheVariants.{NoWords, TooManyWords, OutOfMemory}
use Rattle.packing.specs.declared.error.Reason.{Reason}
use Rattle.packing.specs.declared.error.Reason.TheVariants.{NotHex, TooLong, TwoWords}
use Rattle.packing.specs.declared.error.TextError.{TextError}
use Rattle.packing.specs.declared.error.TextError.TheVariants.{Fault, OutOfMemory as NoMemory}
use Rattle.packing.specs.declared.error.TextFault.{TextFault}

abbrev pub reason_message : Reason → List ℕ
reason_message NotHex = codes "not a hexadecimal digit"
reason_message TooLong = codes "more than eight digits"
reason_message TwoWords = codes "something other than a comment behind the word"

abbrev pub fault_message : TextFault → List ℕ
fault_message fault = codes "line " ++ (decimal fault.line ++ (codes ": " ++ reason_message fault.reason))

abbrev pub text_message : TextError → List ℕ
text_message (Fault fault) = fault_message fault
text_message NoMemory = codes "no memory"

abbrev pub pack_message : PackError → List ℕ
pack_message NoWords = codes "no words"
pack_message TooManyWords = codes "more than " ++ (decimal 8064 ++ codes " words")
pack_message OutOfMemory = codes "no memory"
