-- The words of a text, or the first line that is refused.
use Rattle.std.specs.Prelude.{◌≡◌, ℕ, ◌+◌, cond, List, [], ◌∷◌, ◌++◌, Ok, Err, vec_items, Result, Vec, ◌==◌}
use Rattle.std.specs.declared.alloc.Global.{Global}
use Rattle.packing.specs.declared.error.Reason.{Reason}
use Rattle.packing.specs.declared.error.TextError.{TextError}
use Rattle.packing.specs.declared.error.TextError.TheVariants.{Fault, OutOfMemory}
use Rattle.packing.specs.declared.error.TextFault.{TextFault}
use Rattle.packing.specs.declared.line.Place.{Place}
use Rattle.packing.specs.declared.line.Place.TheVariants.{Before}
use Rattle.packing.specs.declared.reading.Reading.{Reading}
use Rattle.packing.specs.Lines.{kind_of, line_word, stepped}

-- inside a line: the next place, or the line's number, counted from 1, and the reason
abbrev pub in_line : ℕ → Result Place Reason → Result Reading TextFault
in_line ended (Ok place) = Ok (record { ended = ended; place = place })
in_line ended (Err reason) = Err (record { line = ended + 1; reason = reason })

-- where the byte after this one stands: a line feed ends the line, whatever it has
abbrev pub advanced : Reading → ℕ → Result Reading TextFault
advanced reading byte =
    cond (byte == 10) (Ok (record { ended = reading.ended + 1; place = Before }))
    (in_line reading.ended (stepped reading.place (kind_of byte)))

-- the word of the line that this byte ends, if it ends one that has a word
abbrev pub ended_word : Reading → ℕ → List ℕ
ended_word reading byte = cond (byte == 10) (line_word reading.place) []

abbrev pub and_then : Result Reading TextFault → (Reading → Result (List ℕ) TextFault) → Result (List ℕ) TextFault
and_then (Ok reading) rest = rest reading
and_then (Err fault) rest = Err fault

-- the words so far and those of the bytes to come; the end of the text ends its last line
abbrev pub read_on : List ℕ → Reading → List ℕ → Result (List ℕ) TextFault
read_on words reading [] = Ok (words ++ line_word reading.place)
read_on words reading (byte ∷ bytes) =
    and_then (advanced reading byte) (λ next. read_on (words ++ ended_word reading byte) next bytes)

abbrev pub words_of : List ℕ → Result (List ℕ) TextFault
words_of text = read_on [] (record { ended = 0; place = Before }) text

-- an answer says what the text gives, unless memory ran out
abbrev pub Answers : Result (List ℕ) TextFault → Result (Vec ℕ Global) TextError → Type 0
Answers given (Ok words) = given ≡ Ok (vec_items words)
Answers given (Err (Fault fault)) = given ≡ Err fault
Answers given (Err OutOfMemory) = Unit {0}
