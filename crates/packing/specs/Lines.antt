-- A line of the text: which bytes may follow which, and the word that it has.
use Rattle.std.specs.Prelude.{ℕ, ◌+◌, ◌-◌, Bool, cond, ◌&&◌, ◌||◌, List, [], ◌∷◌, Some, None, Option, Ok, Err, Result, ◌==◌, nat_le}
use Rattle.packing.specs.Digits.{Written, more_digits}
use Rattle.packing.specs.declared.error.Reason.{Reason}
use Rattle.packing.specs.declared.error.Reason.TheVariants.{NotHex, TooLong, TwoWords}
use Rattle.packing.specs.declared.line.Kind.{Kind}
use Rattle.packing.specs.declared.line.Kind.TheVariants.{Digit, Blank, Hash, Other}
use Rattle.packing.specs.declared.line.Place.{Place}
use Rattle.packing.specs.declared.line.Place.TheVariants.{Before, Within, Behind, Comment}

-- a byte between two others
abbrev among : ℕ → ℕ → ℕ → Bool
among low high byte = nat_le low byte && nat_le byte high

-- 0 to 9, A to F and a to f are digits; space, tab and carriage return are blank
abbrev pub kind_of : ℕ → Kind
kind_of byte =
    cond (among 48 57 byte) (Digit (byte - 48))
    (cond (among 65 70 byte) (Digit (byte - 65 + 10))
    (cond (among 97 102 byte) (Digit (byte - 97 + 10))
    (cond (byte == 32 || (byte == 9 || byte == 13)) Blank
    (cond (byte == 35) Hash Other))))

-- inside a word, unless there is no room for the digit
abbrev pub on_within : Option Written → Result Place Reason
on_within (Some spelled) = Ok (Within spelled)
on_within None = Err TooLong

-- where the byte after this one stands, if this one may stand here
abbrev pub stepped : Place → Kind → Result Place Reason
stepped Before (Digit digit) = Ok (Within (record { word = digit; digits = 1 }))
stepped Before Blank = Ok Before
stepped Before Hash = Ok (Comment None)
stepped Before Other = Err NotHex
stepped (Within spelled) (Digit digit) = on_within (more_digits spelled digit)
stepped (Within spelled) Blank = Ok (Behind spelled.word)
stepped (Within spelled) Hash = Ok (Comment (Some spelled.word))
stepped (Within spelled) Other = Err NotHex
stepped (Behind word) (Digit digit) = Err TwoWords
stepped (Behind word) Blank = Ok (Behind word)
stepped (Behind word) Hash = Ok (Comment (Some word))
stepped (Behind word) Other = Err TwoWords
stepped (Comment word) kind = Ok (Comment word)

-- the word of a line that ends here, if it has one
abbrev pub line_word : Place → List ℕ
line_word Before = []
line_word (Within spelled) = spelled.word ∷ []
line_word (Behind word) = word ∷ []
line_word (Comment None) = []
line_word (Comment (Some word)) = word ∷ []
