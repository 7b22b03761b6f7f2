-- A word as eight hexadecimal digits, of either case.
use Rattle.std.specs.Prelude.{ℕ, ◌+◌, ◌-◌, ◌*◌, cond, ◌&&◌, List, [], ◌∷◌, length, Some, None, Option, ◌==◌, nat_le}
use Rattle.isa.specs.Decoding.{and_then}

-- 0 to 9, a to f and A to F
abbrev pub digit_of : ℕ → Option ℕ
digit_of byte =
    cond (nat_le 48 byte && nat_le byte 57) (Some (byte - 48))
    (cond (nat_le 97 byte && nat_le byte 102) (Some (byte - 87))
    (cond (nat_le 65 byte && nat_le byte 70) (Some (byte - 55))
    None))

-- a number, with the digits of more bytes put after its own
abbrev pub number_on : ℕ → List ℕ → Option ℕ
number_on number [] = Some number
number_on number (byte ∷ bytes) = and_then (digit_of byte) (λ digit. number_on (number * 16 + digit) bytes)

-- None: the line is not a word
abbrev pub word_in : List ℕ → Option ℕ
word_in bytes = cond (length bytes == 8) (number_on 0 bytes) None
