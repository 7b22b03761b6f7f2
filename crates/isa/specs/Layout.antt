-- Where the fields of an instruction word stand: the one list of places.
use Rattle.std.specs.Prelude.{ℕ, ◌+◌, ◌*◌, ◌/◌, ◌%◌, ◌^◌, Bool, true, ◌&&◌, List, [], ◌∷◌, nat_lt}
use Rattle.isa.specs.declared.fields.Field.{Field}

-- the field of `width` bits of which the lowest is bit `low`
abbrev pub at : ℕ → ℕ → Field
at low width = record { low = low; width = width }

-- every instruction, 31:28
abbrev pub CONDITION : Field
CONDITION = at 28 4

-- data processing: 27:26 are 00, 25 is I, 24:21 the operation, 20 is S, 19:16 Rn, 15:12 Rd
abbrev pub KIND : Field
KIND = at 26 2

abbrev pub DATA : ℕ
DATA = 0

abbrev pub IMMEDIATE : Field
IMMEDIATE = at 25 1

abbrev pub OPCODE : Field
OPCODE = at 21 4

abbrev pub SET : Field
SET = at 20 1

abbrev pub RN : Field
RN = at 16 4

abbrev pub RD : Field
RD = at 12 4

-- with I = 1: 11:8 are 0, 7:0 the constant
abbrev pub ROTATION : Field
ROTATION = at 8 4

abbrev pub CONSTANT : Field
CONSTANT = at 0 8

-- with I = 0: 11:4 are 0, 3:0 Rm
abbrev pub SHIFT : Field
SHIFT = at 4 8

abbrev pub RM : Field
RM = at 0 4

-- load and store: 27:20 tell which, 19:16 Rn, 15:12 Rd, 11:0 the offset
abbrev pub TRANSFER : Field
TRANSFER = at 20 8

abbrev pub LDR : ℕ
LDR = 0x59

abbrev pub STR : ℕ
STR = 0x58

abbrev pub OFFSET : Field
OFFSET = at 0 12

-- branch: 27:24 are 0xA, 23:0 a signed count of words
abbrev pub BRANCH : Field
BRANCH = at 24 4

abbrev pub B : ℕ
B = 0xA

abbrev pub DISTANCE : Field
DISTANCE = at 0 24

-- the value that a word has in a field
abbrev pub field : Field → ℕ → ℕ
field f word = word / 2 ^ f.low % 2 ^ f.width

-- what a value in a field adds to the word
abbrev pub placed : Field → ℕ → ℕ
placed f value = value * 2 ^ f.low

-- the fields of a word and their values, from the highest bit to the lowest
abbrev pub Fields : Type 0
Fields = List (Field × ℕ)

-- the word that has these values in its fields
abbrev pub assembled : Fields → ℕ
assembled [] = 0
assembled ((f, value) ∷ fs) = placed f value + assembled fs

-- each value has room in its field
abbrev pub fit : Fields → Bool
fit [] = true
fit ((f, value) ∷ fs) = nat_lt value (2 ^ f.width) && fit fs
