-- What holds of the fields of any word, and of decoding and encoding as a whole.
use Rattle.std.specs.Prelude.{◌≡◌, ℕ, ◌+◌, ◌^◌, ◌<◌, Bool, true, ◌&&◌, [], ◌∷◌, Some, Ok, ◌==◌}
use Rattle.isa.specs.Decoding.{decoded}
use Rattle.isa.specs.Encoding.{encoded}
use Rattle.isa.specs.Layout.{Fields, RN, RD, RM, field, fit, assembled}
use Rattle.isa.specs.Registers.{register}
use Rattle.isa.specs.Roles.{first_source, second_source}
use Rattle.isa.specs.declared.instruction.Action.{Action}
use Rattle.isa.specs.declared.instruction.Action.TheVariants.{Data, Load, Store, Branch}
use Rattle.isa.specs.declared.instruction.Instruction.{Instruction}
use Rattle.isa.specs.declared.register.Register.{Register}

-- the fields lie side by side, from below bit `top` down to bit 0
abbrev pub tiles : ℕ → Fields → Bool
tiles top [] = top == 0
tiles top ((f, value) ∷ fs) = f.low + f.width == top && tiles f.low fs

-- a word has these values in its fields
abbrev pub Reads : Fields → ℕ → Type 0
Reads [] word = Unit {0}
Reads ((f, value) ∷ fs) word = (field f word ≡ value) × Reads fs word

-- values that have room are read back from the word that is made of them
abbrev pub FieldsReturn : Type 0
FieldsReturn =
    (top : ℕ) (fields : Fields) → tiles top fields ≡ true → fit fields ≡ true
    → (assembled fields < 2 ^ top) × Reads fields (assembled fields)

-- and a word is made of the values that are read from it
abbrev pub WordsAreFields : Type 0
WordsAreFields =
    (top : ℕ) (fields : Fields) (word : ℕ) → tiles top fields ≡ true → word < 2 ^ top
    → Reads fields word → assembled fields ≡ word

-- a word that decodes is the word of what it decodes to
abbrev pub WordsReturn : Type 0
WordsReturn = (word : ℕ) (i : Instruction) → word < 2 ^ 32 → decoded word ≡ Some i → encoded i ≡ Ok word

-- an instruction that has a word is what the word decodes to
abbrev pub InstructionsReturn : Type 0
InstructionsReturn =
    (i : Instruction) (word : ℕ) → encoded i ≡ Ok word → (word < 2 ^ 32) × (decoded word ≡ Some i)

-- where the sources of an instruction stand in its word: Rn and bits 3:0, but Rd for the second source of a store; a
-- branch has register 15 for its first
abbrev pub first_field : Action → ℕ → Register
first_field (Data d) word = register (field RN word)
first_field (Load t) word = register (field RN word)
first_field (Store t) word = register (field RN word)
first_field (Branch offset) word = register 15

abbrev pub second_field : Action → ℕ → Register
second_field (Data d) word = register (field RM word)
second_field (Load t) word = register (field RM word)
second_field (Store t) word = register (field RD word)
second_field (Branch offset) word = register (field RM word)

abbrev pub SourcesStandInWords : Type 0
SourcesStandInWords =
    (word : ℕ) (i : Instruction) → decoded word ≡ Some i
    → (first_source i.action ≡ first_field i.action word) × (second_source i.action ≡ second_field i.action word)
