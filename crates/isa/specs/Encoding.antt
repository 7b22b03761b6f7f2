-- The word of an instruction.
use Rattle.std.specs.Prelude.{ℕ, Bool, true, cond, ◌&&◌, [], ◌∷◌, Ok, Err, Result}
use Rattle.isa.specs.Conditions.{condition_number}
use Rattle.isa.specs.Layout.{CONDITION, KIND, DATA, IMMEDIATE, OPCODE, SET, RN, RD, ROTATION, CONSTANT, SHIFT, RM, TRANSFER, LDR, STR, OFFSET, BRANCH, B, DISTANCE, Fields, assembled, fit}
use Rattle.isa.specs.Operations.{operation_number, in_subset}
use Rattle.isa.specs.StatusFlags.{bit}
use Rattle.isa.specs.TwosComplement.{low_bits, fits_signed}
use Rattle.isa.specs.declared.instruction.Operand.{Operand}
use Rattle.isa.specs.declared.instruction.Operand.TheVariants.{Constant, Register as InRegister}
use Rattle.isa.specs.declared.instruction.DataProcessing.{DataProcessing}
use Rattle.isa.specs.declared.instruction.Transfer.{Transfer}
use Rattle.isa.specs.declared.instruction.Action.{Action}
use Rattle.isa.specs.declared.instruction.Action.TheVariants.{Data, Load, Store, Branch}
use Rattle.isa.specs.declared.instruction.Instruction.{Instruction}
use Rattle.isa.specs.declared.encode.NoWord.{NoWord}

abbrev pub immediate : Operand → ℕ
immediate (Constant k) = 1
immediate (InRegister rm) = 0

abbrev pub operand_fields : Operand → Fields
operand_fields (Constant k) = (ROTATION, 0) ∷ (CONSTANT, k) ∷ []
operand_fields (InRegister rm) = (SHIFT, 0) ∷ (RM, rm.number) ∷ []

abbrev pub data_fields : DataProcessing → Fields
data_fields d =
    (KIND, DATA) ∷ (IMMEDIATE, immediate d.operand) ∷ (OPCODE, operation_number d.operation)
    ∷ (SET, bit d.set_flags) ∷ (RN, d.rn.number) ∷ (RD, d.rd.number) ∷ operand_fields d.operand

abbrev pub transfer_fields : ℕ → Transfer → Fields
transfer_fields code t = (TRANSFER, code) ∷ (RN, t.rn.number) ∷ (RD, t.rd.number) ∷ (OFFSET, t.offset) ∷ []

abbrev pub action_fields : Action → Fields
action_fields (Data d) = data_fields d
action_fields (Load t) = transfer_fields LDR t
action_fields (Store t) = transfer_fields STR t
action_fields (Branch offset) = (BRANCH, B) ∷ (DISTANCE, low_bits 24 offset) ∷ []

-- what has to hold apart from the room in the fields
abbrev pub sound : Action → Bool
sound (Data d) = in_subset d
sound (Load t) = true
sound (Store t) = true
sound (Branch offset) = fits_signed 24 offset

abbrev pub has_word : Action → Bool
has_word action = sound action && fit (action_fields action)

abbrev pub fields_of : Instruction → Fields
fields_of i = (CONDITION, condition_number i.condition) ∷ action_fields i.action

unfoldable pub encoded : Instruction → Result ℕ NoWord
encoded i = cond (has_word i.action) (Ok (assembled (fields_of i))) (Err (record {}))
