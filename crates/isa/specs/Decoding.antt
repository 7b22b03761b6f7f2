-- What a word means.
use Rattle.std.specs.Prelude.{ℕ, cond, Some, None, Option, ◌==◌}
use Rattle.isa.specs.Conditions.{condition_of}
use Rattle.isa.specs.Layout.{CONDITION, KIND, DATA, IMMEDIATE, OPCODE, SET, RN, RD, ROTATION, CONSTANT, SHIFT, RM, TRANSFER, LDR, STR, OFFSET, BRANCH, B, DISTANCE, field}
use Rattle.isa.specs.Operations.{operation_of, in_subset}
use Rattle.isa.specs.Registers.{register}
use Rattle.isa.specs.TwosComplement.{signed}
use Rattle.isa.specs.declared.operation.Operation.{Operation}
use Rattle.isa.specs.declared.instruction.Operand.{Operand}
use Rattle.isa.specs.declared.instruction.Operand.TheVariants.{Constant, Register as InRegister}
use Rattle.isa.specs.declared.instruction.DataProcessing.{DataProcessing}
use Rattle.isa.specs.declared.instruction.Transfer.{Transfer}
use Rattle.isa.specs.declared.instruction.Action.{Action}
use Rattle.isa.specs.declared.instruction.Action.TheVariants.{Data, Load, Store, Branch}
use Rattle.isa.specs.declared.instruction.Instruction.{Instruction}

-- go on with what was found
abbrev pub and_then : {X Y : Type 0} → Option X → (X → Option Y) → Option Y
and_then None next = None
and_then (Some x) next = next x

abbrev pub operand_of : ℕ → Option Operand
operand_of word =
    cond (field IMMEDIATE word == 1)
    (cond (field ROTATION word == 0) (Some (Constant (field CONSTANT word))) None)
    (cond (field SHIFT word == 0) (Some (InRegister (register (field RM word)))) None)

abbrev pub data_of : ℕ → Operation → Operand → DataProcessing
data_of word operation operand =
    record {
      operation = operation;
      set_flags = (field SET word == 1);
      rn = register (field RN word);
      rd = register (field RD word);
      operand = operand;
    }

-- data processing, if the subset has it
abbrev pub if_in_subset : DataProcessing → Option Action
if_in_subset d = cond (in_subset d) (Some (Data d)) None

abbrev pub data_action : ℕ → Option Action
data_action word =
    and_then (operation_of (field OPCODE word)) (λ operation.
    and_then (operand_of word) (λ operand.
    if_in_subset (data_of word operation operand)))

abbrev pub transfer_of : ℕ → Transfer
transfer_of word =
    record { rn = register (field RN word); rd = register (field RD word); offset = field OFFSET word }

abbrev pub action_of : ℕ → Option Action
action_of word =
    cond (field KIND word == DATA) (data_action word)
    (cond (field TRANSFER word == LDR) (Some (Load (transfer_of word)))
    (cond (field TRANSFER word == STR) (Some (Store (transfer_of word)))
    (cond (field BRANCH word == B) (Some (Branch (signed 24 (field DISTANCE word))))
    None)))

-- None: the word is outside the subset
unfoldable pub decoded : ℕ → Option Instruction
decoded word =
    and_then (condition_of (field CONDITION word)) (λ condition.
    and_then (action_of word) (λ action.
    Some (record { condition = condition; action = action })))
