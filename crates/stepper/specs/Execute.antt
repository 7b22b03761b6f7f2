-- What an instruction does once its operands are known. `first` is the value of Rn, and of register 15 for a branch;
-- `second` is the value of Rm, and of Rd for a store.
use Rattle.std.specs.Prelude.{ℕ, ◌+◌, ◌%◌, ◌^◌, cond, Some, None, Option}
use Rattle.isa.specs.Arithmetic.{result_of, flags_after}
use Rattle.isa.specs.Roles.{operand_value, byte_offset, written}
use Rattle.isa.specs.declared.flags.Flags.{Flags}
use Rattle.isa.specs.declared.register.Register.{Register}
use Rattle.isa.specs.declared.instruction.Action.{Action}
use Rattle.isa.specs.declared.instruction.Action.TheVariants.{Data, Load, Store, Branch}
use Rattle.stepper.specs.declared.execute.Work.{Work}
use Rattle.stepper.specs.declared.execute.Work.TheVariants.{Compare, Write, Load as ToLoad, Store as ToStore, Branch as ToBranch}

-- a value for a register, if one is named
abbrev pub to_write : Option Register → ℕ → Work
to_write None value = Compare
to_write (Some r) value = Write (record { register = r; value = value })

abbrev pub work_of : Action → ℕ → ℕ → Work
work_of (Data d) first second = to_write (written d.operation d.rd) (result_of d.operation first (operand_value d.operand second))
work_of (Load t) first second = ToLoad t.rd ((first + t.offset) % 2 ^ 32)
work_of (Store t) first second = ToStore (record { address = (first + t.offset) % 2 ^ 32; value = second })
work_of (Branch offset) first second = ToBranch ((first + byte_offset offset) % 2 ^ 32)

-- only data operations with S = 1 change the flags
abbrev pub flags_of : Action → ℕ → ℕ → Flags → Flags
flags_of (Data d) first second flags = cond d.set_flags (flags_after d.operation first (operand_value d.operand second) flags) flags
flags_of (Load t) first second flags = flags
flags_of (Store t) first second flags = flags
flags_of (Branch offset) first second flags = flags
