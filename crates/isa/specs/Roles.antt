-- What an instruction reads and writes, and the numbers that it carries.
use Rattle.std.specs.Prelude.{ℕ, Bool, false, ◌||◌, ℤ, pos, ◌*ℤ◌, Some, None, Option, ◌==◌}
use Rattle.isa.specs.Registers.{register}
use Rattle.isa.specs.TwosComplement.{low_bits}
use Rattle.isa.specs.declared.register.Register.{Register}
use Rattle.isa.specs.declared.operation.Operation.{Operation}
use Rattle.isa.specs.declared.operation.Operation.TheVariants.{And, Sub, Add, Cmp, Orr}
use Rattle.isa.specs.declared.instruction.Operand.{Operand}
use Rattle.isa.specs.declared.instruction.Operand.TheVariants.{Constant, Register as InRegister}
use Rattle.isa.specs.declared.instruction.Action.{Action}
use Rattle.isa.specs.declared.instruction.Action.TheVariants.{Data, Load, Store, Branch}

-- Rn, and R15 for a branch
abbrev pub first_source : Action → Register
first_source (Data d) = d.rn
first_source (Load t) = t.rn
first_source (Store t) = t.rn
first_source (Branch offset) = register 15

-- the register in bits 3:0, whether it is Rm or part of a number
abbrev pub low_register : Operand → Register
low_register (Constant k) = register k
low_register (InRegister rm) = rm

-- Rd of a store, and otherwise the register in bits 3:0
abbrev pub second_source : Action → Register
second_source (Data d) = low_register d.operand
second_source (Load t) = register t.offset
second_source (Store t) = t.rd
second_source (Branch offset) = register (low_bits 4 offset)

-- a comparison writes flags alone
abbrev pub written : Operation → Register → Option Register
written And rd = Some rd
written Sub rd = Some rd
written Add rd = Some rd
written Cmp rd = None
written Orr rd = Some rd

-- the register that the instruction writes when it is done
abbrev pub destination_of : Action → Option Register
destination_of (Data d) = written d.operation d.rd
destination_of (Load t) = Some t.rd
destination_of (Store t) = None
destination_of (Branch offset) = None

-- the number that a constant stands for
abbrev pub constant_value : ℕ → ℕ
constant_value k = k

-- the second operand, where Rm holds `rm`
abbrev pub operand_value : Operand → ℕ → ℕ
operand_value (Constant k) rm = constant_value k
operand_value (InRegister r) rm = rm

-- a branch counts words; its target is a sum of bytes, modulo 2 ^ 32
abbrev pub byte_offset : ℤ → ℕ
byte_offset offset = low_bits 32 (pos 4 *ℤ offset)

-- whether it is register 15 that is named
abbrev pub is_15 : Option Register → Bool
is_15 None = false
is_15 (Some r) = r.number == 15

-- whether the register is one of the two sources, used or not
abbrev pub is_source : Register → Action → Bool
is_source r action = r.number == (first_source action).number || r.number == (second_source action).number
