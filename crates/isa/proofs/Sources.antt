-- The sources of an instruction stand in fields of its word.
use Rattle.std.proofs.Common.{◌≡◌, ℕ, ◌/◌, ◌%◌, ◌^◌, ℤ, pos, negsuc, sym, refl, ap, ◌∙◌, arith}
use Rattle.isa.proofs.Naming.{same_register, named}
use Rattle.isa.proofs.Writing.{instruction_written}
use Rattle.isa.specs.Encoding.{action_fields, operand_fields}
use Rattle.isa.specs.Laws.{Reads, first_field, second_field, SourcesStandInWords}
use Rattle.isa.specs.Layout.{RN, RD, RM, field}
use Rattle.isa.specs.Registers.{register}
use Rattle.isa.specs.Roles.{first_source, second_source, low_register}
use Rattle.isa.specs.TwosComplement.{low_bits}
use Rattle.isa.specs.declared.instruction.Action.{Action}
use Rattle.isa.specs.declared.instruction.Action.TheVariants.{Data, Load, Store, Branch}
use Rattle.isa.specs.declared.instruction.Operand.{Operand}
use Rattle.isa.specs.declared.instruction.Operand.TheVariants.{Constant, Register as InRegister}
use Rattle.isa.specs.declared.register.Register.{Register}

-- a register that a field has the number of
read_there : (r : Register) (value : ℕ) → value ≡ r.number → r ≡ register value
read_there r value e = sym (named r) ∙ ap register (sym e)

-- the low four bits of a longer field at the end of the word
low_end : (word value : ℕ) → value % 16 ≡ word % 16 → register value ≡ register (field RM word)
low_end word value e = same_register (register value) (register (field RM word)) (omega arith)

low_of_branch : (z : ℤ) (word : ℕ) → word / 2 ^ 0 % 2 ^ 24 ≡ low_bits 24 z → low_bits 4 z % 16 ≡ word % 16
low_of_branch (pos n) word e = omega arith
low_of_branch (negsuc n) word e = omega arith

second_operand : (o : Operand) (word : ℕ) → Reads (operand_fields o) word → low_register o ≡ register (field RM word)
second_operand (Constant k) word r = low_end word k (omega (arith, r.1.0))
second_operand (InRegister rm) word r = read_there rm (field RM word) r.1.0

in_action : (a : Action) (word : ℕ) → Reads (action_fields a) word → (first_source a ≡ first_field a word) × (second_source a ≡ second_field a word)
in_action (Data d) word r = (read_there d.rn (field RN word) r.1.1.1.1.0, second_operand d.operand word r.1.1.1.1.1.1)
in_action (Load t) word r = (read_there t.rn (field RN word) r.1.0, low_end word t.offset (omega (arith, r.1.1.1.0)))
in_action (Store t) word r = (read_there t.rn (field RN word) r.1.0, read_there t.rd (field RD word) r.1.1.0)
in_action (Branch z) word r = (refl, low_end word (low_bits 4 z) (low_of_branch z word r.1.0))

pub sources_stand_in_words : SourcesStandInWords
sources_stand_in_words word i e = in_action i.action word (instruction_written word i e).1.1
