-- The text of an instruction at an address, in the manual's syntax. A text is its bytes.
use Rattle.std.specs.Prelude.{ℕ, ◌+◌, ◌%◌, ◌^◌, cond, List, [], ◌∷◌, ◌++◌, ℤ, Some, None, Option, codes, decimal, ◌==◌}
use Rattle.isa.specs.Hexadecimal.{hex_text}
use Rattle.isa.specs.Roles.{byte_offset}
use Rattle.isa.specs.declared.assembly.Assembly.{Assembly}
use Rattle.isa.specs.declared.condition.Condition.{Condition}
use Rattle.isa.specs.declared.condition.Condition.TheVariants.{Eq, Ne, Cs, Cc, Mi, Pl, Vs, Vc, Hi, Ls, Ge, Lt, Gt, Le, Al}
use Rattle.isa.specs.declared.operation.Operation.{Operation}
use Rattle.isa.specs.declared.operation.Operation.TheVariants.{And, Sub, Add, Cmp, Orr}
use Rattle.isa.specs.declared.register.Register.{Register}
use Rattle.isa.specs.declared.instruction.Instruction.{Instruction}
use Rattle.isa.specs.declared.instruction.Operand.{Operand}
use Rattle.isa.specs.declared.instruction.Operand.TheVariants.{Constant, Register as InRegister}
use Rattle.isa.specs.declared.instruction.DataProcessing.{DataProcessing}
use Rattle.isa.specs.declared.instruction.Transfer.{Transfer}
use Rattle.isa.specs.declared.instruction.Action.{Action}
use Rattle.isa.specs.declared.instruction.Action.TheVariants.{Data, Load, Store, Branch}

abbrev pub condition_text : Condition → List ℕ
condition_text Eq = codes "EQ"
condition_text Ne = codes "NE"
condition_text Cs = codes "CS"
condition_text Cc = codes "CC"
condition_text Mi = codes "MI"
condition_text Pl = codes "PL"
condition_text Vs = codes "VS"
condition_text Vc = codes "VC"
condition_text Hi = codes "HI"
condition_text Ls = codes "LS"
condition_text Ge = codes "GE"
condition_text Lt = codes "LT"
condition_text Gt = codes "GT"
condition_text Le = codes "LE"
condition_text Al = []

abbrev pub operation_text : Operation → List ℕ
operation_text And = codes "AND"
operation_text Sub = codes "SUB"
operation_text Add = codes "ADD"
operation_text Cmp = codes "CMP"
operation_text Orr = codes "ORR"

abbrev pub register_text : Register → List ℕ
register_text r = codes "R" ++ decimal r.number

abbrev pub constant_text : ℕ → List ℕ
constant_text k = codes "#" ++ decimal k

abbrev pub operand_text : Operand → List ℕ
operand_text (Constant k) = constant_text k
operand_text (InRegister rm) = register_text rm

-- pieces of text, one after another
abbrev pub line : List (List ℕ) → List ℕ
line [] = []
line (x ∷ []) = x
line (x ∷ y ∷ ys) = x ++ line (y ∷ ys)

-- Rd, Rn and the operand; S stands before the condition
abbrev pub three_text : List ℕ → DataProcessing → List ℕ
three_text suffix d =
    line (operation_text d.operation ∷ cond d.set_flags (codes "S") [] ∷ suffix ∷ codes " " ∷ register_text d.rd ∷ codes ", "
    ∷ register_text d.rn ∷ codes ", " ∷ operand_text d.operand ∷ [])

-- CMP has no Rd, and sets the flags unsaid
abbrev pub two_text : List ℕ → DataProcessing → List ℕ
two_text suffix d =
    line (operation_text d.operation ∷ suffix ∷ codes " " ∷ register_text d.rn ∷ codes ", " ∷ operand_text d.operand ∷ [])

abbrev pub data_text : Operation → List ℕ → DataProcessing → List ℕ
data_text And suffix d = three_text suffix d
data_text Sub suffix d = three_text suffix d
data_text Add suffix d = three_text suffix d
data_text Cmp suffix d = two_text suffix d
data_text Orr suffix d = three_text suffix d

-- an offset of 0 is left out
abbrev pub transfer_text : Transfer → List ℕ
transfer_text t =
    cond (t.offset == 0)
    (line (register_text t.rd ∷ codes ", [" ∷ register_text t.rn ∷ codes "]" ∷ []))
    (line (register_text t.rd ∷ codes ", [" ∷ register_text t.rn ∷ codes ", #" ∷ decimal t.offset ∷ codes "]" ∷ []))

-- a branch names its target: it starts from its own address and 8
abbrev pub branch_target : ℕ → ℤ → ℕ
branch_target address offset = (address + 8 + byte_offset offset) % 2 ^ 32

abbrev pub action_text : ℕ → List ℕ → Action → List ℕ
action_text address suffix (Data d) = data_text d.operation suffix d
action_text address suffix (Load t) = line (codes "LDR" ∷ suffix ∷ codes " " ∷ transfer_text t ∷ [])
action_text address suffix (Store t) = line (codes "STR" ∷ suffix ∷ codes " " ∷ transfer_text t ∷ [])
action_text address suffix (Branch offset) =
    line (codes "B" ∷ suffix ∷ codes " 0x" ∷ hex_text (branch_target address offset) ∷ [])

abbrev pub assembly_text : Assembly → List ℕ
assembly_text a = action_text a.address (condition_text a.instruction.condition) a.instruction.action

-- an instruction at an address, or a dash
abbrev pub or_dash : ℕ → Option Instruction → List ℕ
or_dash address None = codes "-"
or_dash address (Some i) = assembly_text (record { address = address; instruction = i })
