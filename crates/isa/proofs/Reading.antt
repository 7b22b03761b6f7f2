-- A word whose fields have an instruction's values decodes to the instruction.
use Rattle.std.proofs.Common.{◌≡◌, ℕ, Bool, true, false, eqb, ℤ, pos, negsuc, Some, ap, ◌∙◌, arith}
use Rattle.std.proofs.lemmas.Int.{ints}
use Rattle.std.proofs.lemmas.Bool.{cond-true, cond-false, eq-eqb, ne_eqb}
use Rattle.std.proofs.lemmas.Bool.Decides.{nat_tests}
use Rattle.isa.proofs.Choosing.{then_on}
use Rattle.isa.proofs.Naming.{named}
use Rattle.isa.specs.Conditions.{condition_of}
use Rattle.isa.specs.Decoding.{decoded, action_of, data_of, if_in_subset, operand_of, transfer_of}
use Rattle.isa.specs.Encoding.{sound, immediate, operand_fields, action_fields, transfer_fields, data_fields, fields_of}
use Rattle.isa.specs.Laws.{Reads}
use Rattle.isa.specs.Layout.{CONDITION, KIND, DATA, IMMEDIATE, OPCODE, SET, RN, RD, ROTATION, SHIFT, RM, TRANSFER, LDR, STR, BRANCH, B, field}
use Rattle.isa.specs.Operations.{operation_of, in_subset}
use Rattle.isa.specs.Registers.{register}
use Rattle.isa.specs.StatusFlags.{bit}
use Rattle.isa.specs.TwosComplement.{signed, low_bits, fits_signed}
use Rattle.isa.specs.Found.{condition_found, operation_found}
use Rattle.isa.specs.declared.fields.Field.{Field}
use Rattle.isa.specs.declared.register.Register.{Register}
use Rattle.isa.specs.declared.instruction.Operand.{Operand}
use Rattle.isa.specs.declared.instruction.Operand.TheVariants.{Constant, Register as InRegister}
use Rattle.isa.specs.declared.instruction.DataProcessing.{DataProcessing}
use Rattle.isa.specs.declared.instruction.Transfer.{Transfer}
use Rattle.isa.specs.declared.instruction.Action.{Action}
use Rattle.isa.specs.declared.instruction.Action.TheVariants.{Data, Load, Store, Branch}
use Rattle.isa.specs.declared.instruction.Instruction.{Instruction}

-- a register's number in a field names the register
register_read : (f : Field) (a : Register) (word : ℕ) → field f word ≡ a.number → register (field f word) ≡ a
register_read f a word e = ap register e ∙ named a

-- a flag's bit tells the flag
flag_read : (b : Bool) (n : ℕ) → n ≡ bit b → eqb n 1 ≡ b
flag_read true n e = ap (λ m. eqb m 1) e
flag_read false n e = ap (λ m. eqb m 1) e

operand_read :
    (o : Operand) (word : ℕ) → field IMMEDIATE word ≡ immediate o → Reads (operand_fields o) word
    → operand_of word ≡ Some o
operand_read (Constant k) word i r =
    cond-true (eqb (field IMMEDIATE word) 1) _ _ (eq-eqb (field IMMEDIATE word) 1 i)
    ∙ cond-true (eqb (field ROTATION word) 0) _ _ (eq-eqb (field ROTATION word) 0 r.0)
    ∙ ap (λ n. Some (Constant n)) r.1.0
operand_read (InRegister rm) word i r =
    cond-false (eqb (field IMMEDIATE word) 1) _ _ (ne_eqb (field IMMEDIATE word) 1 (λ e. omega arith))
    ∙ cond-true (eqb (field SHIFT word) 0) _ _ (eq-eqb (field SHIFT word) 0 r.0)
    ∙ ap (λ a. Some (InRegister a)) (register_read RM rm word r.1.0)

data_read : (d : DataProcessing) (word : ℕ) → in_subset d ≡ true → Reads (data_fields d) word → action_of word ≡ Some (Data d)
data_read d word f r =
    let i = r.1 in
    let o = i.1 in
    let s = o.1 in
    let n = s.1 in
    let t = n.1 in
    let set = flag_read d.set_flags (field SET word) s.0 in
    let rn = register_read RN d.rn word n.0 in
    let rd = register_read RD d.rd word t.0 in
    let made : data_of word d.operation d.operand ≡ d =
    λ j. record { operation = d.operation; set_flags = set j; rn = rn j; rd = rd j; operand = d.operand } in
    cond-true (eqb (field KIND word) DATA) _ _ (eq-eqb (field KIND word) DATA r.0)
    ∙ then_on (operation_of (field OPCODE word)) d.operation _ (ap operation_of o.0 ∙ operation_found d.operation)
    ∙ then_on (operand_of word) d.operand _ (operand_read d.operand word i.0 t.1)
    ∙ ap if_in_subset made
    ∙ cond-true (in_subset d) _ _ f

transfer_read :
    (code : ℕ) (t : Transfer) (word : ℕ) → Reads (transfer_fields code t) word
    → (field TRANSFER word ≡ code) × (transfer_of word ≡ t)
transfer_read code t word r =
    let n = r.1 in
    let d = n.1 in
    let o = d.1 in
    let rn = register_read RN t.rn word n.0 in
    let rd = register_read RD t.rd word d.0 in
    (r.0, λ j. record { rn = rn j; rd = rd j; offset = o.0 j })

load_read : (t : Transfer) (word : ℕ) → Reads (transfer_fields LDR t) word → action_of word ≡ Some (Load t)
load_read t word r =
    let p = transfer_read LDR t word r in
    let c = p.0 in
    cond-false (eqb (field KIND word) DATA) _ _ (ne_eqb (field KIND word) DATA (λ e. omega arith))
    ∙ cond-true (eqb (field TRANSFER word) LDR) _ _ (eq-eqb (field TRANSFER word) LDR c)
    ∙ ap (λ u. Some (Load u)) p.1

store_read : (t : Transfer) (word : ℕ) → Reads (transfer_fields STR t) word → action_of word ≡ Some (Store t)
store_read t word r =
    let p = transfer_read STR t word r in
    let c = p.0 in
    cond-false (eqb (field KIND word) DATA) _ _ (ne_eqb (field KIND word) DATA (λ e. omega arith))
    ∙ cond-false (eqb (field TRANSFER word) LDR) _ _ (ne_eqb (field TRANSFER word) LDR (λ e. omega arith))
    ∙ cond-true (eqb (field TRANSFER word) STR) _ _ (eq-eqb (field TRANSFER word) STR c)
    ∙ ap (λ u. Some (Store u)) p.1

-- an integer of 24 bits is read back from them
distance_read : (z : ℤ) → fits_signed 24 z ≡ true → signed 24 (low_bits 24 z) ≡ z
distance_read (pos n) f = grind (arith, nat_tests)
distance_read (negsuc n) f = grind (arith, nat_tests, ints)

branch_read : (z : ℤ) (word : ℕ) → fits_signed 24 z ≡ true → Reads (action_fields (Branch z)) word → action_of word ≡ Some (Branch z)
branch_read z word f r =
    let c = r.0 in
    cond-false (eqb (field KIND word) DATA) _ _ (ne_eqb (field KIND word) DATA (λ e. omega arith))
    ∙ cond-false (eqb (field TRANSFER word) LDR) _ _ (ne_eqb (field TRANSFER word) LDR (λ e. omega arith))
    ∙ cond-false (eqb (field TRANSFER word) STR) _ _ (ne_eqb (field TRANSFER word) STR (λ e. omega arith))
    ∙ cond-true (eqb (field BRANCH word) B) _ _ (eq-eqb (field BRANCH word) B c)
    ∙ ap (λ n. Some (Branch (signed 24 n))) r.1.0
    ∙ ap (λ u. Some (Branch u)) (distance_read z f)

action_read : (a : Action) (word : ℕ) → sound a ≡ true → Reads (action_fields a) word → action_of word ≡ Some a
action_read (Data d) word s r = data_read d word s r
action_read (Load t) word s r = load_read t word r
action_read (Store t) word s r = store_read t word r
action_read (Branch z) word s r = branch_read z word s r

pub instruction_read :
    (i : Instruction) (word : ℕ) → sound i.action ≡ true → Reads (fields_of i) word → decoded word ≡ Some i
unfolding decoded
instruction_read i word s r =
    then_on (condition_of (field CONDITION word)) i.condition _
    (ap condition_of r.0 ∙ condition_found i.condition)
    ∙ then_on (action_of word) i.action _ (action_read i.action word s r.1)
