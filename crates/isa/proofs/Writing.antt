-- A word that decodes has the values of its instruction in its fields.
use Rattle.std.proofs.Common.{◌≡◌, ℕ, ◌^◌, ◌<◌, true, cond, eqb, Some, None, refl, subst, arith}
use Rattle.std.proofs.lemmas.Int.{ints}
use Rattle.std.proofs.lemmas.Bool.{eqb-true, eqb-false}
use Rattle.std.proofs.lemmas.Bool.Decides.{nat_tests}
use Rattle.isa.proofs.Choosing.{then_back, cond_back, numbered_back, either_back}
use Rattle.isa.specs.Conditions.{condition_of, condition_number, conditions}
use Rattle.isa.specs.Decoding.{decoded, action_of, data_action, data_of, operand_of, transfer_of}
use Rattle.isa.specs.Encoding.{sound, immediate, operand_fields, action_fields, transfer_fields, fields_of}
use Rattle.isa.specs.Laws.{Reads}
use Rattle.isa.specs.Layout.{CONDITION, KIND, DATA, IMMEDIATE, OPCODE, SET, ROTATION, CONSTANT, SHIFT, RM, TRANSFER, LDR, STR, BRANCH, B, DISTANCE, field}
use Rattle.isa.specs.Operations.{operation_of, operation_number, operations, in_subset}
use Rattle.isa.specs.Registers.{register}
use Rattle.isa.specs.StatusFlags.{bit}
use Rattle.isa.specs.TwosComplement.{signed, low_bits, fits_signed}
use Rattle.isa.specs.declared.instruction.Operand.{Operand}
use Rattle.isa.specs.declared.instruction.Operand.TheVariants.{Constant, Register as InRegister}
use Rattle.isa.specs.declared.instruction.Action.{Action}
use Rattle.isa.specs.declared.instruction.Action.TheVariants.{Data, Load, Store, Branch}
use Rattle.isa.specs.declared.instruction.Instruction.{Instruction}

-- a one-bit field is the bit of the flag that it tells
flag_written : (n : ℕ) → n < 2 → n ≡ bit (eqb n 1)
flag_written n h = grind (arith, nat_tests)

-- what was found as the operand stands in the operand's fields
abbrev OperandStands : ℕ → Operand → Type 0
OperandStands word o = (field IMMEDIATE word ≡ immediate o) × Reads (operand_fields o) word

operand_written : (word : ℕ) (o : Operand) → operand_of word ≡ Some o → OperandStands word o
operand_written word o e =
    either_back (eqb (field IMMEDIATE word) 1)
    (cond (eqb (field ROTATION word) 0) (Some (Constant (field CONSTANT word))) None)
    (cond (eqb (field SHIFT word) 0) (Some (InRegister (register (field RM word)))) None)
    o e
    (λ t k.
    let b = cond_back (eqb (field ROTATION word) 0) (Constant (field CONSTANT word)) o k in
    subst (OperandStands word) b.1
    (eqb-true (field IMMEDIATE word) 1 t, (eqb-true (field ROTATION word) 0 b.0, (refl, tt))))
    (λ f k.
    let b = cond_back (eqb (field SHIFT word) 0) (InRegister (register (field RM word))) o k in
    let no = eqb-false (field IMMEDIATE word) 1 f in
    subst (OperandStands word) b.1
    (grind arith, (eqb-true (field SHIFT word) 0 b.0, (omega arith, tt))))

-- what a word was found to say is sound and stands in its fields
abbrev Stands : ℕ → Action → Type 0
Stands word a = (sound a ≡ true) × Reads (action_fields a) word

data_written : (word : ℕ) (a : Action) → field KIND word ≡ DATA → data_action word ≡ Some a → Stands word a
data_written word a k e =
    let p = then_back (operation_of (field OPCODE word)) _ a e in
    let q = then_back (operand_of word) _ a p.2 in
    let d = data_of word p.0 q.0 in
    let s = cond_back (in_subset d) (Data d) a q.2 in
    let o = operand_written word q.0 q.1 in
    let op = numbered_back operation_number operations (field OPCODE word) p.0 p.1 in
    subst (Stands word) s.1
    (s.0, (k, (o.0, (op, (flag_written (field SET word) (omega arith), (omega arith, (omega arith, o.1)))))))

transfer_written : (word code : ℕ) → field TRANSFER word ≡ code → Reads (transfer_fields code (transfer_of word)) word
transfer_written word code e = (e, (omega arith, (omega arith, (refl, tt))))

-- 24 bits are those of the integer that they stand for
distance_written : (n : ℕ) → n < 2 ^ 24 → (fits_signed 24 (signed 24 n) ≡ true) × (n ≡ low_bits 24 (signed 24 n))
distance_written n h = (grind (arith, nat_tests, ints), grind (arith, nat_tests, ints))

action_written : (word : ℕ) (a : Action) → action_of word ≡ Some a → Stands word a
action_written word a e =
    either_back (eqb (field KIND word) DATA) (data_action word) _ a e
    (λ t k. data_written word a (eqb-true (field KIND word) DATA t) k)
    (λ f k.
    either_back (eqb (field TRANSFER word) LDR) (Some (Load (transfer_of word))) _ a k
    (λ t l.
    let same : Load (transfer_of word) ≡ a = cc in
    subst (Stands word) same (refl, transfer_written word LDR (eqb-true (field TRANSFER word) LDR t)))
    (λ f l.
    either_back (eqb (field TRANSFER word) STR) (Some (Store (transfer_of word))) _ a l
    (λ t m.
    let same : Store (transfer_of word) ≡ a = cc in
    subst (Stands word) same (refl, transfer_written word STR (eqb-true (field TRANSFER word) STR t)))
    (λ f m.
    let b = cond_back (eqb (field BRANCH word) B) (Branch (signed 24 (field DISTANCE word))) a m in
    let d = distance_written (field DISTANCE word) (omega arith) in
    subst (Stands word) b.1 (d.0, (eqb-true (field BRANCH word) B b.0, (d.1, tt))))))

pub instruction_written :
    (word : ℕ) (i : Instruction) → decoded word ≡ Some i
    → (sound i.action ≡ true) × Reads (fields_of i) word
unfolding decoded
instruction_written word i e =
    let p = then_back (condition_of (field CONDITION word)) _ i e in
    let q = then_back (action_of word) _ i p.2 in
    let s = action_written word q.0 q.1 in
    let c = numbered_back condition_number conditions (field CONDITION word) p.0 p.1 in
    let same : record { condition = p.0; action = q.0 } ≡ i = cc in
    subst (λ j. (sound j.action ≡ true) × Reads (fields_of j) word) same (s.0, (c, s.1))
