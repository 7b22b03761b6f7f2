-- Decoding and encoding undo each other.
use Rattle.std.proofs.Common.{◌≡◌, ℕ, ◌^◌, ◌<◌, Bool, true, false, cond, ltb, Some, Ok, Err, refl, ap, ◌∙◌, subst, arith}
use Rattle.std.proofs.lemmas.Bool.{and_parts, and_from, cond-true}
use Rattle.isa.proofs.Reading.{instruction_read}
use Rattle.isa.proofs.Tiling.{fields_return, words_are_fields, read_fit}
use Rattle.isa.proofs.Writing.{instruction_written}
use Rattle.isa.specs.Conditions.{condition_number}
use Rattle.isa.specs.Decoding.{decoded}
use Rattle.isa.specs.Encoding.{encoded, has_word, sound, operand_fields, action_fields, fields_of}
use Rattle.isa.specs.Laws.{tiles, WordsReturn, InstructionsReturn}
use Rattle.isa.specs.Layout.{fit, assembled}
use Rattle.isa.specs.declared.condition.Condition.{Condition}
use Rattle.isa.specs.declared.condition.Condition.TheVariants.{Eq, Ne, Cs, Cc, Mi, Pl, Vs, Vc, Hi, Ls, Ge, Lt, Gt, Le, Al}
use Rattle.isa.specs.declared.instruction.Operand.{Operand}
use Rattle.isa.specs.declared.instruction.Operand.TheVariants.{Constant, Register as InRegister}
use Rattle.isa.specs.declared.instruction.Action.{Action}
use Rattle.isa.specs.declared.instruction.Action.TheVariants.{Data, Load, Store, Branch}

-- the fields of an operand lie side by side below bit 12, and those of an action below bit 28
operand_tiles : (o : Operand) → tiles 12 (operand_fields o) ≡ true
operand_tiles (Constant k) = refl
operand_tiles (InRegister rm) = refl

action_tiles : (a : Action) → tiles 28 (action_fields a) ≡ true
action_tiles (Data d) = operand_tiles d.operand
action_tiles (Load t) = refl
action_tiles (Store t) = refl
action_tiles (Branch z) = refl

-- the number of a condition has room
condition_fits : (c : Condition) → ltb (condition_number c) 16 ≡ true
condition_fits Eq = refl
condition_fits Ne = refl
condition_fits Cs = refl
condition_fits Cc = refl
condition_fits Mi = refl
condition_fits Pl = refl
condition_fits Vs = refl
condition_fits Vc = refl
condition_fits Hi = refl
condition_fits Ls = refl
condition_fits Ge = refl
condition_fits Lt = refl
condition_fits Gt = refl
condition_fits Le = refl
condition_fits Al = refl

pub words_return : WordsReturn
unfolding encoded
words_return word i h e =
    let w = instruction_written word i e in
    let whole = words_are_fields 32 (fields_of i) word (action_tiles i.action) h w.1 in
    let room = read_fit (action_fields i.action) word w.1.1 in
    cond-true (has_word i.action) _ _ (and_from (sound i.action) (fit (action_fields i.action)) w.0 room)
    ∙ ap Ok whole

-- a test that let a result through was passed
ok_back :
    {X E : Type 0} (b : Bool) (x y : X) (e : E) → cond b (Ok x) (Err e) ≡ Ok y → (b ≡ true) × (x ≡ y)
ok_back true x y e p = (refl, cc)
ok_back false x y e p = let z : ◌≡◌ {A = ℕ} 0 1 = cc in absurd (omega arith)

pub instructions_return : InstructionsReturn
unfolding encoded
instructions_return i word e =
    let b = ok_back (has_word i.action) (assembled (fields_of i)) word _ e in
    let s = and_parts (sound i.action) (fit (action_fields i.action)) b.0 in
    let room =
    and_from (ltb (condition_number i.condition) 16) (fit (action_fields i.action))
    (condition_fits i.condition) s.1 in
    let f = fields_return 32 (fields_of i) (action_tiles i.action) room in
    let d = instruction_read i (assembled (fields_of i)) s.0 f.1 in
    subst (λ w. (w < 2 ^ 32) × (decoded w ≡ Some i)) b.1 (f.0, d)
