-- That each condition and each operation is found by its number: the law of the things that have one.
use Rattle.std.specs.Prelude.{◌≡◌, Some, refl}
use Rattle.isa.specs.Conditions.{condition_of, condition_number}
use Rattle.isa.specs.Operations.{operation_of, operation_number}
use Rattle.isa.specs.declared.condition.Condition.{Condition}
use Rattle.isa.specs.declared.condition.Condition.TheVariants.{Eq, Ne, Cs, Cc, Mi, Pl, Vs, Vc, Hi, Ls, Ge, Lt, Gt, Le, Al}
use Rattle.isa.specs.declared.operation.Operation.{Operation}
use Rattle.isa.specs.declared.operation.Operation.TheVariants.{And, Sub, Add, Cmp, Orr}

pub condition_found : (c : Condition) → condition_of (condition_number c) ≡ Some c
condition_found Eq = refl
condition_found Ne = refl
condition_found Cs = refl
condition_found Cc = refl
condition_found Mi = refl
condition_found Pl = refl
condition_found Vs = refl
condition_found Vc = refl
condition_found Hi = refl
condition_found Ls = refl
condition_found Ge = refl
condition_found Lt = refl
condition_found Gt = refl
condition_found Le = refl
condition_found Al = refl

pub operation_found : (o : Operation) → operation_of (operation_number o) ≡ Some o
operation_found And = refl
operation_found Sub = refl
operation_found Add = refl
operation_found Cmp = refl
operation_found Orr = refl
