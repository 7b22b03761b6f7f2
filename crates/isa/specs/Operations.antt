-- The operations: their numbers in a word, and what the subset has of each.
use Rattle.std.specs.Prelude.{ℕ, Bool, not, ◌&&◌, List, [], ◌∷◌, Option, ◌==◌}
use Rattle.isa.specs.Numbered.{numbered}
use Rattle.isa.specs.declared.instruction.DataProcessing.{DataProcessing}
use Rattle.isa.specs.declared.operation.Operation.{Operation}
use Rattle.isa.specs.declared.operation.Operation.TheVariants.{And, Sub, Add, Cmp, Orr}

abbrev pub operation_number : Operation → ℕ
operation_number And = 0
operation_number Sub = 2
operation_number Add = 4
operation_number Cmp = 10
operation_number Orr = 12

abbrev pub operations : List Operation
operations = And ∷ Sub ∷ Add ∷ Cmp ∷ Orr ∷ []

abbrev pub operation_of : ℕ → Option Operation
operation_of = numbered operation_number operations

-- CMP always sets the flags, and its Rd is 0; the others do not set the flags while they write R15
abbrev pub allowed : Operation → Bool → ℕ → Bool
allowed And set rd = not (set && rd == 15)
allowed Sub set rd = not (set && rd == 15)
allowed Add set rd = not (set && rd == 15)
allowed Cmp set rd = set && rd == 0
allowed Orr set rd = not (set && rd == 15)

abbrev pub in_subset : DataProcessing → Bool
in_subset d = allowed d.operation d.set_flags d.rd.number
