-- Registers 0 to 14 as a list of values, and how an instruction reads and writes them.
use Rattle.std.specs.Prelude.{ℕ, ◌+◌, ◌%◌, ◌^◌, cond, List, Some, None, Ok, Err, Option, Result, ◌==◌, nat_lt, slice_index, slice_set}
use Rattle.isa.specs.declared.register.Register.{Register}
use Rattle.stepper.specs.declared.event.RegisterWrite.{RegisterWrite}
use Rattle.stepper.specs.declared.registers.UnknownRegister.{UnknownRegister}

-- the number by which users know that a register above 14 was asked for
abbrev pub unknown_number : ℕ
unknown_number = 13

-- what a user is told of a register
abbrev pub cell_of : List ℕ → ℕ → Result ℕ UnknownRegister
cell_of values n = cond (nat_lt 14 n) (Err (record {})) (Ok (slice_index values n))

-- an instruction at the address a reads register 15 as a + 8
abbrev pub read_at : List ℕ → ℕ → Register → ℕ
read_at values a r = cond (r.number == 15) ((a + 8) % 2 ^ 32) (slice_index values r.number)

-- the registers after a write, if there is one; register 15 is not among them
abbrev pub written : List ℕ → Option RegisterWrite → List ℕ
written values None = values
written values (Some w) = cond (w.register.number == 15) values (slice_set values w.register.number w.value)
