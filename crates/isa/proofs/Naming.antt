-- Registers of equal numbers are equal.
use Rattle.std.proofs.Common.{◌≡◌, ◌<◌, arith}
use mathlib.Core.HLevel.{is_prop→PathP}
use native.Mathlib.Bridge.{le_prop}
use Rattle.isa.specs.declared.register.Register.{Register}
use Rattle.isa.specs.Registers.{register}

-- a register is its number
pub same_register : (a b : Register) → a.number ≡ b.number → a ≡ b
same_register a b e =
    λ i. record { number = e i; ok = is_prop→PathP (λ j. e j < 16) (λ j. le_prop) a.ok b.ok i }

-- a register is the one that its own number names
pub named : (a : Register) → register a.number ≡ a
named a = same_register (register a.number) a (let h : a.number < 16 = a.ok in omega arith)
