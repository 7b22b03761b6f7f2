-- The conditions: their numbers, and when each holds.
use Rattle.std.specs.Prelude.{ℕ, Bool, true, false, not, ◌&&◌, ◌||◌, List, [], ◌∷◌, Option}
use Rattle.isa.specs.Numbered.{numbered}
use Rattle.isa.specs.declared.flags.Flags.{Flags}
use Rattle.isa.specs.declared.condition.Condition.{Condition}
use Rattle.isa.specs.declared.condition.Condition.TheVariants.{Eq, Ne, Cs, Cc, Mi, Pl, Vs, Vc, Hi, Ls, Ge, Lt, Gt, Le, Al}

-- two flags are equal
abbrev pub same : Bool → Bool → Bool
same true b = b
same false b = not b

-- the manual's table
abbrev pub condition_holds : Condition → Flags → Bool
condition_holds Eq f = f.z
condition_holds Ne f = not f.z
condition_holds Cs f = f.c
condition_holds Cc f = not f.c
condition_holds Mi f = f.n
condition_holds Pl f = not f.n
condition_holds Vs f = f.v
condition_holds Vc f = not f.v
condition_holds Hi f = f.c && not f.z
condition_holds Ls f = not f.c || f.z
condition_holds Ge f = same f.n f.v
condition_holds Lt f = not (same f.n f.v)
condition_holds Gt f = not f.z && same f.n f.v
condition_holds Le f = f.z || not (same f.n f.v)
condition_holds Al f = true

abbrev pub condition_number : Condition → ℕ
condition_number Eq = 0
condition_number Ne = 1
condition_number Cs = 2
condition_number Cc = 3
condition_number Mi = 4
condition_number Pl = 5
condition_number Vs = 6
condition_number Vc = 7
condition_number Hi = 8
condition_number Ls = 9
condition_number Ge = 10
condition_number Lt = 11
condition_number Gt = 12
condition_number Le = 13
condition_number Al = 14

abbrev pub conditions : List Condition
conditions = Eq ∷ Ne ∷ Cs ∷ Cc ∷ Mi ∷ Pl ∷ Vs ∷ Vc ∷ Hi ∷ Ls ∷ Ge ∷ Lt ∷ Gt ∷ Le ∷ Al ∷ []

-- none has the number 15
abbrev pub condition_of : ℕ → Option Condition
condition_of = numbered condition_number conditions
