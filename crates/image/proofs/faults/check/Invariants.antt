use Rattle.std.proofs.Common.{◌≡◌, None}
use Rattle.image.specs.FirstRefusal.{first_refusal}
use Rattle.image.proofs.faults.check.Given as goal

abbrev pub invariant-loop-place : goal.invariant-loop-place
invariant-loop-place l = first_refusal l.bytes l.place ≡ None
