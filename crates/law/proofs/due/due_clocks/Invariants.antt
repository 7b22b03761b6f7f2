use Rattle.std.proofs.Common.{vec_items}
use Rattle.law.proofs.Table.{Sofar}
use Rattle.law.proofs.due.due_clocks.Given as goal

abbrev pub invariant-loop-event : goal.invariant-loop-event
invariant-loop-event l = Sofar l.events l.event-index (vec_items l.table) l.due l.last
