use Rattle.std.proofs.Common.{is_ok, ap}
use Rattle.std.proofs.ResultArms.{chosen}
use Rattle.law.proofs.Table.{one_line}
use Rattle.law.proofs.due.due_clocks.Goals as goal

pub loop-event-preserved : goal.loop-event-preserved
loop-event-preserved c =
    one_line c.args.events.now c.loop-event.event-index _ _ _ _ c.loop-event.last c.event-item.result c.loop-event-test.true c.event-item.is c.loop-event.invariant c.further-due.ensures (chosen _ _ _ _ c.push.ensures.items (ap is_ok c.in_ok-push.was))
