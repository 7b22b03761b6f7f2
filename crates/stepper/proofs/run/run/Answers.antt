use Rattle.std.proofs.Common.{is_ok, ap, arith}
use Rattle.std.proofs.ResultArms.{chosen}
use Rattle.std.proofs.lemmas.Result.{err_from_is_err_and}
use Rattle.memory.specs.Keeping.{both_change}
use Rattle.stepper.specs.Memories.{same_setting}
use Rattle.stepper.proofs.Stays.{one_more, at_the_limit, at_the_stop, told_of, given_up}
use Rattle.stepper.proofs.run.run.Goals as goal
use Rattle.stepper.proofs.run.run.Goals.{else-loop-taken-test, then-loop-taken-test+in-Err}

pub returns-in_err-push-in-Ok : goal.returns-in_err-push-in-Ok
returns-in_err-push-in-Ok g c =
    let inv = c.loop-taken.invariant in
    let p = err_from_is_err_and c.from_residual.result c.from_residual.ensures.1 in
    let step = told_of (same_setting g.S.Store g.M.Store g.M.Memory c.args.store.now _ _ inv.1) c.in-Ok.ensures.step in
    record {
      run = rw p.1 (given_up _ _ c.loop-taken._taken c.args.limit _ _ c.in-Ok.event (omega arith) inv.0.stands step);
      rest = both_change g.M.Store g.M.Memory inv.1 c.step.ensures.rest;
    }

pub loop-taken-preserved : goal.loop-taken-preserved
loop-taken-preserved g c =
    let inv = c.loop-taken.invariant in
    let step = told_of (same_setting g.S.Store g.M.Store g.M.Memory c.args.store.now _ _ inv.1) c.in-Ok.ensures.step in (
      one_more _ _ c.loop-taken._taken _ _ _ _ c.in-Ok.event inv.0 step (chosen _ _ _ _ c.push.ensures.items (ap is_ok c.in_ok-push-in-Ok.was)),
      both_change g.M.Store g.M.Memory inv.1 c.step.ensures.rest,
    )

pub returns : goal.returns
returns g c =
    let inv = c.loop-taken.invariant in
    elim c.loop-taken-test.branch [
      | else-loop-taken-test w ↦ rw w.memory-is record { run = at_the_limit _ _ c.loop-taken._taken c.args.limit _ _ (omega arith) inv.0; rest = inv.1 }
      | then-loop-taken-test+in-Err w ↦
          let step = told_of (same_setting g.S.Store g.M.Store g.M.Memory c.args.store.now _ _ inv.1) w.in-Err.ensures.step in
          rw w.memory-is record {
            run = at_the_stop _ _ c.loop-taken._taken c.args.limit _ _ _ _ (omega arith) inv.0 step;
            rest = both_change g.M.Store g.M.Memory inv.1 w.step.ensures.rest;
          }
    ]
