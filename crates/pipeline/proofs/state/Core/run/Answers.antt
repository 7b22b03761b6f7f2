use Rattle.std.proofs.Common.{◌≡◌, ◌+◌, length, sym, ap, ◌∙◌, arith}
use Rattle.std.specs.Result.{result_err}
use Rattle.memory.specs.Keeping.{both_change}
use Rattle.stepper.specs.Memories.{setting_of, same_setting}
use Rattle.pipeline.specs.Clock.{machine, clocked}
use Rattle.pipeline.specs.Calls.{end_of, stop_in}
use Rattle.pipeline.proofs.Placing.{Then, clock_more, again, ends}
use Rattle.pipeline.proofs.state.Core.run.Given as given
use Rattle.pipeline.proofs.state.Core.run.Goals as goal
use Rattle.pipeline.proofs.state.Core.run.Goals.{After-place-written}

-- what one turn leaves
turned : (g : given.Over) (c : After-place-written g) → Then (setting_of g.S.Store g.M.Store g.M.Memory c.args.store.now c.args.memory.now) (machine c.args.self.now (g.M.Store.word_at c.args.memory.now)) c.args.budget c.args.list.now c.loop-made.made c.place-written.result (machine c.tick-tick.new.self (g.M.Store.word_at c.tick-tick.new.memory)) c.place-written.new.list c.tick-tick.result.handed
turned g c =
    let inv = c.loop-made.invariant in
    let m = machine c.loop-made.self (g.M.Store.word_at c.loop-made.memory) in
    let told = c.tick-tick.ensures.clock ∙ ap (λ s. clocked s m) (same_setting g.S.Store g.M.Store g.M.Memory c.args.store.now c.args.memory.now c.loop-made.memory inv.1) in
    clock_more _ _ _ _ c.loop-made.made c.loop-made.written m _ c.loop-made.list _ c.tick-tick.result.handed _ inv.0 (ap (λ z. z.machine) told) (ap (λ z. z.handed) told) c.place-written.ensures.list c.place-written.ensures.next

pub returns-in-Some : goal.returns-in-Some
returns-in-Some g c =
    let inv = c.loop-made.invariant in
    let full : length c.place-written.new.list ≡ length c.args.list.now = omega arith in
    record {
      run = (sym c.check_run.ensures ∙ ap result_err c.in_ok-check_run.was, ends _ _ c.args.budget c.args.list.now c.loop-made.made c.place-written.result _ _ c.tick-tick.result.handed c.in-Some.reason inv.0.under (turned g (goal.at.returns-in-Some g c).After-place-written) (ap (λ n. end_of n c.args.budget c.place-written.result (c.loop-made.made + 1) c.tick-tick.new.self (stop_in c.tick-tick.result.handed)) (sym full) ∙ ap (end_of (length c.place-written.new.list) c.args.budget c.place-written.result (c.loop-made.made + 1) c.tick-tick.new.self) (sym c.stop_in-stop.ensures) ∙ sym c.end_of.ensures ∙ c.in-Some.is));
      rest = both_change g.M.Store g.M.Memory inv.1 c.tick-tick.ensures.rest;
    }

pub loop-made-preserved : goal.loop-made-preserved
loop-made-preserved g c =
    let inv = c.loop-made.invariant in
    let full : length c.place-written.new.list ≡ length c.args.list.now = omega arith in (
      again _ _ c.args.budget c.args.list.now c.loop-made.made c.place-written.result _ _ c.tick-tick.result.handed inv.0.under (turned g (goal.at.loop-made-preserved g c).After-place-written) (ap (λ n. end_of n c.args.budget c.place-written.result (c.loop-made.made + 1) c.tick-tick.new.self (stop_in c.tick-tick.result.handed)) (sym full) ∙ ap (end_of (length c.place-written.new.list) c.args.budget c.place-written.result (c.loop-made.made + 1) c.tick-tick.new.self) (sym c.stop_in-stop.ensures) ∙ sym c.end_of.ensures ∙ c.in_default.is),
      both_change g.M.Store g.M.Memory inv.1 c.tick-tick.ensures.rest,
      inv.2,
    )
