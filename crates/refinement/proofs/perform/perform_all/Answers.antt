use Rattle.std.proofs.Common.{◌≡◌, [], take, is_ok, vec_items, sym, ap, subst, arith}
use Rattle.std.proofs.ResultArms.{chosen}
use Rattle.std.proofs.lemmas.List.{take_all}
use Rattle.std.proofs.lemmas.Result.{err_from_is_err_and}
use Rattle.memory.specs.Keeping.{none_changes, both_change}
use Rattle.stepper.specs.Memories.{setting_of, same_setting}
use Rattle.pipeline.specs.Clock.{machine, reset}
use Rattle.refinement.specs.Performing.{AllPerformed, GivenUp}
use Rattle.refinement.proofs.Performs.{none_yet, given_up_then, given_up_here, one_turn, all_late}
use Rattle.refinement.proofs.perform.perform_all.Goals as goal

pub loop-call-init : goal.loop-call-init
loop-call-init g c =
    let s = setting_of g.S.Store g.M.Store g.M.Memory c.args.store.now c.args.memory.now in
    let words = g.M.Store.word_at c.args.memory.now in (
      subst (λ m. AllPerformed s (machine reset words) [] (vec_items c.new-answers.result) (vec_items c.new-handed.result) (machine m words)) (sym c.requires) (rw (c.new-answers.ensures.items, c.new-handed.ensures.items) (none_yet s (machine reset words))),
      none_changes g.M.Store g.M.Memory c.args.memory.now,
    )

pub returns-in_err-answer : goal.returns-in_err-answer
returns-in_err-answer g c =
    let inv = c.loop-call.invariant in
    let p = err_from_is_err_and c.from_residual.result c.from_residual.ensures.1 in
    rw p.1 record {
      late = tt;
      calls = given_up_then _ _ _ _ _ _ _ inv.0 (subst (λ s. GivenUp s (machine c.loop-call.core (g.M.Store.word_at c.loop-call.memory)) (machine c.perform_one.new.core (g.M.Store.word_at c.perform_one.new.memory))) (same_setting g.S.Store g.M.Store g.M.Memory c.args.store.now _ _ inv.1) c.in_err-answer.ensures.call);
      rest = both_change g.M.Store g.M.Memory inv.1 c.perform_one.ensures.rest;
    }

pub returns-in_err-push : goal.returns-in_err-push
returns-in_err-push g c =
    let inv = c.loop-call.invariant in
    let p = err_from_is_err_and c.from_residual-in_err-push.result c.from_residual-in_err-push.ensures.1 in
    rw p.1 record {
      late = tt;
      calls = given_up_here _ _ _ _ _ _ (one_turn _ _ _ c.args.calls.now c.loop-call.call-index _ _ _ _ _ _ _ (omega arith) (same_setting g.S.Store g.M.Store g.M.Memory c.args.store.now _ _ inv.1) inv.0 c.in_ok-answer.ensures.call);
      rest = both_change g.M.Store g.M.Memory inv.1 c.perform_one.ensures.rest;
    }

pub loop-call-preserved : goal.loop-call-preserved
loop-call-preserved g c =
    let inv = c.loop-call.invariant in
    let kept = chosen _ _ _ _ c.push.ensures.items (ap is_ok c.in_ok-push.was) in (
      rw kept (one_turn _ _ _ c.args.calls.now c.loop-call.call-index _ _ _ _ _ _ _ (omega arith) (same_setting g.S.Store g.M.Store g.M.Memory c.args.store.now _ _ inv.1) inv.0 c.in_ok-answer.ensures.call),
      both_change g.M.Store g.M.Memory inv.1 c.perform_one.ensures.rest,
    )

pub returns : goal.returns
returns g c =
    let inv = c.loop-call.invariant in
    let whole : take c.loop-call.call-index c.args.calls.now ≡ c.args.calls.now = take_all c.loop-call.call-index c.args.calls.now (omega arith) in
    let s = setting_of g.S.Store g.M.Store g.M.Memory c.args.store.now c.args.memory.now in
    let words = g.M.Store.word_at c.args.memory.now in
    record {
      late = all_late s words _ _ _ _ inv.0;
      calls = subst (λ l. AllPerformed s (machine reset words) l (vec_items c.loop-call.answers) (vec_items c.loop-call.handed) (machine c.loop-call.core (g.M.Store.word_at c.loop-call.memory))) whole inv.0;
      rest = inv.1;
    }
