use Rattle.std.proofs.Common.{is_ok, Ok, vec_items, refl, ap}
use Rattle.std.proofs.ResultArms.{chosen}
use Rattle.std.proofs.lemmas.Result.{err_from_is_err_and}
use Rattle.refinement.specs.CallLists.{RunMade, run_hands}
use Rattle.refinement.proofs.Performs.{performed, nothing_out, given_up}
use Rattle.refinement.proofs.perform.run_into.Goals as goal

pub returns-in_err-extend_from_slice : goal.returns-in_err-extend_from_slice
returns-in_err-extend_from_slice g c =
    let p = err_from_is_err_and c.from_residual.result c.from_residual.ensures.1 in
    record {
      call = rw p.1 (given_up _ _ _ (RunMade c.args.budget c.args.list.now (Ok c.in-Ok.ran) c.run-answer.new.list) c.in-Ok.ensures.run);
      rest = c.run-answer.ensures.rest;
    }

pub returns-in_ok-extend_from_slice : goal.returns-in_ok-extend_from_slice
returns-in_ok-extend_from_slice g c =
    record {
      call = performed _ _ _ (RunMade c.args.budget c.args.list.now (Ok c.in-Ok.ran) c.run-answer.new.list) _ _ (chosen _ _ _ _ c.extend_from_slice.ensures.items (ap is_ok c.in_ok-extend_from_slice.was)) c.in-Ok.ensures.run;
      rest = c.run-answer.ensures.rest;
    }

pub returns-in_default : goal.returns-in_default
returns-in_default g c =
    record {
      call = nothing_out _ _ _ (RunMade c.args.budget c.args.list.now c.run-answer.result c.run-answer.new.list) (vec_items c.args.handed.now) _ (ap (λ r. run_hands r c.run-answer.new.list) c.in_default.is) refl c.run-answer.ensures.run;
      rest = c.run-answer.ensures.rest;
    }
