use Rattle.std.proofs.lemmas.Result.{err_from_is_err_and}
use Rattle.memory.specs.Keeping.{none_changes}
use Rattle.refinement.proofs.Performs.{not_begun}
use Rattle.refinement.proofs.perform.perform_run.Goals as goal

pub returns-in_err-list : goal.returns-in_err-list
returns-in_err-list g c =
    let p = err_from_is_err_and c.from_residual.result c.from_residual.ensures.1 in
    record { call = rw p.1 (not_begun _ _); rest = none_changes g.M.Store g.M.Memory c.args.memory.now }
