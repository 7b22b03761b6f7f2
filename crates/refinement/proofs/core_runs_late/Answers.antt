use Rattle.refinement.proofs.Late.{core_runs_late}
use Rattle.refinement.proofs.core_runs_late.Goals as goal

pub returns : goal.returns
returns c = core_runs_late
