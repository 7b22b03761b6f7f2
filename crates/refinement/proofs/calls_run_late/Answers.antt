use Rattle.refinement.proofs.CallsLate.{calls_run_late}
use Rattle.refinement.proofs.calls_run_late.Goals as goal

pub returns : goal.returns
returns c = calls_run_late
