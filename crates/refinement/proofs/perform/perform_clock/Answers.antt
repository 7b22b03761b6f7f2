use Rattle.std.proofs.Common.{◌++◌, is_ok, Ok, vec_items, sym, refl, ap, ◌∙◌}
use Rattle.std.proofs.ResultArms.{chosen}
use Rattle.std.proofs.lemmas.Result.{err_from_is_err_and}
use Rattle.std.specs.Option.{option_to_list}
use Rattle.refinement.specs.CallLists.{ClockMade, clock_hands}
use Rattle.refinement.proofs.Performs.{performed, nothing_out, given_up}
use Rattle.refinement.proofs.perform.perform_clock.Goals as goal

pub returns-in_err-push : goal.returns-in_err-push
returns-in_err-push g c =
    let p = err_from_is_err_and c.from_residual.result c.from_residual.ensures.1 in
    record {
      call = rw p.1 (given_up _ _ _ (ClockMade (Ok c.in-Ok.tick)) c.in-Ok.ensures.clock);
      rest = c.clock-answer.ensures.rest;
    }

pub returns-in_ok-push : goal.returns-in_ok-push
returns-in_ok-push g c =
    record {
      call = performed _ _ _ (ClockMade (Ok c.in-Ok.tick)) _ _ (chosen _ _ _ _ c.push.ensures.items (ap is_ok c.in_ok-push.was) ∙ ap (λ o. vec_items c.args.handed.now ++ option_to_list o) (sym c.in-Some.is)) c.in-Ok.ensures.clock;
      rest = c.clock-answer.ensures.rest;
    }

pub returns-in_default-handed : goal.returns-in_default-handed
returns-in_default-handed g c =
    record {
      call = nothing_out _ _ _ (ClockMade (Ok c.in-Ok.tick)) (vec_items c.args.handed.now) _ (ap option_to_list c.in_default-handed.is) refl c.in-Ok.ensures.clock;
      rest = c.clock-answer.ensures.rest;
    }

pub returns-in_default : goal.returns-in_default
returns-in_default g c =
    record {
      call = nothing_out _ _ _ (ClockMade c.clock-answer.result) (vec_items c.args.handed.now) _ (ap clock_hands c.in_default.is) refl c.clock-answer.ensures.clock;
      rest = c.clock-answer.ensures.rest;
    }
