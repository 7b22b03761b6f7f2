use Rattle.std.proofs.Common.{Result, Ok, Err, OnOk, refl}
use Rattle.console.specs.Shown.{ShownBy}
use Rattle.console.proofs.input.show_image.Goals as goal

in_any_case : {T E P : Type 0} (r : Result T E) → P → OnOk r P
in_any_case (Ok value) p = p
in_any_case (Err error) p = tt

pub returns-in-Ok-clause-shown : goal.returns-in-Ok-clause-shown
returns-in-Ok-clause-shown g c none =
    in_any_case {P = ShownBy g.F.FnOnce c.args.show _ _ _ _} c.show.result (record {
      image = _;
      lent = _;
      left = _;
      met = c.show.ensures;
      has = c.in-Ok.ensures.opened.1;
      begins = refl;
      ends = refl;
    })
