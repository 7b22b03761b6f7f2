use Rattle.std.proofs.Common.{◌≡◌, ◌+◌, ◌%◌, ◌^◌, arith, fold, rules}
use Rattle.image.proofs.Steps.{fold_wraps}
use Rattle.image.proofs.sum.sum_of.Goals as goal

pub returns : goal.returns
returns c =
    let folds : c.fold.result ≡ fold (λ t w. (t + w) % 2 ^ 32) 0 c.args.words.now = search rules in
    omega (arith, folds, fold_wraps c.args.words.now 0 (omega arith))
