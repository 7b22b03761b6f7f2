use Rattle.std.proofs.Common.{ℕ, ◌^◌, ◌<◌, ◌≤◌, length, decimal, arith}
use Rattle.std.proofs.lemmas.Fmt.{decimal_digit, decimal_step, length-decimal-le}
use Rattle.std.proofs.lemmas.Grind.{common_steps}
use Rattle.report.proofs.text.Text.+put_decimal.Goals as goal

ten_digits : (n : ℕ) → n < 2 ^ 32 → length (decimal n) ≤ 10
ten_digits n l = length-decimal-le 10 n (omega arith) (omega arith) (omega arith)

pub returns-then-number-lt10-clause-text : goal.returns-then-number-lt10-clause-text
returns-then-number-lt10-clause-text t c = grind (arith, common_steps, decimal_digit)

pub put-requires-else-number-lt10 : goal.put-requires-else-number-lt10
put-requires-else-number-lt10 t c = grind (arith, common_steps, decimal_step, ten_digits c.args.number (omega arith))

pub returns-else-number-lt10-clause-text : goal.returns-else-number-lt10-clause-text
returns-else-number-lt10-clause-text t c = grind (arith, common_steps, decimal_step)

pub returns-else-number-lt10-clause-most : goal.returns-else-number-lt10-clause-most
returns-else-number-lt10-clause-most t c = grind (arith, common_steps, decimal_step, ten_digits c.args.number (omega arith))
