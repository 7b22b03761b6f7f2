use Rattle.std.proofs.Common.{arith, rules}
use Rattle.words.proofs.Digits.{parsed}
use Rattle.words.proofs.hexadecimal.word_in.Goals as goal

pub returns-then-not-starts_with : goal.returns-then-not-starts_with
returns-then-not-starts_with c =
    let no_sign = c.if-not-starts_with.ensures.byte (omega arith) (omega arith) (λ w o h. h) in
    let number = parsed c.args.line.now c.from_str_radix.result (omega arith) no_sign c.from_str_radix.ensures.value in
    search rules
