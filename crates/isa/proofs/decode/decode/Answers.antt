-- At each exit the result is what the word decodes to, and the law follows from that alone.
use Rattle.std.proofs.Common.{◌≡◌, ◌^◌, ◌<◌, Some, sym, ◌∙◌, rules}
use Rattle.isa.proofs.Returning.{words_return}
use Rattle.isa.proofs.decode.decode.Goals as goal
use Rattle.isa.specs.Decoding.{decoded}

pub returns-in_err-condition : goal.returns-in_err-condition
unfolding decoded
returns-in_err-condition c = search rules

pub returns-in_err-action : goal.returns-in_err-action
unfolding decoded
returns-in_err-action c = search rules

pub returns : goal.returns
unfolding decoded
returns c =
    let h : c.args.word < 2 ^ 32 = search rules in
    let v :
    Some (record { condition = c.in_ok-condition.condition; action = c.in_ok-action.action })
    ≡ decoded c.args.word = search rules in
    record { value = v; exact = λ i e. words_return c.args.word i h (sym v ∙ e) }
