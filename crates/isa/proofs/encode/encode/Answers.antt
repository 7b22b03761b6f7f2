-- At each exit the result is the instruction's word or the refusal, and the law follows from that alone.
use Rattle.std.proofs.Common.{◌≡◌, Ok, sym, ◌∙◌, rules}
use Rattle.isa.proofs.Returning.{instructions_return}
use Rattle.isa.proofs.encode.encode.Goals as goal
use Rattle.isa.specs.Encoding.{encoded}

pub returns-then-not-has_word : goal.returns-then-not-has_word
unfolding encoded
returns-then-not-has_word c = search rules

pub returns : goal.returns
unfolding encoded
returns c =
    let v : Ok c.put.result ≡ encoded c.args.instruction = search rules in
    record { value = v; exact = λ word e. instructions_return c.args.instruction word (sym v ∙ e) }
