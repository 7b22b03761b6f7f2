use Rattle.std.proofs.Common.{arith}
use Rattle.packing.proofs.EightDigits.{digit_more}
use Rattle.packing.proofs.digits.Spelled.followed_by.Goals as goal

pub overflow_mul-result : goal.overflow_mul-result
overflow_mul-result c =
    let more = digit_more c.self.inside.word c.self.inside.digits 0 c.self.invariant (omega arith) c.if-self-ge8.false in
    omega (arith, more.room)

pub overflow_add-result : goal.overflow_add-result
overflow_add-result c =
    let more = digit_more c.self.inside.word c.self.inside.digits c.digit.inside.value c.self.invariant c.digit.invariant c.if-self-ge8.false in
    omega (arith, more.room, c.from.ensures)
