use Rattle.std.proofs.Common.{◌≤◌, arith}
use Rattle.csv_log.proofs.Digits.{one_more, size_at}
use Rattle.csv_log.proofs.number.number_of.Goals as goal

pub overflow_mul-number : goal.overflow_mul-number
overflow_mul-number c = omega (arith, one_more c.loop-digit.digit-index c.loop-digit.number (omega arith) c.loop-digit.invariant.1)

pub overflow_add-number : goal.overflow_add-number
overflow_add-number c =
    let digit : c.from.result ≤ 9 = rw c.from.ensures (size_at c.args.digits.now c.loop-digit.digit-index (omega arith) c.requires.digits) in
    omega (arith, one_more c.loop-digit.digit-index c.loop-digit.number (omega arith) c.loop-digit.invariant.1)
