use Rattle.std.proofs.Common.{◌*◌, ◌<◌, length, sym, ◌∙◌, arith}
use Rattle.std.proofs.lemmas.Bool.Decides.{nat_tests}
use Rattle.decl_base.proofs.Digits.{scaled, fraction_of-digits}
use Rattle.decl_base.proofs.threshold.read_fraction.Goals as goal

pub overflow_mul-result : goal.overflow_mul-result
overflow_mul-result c =
    let small : c.number_of.result * c.pow.result < 1000000 = rw c.pow.ensures (scaled (length c.args.digits.now) c.number_of.result (omega arith) c.number_of.ensures.within) in
    omega arith

pub returns-clause-value : goal.returns-clause-value
returns-clause-value c =
    let some : 0 < length c.args.digits.now = grind (arith, nat_tests) in
    fraction_of-digits c.args.digits.now c.number_of.result c.pow.result some (omega arith) (sym c.are_digits.ensures ∙ c.if-not-are_digits.false)
    c.number_of.ensures.value c.pow.ensures

pub returns-clause-within : goal.returns-clause-within
returns-clause-within c = rw c.pow.ensures (scaled (length c.args.digits.now) c.number_of.result (omega arith) c.number_of.ensures.within)
