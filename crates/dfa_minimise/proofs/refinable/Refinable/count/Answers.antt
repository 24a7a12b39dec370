use Rattle.std.proofs.Common.{arith}
use Rattle.dfa_minimise.proofs.Marking.{classes_few}
use Rattle.dfa_minimise.proofs.refinable.Refinable.count.Goals as goal

pub overflow_cast-result : goal.overflow_cast-result
overflow_cast-result c =
    let le = classes_few _ _ _ _ _ _ c.requires.refinable in
    omega (arith, le, c.requires.few, c.len.ensures, c.args.self.now.first.ok.0)
