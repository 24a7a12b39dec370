use Rattle.std.proofs.Common.{inl, inr, arith}
use Rattle.live_monitor.proofs.Marks.{each-class, other-class}
use Rattle.live_monitor.proofs.leading.one_of_each_class.Goals as goal
use Rattle.live_monitor.proofs.leading.one_of_each_class.Goals.{then-other-symbols, else-other-symbols}

pub returns : goal.returns
returns c =
    let n = c.args.symbols in
    let k = c.args.constraint.now in
    elim c.if-other-symbols.branch [
      | then-other-symbols w ↦
          each-class n k c.if-other-symbols.third c.requires.first c.requires.second (omega (arith, w.third-is, w.if-other-symbols.true))
          (λ x lx nf ns. other-class k c.if-other-symbols.third c.least_other-other.result w.third-is c.least_other-other.ensures.not_first c.least_other-other.ensures.not_second)
      | else-other-symbols w ↦
          each-class n k c.if-other-symbols.third c.requires.first c.requires.second (omega (arith, w.third-is, c.requires.first))
          (λ x lx nf ns. absurd (elim (c.least_other-other.ensures.least x (omega (arith, lx, w.if-other-symbols.false))) [ inl e ↦ nf e | inr e ↦ ns e ]))
    ]
