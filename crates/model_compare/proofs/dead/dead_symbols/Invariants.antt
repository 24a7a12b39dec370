use Rattle.std.proofs.Common.{◌<◌}
use Rattle.model_compare.specs.Analysis.{AreThose}
use Rattle.model_compare.specs.Unused.{IsUnused}
use Rattle.model_compare.proofs.dead.dead_symbols.Given as goal

abbrev pub invariant-loop-symbol : goal.invariant-loop-symbol
invariant-loop-symbol l = AreThose (λ x. (x < l.symbol) × IsUnused l.dfa x) l.dead.items
