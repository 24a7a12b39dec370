use Rattle.reduce_model.proofs.FirstPassesWithin.{IsPassingWithin}
use Rattle.reduce_model.proofs.first_within.pass_first_within.Given as goal

abbrev pub invariant-loop-place : goal.invariant-loop-place
invariant-loop-place l = IsPassingWithin l.symbols l.states l.list l.decisions l.passed.items l.place l.joined l.length l.wide l.prefixes.items
