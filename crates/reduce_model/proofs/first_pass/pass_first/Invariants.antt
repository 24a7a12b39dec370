use Rattle.std.proofs.Common.{map}
use Rattle.reduce_model.proofs.FirstPasses.{IsPassing}
use Rattle.reduce_model.proofs.KeptPrefixes.{AreKeptUpTo}
use Rattle.reduce_model.specs.Deciding.{is_left}
use Rattle.reduce_model.proofs.first_pass.pass_first.Given as goal

abbrev pub invariant-loop-place : goal.invariant-loop-place
invariant-loop-place l = record {
  passing : IsPassing l.symbols l.states l.list l.fn.decisions l.decisions l.place l.left l.length;
  kept : AreKeptUpTo l.symbols l.states l.list (map is_left l.decisions) l.place l.prefixes.items;
}
