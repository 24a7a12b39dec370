use Rattle.reduce_model.proofs.WitnessesWithin.{IsWitnessingWithin}
use Rattle.reduce_model.proofs.witnesses_within.witnesses_within.Given as goal

abbrev pub invariant-loop-place : goal.invariant-loop-place
invariant-loop-place l = IsWitnessingWithin l.symbols l.states l.list l.decisions l.told.items l.place l.before l.witnesses.items
