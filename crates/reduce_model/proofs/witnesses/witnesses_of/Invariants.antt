use Rattle.reduce_model.proofs.Witnessing.{IsWitnessingAt}
use Rattle.list_dfa.specs.Growing.{grown_from}
use Rattle.reduce_model.proofs.witnesses.witnesses_of.Given as goal

abbrev pub invariant-loop-place : goal.invariant-loop-place
invariant-loop-place l = IsWitnessingAt l.symbols l.states l.model l.place (grown_from l.fn.start l.grown) l.witnesses.items
