use Rattle.std.proofs.Common.{refl, arith}
use Rattle.reduce_model.proofs.SiftsWithin.{sifting-all, sifting-length, sifting-none, within-taken}
use Rattle.reduce_model.proofs.within.sift_within.Goals as goal

pub loop-candidate-init : goal.loop-candidate-init
loop-candidate-init c = sifting-none c.args.symbols c.args.states c.args.list.now _ _ c.requires.some_states c.in_ok-kept.ensures.ok c.new-decisions.ensures.items

pub take_in-requires-clause-room : goal.take_in-requires-clause-room
take_in-requires-clause-room c =
    let le = sifting-length c.args.symbols c.args.states c.args.list.now c.loop-candidate.candidate-index c.loop-candidate.kept c.loop-candidate.decisions.items c.loop-candidate.invariant in
    omega (arith, le, c.loop-candidate-test.true, c.requires.few)

pub loop-candidate-preserved : goal.loop-candidate-preserved
loop-candidate-preserved c =
    rw c.in_ok-push.ensures.items
    (within-taken c.args.symbols c.args.states c.args.list.now c.loop-candidate.candidate-index c.loop-candidate.kept c.loop-candidate.decisions.items c.loop-candidate-test.true c.loop-candidate.invariant c.take_in.new.self
    c.in_ok-decision.decision c.in_ok-decision.ensures.ok)

pub returns-clause-ok : goal.returns-clause-ok
returns-clause-ok c = sifting-all c.args.symbols c.args.states c.args.list.now c.loop-candidate.candidate-index c.loop-candidate.kept (record {
  decisions = c.loop-candidate.decisions.items;
  example = c.loop-candidate.kept.example;
}) c.loop-candidate-test.false refl c.loop-candidate.invariant
