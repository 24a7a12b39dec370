use Rattle.std.proofs.Common.{get_or, refl, arith}
use Rattle.std.proofs.lemmas.List.{take_all, take_more}
use Rattle.list_dfa.proofs.Keeping.{anything}
use Rattle.reduce_model.proofs.Sifts.{so_far-all, so_far-length, so_far-more, so_far-none, so_far-refused}
use Rattle.reduce_model.proofs.conflicts.sift.Goals as goal

pub loop-candidate-init : goal.loop-candidate-init
loop-candidate-init c = so_far-none c.args.symbols c.args.states c.args.list.now _ _ c.requires.some_states c.in_ok-kept.ensures.ok c.new-decisions.ensures.items

pub take_in-requires-clause-room : goal.take_in-requires-clause-room
take_in-requires-clause-room c =
    let le = so_far-length c.args.symbols c.args.states c.args.list.now c.loop-candidate.candidate-index c.loop-candidate.kept c.loop-candidate.decisions.items c.loop-candidate.invariant in
    omega (arith, le, c.requires.few)

pub overflow_add-built : goal.overflow_add-built
overflow_add-built c =
    let taken = rw c.in-Beyond.is at c.in_ok-decision.ensures.ok in
    let le = so_far-length c.args.symbols c.args.states c.args.list.now c.loop-candidate.candidate-index c.loop-candidate.kept c.loop-candidate.decisions.items c.loop-candidate.invariant in
    rw taken.0 (omega (arith, le, c.requires.few))

pub returns-in-Beyond-clause-err : goal.returns-in-Beyond-clause-err
returns-in-Beyond-clause-err c =
    let at = c.loop-candidate.candidate-index in
    let taken = rw c.in-Beyond.is at c.in_ok-decision.ensures.ok in (
      refl,
      rw taken.0
          (so_far-refused c.args.symbols c.args.states c.args.list.now at c.loop-candidate.kept c.loop-candidate.decisions.items (get_or c.args.list.now at anything)
          (take_more c.args.list.now at anything c.loop-candidate-test.true) c.loop-candidate-test.true c.loop-candidate.invariant taken.1),
    )

pub loop-candidate-preserved : goal.loop-candidate-preserved
loop-candidate-preserved c =
    let at = c.loop-candidate.candidate-index in
    rw c.in_ok-push-in_default.ensures.items
    (so_far-more c.args.symbols c.args.states c.args.list.now at c.loop-candidate.kept c.take_in.new.self c.loop-candidate.decisions.items (get_or c.args.list.now at anything) c.in_ok-decision.decision
    (take_more c.args.list.now at anything c.loop-candidate-test.true) c.loop-candidate-test.true c.loop-candidate.invariant c.in_ok-decision.ensures.ok c.in_default.not-Beyond)

pub returns-clause-ok : goal.returns-clause-ok
returns-clause-ok c =
    let at = c.loop-candidate.candidate-index in
    so_far-all c.args.symbols c.args.states c.args.list.now at c.loop-candidate.kept (record {
      decisions = c.loop-candidate.decisions.items;
      example = c.loop-candidate.kept.example;
    }) (take_all at c.args.list.now c.loop-candidate-test.false) c.loop-candidate-test.false refl c.loop-candidate.invariant
