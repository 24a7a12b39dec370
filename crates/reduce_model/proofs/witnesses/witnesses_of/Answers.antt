use Rattle.std.proofs.Common.{◌+◌, ap, arith}
use Rattle.std.proofs.lemmas.Result.{err_from_is_err_and}
use Rattle.reduce_model.proofs.Witnessing.{at-more, next-last, next-more, start-more, start-refused, witness-refused, witnessing-end, witnessing-known, witnessing-whole}
use Rattle.list_dfa.specs.Growing.{grown_from}
use Rattle.reduce_model.specs.declared.prefixes.Prefix.{Prefix}
use Rattle.reduce_model.proofs.witnesses.witnesses_of.Goals as goal
use Rattle.reduce_model.proofs.witnesses.witnesses_of.Goals.{then-place-model+in_ok-more+in-Some, else-place-model}

pub returns-then-len-model-clause-ok : goal.returns-then-len-model-clause-ok
returns-then-len-model-clause-ok c = witnessing-whole c.args.symbols c.args.states c.args.model.now c.args.known.items c.requires.known (let a = c.len.ensures in let b = c.if-len-model.true in omega (arith, a, b))

pub loop-place-init : goal.loop-place-init
loop-place-init c = witnessing-known c.args.symbols c.args.states c.args.model.now c.args.start.now c.args.known.items c.requires.known c.requires.start c.requires.enough

pub put_witness-requires-clause-start : goal.put_witness-requires-clause-start
put_witness-requires-clause-start c = rw c.or_start-before.ensures (c.loop-place.invariant.start c.loop-place-test.true)

pub returns-in_err-put_witness-clause-err : goal.returns-in_err-put_witness-clause-err
returns-in_err-put_witness-clause-err c =
    let is = err_from_is_err_and c.from_residual.result c.from_residual.ensures.1 in
    rw (is.1, is.2) (witness-refused c.loop-place-test.true c.loop-place.invariant c.in_err-put_witness.field-0.0 c.in_err-put_witness.ensures.err)

pub returns-in-None-clause-err : goal.returns-in-None-clause-err
returns-in-None-clause-err c =
    let known = at-more c.loop-place-test.true c.loop-place.invariant c.put_witness.new.witnesses.items c.in_ok-put_witness.ensures.ok in
    start-refused c.loop-place-test.true known.0 c.if-place-model.true _ (ap (λ (p : Prefix). p.length + 1) c.or_start-before.ensures) known.1 (rw c.or_start-before.ensures at (rw c.in-None.is at c.in_ok-more.ensures.ok))

pub loop-place-preserved : goal.loop-place-preserved
loop-place-preserved c =
    let inside = c.loop-place-test.true in
    let known = at-more inside c.loop-place.invariant c.put_witness.new.witnesses.items c.in_ok-put_witness.ensures.ok in
    elim c.if-place-model.branch [
      | then-place-model+in_ok-more+in-Some w ↦
          let more = rw c.or_start-before.ensures at (rw w.in-Some.is at w.in_ok-more.ensures.ok) in
          rw w.grown-is (next-more inside known.0 w.in-Some.more known.1 (start-more inside known.0 w.in-Some.more c.requires.asked.few_states more.0 more.1))
      | else-place-model w ↦ rw w.grown-is (next-last inside known.0 known.1 w.if-place-model.false)
    ]

pub returns-clause-ok : goal.returns-clause-ok
returns-clause-ok c = witnessing-end c.args.symbols c.args.states c.args.model.now c.loop-place.place (grown_from c.args.start.now c.loop-place.grown) c.loop-place.witnesses.items c.loop-place-test.false c.loop-place.invariant
