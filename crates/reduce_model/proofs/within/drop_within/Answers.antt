use Rattle.std.proofs.Common.{[], arith}
use Rattle.std.proofs.lemmas.Result.{IfOk-weaker}
use Rattle.reduce_model.proofs.ReducesWithin.{many-1, many-2, many-3, reduction-within, within-fixed, within-length, written-back}
use Rattle.reduce_model.specs.Passes.{IsWitnessedWithin}
use Rattle.reduce_model.proofs.within.drop_within.Goals as goal

pub prune-requires-clause-as_many : goal.prune-requires-clause-as_many
prune-requires-clause-as_many c = within-length c.args.symbols c.args.states [] c.args.list.now c.args.decisions.now c.requires.sifted

pub prune-requires-clause-sifted : goal.prune-requires-clause-sifted
prune-requires-clause-sifted c = within-fixed c.args.symbols c.args.states [] c.args.list.now c.args.decisions.now c.requires.sifted

pub pass_first_within-requires-clause-as_many : goal.pass_first_within-requires-clause-as_many
pass_first_within-requires-clause-as_many c = many-1 c.args.symbols c.args.states c.args.list.now c.requires.asked.made c.args.decisions.now c.requires.sifted c.prune.new.decisions c.prune.ensures

pub pass_second_within-requires-clause-as_many : goal.pass_second_within-requires-clause-as_many
pass_second_within-requires-clause-as_many c =
    rw c.deref_mut.ensures.value
    (many-2 c.args.symbols c.args.states c.args.list.now c.requires.asked.made c.args.decisions.now c.requires.sifted c.prune.new.decisions c.prune.ensures c.in_ok-tested.field-0 c.in_ok-tested.ensures.ok)

pub pass_second_within-requires-clause-kept : goal.pass_second_within-requires-clause-kept
pass_second_within-requires-clause-kept c = rw (c.deref_mut.ensures.value, c.deref.ensures.value) c.in_ok-tested.ensures.ok.prefixes

pub pass_second_within-requires-clause-closed : goal.pass_second_within-requires-clause-closed
pass_second_within-requires-clause-closed c = rw c.deref_mut.ensures.value c.in_ok-tested.ensures.ok.closed

pub pass_second_within-requires-clause-passed : goal.pass_second_within-requires-clause-passed
pass_second_within-requires-clause-passed c = rw c.deref_mut.ensures.value c.in_ok-tested.ensures.ok.later

pub witnesses_within-requires-clause-as_many : goal.witnesses_within-requires-clause-as_many
witnesses_within-requires-clause-as_many c =
    let len = c.deref_mut.ensures.len in
    let long = c.pass_second_within.auto.decisions in
    let back = written-back c.in_ok-tested.field-0.decisions.len c.pass_second_within.new.decisions c.in_ok-tested.field-0.decisions.items (omega (arith, len, long)) in
    let second = rw c.deref_mut.ensures.value at c.in_ok-pass_second_within.ensures.ok in
    rw (c.deref-2.ensures.value, back)
    (many-3 c.args.symbols c.args.states c.args.list.now c.requires.asked.made c.args.decisions.now c.requires.sifted c.prune.new.decisions c.prune.ensures c.in_ok-tested.field-0 c.in_ok-tested.ensures.ok
    c.pass_second_within.new.decisions second)

pub witnesses_within-requires-clause-tested : goal.witnesses_within-requires-clause-tested
witnesses_within-requires-clause-tested c =
    let len = c.deref_mut.ensures.len in
    let long = c.pass_second_within.auto.decisions in
    let back = written-back c.in_ok-tested.field-0.decisions.len c.pass_second_within.new.decisions c.in_ok-tested.field-0.decisions.items (omega (arith, len, long)) in
    rw (c.deref-2.ensures.value, back) c.in_ok-pass_second_within.ensures.ok.tested

pub returns-clause-ok : goal.returns-clause-ok
returns-clause-ok c = IfOk-weaker c.witnesses_within.result _ _ (λ witnessed is.
    let len = c.deref_mut.ensures.len in
    let long = c.pass_second_within.auto.decisions in
    let back = written-back c.in_ok-tested.field-0.decisions.len c.pass_second_within.new.decisions c.in_ok-tested.field-0.decisions.items (omega (arith, len, long)) in
    let second = rw c.deref_mut.ensures.value at c.in_ok-pass_second_within.ensures.ok in
    let witnessed_ : IsWitnessedWithin c.args.symbols c.args.states c.args.list.now c.pass_second_within.new.decisions witnessed = rw (c.deref-2.ensures.value, back) at is in
    reduction-within c.args.symbols c.args.states c.args.list.now c.requires.asked.made c.args.decisions.now c.requires.sifted c.prune.new.decisions c.prune.ensures c.in_ok-tested.field-0 c.in_ok-tested.ensures.ok
    c.pass_second_within.new.decisions second witnessed witnessed_) c.witnesses_within.ensures.ok
