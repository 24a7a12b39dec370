use Rattle.std.proofs.Common.{ℕ, below_more, slice_index_or}
use Rattle.std.proofs.lemmas.List.{get_or_default}
use Rattle.template_core.specs.Constraints.{IsWellMadeFor}
use Rattle.template_core.specs.declared.constraint.Constraint.{Constraint}
use Rattle.template_core.specs.declared.kind.Kind.TheVariants.{Init}
use Rattle.automata_tests.proofs.reductions.admitted.Goals as goal

abbrev some_constraint : Constraint
some_constraint = record { kind = Init; first = 0; second = 0 }

pub loop-constraint-preserved : goal.loop-constraint-preserved
loop-constraint-preserved c = λ k d h.
    let list = c.args.list.now in
    let at = c.loop-constraint.constraint-index in
    below_more (λ (j : ℕ). IsWellMadeFor c.args.symbols (slice_index_or list j d)) _ (λ j lt. c.loop-constraint.invariant j d lt)
    (rw (get_or_default list at d some_constraint c.loop-constraint-test.true) c.if-not-is_well_made.ensures) k h
