use Rattle.std.proofs.Common.{◌∙◌, sym, ap, not, eqb, nat_le, nat_lt, nat_eq, length}
use Rattle.template_core.specs.Constraints.{arity}
use Rattle.template_core.specs.Repertoire.{is_fulfilled}
use Rattle.template_core.specs.declared.kind.Kind.{Kind}
use Rattle.trace_check.proofs.Asked.{some-iff}
use Rattle.trace_check.proofs.Standing.{stand}
use Rattle.trace_check.proofs.Wholes.{begins, ends, takes_part, occurrences-places}
use Rattle.trace_check.proofs.tally.whole_fulfils.Goals as goal

pub ends_at-requires : goal.ends_at-requires
ends_at-requires c = λ k inside. (stand c.args.constraint.now.first c.args.start c.args.trace.now c.args.firsts.now c.requires.firsts).below k 0 inside

pub returns-in-Init : goal.returns-in-Init
returns-in-Init c = (
  ap arity c.in-Init.is,
  begins c.args.constraint.now.first c.args.start c.args.trace.now c.args.firsts.now c.requires.firsts c.begins_at.result c.begins_at.ensures
      ∙ ap (λ (k : Kind). is_fulfilled nat_eq k c.args.constraint.now.first c.args.constraint.now.second c.args.trace.now (length c.args.trace.now)) (sym c.in-Init.is),
)

pub returns-in-End : goal.returns-in-End
returns-in-End c = (
  ap arity c.in-End.is,
  ends c.args.constraint.now.first c.args.start c.args.trace.now c.args.firsts.now c.requires.firsts c.ends_at.result c.ends_at.ensures
      ∙ ap (λ (k : Kind). is_fulfilled nat_eq k c.args.constraint.now.first c.args.constraint.now.second c.args.trace.now (length c.args.trace.now)) (sym c.in-End.is),
)

pub returns-in-Participation : goal.returns-in-Participation
returns-in-Participation c = (
  ap arity c.in-Participation.is,
  ap not c.is_empty.ensures
      ∙ takes_part c.args.constraint.now.first c.args.start c.args.trace.now c.args.firsts.now c.requires.firsts (not (eqb (length c.args.firsts.now) 0)) (some-iff c.args.firsts.now)
      ∙ ap (λ (k : Kind). is_fulfilled nat_eq k c.args.constraint.now.first c.args.constraint.now.second c.args.trace.now (length c.args.trace.now)) (sym c.in-Participation.is),
)

pub returns-in-AtMostOne : goal.returns-in-AtMostOne
returns-in-AtMostOne c = (
  ap arity c.in-AtMostOne.is,
  ap (λ n. nat_lt n 2) (sym (occurrences-places c.args.constraint.now.first c.args.start c.args.trace.now c.args.firsts.now c.requires.firsts))
      ∙ ap (λ (k : Kind). is_fulfilled nat_eq k c.args.constraint.now.first c.args.constraint.now.second c.args.trace.now (length c.args.trace.now)) (sym c.in-AtMostOne.is),
)

pub returns-in-Exactly : goal.returns-in-Exactly
returns-in-Exactly c = (
  ap arity c.in-Exactly.is,
  ap (λ m. nat_eq m c.in-Exactly.n) (sym (occurrences-places c.args.constraint.now.first c.args.start c.args.trace.now c.args.firsts.now c.requires.firsts))
      ∙ ap (λ (k : Kind). is_fulfilled nat_eq k c.args.constraint.now.first c.args.constraint.now.second c.args.trace.now (length c.args.trace.now)) (sym c.in-Exactly.is),
)

pub returns-in-AtLeast : goal.returns-in-AtLeast
returns-in-AtLeast c = (
  ap arity c.in-AtLeast.is,
  ap (nat_le c.in-AtLeast.n) (sym (occurrences-places c.args.constraint.now.first c.args.start c.args.trace.now c.args.firsts.now c.requires.firsts))
      ∙ ap (λ (k : Kind). is_fulfilled nat_eq k c.args.constraint.now.first c.args.constraint.now.second c.args.trace.now (length c.args.trace.now)) (sym c.in-AtLeast.is),
)

pub returns-in-AtMost : goal.returns-in-AtMost
returns-in-AtMost c = (
  ap arity c.in-AtMost.is,
  ap (λ m. nat_le m c.in-AtMost.n) (sym (occurrences-places c.args.constraint.now.first c.args.start c.args.trace.now c.args.firsts.now c.requires.firsts))
      ∙ ap (λ (k : Kind). is_fulfilled nat_eq k c.args.constraint.now.first c.args.constraint.now.second c.args.trace.now (length c.args.trace.now)) (sym c.in-AtMost.is),
)
