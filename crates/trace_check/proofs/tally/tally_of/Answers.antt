use Rattle.std.proofs.Common.{◌+◌, Bool, ◌∙◌, ap, cond, None, Some, length}
use Rattle.template_core.specs.Events.{one_if}
use Rattle.trace_check.proofs.Events.{two-differ, joined-tally, places-apart}
use Rattle.trace_check.proofs.Standing.{stand}
use Rattle.trace_check.proofs.Wholes.{whole-tally}
use Rattle.trace_check.proofs.tally.tally_of.Goals as goal

pub of_events-requires-clause-firsts : goal.of_events-requires-clause-firsts
of_events-requires-clause-firsts c = (stand c.args.constraint.now.first c.args.start c.args.trace.now c.args.firsts.now c.requires.firsts).ascends

pub of_events-requires-clause-seconds : goal.of_events-requires-clause-seconds
of_events-requires-clause-seconds c = (stand c.args.constraint.now.second c.args.start c.args.trace.now c.args.seconds.now c.requires.seconds).ascends

pub of_events-requires-clause-apart : goal.of_events-requires-clause-apart
of_events-requires-clause-apart c =
    places-apart c.args.constraint.now.first c.args.constraint.now.second c.args.start c.args.trace.now c.args.firsts.now c.args.seconds.now
    (two-differ c.args.constraint.now.kind c.args.constraint.now.first c.args.constraint.now.second c.in-None.ensures c.requires.made) c.requires.firsts c.requires.seconds

pub returns-in-Some : goal.returns-in-Some
returns-in-Some c =
    c.of_whole.ensures
    ∙ ap (λ (v : Bool). record { activated = 1; fulfilled = one_if v; broken = cond v None (Some (c.args.start + length c.args.trace.now)) }) c.in-Some.ensures.1
    ∙ whole-tally c.args.constraint.now.kind c.args.constraint.now.first c.args.constraint.now.second c.args.start c.args.trace.now c.in-Some.ensures.0

pub returns-in-None : goal.returns-in-None
returns-in-None c =
    joined-tally c.args.constraint.now.kind c.args.constraint.now.first c.args.constraint.now.second c.args.start c.args.trace.now c.args.firsts.now c.args.seconds.now c.of_events.result c.in-None.ensures
    c.requires.made c.requires.firsts c.requires.seconds c.of_events.ensures
