use Rattle.std.proofs.Common.{◌++◌, ◌∷◌, [], sym, ap, ◌∙◌, arith, subst}
use Rattle.event_log.specs.Log.{AscendsTo, StartsAtZero}
use Rattle.event_log.proofs.Cuts.{AscendsTo-push, length-cut_at}
use Rattle.event_log.proofs.Logging.{traces_full, begun, StartsAtZero-begin}
use Rattle.event_log.proofs.log.Log.begin_trace.Goals as goal

pub returns-then-len-self-clause-cause : goal.returns-then-len-self-clause-cause
returns-then-len-self-clause-cause c =
    let fields = c.self.inside in (
      ap (λ s. s.trace_limit) c.self.view_is,
      traces_full fields.starts.items fields.events.items fields.trace_limit fields.event_limit c.args.self.now c.self.view_is
          (omega (arith, c.self.invariant.2, fields.starts.ok.0)) (omega (arith, fields.starts.ok.0)),
    )

pub invariant_of-self-2 : goal.invariant_of-self-2
invariant_of-self-2 c =
    let fields = c.self.inside in (
      subst (λ l. AscendsTo 0 l fields.events.len) (sym (c.in_ok-push.ensures.items ∙ ap (λ n. fields.starts.items ++ n ∷ []) c.len-2.ensures)) (AscendsTo-push 0 fields.starts.items fields.events.len c.self.invariant.0),
      subst (λ l. StartsAtZero l fields.events.items) (sym c.in_ok-push.ensures.items) (StartsAtZero-begin fields.starts.items fields.events.items c.len-2.result (c.len-2.ensures ∙ fields.events.ok.0) c.self.invariant.1),
      omega (arith, c.in_ok-push.ensures.len),
      c.self.invariant.3,
    )

pub returns-clause-ok : goal.returns-clause-ok
returns-clause-ok c =
    let fields = c.self.inside in
    begun fields.starts.items fields.events.items fields.trace_limit fields.event_limit c.args.self.now c.self.view_is c.push.new.self.items c.len-2.result c.in_ok-push.ensures.items (c.len-2.ensures ∙ fields.events.ok.0)

pub returns-clause-within : goal.returns-clause-within
returns-clause-within c =
    omega (arith, length-cut_at c.push.new.self.items c.self.inside.events.items, c.push.new.self.ok.0, c.in_ok-push.ensures.len)
