use Rattle.std.proofs.Common.{length, ap, arith, subst}
use Rattle.event_log.specs.Log.{AscendsTo}
use Rattle.event_log.proofs.Cuts.{AscendsTo-higher, events_of-all}
use Rattle.event_log.proofs.Logging.{events_full, put_in, some_start, StartsAtZero-push}
use Rattle.event_log.proofs.log.Log.push_event.Goals as goal

pub returns-then-len-self-clause-cause : goal.returns-then-len-self-clause-cause
returns-then-len-self-clause-cause c =
    let fields = c.self.inside in
    let ascends = subst (AscendsTo 0 fields.starts.items) fields.events.ok.0 c.self.invariant.0 in (
      ap (λ s. s.event_limit) c.self.view_is,
      events_full fields.starts.items fields.events.items fields.trace_limit fields.event_limit c.args.self.now c.self.view_is ascends c.self.invariant.1
          (omega (arith, c.self.invariant.3, fields.events.ok.0)) (omega (arith, fields.events.ok.0)),
    )

pub invariant_of-self-2 : goal.invariant_of-self-2
invariant_of-self-2 c =
    let fields = c.self.inside in
    let some = some_start fields.starts.items fields.events.items fields.trace_limit fields.event_limit c.args.self.now c.self.view_is c.requires in (
      AscendsTo-higher 0 fields.starts.items fields.events.len c.push.new.self.len (omega (arith, c.in_ok-push.ensures.len)) c.self.invariant.0,
      StartsAtZero-push fields.starts.items fields.events.items c.push.new.self.items some c.self.invariant.1,
      c.self.invariant.2,
      omega (arith, c.in_ok-push.ensures.len),
    )

pub returns-clause-ok : goal.returns-clause-ok
returns-clause-ok c =
    let fields = c.self.inside in
    let some = some_start fields.starts.items fields.events.items fields.trace_limit fields.event_limit c.args.self.now c.self.view_is c.requires in
    let ascends = subst (AscendsTo 0 fields.starts.items) fields.events.ok.0 c.self.invariant.0 in
    put_in fields.starts.items fields.events.items fields.trace_limit fields.event_limit c.args.self.now c.self.view_is c.push.new.self.items c.args.id c.in_ok-push.ensures.items ascends some

pub returns-clause-within : goal.returns-clause-within
returns-clause-within c =
    let fields = c.self.inside in
    let some = some_start fields.starts.items fields.events.items fields.trace_limit fields.event_limit c.args.self.now c.self.view_is c.requires in
    let grown = AscendsTo-higher 0 fields.starts.items fields.events.len c.push.new.self.len (omega (arith, c.in_ok-push.ensures.len)) c.self.invariant.0 in
    let all = events_of-all fields.starts.items c.push.new.self.items (subst (AscendsTo 0 fields.starts.items) c.push.new.self.ok.0 grown) (StartsAtZero-push fields.starts.items fields.events.items c.push.new.self.items some c.self.invariant.1) in
    omega (arith, ap length all, c.push.new.self.ok.0, c.in_ok-push.ensures.len)
