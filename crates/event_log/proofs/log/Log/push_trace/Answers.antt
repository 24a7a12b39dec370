use Rattle.std.proofs.Common.{◌≡◌, ◌++◌, ◌∷◌, [], length, sym, ap, ◌∙◌, arith, subst}
use Rattle.std.proofs.lemmas.List.{length_push}
use Rattle.event_log.specs.Log.{AscendsTo, StartsAtZero}
use Rattle.event_log.proofs.Cuts.{AscendsTo-higher, AscendsTo-push}
use Rattle.event_log.proofs.Logging.{events_fit, put_behind, starts_few, StartsAtZero-begin, StartsAtZero-push}
use Rattle.event_log.proofs.log.Log.push_trace.Goals as goal

pub invariant_of-self-2 : goal.invariant_of-self-2
invariant_of-self-2 c =
    let fields = c.self.inside in
    let start = c.len-start.result in
    let starts : c.push.new.self.items ≡ fields.starts.items ++ start ∷ [] = c.in_ok-push.ensures.items ∙ ap (λ l. l ++ start ∷ []) c.reserve.ensures.items in
    let at_end : start ≡ length fields.events.items = c.len-start.ensures ∙ fields.events.ok.0 in
    let ascends = subst (AscendsTo 0 fields.starts.items) fields.events.ok.0 c.self.invariant.0 in (
      subst (λ l. AscendsTo 0 l c.extend_from_slice.new.self.len) (sym starts)
          (AscendsTo-higher 0 (fields.starts.items ++ start ∷ []) start c.extend_from_slice.new.self.len (omega (arith, c.in_ok-extend_from_slice.ensures.len, c.len-start.ensures))
          (subst (λ n. AscendsTo 0 (fields.starts.items ++ n ∷ []) n) (sym at_end) (AscendsTo-push 0 fields.starts.items (length fields.events.items) ascends))),
      subst (λ l. StartsAtZero l c.extend_from_slice.new.self.items) (sym starts)
          (StartsAtZero-push (fields.starts.items ++ start ∷ []) fields.events.items c.extend_from_slice.new.self.items (omega (arith, length_push fields.starts.items start))
          (StartsAtZero-begin fields.starts.items fields.events.items start at_end c.self.invariant.1)),
      omega (
        arith,
        c.in_ok-push.ensures.len,
        c.reserve.ensures.len,
        fields.starts.ok.0,
        starts_few fields.starts.items fields.events.items fields.trace_limit fields.event_limit c.args.self.now c.self.view_is c.requires.traces,
      ),
      omega (
        arith,
        c.in_ok-extend_from_slice.ensures.len,
        fields.events.ok.0,
        events_fit fields.starts.items fields.events.items fields.trace_limit fields.event_limit c.args.self.now c.self.view_is (length c.args.trace.now) ascends c.self.invariant.1 c.requires.events,
      ),
    )

pub returns-clause-ok : goal.returns-clause-ok
returns-clause-ok c =
    let fields = c.self.inside in
    put_behind fields.starts.items fields.events.items fields.trace_limit fields.event_limit c.args.self.now c.self.view_is c.push.new.self.items c.extend_from_slice.new.self.items c.args.trace.now c.len-start.result
    (c.in_ok-push.ensures.items ∙ ap (λ l. l ++ c.len-start.result ∷ []) c.reserve.ensures.items) (c.len-start.ensures ∙ fields.events.ok.0) c.in_ok-extend_from_slice.ensures.items
    (subst (AscendsTo 0 fields.starts.items) fields.events.ok.0 c.self.invariant.0)
