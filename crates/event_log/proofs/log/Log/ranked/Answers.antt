use Rattle.std.proofs.Common.{◌<◌, All, length, map, sym, ap, ◌∙◌, subst}
use Rattle.std.specs.Prelude.{slice_index}
use Rattle.event_log.specs.Logs.{events_of}
use Rattle.event_log.specs.Log.{AscendsTo}
use Rattle.event_log.proofs.Cuts.{events_of-all}
use Rattle.event_log.proofs.Logging.{replaced}
use Rattle.event_log.proofs.log.Log.ranked.Goals as goal

pub ranks_of-requires : goal.ranks_of-requires
ranks_of-requires c =
    let fields = c.self.inside in
    let all = events_of-all fields.starts.items fields.events.items (subst (AscendsTo 0 fields.starts.items) fields.events.ok.0 c.self.invariant.0) c.self.invariant.1 in
    subst (All (λ id. id < length c.args.ranks.now)) (sym (ap (λ s. events_of s.traces) c.self.view_is) ∙ all ∙ sym c.deref.ensures.value) c.requires

pub returns-clause-ok : goal.returns-clause-ok
returns-clause-ok c =
    let fields = c.self.inside in
    replaced fields.starts.items fields.events.items fields.trace_limit fields.event_limit c.args.self.now c.self.view_is (slice_index c.args.ranks.now) c.in_ok-from_slice.field-0.items c.in_ok-events.events.items
    (c.in_ok-from_slice.ensures.items ∙ c.deref-2.ensures.value) (c.in_ok-events.ensures.ok ∙ ap (map (slice_index c.args.ranks.now)) c.deref.ensures.value)
