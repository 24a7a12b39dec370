use Rattle.std.proofs.Common.{length, sym, ap, ◌∙◌, subst}
use Rattle.event_log.specs.Logs.{events_of}
use Rattle.event_log.specs.Log.{AscendsTo}
use Rattle.event_log.proofs.Cuts.{events_of-all}
use Rattle.event_log.proofs.log.Log.event_count.Goals as goal

pub returns : goal.returns
returns c =
    let fields = c.self.inside in
    let all = events_of-all fields.starts.items fields.events.items (subst (AscendsTo 0 fields.starts.items) fields.events.ok.0 c.self.invariant.0) c.self.invariant.1 in
    c.len.ensures ∙ fields.events.ok.0 ∙ sym (ap length all) ∙ ap (λ s. length (events_of s.traces)) c.self.view_is
