use Rattle.std.proofs.Common.{length, sym, ap, ◌∙◌}
use Rattle.event_log.proofs.Cuts.{length-cut_at}
use Rattle.event_log.proofs.log.Log.traces.Goals as goal

pub returns : goal.returns
returns c =
    let fields = c.self.inside in
    c.len.ensures ∙ fields.starts.ok.0 ∙ sym (length-cut_at fields.starts.items fields.events.items) ∙ ap (λ s. length s.traces) c.self.view_is
