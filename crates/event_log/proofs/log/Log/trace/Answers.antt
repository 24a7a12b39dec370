use Rattle.std.proofs.Common.{◌≡◌, ◌<◌, ◌∙◌, length, sym, ap, subst}
use Rattle.event_log.proofs.Cuts.{length-cut_at}
use Rattle.event_log.proofs.log.Log.trace.Goals as goal

pub piece_at-requires-clause-inside : goal.piece_at-requires-clause-inside
piece_at-requires-clause-inside c =
    let fields = c.self.inside in
    let many : length c.args.self.now.traces ≡ length c.deref-2.result.now = sym (ap (λ s. length s.traces) c.self.view_is) ∙ length-cut_at fields.starts.items fields.events.items ∙ ap length (sym c.deref-2.ensures.value) in
    subst (λ n. c.args.place < n) many c.requires
