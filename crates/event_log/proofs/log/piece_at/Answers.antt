use Rattle.std.proofs.Common.{◌≤◌, ◌-◌, Some, length, take, drop, get_or, sym, ap, ◌∙◌, subst, arith, rules}
use Rattle.event_log.proofs.Cuts.{cut_at-get, AscendsTo-at}
use Rattle.event_log.proofs.log.piece_at.Goals as goal

pub offset_bounds-events-start : goal.offset_bounds-events-start
offset_bounds-events-start c =
    let at = AscendsTo-at 0 c.args.starts.now (length c.args.events.now) c.args.place c.requires.ascends c.requires.inside in
    let start : get_or c.args.starts.now c.args.place 0 ≤ length c.args.events.now = omega (arith, at.0, at.1) in
    search rules

pub slice_bounds-result-count : goal.slice_bounds-result-count
slice_bounds-result-count c =
    let at = AscendsTo-at 0 c.args.starts.now (length c.args.events.now) c.args.place c.requires.ascends c.requires.inside in
    subst (λ n. get_or c.args.starts.now c.args.place 0 ≤ n) (sym c.end_of-end.ensures) at.0

pub slice_bounds-result-start : goal.slice_bounds-result-start
slice_bounds-result-start c =
    let at = AscendsTo-at 0 c.args.starts.now (length c.args.events.now) c.args.place c.requires.ascends c.requires.inside in
    let ordered : get_or c.args.starts.now c.args.place 0 ≤ c.end_of-end.result = subst (λ n. get_or c.args.starts.now c.args.place 0 ≤ n) (sym c.end_of-end.ensures) at.0 in
    search rules

pub slice_bounds-result-end : goal.slice_bounds-result-end
slice_bounds-result-end c =
    let at = AscendsTo-at 0 c.args.starts.now (length c.args.events.now) c.args.place c.requires.ascends c.requires.inside in
    let within : c.end_of-end.result ≤ length c.args.events.now = subst (λ n. n ≤ length c.args.events.now) (sym c.end_of-end.ensures) at.1 in
    search rules

pub returns : goal.returns
returns c =
    cut_at-get c.args.starts.now c.args.events.now c.args.place c.requires.inside
    ∙ ap (λ n. Some (take (n - get_or c.args.starts.now c.args.place 0) (drop (get_or c.args.starts.now c.args.place 0) c.args.events.now))) (sym c.end_of-end.ensures)
