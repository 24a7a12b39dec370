use Rattle.std.proofs.Common.{◌∙◌, List, ℕ, map, ap}
use Rattle.event_log.specs.Log.{Traces}
use Rattle.event_log.specs.Logs.{named}
use Rattle.trace_check.specs.Checking.{numbered_row}
use Rattle.trace_check.proofs.Numbered.{renumbered, checked-numbered}
use Rattle.trace_check.proofs.checking.check.Goals as goal

pub returns-clause-ok : goal.returns-clause-ok
returns-clause-ok c =
    let names = c.args.names.now.names in
    let log_names = c.args.log_names.now.names in
    let ids = c.args.log.now.traces in
    c.in_ok-rows.ensures.ok
    ∙ ap (λ (t : List (List ℕ)). map (numbered_row t) c.args.list.now)
    (ap (λ (s : Traces). s.traces) c.in_ok-numbered.ensures.ok
    ∙ renumbered names log_names c.deref.result.now ids (c.deref.ensures.value ∙ c.in_ok-numbers_of.ensures.ok) c.requires.inside)
    ∙ checked-numbered names (named log_names ids) c.names_differ.ensures c.args.list.now c.requires.made
