use Rattle.std.proofs.Common.{ap, refl, subst, sym, ◌∙◌}
use Rattle.event_log.specs.Logs.{in_byte_order}
use Rattle.minerful_core.specs.Outcome.{IsWatchable}
use Rattle.minerful_core.proofs.Comparing.{asks_both}
use Rattle.minerful_core.proofs.Monitored.{prints_all, unopened_cause, unopened_leaves, unread_cause, unread_leaves, untried_cause, untried_leaves, watched_cause, watched_leaves}
use Rattle.minerful_core.proofs.Refusing.{handed_on}
use Rattle.minerful_core.proofs.Renaming.{HasNames, few_names_of, has-own, made_over}
use Rattle.minerful_core.proofs.monitoring.monitor_log.Goals as goal

pub monitor_of-requires-clause-names : goal.monitor_of-requires-clause-names
monitor_of-requires-clause-names g c =
    few_names_of c.in_ok-model.model c.in_ok-names.names.names (ap (λ o. o.names) c.in_ok-names.ensures.ok ∙ ap in_byte_order c.names.ensures) c.in_ok-model.ensures.known

pub monitor_of-requires-clause-made : goal.monitor_of-requires-clause-made
monitor_of-requires-clause-made g c =
    let names_are = ap (λ o. o.names) c.in_ok-names.ensures.ok ∙ ap in_byte_order c.names.ensures in
    made_over c.in_ok-model.model c.in_ok-model.ensures.known c.in_ok-names.names.names c.deref.result.now (c.deref.ensures.value ∙ c.in_ok-list.ensures.list) _ refl
    (subst (λ names. HasNames names c.in_ok-model.model) (sym names_are) (has-own c.in_ok-model.model))

pub returns-in_err-names-clause-opens : goal.returns-in_err-names-clause-opens
returns-in_err-names-clause-opens g c = (1, c.in_ok-model.ensures.asked)

pub returns-in_err-list-clause-opens : goal.returns-in_err-list-clause-opens
returns-in_err-list-clause-opens g c = (1, c.in_ok-model.ensures.asked)

pub returns-in_err-monitor-clause-opens : goal.returns-in_err-monitor-clause-opens
returns-in_err-monitor-clause-opens g c = (1, c.in_ok-model.ensures.asked)

pub returns-in_err-open_named-clause-opens : goal.returns-in_err-open_named-clause-opens
returns-in_err-open_named-clause-opens g c =
    asks_both c.args.settings.now.model c.args.settings.now.log (g.I.Inputs.state c.args.inputs.now) (g.I.Inputs.state c.read_known_model.new.inputs) (g.I.Inputs.state c.open_named.new.inputs)
    c.in_ok-model.ensures.asked c.in_err-open_named.ensures.opens

pub returns-in_err-model-clause-cause : goal.returns-in_err-model-clause-cause
returns-in_err-model-clause-cause g c =
    handed_on c.from_residual.result c.in_err-model.field-0.0 _ c.from_residual.ensures.1
    (unread_cause c.args.settings.now (g.I.Inputs.state c.args.inputs.now) (g.I.Inputs.state c.read_known_model.new.inputs) (g.O.Sink.state c.args.out.now)
    c.in_err-model.field-0.0 c.in_err-model.ensures.refusal)

pub returns-in_err-model-clause-left : goal.returns-in_err-model-clause-left
returns-in_err-model-clause-left g c =
    handed_on c.from_residual.result c.in_err-model.field-0.0 _ c.from_residual.ensures.1
    (unread_leaves c.args.settings.now (g.I.Inputs.state c.args.inputs.now) (g.I.Inputs.state c.read_known_model.new.inputs) (g.O.Sink.state c.args.out.now)
    c.in_err-model.field-0.0 c.in_err-model.ensures.refusal)

pub returns-in_err-monitor-clause-cause : goal.returns-in_err-monitor-clause-cause
returns-in_err-monitor-clause-cause g c =
    handed_on c.from_residual-in_err-monitor.result c.in_err-monitor.field-0.0 _ c.from_residual-in_err-monitor.ensures.1
    (untried_cause c.args.settings.now (g.I.Inputs.state c.args.inputs.now) (g.I.Inputs.state c.read_known_model.new.inputs) c.in_ok-model.model c.in_ok-names.names.names c.deref.result.now
    (ap (λ o. o.names) c.in_ok-names.ensures.ok ∙ ap in_byte_order c.names.ensures) (c.deref.ensures.value ∙ c.in_ok-list.ensures.list)
    (g.O.Sink.state c.args.out.now) c.in_err-monitor.field-0.0 c.in_err-monitor.ensures.err)

pub returns-in_err-monitor-clause-left : goal.returns-in_err-monitor-clause-left
returns-in_err-monitor-clause-left g c =
    handed_on c.from_residual-in_err-monitor.result c.in_err-monitor.field-0.0 _ c.from_residual-in_err-monitor.ensures.1
    (untried_leaves c.args.settings.now (g.I.Inputs.state c.args.inputs.now) (g.I.Inputs.state c.read_known_model.new.inputs) c.in_ok-model.model c.in_ok-names.names.names c.deref.result.now
    (ap (λ o. o.names) c.in_ok-names.ensures.ok ∙ ap in_byte_order c.names.ensures) (c.deref.ensures.value ∙ c.in_ok-list.ensures.list)
    (g.O.Sink.state c.args.out.now) c.in_err-monitor.field-0.0 c.in_ok-model.ensures.model c.in_err-monitor.ensures.err)

pub returns-in_err-open_named-clause-cause : goal.returns-in_err-open_named-clause-cause
returns-in_err-open_named-clause-cause g c =
    handed_on c.from_residual-in_err-open_named.result c.in_err-open_named.field-0.0 _ c.from_residual-in_err-open_named.ensures.1
    (unopened_cause c.args.settings.now (g.I.Inputs.state c.args.inputs.now) (g.I.Inputs.state c.open_named.new.inputs) (g.O.Sink.state c.args.out.now)
    (g.I.Inputs.state c.read_known_model.new.inputs) c.in_ok-model.ensures.later c.in_err-open_named.field-0.0 c.in_err-open_named.ensures.refusal)

pub returns-in_err-open_named-clause-left : goal.returns-in_err-open_named-clause-left
returns-in_err-open_named-clause-left g c =
    handed_on c.from_residual-in_err-open_named.result c.in_err-open_named.field-0.0 _ c.from_residual-in_err-open_named.ensures.1
    (unopened_leaves c.args.settings.now (g.I.Inputs.state c.args.inputs.now) (g.I.Inputs.state c.open_named.new.inputs) (g.O.Sink.state c.args.out.now)
    (g.I.Inputs.state c.read_known_model.new.inputs) c.in_ok-model.ensures.later c.in_err-open_named.field-0.0 c.in_err-open_named.ensures.refusal c.in_err-open_named.ensures.closed)

pub returns-in_err-watch-clause-cause : goal.returns-in_err-watch-clause-cause
returns-in_err-watch-clause-cause g c =
    handed_on c.from_residual-in_err-watch.result c.in_err-watch.field-0.0 _ c.from_residual-in_err-watch.ensures.1
    (watched_cause c.args.settings.now (g.I.Inputs.state c.args.inputs.now) (g.I.Inputs.state c.watch.new.inputs) c.in_ok-model.model c.in_ok-names.names.names c.deref-2.result.now
    (ap (λ o. o.names) c.in_ok-names.ensures.ok ∙ ap in_byte_order c.names.ensures) (c.deref-2.ensures.value ∙ c.in_ok-list.ensures.list)
    (g.I.Inputs.state c.read_known_model.new.inputs) (g.I.Inputs.state c.open_named.new.inputs) c.in_ok-open_named.ensures.opened c.in_ok-model.ensures.contents
    (g.O.Sink.state c.args.out.now) (g.O.Sink.state c.watch.new.out) _ c.in_ok-model.ensures.later c.in_err-watch.field-0.0 c.in_err-watch.ensures.cause)

pub returns-in_err-watch-clause-left : goal.returns-in_err-watch-clause-left
returns-in_err-watch-clause-left g c =
    handed_on c.from_residual-in_err-watch.result c.in_err-watch.field-0.0 _ c.from_residual-in_err-watch.ensures.1
    (watched_leaves c.args.settings.now (g.I.Inputs.state c.args.inputs.now) (g.I.Inputs.state c.watch.new.inputs) c.in_ok-model.model c.in_ok-names.names.names c.deref-2.result.now
    (ap (λ o. o.names) c.in_ok-names.ensures.ok ∙ ap in_byte_order c.names.ensures) (c.deref-2.ensures.value ∙ c.in_ok-list.ensures.list)
    (g.I.Inputs.state c.read_known_model.new.inputs) (g.I.Inputs.state c.open_named.new.inputs) c.in_ok-open_named.ensures.opened c.in_ok-model.ensures.contents
    (g.O.Sink.state c.args.out.now) (g.O.Sink.state c.watch.new.out)
    (subst (IsWatchable c.args.settings.now.states c.in_ok-names.names.names) (c.deref.ensures.value ∙ sym c.deref-2.ensures.value)
    (record { few = c.in_ok-monitor.ensures.few; narrow = c.in_ok-monitor.ensures.narrow }))
    c.standard.result c.standard.ensures c.in_ok-model.ensures.model c.in_err-watch.ensures.keeps c.in_err-watch.field-0.0 c.in_err-watch.ensures.cause)

pub returns-clause-lines : goal.returns-clause-lines
returns-clause-lines g c =
    prints_all c.args.settings.now (g.I.Inputs.state c.args.inputs.now) (g.I.Inputs.state c.watch.new.inputs) c.in_ok-model.model c.in_ok-names.names.names c.deref-2.result.now
    (ap (λ o. o.names) c.in_ok-names.ensures.ok ∙ ap in_byte_order c.names.ensures) (c.deref-2.ensures.value ∙ c.in_ok-list.ensures.list)
    (g.I.Inputs.state c.read_known_model.new.inputs) (g.I.Inputs.state c.open_named.new.inputs) c.in_ok-open_named.ensures.opened c.in_ok-model.ensures.contents
    (g.O.Sink.state c.args.out.now) (g.O.Sink.state c.watch.new.out)
    (subst (IsWatchable c.args.settings.now.states c.in_ok-names.names.names) (c.deref.ensures.value ∙ sym c.deref-2.ensures.value)
    (record { few = c.in_ok-monitor.ensures.few; narrow = c.in_ok-monitor.ensures.narrow }))
    c.standard.result c.standard.ensures c.in_ok-model.ensures.model c.in_ok-watch.ensures.all

pub returns-clause-opens : goal.returns-clause-opens
returns-clause-opens g c =
    let asks = asks_both c.args.settings.now.model c.args.settings.now.log (g.I.Inputs.state c.args.inputs.now) (g.I.Inputs.state c.read_known_model.new.inputs) (g.I.Inputs.state c.open_named.new.inputs)
    c.in_ok-model.ensures.asked c.in_ok-open_named.ensures.opens in
    (asks.0, c.in_ok-watch.ensures.keeps.names ∙ asks.1)

pub returns-in_err-watch-clause-opens : goal.returns-in_err-watch-clause-opens
returns-in_err-watch-clause-opens g c =
    let asks = asks_both c.args.settings.now.model c.args.settings.now.log (g.I.Inputs.state c.args.inputs.now) (g.I.Inputs.state c.read_known_model.new.inputs) (g.I.Inputs.state c.open_named.new.inputs)
    c.in_ok-model.ensures.asked c.in_ok-open_named.ensures.opens in
    (asks.0, c.in_err-watch.ensures.keeps.names ∙ asks.1)
