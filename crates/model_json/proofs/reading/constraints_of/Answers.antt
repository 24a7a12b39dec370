use Rattle.std.proofs.Common.{[], ◌+◌, ap, ◌∙◌, sym, drop, map}
use Rattle.serde_json.specs.View.{view}
use Rattle.model_json.specs.Model.{item_read, items_read}
use Rattle.model_json.proofs.Causes.{handed, handed_on}
use Rattle.model_json.proofs.ItemsOn.{items_on, items_stop}
use Rattle.model_json.proofs.reading.constraints_of.Goals as goal

pub loop-place-preserved : goal.loop-place-preserved
loop-place-preserved c =
    let names = c.loop-place.names.names in
    let more = c.read_item.new.names.names in
    let i = c.loop-place.place in (
      c.loop-place.invariant.0
          ∙ items_on c.args.repertoire c.args.items.now i c.index-items-place.result names c.loop-place.constraints.items c.loop-place-test.true c.index-items-place.is c.in_ok-read_item.field-0 more
          c.in_ok-read_item.ensures.ok
          ∙ ap (λ l. items_read c.args.repertoire ((i + 1) + 1) (record { names = more; constraints = l }) (map view (drop (i + 1) c.args.items.now))) (sym c.in_ok-push.ensures.items),
      c.in_ok-read_item.ensures.limit,
      c.in_ok-read_item.ensures.within,
    )

pub returns-in_err-read_item-clause-refusal : goal.returns-in_err-read_item-clause-refusal
returns-in_err-read_item-clause-refusal c =
    let names = c.loop-place.names.names in
    let i = c.loop-place.place in
    let r = c.in_err-read_item.field-0.0 in
    handed_on c.from_residual.result r _ c.from_residual.ensures.1
    (handed (item_read c.args.repertoire (i + 1) names (view c.index-items-place.result)) (items_read c.args.repertoire 1 (record { names = c.args.names.names; constraints = [] }) (map view c.args.items.now)) r
    (λ refused. c.loop-place.invariant.0
    ∙ items_stop c.args.repertoire c.args.items.now i c.index-items-place.result names c.loop-place.constraints.items c.loop-place-test.true c.index-items-place.is r refused)
    c.in_err-read_item.ensures.refusal)
