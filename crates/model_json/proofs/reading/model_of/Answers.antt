use Rattle.std.proofs.Common.{◌≤◌, [], ap, sym, ◌∙◌, length, map, arith}
use Rattle.std.specs.List.{filter_map}
use Rattle.std.proofs.lemmas.List.{length-map}
use Rattle.std.proofs.lemmas.Result.{IfErr-weaker, IfOk-weaker}
use Rattle.serde_json.specs.Find.{as_str}
use Rattle.serde_json.specs.View.{view}
use Rattle.decl_base.specs.Limits.{standard}
use Rattle.event_log.specs.Logs.{first_seen}
use Rattle.model_json.specs.Model.{items_read, model_of, within}
use Rattle.model_json.proofs.Causes.{handed, handed_on}
use Rattle.model_json.proofs.Elements.{each-filter_map}
use Rattle.model_json.proofs.KnownModels.{model-items, model-names}
use Rattle.model_json.proofs.reading.model_of.Goals as goal

pub returns-in_err-names-clause-refusal : goal.returns-in_err-names-clause-refusal
returns-in_err-names-clause-refusal c =
    let value = view c.args.value.now in
    let items = c.in-Some.shape.constraints.now in
    let known = c.in-Some.ensures.some in
    let texts = each-filter_map as_str (map view c.in-Some.shape.tasks.now) known.0 known.1 in
    let few : length (map view items) ≤ standard.candidates = omega (arith, length-map items view, ap (λ l. l.candidates) c.standard.ensures, c.if-count-standard.false) in
    let r = c.in_err-names.field-0.0 in
    handed_on c.from_residual.result r _ c.from_residual.ensures.1
    (handed (within (first_seen (filter_map as_str (map view c.in-Some.shape.tasks.now)))) (model_of value) r
    (λ refused. model-names value _ known.2 few r (ap (λ l. within (first_seen l)) (sym texts) ∙ refused)) c.in_err-names.ensures.refusal)

pub returns-clause-model : goal.returns-clause-model
returns-clause-model c =
    let value = view c.args.value.now in
    let items = c.in-Some.shape.constraints.now in
    let known = c.in-Some.ensures.some in
    let texts = each-filter_map as_str (map view c.in-Some.shape.tasks.now) known.0 known.1 in
    let few : length (map view items) ≤ standard.candidates = omega (arith, length-map items view, ap (λ l. l.candidates) c.standard.ensures, c.if-count-standard.false) in
    IfOk-weaker c.constraints_of.result _ _
    (λ model is. model-items value _ known.2 few c.in_ok-names.names.names (ap (λ l. within (first_seen l)) (sym texts) ∙ c.in_ok-names.ensures.names) ∙ is)
    c.constraints_of.ensures.model

pub returns-clause-refusal : goal.returns-clause-refusal
returns-clause-refusal c =
    let value = view c.args.value.now in
    let items = c.in-Some.shape.constraints.now in
    let known = c.in-Some.ensures.some in
    let names = c.in_ok-names.names.names in
    let texts = each-filter_map as_str (map view c.in-Some.shape.tasks.now) known.0 known.1 in
    let few : length (map view items) ≤ standard.candidates = omega (arith, length-map items view, ap (λ l. l.candidates) c.standard.ensures, c.if-count-standard.false) in
    IfErr-weaker c.constraints_of.result _ _
    (λ r cause. handed (items_read c.in-Some.shape.repertoire 1 (record { names = names; constraints = [] }) (map view items)) (model_of value) r
    (λ refused. model-items value _ known.2 few names (ap (λ l. within (first_seen l)) (sym texts) ∙ c.in_ok-names.ensures.names) ∙ refused) cause)
    c.constraints_of.ensures.refusal
