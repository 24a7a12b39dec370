use Rattle.std.proofs.Common.{ap, arith, length, map, option_and_then, sym, subst, ◌≤◌, ◌<◌, ◌∙◌}
use Rattle.std.proofs.lemmas.List.{length-map}
use Rattle.serde_json.specs.Find.{as_str}
use Rattle.serde_json.specs.View.{view}
use Rattle.decl_base.specs.Limits.{standard}
use Rattle.event_log.specs.Logs.{first_seen}
use Rattle.model_json.specs.Model.{ModelCause, texts_in, within}
use Rattle.model_json.specs.Certificate.{names_of}
use Rattle.model_json.proofs.Causes.{handed_on}
use Rattle.model_json.proofs.Elements.{each-filter_map, each-length}
use Rattle.model_json.proofs.TaskNames.{names-fall, names-good, names-many, names-twice, only-memory}
use Rattle.model_json.proofs.claims.names_of.Goals.{else-len-tasks-via-then-len-tasks+else-ascend, else-len-tasks-via-else-len-tasks}
use Rattle.model_json.proofs.claims.names_of.Goals as goal

pub returns-then-tasks-standard-clause-names : goal.returns-then-tasks-standard-clause-names
returns-then-tasks-standard-clause-names c =
    let elements = c.in-Some-texts_in.tasks.now in
    let texts = c.in-Some-texts_in.ensures.some in
    let read = ap (option_and_then texts_in) (sym c.in-Some.ensures) ∙ texts.2 in
    let many : standard.activities < length texts.0 =
    omega (arith, c.if-tasks-standard.true, ap (λ l. l.activities) c.standard.ensures, length-map elements view, each-length as_str (map view elements) texts.0 texts.1) in
    sym (ap (option_and_then names_of) read ∙ names-many texts.0 many)

pub returns-in_err-names-clause-cause : goal.returns-in_err-names-clause-cause
returns-in_err-names-clause-cause c =
    let elements = c.in-Some-texts_in.tasks.now in
    let texts = c.in-Some-texts_in.ensures.some in
    let same = each-filter_map as_str (map view elements) texts.0 texts.1 in
    let few : length texts.0 ≤ standard.activities =
    omega (arith, c.if-tasks-standard.false, ap (λ l. l.activities) c.standard.ensures, length-map elements view, each-length as_str (map view elements) texts.0 texts.1) in
    let r = c.in_err-names.field-0.0 in
    handed_on c.from_residual.result r _ c.from_residual.ensures.1 (only-memory texts.0 few r (subst (λ l. ModelCause (within (first_seen l)) r) same c.in_err-names.ensures.refusal))

pub returns-then-ascend-clause-names : goal.returns-then-ascend-clause-names
returns-then-ascend-clause-names c =
    let elements = c.in-Some-texts_in.tasks.now in
    let texts = c.in-Some-texts_in.ensures.some in
    let read = ap (option_and_then texts_in) (sym c.in-Some.ensures) ∙ texts.2 in
    let same = each-filter_map as_str (map view elements) texts.0 texts.1 in
    let as_many = each-length as_str (map view elements) texts.0 texts.1 in
    let few : length texts.0 ≤ standard.activities = omega (arith, c.if-tasks-standard.false, ap (λ l. l.activities) c.standard.ensures, length-map elements view, as_many) in
    sym (ap (option_and_then names_of) read
    ∙ names-good texts.0 few c.in_ok-names.names.names (ap (λ l. within (first_seen l)) (sym same) ∙ c.in_ok-names.ensures.names) (omega (arith, c.if-len-tasks.true, c.len.ensures, length-map elements view, as_many)) (sym c.ascend.ensures ∙ c.if-ascend.true))

pub returns-else-len-tasks-clause-names : goal.returns-else-len-tasks-clause-names
returns-else-len-tasks-clause-names c =
    let elements = c.in-Some-texts_in.tasks.now in
    let texts = c.in-Some-texts_in.ensures.some in
    let read = ap (option_and_then texts_in) (sym c.in-Some.ensures) ∙ texts.2 in
    let same = each-filter_map as_str (map view elements) texts.0 texts.1 in
    let as_many = each-length as_str (map view elements) texts.0 texts.1 in
    let few : length texts.0 ≤ standard.activities = omega (arith, c.if-tasks-standard.false, ap (λ l. l.activities) c.standard.ensures, length-map elements view, as_many) in
    let is = ap (λ l. within (first_seen l)) (sym same) ∙ c.in_ok-names.ensures.names in
    elim c.else-len-tasks.branch [
      | else-len-tasks-via-then-len-tasks+else-ascend w ↦ sym (ap (option_and_then names_of) read ∙ names-fall texts.0 few c.in_ok-names.names.names is (sym w.ascend.ensures ∙ w.if-ascend.false))
      | else-len-tasks-via-else-len-tasks w ↦ sym (ap (option_and_then names_of) read
          ∙ names-twice texts.0 few c.in_ok-names.names.names is (λ one. w.if-len-tasks.false (omega (arith, one, c.len.ensures, length-map elements view, as_many))))
    ]
