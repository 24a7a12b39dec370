use Rattle.std.proofs.Common.{◌≡◌, ◌≢◌, ◌<◌, ℕ, List, All, slice_index_or, sym, ap, ◌∙◌, subst}
use Rattle.std.proofs.lemmas.Bool.{true≢false}
use Rattle.std.proofs.lemmas.List.{take_all}
use Rattle.std.proofs.lemmas.List.Elements.{All-more}
use Rattle.std.proofs.lemmas.Slice.Eq.{bytes_eq-Decides}
use Rattle.template_core.specs.Constraints.{IsTemplate}
use Rattle.template_core.specs.declared.kind.Kind.{Kind}
use Rattle.template_core.specs.declared.kind.Kind.TheVariants.{Init}
use Rattle.template_set.proofs.EachKind.{each_kind, all_templates}
use Rattle.template_set.proofs.names.kind_of.Goals as goal
use Rattle.template_set.specs.Names.{all_kinds, name_of}

known : (kinds : List Kind) (place : ℕ) → kinds ≡ all_kinds → place < 50 → IsTemplate (slice_index_or kinds place Init)
known kinds place are lt = subst (λ kinds. IsTemplate (slice_index_or kinds place Init)) (sym are) (all_templates place Init lt)

pub name-requires : goal.name-requires
name-requires c = known c.kinds-kind-items.result c.loop-kind.kind-index c.kinds-kind-items.ensures.all c.loop-kind-test.true

pub returns-then-eq : goal.returns-then-eq
returns-then-eq c = (
  known c.kinds-kind-items.result c.loop-kind.kind-index c.kinds-kind-items.ensures.all c.loop-kind-test.true,
  sym ((bytes_eq-Decides c.name.result.now c.args.text.now).0 (sym c.eq.ensures ∙ c.if-eq.true)) ∙ c.name.ensures,
)

pub loop-kind-preserved : goal.loop-kind-preserved
loop-kind-preserved c =
    let named : c.name.result.now ≡ name_of (slice_index_or all_kinds c.loop-kind.kind-index Init)
    = c.name.ensures ∙ ap (λ kinds. name_of (slice_index_or kinds c.loop-kind.kind-index Init)) c.loop-kind.invariant.0 in (
      c.loop-kind.invariant.0,
      All-more (λ kind. c.args.text.now ≢ name_of kind) all_kinds c.loop-kind.kind-index Init c.loop-kind-test.true c.loop-kind.invariant.1
          (λ same. true≢false (sym ((bytes_eq-Decides c.name.result.now c.args.text.now).1 (named ∙ sym same)) ∙ sym c.eq.ensures ∙ c.if-eq.false)),
    )

pub returns : goal.returns
returns c =
    each_kind (λ kind. c.args.text.now ≢ name_of kind)
    (subst (All (λ kind. c.args.text.now ≢ name_of kind)) (take_all c.loop-kind.kind-index all_kinds c.loop-kind-test.false) c.loop-kind.invariant.1)
