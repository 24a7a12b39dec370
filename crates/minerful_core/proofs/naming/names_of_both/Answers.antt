use Rattle.std.proofs.Common.{ap, ap₂, ◌∙◌, arith, fold, length}
use Rattle.std.proofs.lemmas.Result.{IfOk-weaker}
use Rattle.decl_base.specs.declared.limits.Limits.{Limits}
use Rattle.event_log.specs.Alphabet.{Names}
use Rattle.event_log.specs.Logs.{in_byte_order, with_name}
use Rattle.minerful_core.proofs.Renaming.{added-few, both-added}
use Rattle.minerful_core.proofs.naming.names_of_both.Goals as goal

pub add_names-requires-2 : goal.add_names-requires-2
add_names-requires-2 c =
    let added = c.in_ok-add_names.ensures.ok in
    omega (
      arith,
      ap (λ (n : Names). length n.names) added,
      ap (λ (n : Names). n.limit) added,
      ap (λ (n : Names). length n.names) c.new-names.ensures,
      ap (λ (n : Names). n.limit) c.new-names.ensures,
      added-few c.new-names.result.names c.names.result.now.names,
      ap length c.names.ensures,
      ap length c.names-3.ensures,
      c.requires.first,
      c.requires.second,
      ap (λ (l : Limits). l.activities) c.standard.ensures,
    )

pub returns-clause-names : goal.returns-clause-names
returns-clause-names c =
    let names = λ (n : Names). n.names in
    let first = ap names c.in_ok-add_names.ensures.ok ∙ ap₂ (λ a b. fold with_name a b) (ap names c.new-names.ensures) c.names.ensures in
    let second = ap names c.in_ok-add_names-2.ensures.ok ∙ ap₂ (λ a b. fold with_name a b) first c.names-3.ensures in
    IfOk-weaker c.in_order.result _ _ (λ o h. ap names h ∙ ap in_byte_order second ∙ both-added c.args.first.now c.args.second.now) c.in_order.ensures.ok
