use Rattle.std.proofs.Common.{cond, Some, None, sym, ap, ◌∙◌}
use Rattle.model_json.proofs.ItemsRead.{named-none, named-own}
use Rattle.model_json.proofs.items.kind_named.Goals as goal

pub returns-in_default-clause-kind : goal.returns-in_default-clause-kind
returns-in_default-clause-kind c = sym (named-none c.args.repertoire c.args.text.now c.in_default.ensures)

pub returns-then-is_of-clause-kind : goal.returns-then-is_of-clause-kind
returns-then-is_of-clause-kind c =
    sym (named-own c.args.repertoire c.args.text.now c.in-Some.kind c.in-Some.ensures.0 c.in-Some.ensures.1 ∙ ap (λ b. cond b (Some c.in-Some.kind) None) (sym c.if-is_of.ensures))

pub returns-else-is_of-clause-kind : goal.returns-else-is_of-clause-kind
returns-else-is_of-clause-kind c =
    sym (named-own c.args.repertoire c.args.text.now c.in-Some.kind c.in-Some.ensures.0 c.in-Some.ensures.1 ∙ ap (λ b. cond b (Some c.in-Some.kind) None) (sym c.if-is_of.ensures))
