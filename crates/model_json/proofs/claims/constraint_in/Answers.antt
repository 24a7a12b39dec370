use Rattle.std.proofs.Common.{sym, ◌∙◌}
use Rattle.serde_json.specs.View.{view}
use Rattle.model_json.proofs.ClaimForms.{item-same, names-same}
use Rattle.model_json.proofs.claims.constraint_in.Goals as goal

pub returns-in-Ok-clause-same : goal.returns-in-Ok-clause-same
returns-in-Ok-clause-same c =
    let old = c.args.names.now in
    let new = c.read_item.new.names in
    names-same new old
    (item-same c.args.repertoire 1 old.names (view c.args.item.now) (c.in-Ok.constraint, new.names) c.in-Ok.ensures.ok (sym c.len.ensures ∙ c.if-len-known.true ∙ c.len-known.ensures))
    (c.in-Ok.ensures.limit ∙ sym c.requires.limit)
