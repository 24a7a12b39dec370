use Rattle.std.proofs.Common.{Some, ap, map, sym, ◌∙◌}
use Rattle.std.proofs.lemmas.List.{length-map}
use Rattle.std.proofs.lemmas.List.Folds.{flat_map-map}
use Rattle.model_json.proofs.LinksRead.{rows-joined}
use Rattle.model_json.proofs.links.joined_of.Goals as goal

pub returns-in_ok-joined : goal.returns-in_ok-joined
returns-in_ok-joined c =
    let rows = map (λ row. row.items) c.args.rows.now in
    ap Some (c.in_ok-joined.ensures ∙ sym (flat_map-map (λ r. r) (λ row. row.items) c.args.rows.now))
    ∙ sym (rows-joined c.args.states rows (length-map c.args.rows.now (λ row. row.items) ∙ c.if-rows-states.true) (sym c.if-have_one_width.true ∙ c.have_one_width.ensures))
