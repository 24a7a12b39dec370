use Rattle.std.proofs.Common.{ap, codes, map, option_and_then, option_map, sym, ◌∙◌}
use Rattle.std.proofs.lemmas.Result.{IfOk-weaker}
use Rattle.serde_json.specs.View.{view}
use Rattle.model_json.specs.Certificate.{joined, list_of, number_in}
use Rattle.model_json.proofs.LinksRead.{under-some}
use Rattle.model_json.proofs.links.next_of.Goals as goal

pub returns : goal.returns
returns c =
    let read =
    under-some (list_of number_in) (codes "next") (view c.args.value.now) (map view c.in-Some.values.now) c.in-Some.ensures
    ∙ sym c.in_ok-rows.ensures ∙ ap (option_map (λ l. map (λ row. row.items) l.items)) c.in-Some-2.is in
    IfOk-weaker c.joined_of.result _ _ (λ next is. is ∙ ap (λ l. joined c.args.states (map (λ row. row.items) l)) c.deref.ensures.value ∙ ap (option_and_then (joined c.args.states)) (sym read)) c.joined_of.ensures
