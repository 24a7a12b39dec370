use Rattle.std.proofs.Common.{◌≡◌, ◌++◌, ◌∷◌, [], map, get_or, string_bytes, sym, ap, ap₂, ◌∙◌, arith}
use Rattle.std.proofs.lemmas.List.{map-append, map_more}
use Rattle.std.proofs.lemmas.Option.{get_or_from_slice_get}
use Rattle.report_text.specs.Fields.{quoted}
use Rattle.report_text.proofs.fields.quote_all.Goals as goal

pub loop-id-preserved : goal.loop-id-preserved
loop-id-preserved c =
    let names = c.args.names.now.names in
    let id = c.loop-id.id in
    let name : get_or names id [] ≡ c.name.result.now = get_or_from_slice_get names id c.name.result.now [] c.name.ensures in
    ap (map string_bytes) c.in_ok-push.ensures.items
    ∙ map-append string_bytes c.loop-id.texts.items (c.in_ok-quote.field-0 ∷ [])
    ∙ ap₂ (λ xs x. xs ++ x ∷ []) c.loop-id.invariant (c.in_ok-quote.ensures ∙ ap quoted (sym name))
    ∙ sym (map_more quoted names id [] (omega (arith, c.loop-id-test.true, c.len-id-end.ensures)))
