use Rattle.std.proofs.Common.{◌++◌, ◌∷◌, [], ap, sym, ◌∙◌, map, take}
use Rattle.std.proofs.lemmas.List.{map_push}
use Rattle.event_log.specs.Logs.{place_of}
use Rattle.event_log.proofs.Naming.{take-get}
use Rattle.trace_check.proofs.index.numbers_of.Goals as goal

pub loop-id-preserved : goal.loop-id-preserved
loop-id-preserved c =
    let names = c.args.names.now.names in
    let found = c.args.log_names.now.names in
    let name = c.name.result.now in
    c.in_ok-push.ensures.items
    ∙ ap (λ l. l ++ c.number_in.result ∷ []) c.loop-id.invariant
    ∙ ap (λ n. map (place_of names) (take c.loop-id.id found) ++ n ∷ []) c.number_in.ensures
    ∙ sym (map_push (place_of names) (take c.loop-id.id found) name)
    ∙ ap (map (place_of names)) (sym (take-get found c.loop-id.id name c.name.ensures))
