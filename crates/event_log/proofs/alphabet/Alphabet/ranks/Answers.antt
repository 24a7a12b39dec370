use Rattle.std.proofs.Common.{◌≡◌, ◌++◌, ◌∷◌, [], ap, sym, ◌∙◌, map, take}
use Rattle.std.proofs.lemmas.List.{map_push}
use Rattle.event_log.specs.Logs.{place_of, in_byte_order}
use Rattle.event_log.proofs.Naming.{take-get}
use Rattle.event_log.proofs.alphabet.Alphabet.ranks.Goals as goal

pub loop-id-preserved : goal.loop-id-preserved
loop-id-preserved c =
    let names = c.args.self.now.names in
    let name = c.name.result.now in
    let rank : c.place.result ≡ place_of (in_byte_order names) name = c.place.ensures ∙ ap (λ s. place_of s.names name) c.in_ok-ordered.ensures.ok in
    c.in_ok-push.ensures.items
    ∙ ap (λ l. l ++ c.place.result ∷ []) c.loop-id.invariant
    ∙ ap (λ n. map (place_of (in_byte_order names)) (take c.loop-id.id names) ++ n ∷ []) rank
    ∙ sym (map_push (place_of (in_byte_order names)) (take c.loop-id.id names) name)
    ∙ ap (map (place_of (in_byte_order names))) (sym (take-get names c.loop-id.id name c.name.ensures))
