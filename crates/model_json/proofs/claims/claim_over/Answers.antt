use Rattle.std.proofs.Common.{ap, codes, length, option_and_then, option_map, subst, sym, ◌∙◌}
use Rattle.serde_json.specs.Find.{get}
use Rattle.serde_json.specs.View.{view}
use Rattle.event_log.specs.Alphabet.{Names}
use Rattle.chain_cert.specs.Forms.{IsClaim}
use Rattle.chain_cert.specs.Parts.{claim_parts}
use Rattle.model_json.specs.Certificate.{dropped_in, told, trace_in}
use Rattle.model_json.proofs.ClaimForms.{claim-made}
use Rattle.model_json.proofs.claims.claim_over.Goals as goal

pub unreachable-requires : goal.unreachable-requires
unreachable-requires c =
    let report = view c.args.report.now in
    let repertoire = c.args.repertoire in
    let same = rw c.in-Some.is at c.in_ok-model.ensures.same in
    let same2 = (rw c.in-Some-2.is at c.in_ok-dropped.ensures.same) ∙ same in
    let model = c.in-Some.model.items in
    let witnesses = c.in-Some.witnesses.items in
    let dropped = c.in-Some-2.dropped.items in
    let example = c.in-Some-3.example in
    let kept_is = sym c.in_ok-model.ensures.kept ∙ ap (option_map (λ k. (k.0.items, k.1.items))) c.in-Some.is in
    let dropped_is = ap (λ (n : Names). dropped_in (told report repertoire n.names)) (sym same) ∙ sym c.in_ok-dropped.ensures.dropped ∙ ap (option_map (λ l. l.items)) c.in-Some-2.is in
    let example_is = ap (λ (n : Names). option_and_then (trace_in n.names) (get (codes "example") report)) (sym same2) ∙ sym c.in_ok-example.ensures.trace ∙ c.in-Some-3.is in
    let many = c.len.ensures ∙ ap (λ (n : Names). length n.names) same2 in
    c.in-None.ensures.none (subst (λ n. IsClaim (claim_parts n model witnesses dropped example)) (sym many)
    (claim-made (told report repertoire c.args.names.names) c.requires.within model witnesses dropped example kept_is dropped_is example_is))
