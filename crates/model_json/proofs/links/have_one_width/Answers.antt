use Rattle.std.proofs.Common.{ap, arith, eqb, length, sym, ◌∙◌}
use Rattle.std.specs.List.{list_all}
use Rattle.model_json.proofs.LinksRead.{one-width}
use Rattle.model_json.proofs.links.have_one_width.Goals as goal

pub returns-in-Some : goal.returns-in-Some
returns-in-Some c =
    one-width (λ row. row.items) c.args.rows.now c.in-Some.first.now c.are_of_width.result (sym c.in-Some.ensures.value)
    (c.are_of_width.ensures ∙ ap (λ n. list_all (λ row. eqb (length row.items) n) c.args.rows.now) {x = c.len.result} {y = length c.in-Some.first.now.items} (omega (arith, c.len.ensures, c.in-Some.first.now.ok.0)))
