use Rattle.std.proofs.Common.{ℕ, ap₂}
use Rattle.template_core.specs.declared.constraint.Constraint.{Constraint}
use Rattle.template_core.specs.declared.kind.Kind.{Kind}
use Rattle.minerful_core.proofs.Renaming.{place-is}
use Rattle.minerful_core.proofs.naming.put_over.Goals as goal

abbrev over : Kind → ℕ → ℕ → Constraint
over kind first second = record { kind = kind; first = first; second = second }

pub returns : goal.returns
returns c =
    let names = c.args.names.now.names in
    let own = c.args.model.now.names in
    let con = c.args.constraint.now in
    let first = place-is names own c.names.result.now.names con.first c.name.result.now c.place_among.result c.place_among.ensures c.name.ensures c.names.ensures in
    let second = place-is names own c.names-2.result.now.names con.second c.name-2.result.now c.place_among-2.result c.place_among-2.ensures c.name-2.ensures c.names-2.ensures in
    ap₂ (over con.kind) first second
