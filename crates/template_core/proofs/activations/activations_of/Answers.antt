use Rattle.std.proofs.Common.{◌≡◌, ◌+◌, sym, ◌∙◌, arith, ⊎_elim, refl}
use Rattle.template_core.proofs.ActivatedPlaces.{told-activated}
use Rattle.template_core.proofs.Bounds.{bounds_of}
use Rattle.template_core.specs.Groups.{group_of}
use Rattle.template_core.specs.declared.group.Activation.TheVariants as by
use Rattle.template_core.specs.declared.group.Group.TheVariants.{Existence, Relation, Mutual, Negative}
use Rattle.template_core.proofs.activations.activations_of.Goals as goal

pub overflow_add-result : goal.overflow_add-result
overflow_add-result c = omega (arith, bounds_of _ _ c.requires)

pub returns-in-Existence : goal.returns-in-Existence
returns-in-Existence c = λ a b log made are.
    let group : Existence ≡ group_of c.args.kind = cc (c.in-Existence.is, c.group_of.ensures) in
    told-activated c.args.kind Existence c.args.counts.now.traces a b log c.args.counts.now group made are refl

pub returns-in-Relation-First : goal.returns-in-Relation-First
returns-in-Relation-First c = λ a b log made are.
    let group : Relation by.First ≡ group_of c.args.kind = cc (c.in-Relation-First.is, c.in-Relation-First.field-0-is, c.group_of.ensures) in
    told-activated c.args.kind (Relation by.First) c.args.counts.now.first.occurrences a b log c.args.counts.now group made are refl

pub returns-in-Relation-Second : goal.returns-in-Relation-Second
returns-in-Relation-Second c = λ a b log made are.
    let group : Relation by.Second ≡ group_of c.args.kind = cc (c.in-Relation-Second.is, c.in-Relation-Second.field-0-is, c.group_of.ensures) in
    told-activated c.args.kind (Relation by.Second) c.args.counts.now.second.occurrences a b log c.args.counts.now group made are refl

pub returns-in-Mutual : goal.returns-in-Mutual
returns-in-Mutual c = λ a b log made are.
    let counts = c.args.counts.now in
    let n = counts.first.occurrences + counts.second.occurrences in
    ⊎_elim (λ e. told-activated c.args.kind Mutual n a b log counts (sym e ∙ c.group_of.ensures) made are refl)
    (λ e. told-activated c.args.kind Negative n a b log counts (sym e ∙ c.group_of.ensures) made are refl) c.in-Mutual.is
