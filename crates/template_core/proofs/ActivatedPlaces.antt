-- The activated places of a log, from its counters.
use Rattle.std.proofs.Common.{◌≡◌, ℕ, suc, ◌+◌, List, length, sum_by, nat_eq, sym, ap, subst, ◌∙◌}
use Rattle.template_core.proofs.Made.{made-in}
use Rattle.template_core.proofs.Parts.{each_a, each_of_both}
use Rattle.template_core.proofs.Runs.{apart}
use Rattle.template_core.proofs.Wholes.{whole_places}
use Rattle.template_core.specs.Constraints.{IsWellMadeIn, IsWellMade}
use Rattle.template_core.specs.Counts.{counts_of}
use Rattle.template_core.specs.Events.{count_places}
use Rattle.template_core.specs.Groups.{group_of}
use Rattle.template_core.specs.Repertoire.{activated, is_activated_in}
use Rattle.template_core.specs.declared.counts.Counts.{Counts}
use Rattle.template_core.specs.declared.group.Activation.TheVariants as by
use Rattle.template_core.specs.declared.group.Group.{Group}
use Rattle.template_core.specs.declared.group.Group.TheVariants.{Existence, Relation, Mutual, Negative}
use Rattle.template_core.specs.declared.kind.Kind.{Kind}

-- the activated places by group, of the counters and of the log
abbrev pub told : Group → Counts → ℕ
told Existence counts = counts.traces
told (Relation by.First) counts = counts.first.occurrences
told (Relation by.Second) counts = counts.second.occurrences
told Mutual counts = counts.first.occurrences + counts.second.occurrences
told Negative counts = counts.first.occurrences + counts.second.occurrences

abbrev activated_in : Group → ℕ → ℕ → List (List ℕ) → ℕ
activated_in group a b log = sum_by (λ trace. count_places (is_activated_in nat_eq group a b trace) (suc (length trace))) log

by_group : (kind : Kind) (group : Group) (a b : ℕ) (log : List (List ℕ)) → IsWellMadeIn group a b → told group (counts_of kind a b log) ≡ activated_in group a b log
by_group kind Existence a b log made = whole_places log
by_group kind (Relation by.First) a b log made = each_a nat_eq a log
by_group kind (Relation by.Second) a b log made = each_a nat_eq b log
by_group kind Mutual a b log made = each_of_both nat_eq a b (apart a b made) log
by_group kind Negative a b log made = each_of_both nat_eq a b (apart a b made) log

-- a number that the counters tell by the template's group
pub told-activated : (kind : Kind) (group : Group) (n a b : ℕ) (log : List (List ℕ)) (counts : Counts) → group ≡ group_of kind → IsWellMade kind a b
    → counts ≡ counts_of kind a b log → n ≡ told group counts → n ≡ activated nat_eq kind a b log
told-activated kind group n a b log counts is made are e =
    e ∙ ap (told group) are ∙ subst (λ g. told group (counts_of kind a b log) ≡ activated_in g a b log) is
    (by_group kind group a b log (subst (λ g. IsWellMadeIn g a b) (sym is) (made-in kind a b made)))
