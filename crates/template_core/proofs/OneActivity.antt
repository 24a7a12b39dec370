-- No event is the second of a template of one activity.
use Rattle.std.proofs.Common.{◌≡◌, ◌≢◌, ℕ, Bool, true, false, cond, eqb, subst, arith}
use Rattle.template_core.proofs.Made.{made-in}
use Rattle.template_core.specs.Automaton.{class_of}
use Rattle.template_core.specs.Constraints.{arity, IsWellMadeIn, IsWellMade}
use Rattle.template_core.specs.Groups.{group_of, activities_of}
use Rattle.template_core.specs.declared.group.Group.{Group}
use Rattle.template_core.specs.declared.group.Group.TheVariants.{Existence, Relation, Mutual, Negative}
use Rattle.template_core.specs.declared.class.Class.TheVariants.{First, Second, Other}
use Rattle.template_core.specs.declared.kind.Kind.{Kind}

same : (group : Group) (a b : ℕ) → IsWellMadeIn group a b → activities_of group ≡ 1 → a ≡ b
same Existence a b made one = made
same (Relation activation) a b made one = absurd (omega (arith, one))
same Mutual a b made one = absurd (omega (arith, one))
same Negative a b made one = absurd (omega (arith, one))

pub no_second : (kind : Kind) (a b event : ℕ) → IsWellMade kind a b → arity kind ≡ 1 → class_of a b event ≢ Second
no_second kind a b event made one = subst (λ c. class_of a c event ≢ Second) (same (group_of kind) a b (made-in kind a b made) one) (cases (eqb event a))
  where
    cases : (v : Bool) → cond v First (cond v Second Other) ≢ Second
    cases true e = cc
    cases false e = cc
