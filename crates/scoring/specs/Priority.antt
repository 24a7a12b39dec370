-- The order of priority.
use Rattle.std.specs.Prelude.{List, [], ◌∷◌, fold, if◌then◌else◌}
use Rattle.std.specs.Ordering.{nat_cmp, is_lt, on, flip_args, then_cmp}
use Rattle.std.specs.declared.cmp.Ordering.{Ordering}
use Rattle.decl_base.specs.Fraction.{fraction_cmp}
use Rattle.template_core.specs.Constraints.{number_of}
use Rattle.template_core.specs.declared.constraint.Constraint.{Constraint}
use Rattle.scoring.specs.declared.scored.Scored.{Scored}

-- the smaller template number first, then the smaller rank of the first activity, then that of the second
abbrev pub constraint_cmp : Constraint → Constraint → Ordering
constraint_cmp = then_cmp (on (λ c. number_of c.kind) nat_cmp) (then_cmp (on (λ c. c.first) nat_cmp) (on (λ c. c.second) nat_cmp))

-- the greater support first, then the greater confidence, then the greater interest, then the constraint
abbrev pub priority_cmp : Scored → Scored → Ordering
priority_cmp =
    then_cmp (flip_args (on (λ s. s.support) fraction_cmp))
    (then_cmp (flip_args (on (λ s. s.confidence) fraction_cmp))
    (then_cmp (flip_args (on (λ s. s.interest) fraction_cmp)) (on (λ s. s.constraint) constraint_cmp)))

module _ {X : Type 0} (order : X → X → Ordering) where
  -- a list with one more, right before the first that comes after it
  abbrev pub insert_in_order : List X → X → List X
  insert_in_order [] x = x ∷ []
  insert_in_order (y ∷ ys) x = if is_lt (order x y) then x ∷ y ∷ ys else y ∷ insert_in_order ys x

  -- the elements of a list in order
  abbrev pub in_order : List X → List X
  in_order xs = fold insert_in_order [] xs
