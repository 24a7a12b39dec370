-- What a well made constraint says of its template, and by group.
use Rattle.std.proofs.Common.{ℕ}
use Rattle.template_core.specs.Constraints.{IsTemplate, IsWellMadeIn, IsWellMade}
use Rattle.template_core.specs.Groups.{group_of}
use Rattle.template_core.specs.declared.kind.Kind.{Kind}
use Rattle.template_core.specs.declared.kind.Kind.TheVariants.{Exactly, AtLeast, AtMost}

-- the number of a counted template is one of its numbers
pub made-template : (kind : Kind) (a b : ℕ) → IsWellMade kind a b → IsTemplate kind
made-template (Exactly n) a b made = made.1
made-template (AtLeast n) a b made = made.1
made-template (AtMost n) a b made = made.1
made-template kind a b made = tt

-- the two activities are those of the group
pub made-in : (kind : Kind) (a b : ℕ) → IsWellMade kind a b → IsWellMadeIn (group_of kind) a b
made-in (Exactly n) a b made = made.0
made-in (AtLeast n) a b made = made.0
made-in (AtMost n) a b made = made.0
made-in kind a b made = made

-- a constraint of its template's group is well made where the template is one
pub made-from : (kind : Kind) (a b : ℕ) → IsTemplate kind → IsWellMadeIn (group_of kind) a b → IsWellMade kind a b
made-from (Exactly n) a b is made = (made, is)
made-from (AtLeast n) a b is made = (made, is)
made-from (AtMost n) a b is made = (made, is)
made-from kind a b is made = made
