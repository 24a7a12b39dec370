-- Which constraints of a list a trace keeps.
use Rattle.std.proofs.Common.{◌↔◌, ℕ, List, [], ◌∷◌, ◌++◌}
use Rattle.template_core.specs.Keeping.{KeepsAll, KeepsOne}
use Rattle.template_core.specs.declared.constraint.Constraint.{Constraint}
use Rattle.template_core.specs.declared.kind.Kind.TheVariants.{Init}

-- what a read past the end of a list would give
abbrev pub anything : Constraint
anything = record {
  kind = Init;
  first = 0;
  second = 0;
}

pub push-keeps : (xs : List Constraint) (c : Constraint) (w : List ℕ) → KeepsAll xs w → KeepsOne c w → KeepsAll (xs ++ c ∷ []) w
push-keeps [] c w all one = (one, tt)
push-keeps (x ∷ xs) c w all one = (all.0, push-keeps xs c w all.1 one)

pub keeps-push : (xs : List Constraint) (c : Constraint) (w : List ℕ) → KeepsAll (xs ++ c ∷ []) w → KeepsAll xs w × KeepsOne c w
keeps-push [] c w all = (tt, all.0)
keeps-push (x ∷ xs) c w all = let rest = keeps-push xs c w all.1 in ((all.0, rest.0), rest.1)

pub keeps-append : (xs ys : List Constraint) (w : List ℕ) → KeepsAll (xs ++ ys) w ↔ KeepsAll xs w × KeepsAll ys w
keeps-append [] ys w = (λ all. (tt, all), λ both. both.1)
keeps-append (x ∷ xs) ys w = let ih = keeps-append xs ys w in (λ all. let parts = ih.0 all.1 in ((all.0, parts.0), parts.1), λ both. (both.0.0, ih.1 (both.0.1, both.1)))
