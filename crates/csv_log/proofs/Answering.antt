-- A closure that stays as it is answers each call alike.
use Rattle.std.proofs.Common.{◌≡◌, List, [], ◌∷◌, sym, subst}
use Rattle.std.specs.Fn.{AlwaysReturns, Called, ReturnsEach}
use denote.Param.Members.{Mut}

pub answers_alike : {F X R : Type 0} (g : Mut F X R) (P : X → R → Type 0) (f : F) → ((a : X) (r : R) (next : F) → Called g f a r next → P a r × (next ≡ f)) → AlwaysReturns g P f
answers_alike {F} {X} {R} g P f says = record { at = each }
  where
    each : (xs : List X) → ReturnsEach g P f xs
    each [] = tt
    each (a ∷ xs) = λ r next called. let said = says a r next called in (said.0, subst (λ (s : F). ReturnsEach g P s xs) (sym said.1) (each xs))
