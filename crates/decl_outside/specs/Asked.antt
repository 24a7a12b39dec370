-- The names that were asked for, as they are kept.
use Rattle.std.specs.Prelude.{ℕ, List, [], ◌∷◌, Option, None, Some}
use Rattle.decl_outside.specs.declared.asked.Asked.{Asked}
use Rattle.decl_outside.specs.declared.asked.Asked.TheVariants.{Nothing, One, Two, More}

abbrev pub names_of : Asked → Option (List (List ℕ))
names_of Nothing = Some []
names_of (One name) = Some (name ∷ [])
names_of (Two first second) = Some (first ∷ second ∷ [])
names_of (More last) = None

abbrev pub last_of : Asked → Option (List ℕ)
last_of Nothing = None
last_of (One name) = Some name
last_of (Two first second) = Some second
last_of (More last) = Some last
