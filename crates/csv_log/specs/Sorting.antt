-- Lists in order, where elements that tie keep the order that they had.
use Rattle.std.specs.Prelude.{Bool, List, [], ◌∷◌, if◌then◌else◌}

-- the list with an element put before the first that is not less
abbrev pub insert_sorted : {X : Type 0} → (X → X → Bool) → X → List X → List X
insert_sorted less x [] = x ∷ []
insert_sorted less x (y ∷ ys) = if less y x then y ∷ insert_sorted less x ys else x ∷ y ∷ ys

-- the elements in ascending order, those that tie in the order of the list
abbrev pub stably_sorted : {X : Type 0} → (X → X → Bool) → List X → List X
stably_sorted less [] = []
stably_sorted less (x ∷ xs) = insert_sorted less x (stably_sorted less xs)
