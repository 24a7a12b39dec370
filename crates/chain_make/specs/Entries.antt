-- Internal: the pairs and triples of states that a search found.
use Rattle.std.specs.Prelude.{ℕ, zero, suc, ◌/◌, ◌%◌, List, [], ◌∷◌, ◌++◌, Option, Some, None, slice_index_or as get_or}

-- a pair of states that is one number, without and with the state beside it
abbrev pub pair : ℕ → ℕ → ℕ → List ℕ
pair width q r = q / width ∷ q % width ∷ []

abbrev pub triple : ℕ → ℕ → ℕ → List ℕ
triple width q r = q / width ∷ q % width ∷ r ∷ []

-- one where there is a state beside a number
abbrev pub entry : (ℕ → ℕ → List ℕ) → ℕ → Option ℕ → List (List ℕ)
entry form q None = []
entry form q (Some r) = form q r ∷ []

-- those of the numbers below n, in order
abbrev pub entries : (ℕ → ℕ → List ℕ) → List (Option ℕ) → ℕ → List (List ℕ)
entries form beside zero = []
entries form beside (suc n) = entries form beside n ++ entry form n (get_or beside n None)
