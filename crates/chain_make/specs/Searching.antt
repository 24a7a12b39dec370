-- Internal: a search for the states that traces lead to, each with the state beside it.
use Rattle.std.specs.Prelude.{◌≡◌, ℕ, ◌<◌, ◌≤◌, List, [], ◌∷◌, ◌++◌, Option, Some, None, MatchOption, length, slice_index_or as get_or, slice_set as set}
use Rattle.dfa_core.specs.Steps.{Steps}
use Rattle.chain_make.specs.Beside.{LeadsToBoth}
use Rattle.chain_make.specs.declared.search.Found.{Found}
use Rattle.chain_make.specs.declared.search.Search.{Search}

abbrev pub found_of : ℕ → ℕ → Found
found_of state beside = record { state = state; beside = beside }

-- what was found at a place
abbrev pub found_at : List Found → ℕ → Found
found_at found i = get_or found i (found_of 0 0)

-- the state was found, with the one beside it
pub record IsListed (found : List Found) (q r : ℕ) : Type 0 where
  pub place : ℕ
  pub there : place < length found
  pub state : (found_at found place).state ≡ q
  pub beside : (found_at found place).beside ≡ r

-- what was found so far: a trace leads to each state, and to the one beside it
pub record IsSearch (s t : Steps) (beside : List (Option ℕ)) (found : List Found) : Type 0 where
  pub as_many : length beside ≡ s.states
  pub start : get_or beside s.start None ≡ Some t.start
  pub below : (q r : ℕ) → get_or beside q None ≡ Some r → r < t.states
  pub led : (q r : ℕ) → get_or beside q None ≡ Some r → LeadsToBoth s t q r
  pub listed : (q r : ℕ) → get_or beside q None ≡ Some r → IsListed found q r
  pub named : (i : ℕ) → i < length found → get_or beside (found_at found i).state None ≡ Some (found_at found i).beside
  pub distinct : (i j : ℕ) → i < length found → j < length found → (found_at found i).state ≡ (found_at found j).state → i ≡ j

-- a state that wasn't found before, and one that was
pub record AddsFound (old new : Search) (state other : ℕ) : Type 0 where
  pub beside : new.beside.items ≡ set old.beside.items state (Some other)
  pub found : new.found.items ≡ old.found.items ++ found_of state other ∷ []

pub record AddsNone (old new : Search) : Type 0 where
  pub beside : new.beside.items ≡ old.beside.items
  pub found : new.found.items ≡ old.found.items

abbrev pub Adds : Search → Search → ℕ → ℕ → Type 0
Adds old new state beside = MatchOption (get_or old.beside.items state None) (AddsFound old new state beside) (λ known. AddsNone old new)

-- the step from what was found at a place was followed
abbrev pub IsFollowed : Steps → Steps → Search → ℕ → ℕ → Type 0
IsFollowed s t search i x = get_or search.beside.items (s.next (found_at search.found.items i).state x) None ≡ Some (t.next (found_at search.found.items i).beside x)

-- one more step is followed, and what was found before stays
pub record Follows (s t : Steps) (old new : Search) (at x : ℕ) : Type 0 where
  pub search : IsSearch s t new.beside.items new.found.items
  pub grows : length old.found.items ≤ length new.found.items
  pub stay : (i : ℕ) → i < length old.found.items → found_at new.found.items i ≡ found_at old.found.items i
  pub keep : (q r : ℕ) → get_or old.beside.items q None ≡ Some r → get_or new.beside.items q None ≡ Some r
  pub followed : IsFollowed s t new at x

-- all steps of the first places were followed, and so many of the next place's
pub record AreFollowed (s t : Steps) (search : Search) (at x : ℕ) : Type 0 where
  pub search_is : IsSearch s t search.beside.items search.found.items
  pub rows : (i y : ℕ) → i < at → y < s.symbols → IsFollowed s t search i y
  pub row : (y : ℕ) → y < x → IsFollowed s t search at y
