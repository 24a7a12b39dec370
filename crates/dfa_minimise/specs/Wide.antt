-- Traces that a language tells apart, and how many it tells apart.
use Rattle.std.specs.Prelude.{ℕ, ◌<◌, ◌≤◌, List, ◌++◌, ◌↔◌}
use Rattle.dfa_core.specs.Traces.{IsTrace}

-- some continuation makes exactly one of two traces a member
pub record TellsApart (n : ℕ) (Member : List ℕ → Type 0) (u v : List ℕ) : Type 0 where
  pub by : List ℕ
  pub over : IsTrace n by
  pub differs : (Member (u ++ by) ↔ Member (v ++ by)) → ⊥

-- there are traces of the numbers 0 to s, each two of them told apart
pub record IsWide (n : ℕ) (Member : List ℕ → Type 0) (s : ℕ) : Type 0 where
  pub trace : ℕ → List ℕ
  pub over : (i : ℕ) → i ≤ s → IsTrace n (trace i)
  pub apart : (i j : ℕ) → i < j → j ≤ s → TellsApart n Member (trace i) (trace j)
