-- Internal: an automaton written as that of a link.
use Rattle.std.specs.Prelude.{◌≡◌, ℕ, ◌<◌, List, length, slice_index_or as get_or}
use Rattle.dfa_core.specs.Automaton.{Automaton, is_accepting, state_count, step}
use Rattle.chain_cert.specs.Links.{is_accepting as link_accepts, state_count as link_states, step as link_step}
use Rattle.chain_cert.specs.Parts.{LinkParts}

-- the values of a function below n, in order
pub record AreValues {X : Type 0} (n : ℕ) (f : ℕ → X) (xs : List X) : Type 0 where
  pub as_many : length xs ≡ n
  pub each : (i : ℕ) (d : X) → i < n → get_or xs i d ≡ f i

-- it starts at state 0, and it has the same states, steps and acceptance
pub record Copies (a : Automaton) (link : LinkParts) : Type 0 where
  pub start : a.start ≡ 0
  pub states : link_states link ≡ state_count a
  pub steps : (q x : ℕ) → q < state_count a → x < a.symbols → link_step link q x ≡ step a q x
  pub accepting : (q : ℕ) → q < state_count a → link_accepts link q ≡ is_accepting a q
