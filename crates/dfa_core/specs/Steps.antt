-- Automata told by functions, and the traces that they accept.
use Rattle.std.specs.Prelude.{◌≡◌, ℕ, List, [], ◌∷◌, Bool, true}

-- states numbered from 0, the one after each state and symbol, and whether a trace that ends at a state is accepted
pub record Steps : Type 0 where
  pub symbols : ℕ
  pub states : ℕ
  pub start : ℕ
  pub next : ℕ → ℕ → ℕ
  pub accepting : ℕ → Bool

-- the state after a trace
abbrev pub run : Steps → ℕ → List ℕ → ℕ
run s q [] = q
run s q (x ∷ w) = run s (s.next q x) w

-- whether the run from the start ends at an accepting state
abbrev pub accepts : Steps → List ℕ → Bool
accepts s w = s.accepting (run s s.start w)

-- the language
abbrev pub Accepts : Steps → List ℕ → Type 0
Accepts s w = accepts s w ≡ true
