-- How many columns an automaton has.
use Rattle.std.proofs.Common.{◌≡◌, ℕ, ◌<◌, ◌≤◌, sym, ◌∙◌}
use Rattle.dfa_core.specs.Automaton.{Automaton}
use Rattle.dfa_core.specs.Columns.{Columns, HasColumns}
use Rattle.dfa_core.proofs.Pigeons.{le_from_injection}

-- at most as many as values that tell its columns apart
pub few-columns : (c : Columns) (a : Automaton) (value : ℕ → ℕ) (count : ℕ) → HasColumns c a → ((x : ℕ) → x < a.symbols → value x < count)
    → ((x y : ℕ) → x < a.symbols → y < a.symbols → value x ≡ value y → c.of x ≡ c.of y) → a.width ≤ count
few-columns c a value count h below same =
    let s = h.some in
    le_from_injection (λ k. value (s.symbol k)) a.width count (λ k lk. below (s.symbol k) (s.bound k lk))
    (λ i k li lk e. sym (s.of i li) ∙ (h.together (s.symbol i) (s.symbol k) (s.bound i li) (s.bound k lk) (same (s.symbol i) (s.symbol k) (s.bound i li) (s.bound k lk) e) ∙ s.of k lk))
