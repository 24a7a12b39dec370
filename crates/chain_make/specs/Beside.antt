-- Internal: the states of two automata that the same traces lead to.
use Rattle.std.specs.Prelude.{◌≡◌, ℕ, ◌+◌, ◌*◌, ◌/◌, ◌%◌, ◌<◌, List, Option, Some, None, ◌&&◌, length, slice_index_or as get_or}
use Rattle.dfa_core.specs.Automaton.{Automaton, is_accepting, state_count, step}
use Rattle.dfa_core.specs.Steps.{Steps, run}
use Rattle.dfa_core.specs.Traces.{IsTrace}
use Rattle.template_core.specs.Tables.{accepts_at, class, step as table_step}
use Rattle.template_core.specs.declared.constraint.Constraint.{Constraint}
use Rattle.template_core.specs.declared.table.Table.{Table}

-- a trace leads the first to one state and the second to the other
pub record LeadsToBoth (s t : Steps) (q r : ℕ) : Type 0 where
  pub by : List ℕ
  pub over : IsTrace s.symbols by
  pub first : run s s.start by ≡ q
  pub second : run t t.start by ≡ r

-- traces that lead the first to one state lead the second to one state
abbrev pub LeadsToOne : Steps → Steps → Type 0
LeadsToOne s t = (u w : List ℕ) → IsTrace s.symbols u → IsTrace s.symbols w → run s s.start u ≡ run s s.start w → run t t.start u ≡ run t t.start w

-- for each state of the first that a trace leads to, the state of the second that it leads to
pub record AreBeside (s t : Steps) (beside : List (Option ℕ)) : Type 0 where
  pub as_many : length beside ≡ s.states
  pub start : get_or beside s.start None ≡ Some t.start
  pub stepped : (q r x : ℕ) → get_or beside q None ≡ Some r → x < s.symbols → get_or beside (s.next q x) None ≡ Some (t.next r x)
  pub below : (q r : ℕ) → get_or beside q None ≡ Some r → r < t.states
  pub led : (q r : ℕ) → get_or beside q None ≡ Some r → LeadsToBoth s t q r

-- an automaton and a constraint's table side by side: a pair of their states is one number
abbrev pub pairs : Automaton → Table → Constraint → Steps
pairs a t c = record {
  symbols = a.symbols;
  states = state_count a * t.states;
  start = a.start * t.states + t.start;
  next = λ q x. step a (q / t.states) x * t.states + table_step t (q % t.states) (class c x);
  accepting = λ q. is_accepting a (q / t.states) && accepts_at t (q % t.states);
}
