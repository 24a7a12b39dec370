-- The traces that a monitor stands for, one a case: each state that it keeps is the one to which that case's trace leads.
use Rattle.std.specs.Prelude.{◌≡◌, ℕ, ◌+◌, ◌*◌, ◌<◌, List, [], All, Some, length, map, slice_get, slice_index_or as get_or}
use Rattle.dfa_core.specs.Automaton.{run}
use Rattle.dfa_core.specs.Traces.{IsTrace}
use Rattle.template_core.specs.Tables.{table_run}
use Rattle.template_core.specs.declared.constraint.Constraint.{Constraint}
use Rattle.live_monitor.specs.Watching.{IsWatched, IsWatchedList}
use Rattle.live_monitor.specs.declared.monitor.Monitor.{Monitor}
use Rattle.live_monitor.specs.declared.watched.Watched.{Watched}
use Rattle.live_monitor.specs.declared.watched_list.WatchedList.{WatchedList}

-- the constraints that are watched
abbrev pub watched_constraints : List Watched → List Constraint
watched_constraints watched = map (λ one. one.constraint) watched

-- the trace of a case
abbrev pub trace_of : List (List ℕ) → ℕ → List ℕ
trace_of traces case = get_or traces case []

-- Each case's trace leads to that case's state of the list's automaton, and to its states of the constraints' automata, which stand case after case.
pub record LeadTo (list : WatchedList) (watched : List Watched) (states table_states : List ℕ) (traces : List (List ℕ)) : Type 0 where
  pub whole : IsWatchedList list.dfa.symbols (watched_constraints watched) list
  pub each : All (IsWatched list.dfa.symbols) watched
  pub cases : length traces ≡ length states
  pub rows : length table_states ≡ length states * length watched
  pub over : All (IsTrace list.dfa.symbols) traces
  pub states_are : (case : ℕ) → case < length states → get_or states case 0 ≡ run list.dfa list.dfa.start (trace_of traces case)
  pub table_states_are : (case place : ℕ) (one : Watched) → case < length states → slice_get watched place ≡ Some one
      → get_or table_states (case * length watched + place) 0 ≡ table_run one.table one.constraint one.table.start (trace_of traces case)

abbrev pub StandsFor : Monitor → List (List ℕ) → Type 0
StandsFor monitor traces = LeadTo monitor.list monitor.watched.items monitor.states.items monitor.table_states.items traces

-- some traces are stood for
abbrev pub IsMonitor : Monitor → Type 0
IsMonitor monitor = (traces : List (List ℕ)) × StandsFor monitor traces

-- how many symbols the events have
abbrev pub symbols_of : Monitor → ℕ
symbols_of monitor = monitor.list.dfa.symbols

-- the list that is watched
abbrev pub constraints_of : Monitor → List Constraint
constraints_of monitor = watched_constraints monitor.watched.items

-- how many cases have begun
abbrev pub case_count : Monitor → ℕ
case_count monitor = length monitor.states.items
