-- Internal: what is kept of a list and of each constraint, with the standing of a trace that leads to each state.
use Rattle.std.specs.Prelude.{◌≡◌, ◌↔◌, ◌⊎◌, ℕ, ◌+◌, ◌<◌, ◌≤◌, List, [], Bool, true, false, ◌||◌, Some, length, slice_get, slice_index_or as get_or}
use Rattle.dfa_core.specs.Automaton.{Automaton, is_accepting, run, state_count}
use Rattle.dfa_core.specs.Traces.{IsTrace}
use Rattle.list_dfa.specs.Lists.{IsLeastOf}
use Rattle.template_core.specs.Keeping.{KeepsOne}
use Rattle.template_core.specs.Tables.{IsTable, accepts_at, class, column, keeps_by, step, table_run}
use Rattle.template_core.specs.declared.class.Class.TheVariants.{Other}
use Rattle.template_core.specs.declared.constraint.Constraint.{Constraint}
use Rattle.template_core.specs.declared.table.Table.{Table}
use Rattle.live_monitor.specs.Standing.{IsStanding}
use Rattle.live_monitor.specs.declared.standing.Standing.{Standing}
use Rattle.live_monitor.specs.declared.standing.Standing.TheVariants.{Kept, KeptNow, BrokenNow, Broken}
use Rattle.live_monitor.specs.declared.watched.Watched.{Watched}
use Rattle.live_monitor.specs.declared.watched_list.WatchedList.{WatchedList}

-- a continuation is accepted from a state
abbrev pub AcceptsFrom : Automaton → ℕ → List ℕ → Type 0
AcceptsFrom a state w = is_accepting a (run a state w) ≡ true

abbrev pub TableAcceptsFrom : Table → Constraint → ℕ → List ℕ → Type 0
TableAcceptsFrom table c state w = accepts_at table (table_run table c state w) ≡ true

-- the least automaton of the list, and the standing at each of its states
pub record IsWatchedList (n : ℕ) (list : List Constraint) (watched : WatchedList) : Type 0 where
  pub least : IsLeastOf n list watched.dfa
  pub as_many : length watched.standings.items ≡ state_count watched.dfa
  pub standings : (state : ℕ) → state < state_count watched.dfa → IsStanding n (AcceptsFrom watched.dfa state) [] (get_or watched.standings.items state Kept)

-- where it is said to stay, an event of no activity of the constraint leads from each state back to it
abbrev pub StaysIfSaid : Watched → Type 0
StaysIfSaid watched = watched.stays ≡ true → (state : ℕ) → state < watched.table.states → step watched.table state Other ≡ state

-- a table of the constraint, and the standing at each of its states
pub record IsWatched (n : ℕ) (watched : Watched) : Type 0 where
  pub table : IsTable watched.table
  pub stays : StaysIfSaid watched
  pub language : (t : List ℕ) → keeps_by watched.table watched.constraint t ≡ true ↔ KeepsOne watched.constraint t
  pub standings : (state : ℕ) → state < watched.table.states → IsStanding n (TableAcceptsFrom watched.table watched.constraint state) [] (get_or watched.standings state Kept)

-- for each class that an event below n may have, a symbol below n at the place of the class
pub record AreOfEachClass (n : ℕ) (c : Constraint) (symbols : List ℕ) : Type 0 where
  pub within : (k : ℕ) → k < 3 → get_or symbols k 0 < n
  pub alike : (x : ℕ) → x < n → class c (get_or symbols (column (class c x)) 0) ≡ class c x

-- some continuation leads from the state to a marked one
pub record LeadsToMarked (n : ℕ) (table : Table) (c : Constraint) (marked : List Bool) (state : ℕ) : Type 0 where
  pub by : List ℕ
  pub over : IsTrace n by
  pub there : get_or marked (table_run table c state by) false ≡ true

-- whether one of three events leads from the state to a marked one
abbrev pub leads_on : Table → Constraint → List ℕ → List Bool → ℕ → Bool
leads_on table c events marked state =
    get_or marked (step table state (class c (get_or events 0 0))) false
    || (get_or marked (step table state (class c (get_or events 1 0))) false || get_or marked (step table state (class c (get_or events 2 0))) false)

-- the standing by whether the trace keeps, whether some trace that begins with it does, and whether some doesn't
abbrev pub standing_by : Bool → Bool → Bool → Standing
standing_by keeps may_keep false = Kept
standing_by keeps false true = Broken
standing_by true true true = KeptNow
standing_by false true true = BrokenNow

-- the standing at a state of a least automaton, by whether it accepts and whether every symbol leads back to it
abbrev pub settled_by : Bool → Bool → Standing
settled_by true true = Kept
settled_by true false = KeptNow
settled_by false false = BrokenNow
settled_by false true = Broken

-- the states of the first constraints are those after an event, and the others stay
pub record AreStepped (watched : List Watched) (symbol from upto : ℕ) (old new : List ℕ) : Type 0 where
  pub stepped : (place : ℕ) (one : Watched) → place < upto → slice_get watched place ≡ Some one
      → get_or new (from + place) 0 ≡ step one.table (get_or old (from + place) 0) (class one.constraint symbol)
  pub others : (at : ℕ) → ((at < from) ⊎ (from + upto ≤ at)) → get_or new at 0 ≡ get_or old at 0
