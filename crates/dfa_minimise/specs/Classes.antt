-- Internal: which states belong together, and which columns.
use Rattle.std.specs.Prelude.{◌≡◌, ◌≢◌, ℕ, ◌<◌, ◌≤◌, ◌==◌, List, length, slice_index_or as get_or}
use Rattle.dfa_core.specs.Automaton.{Automaton, IsWhole, column, is_accepting, state_count, step, step_column}
use Rattle.dfa_core.specs.Columns.{Columns}
use Rattle.dfa_core.specs.Steps.{Steps}
use Rattle.dfa_minimise.specs.Least.{AreToldApart}
use Rattle.dfa_minimise.specs.Partitions.{IsPartition, IsTidy, is_in, members_of}
use Rattle.dfa_minimise.specs.declared.refinable.Refinable.{Refinable}

-- States of two classes are told apart, and states of one class accept alike.
pub record IsSound (a : Automaton) (class : List ℕ) : Type 0 where
  pub apart : (q r : ℕ) → q < state_count a → r < state_count a → (get_or class q 0 ≡ get_or class r 0 → ⊥) → AreToldApart a q r
  pub alike : (q r : ℕ) → q < state_count a → r < state_count a → get_or class q 0 ≡ get_or class r 0 → is_accepting a q ≡ is_accepting a r

-- Classes of states such that no continuation tells two of one class apart, and some continuation each two of different classes.
pub record IsEquivalence (a : Automaton) (class members : List ℕ) : Type 0 where
  pub whole : IsWhole a
  pub partition : IsPartition (state_count a) class members
  pub sound : IsSound a class
  pub stable : (q r k : ℕ) → q < state_count a → r < state_count a → k < a.width → get_or class q 0 ≡ get_or class r 0 → get_or class (step_column a q k) 0 ≡ get_or class (step_column a r k) 0

-- there are states of the numbers 0 to most, each two of them told apart
pub record AreManyApart (a : Automaton) (most : ℕ) : Type 0 where
  pub state : ℕ → ℕ
  pub bound : (i : ℕ) → i ≤ most → state i < state_count a
  pub apart : (i j : ℕ) → i < j → j ≤ most → AreToldApart a (state i) (state j)

-- the classes of all states, of which there are no more than so many
pub record AreClassesWithin (a : Automaton) (most : ℕ) (p : Refinable) : Type 0 where
  pub tidy : IsTidy p
  pub equivalence : IsEquivalence a p.class.items (members_of p)
  pub few : length p.first.items ≤ most

-- the accepting states
pub record AreAccepting (a : Automaton) (states : List ℕ) : Type 0 where
  pub bound : (k : ℕ) → k < length states → get_or states k 0 < state_count a
  pub are : (q : ℕ) → q < state_count a → is_in states q ≡ is_accepting a q

-- the states from which a column leads to one of the targets
pub record LeadTo (a : Automaton) (k : ℕ) (targets states : List ℕ) : Type 0 where
  pub bound : (i : ℕ) → i < length states → get_or states i 0 < state_count a
  pub are : (q : ℕ) → q < state_count a → is_in states q ≡ is_in targets (step_column a q k)

-- the states of a class
pub record AreInClass (n c : ℕ) (class states : List ℕ) : Type 0 where
  pub bound : (k : ℕ) → k < length states → get_or states k 0 < n
  pub are : (q : ℕ) → q < n → is_in states q ≡ (get_or class q 0 == c)

-- the class after a state and a column
abbrev pub class_after : Automaton → List ℕ → ℕ → ℕ → ℕ
class_after a class q k = get_or class (step_column a q k) 0

-- two columns lead from each state to states of one class
pub record LeadAlike (a : Automaton) (class : List ℕ) (j k : ℕ) : Type 0 where
  pub alike : (q : ℕ) → q < state_count a → class_after a class q j ≡ class_after a class q k

-- the column that stands first in the group of another
abbrev pub first_beside : Refinable → ℕ → ℕ
first_beside groups k = get_or (members_of groups) (get_or groups.class.items k 0) 0

-- from a state each column leads to where the first of its group does
pub record AreTogether (a : Automaton) (class : List ℕ) (groups : Refinable) (q : ℕ) : Type 0 where
  pub together : (k : ℕ) → k < a.width → class_after a class q k ≡ class_after a class q (first_beside groups k)

-- from a state a column leads to another class than the first of its group
pub record IsAstray (a : Automaton) (class : List ℕ) (groups : Refinable) (q k : ℕ) : Type 0 where
  pub bound : k < a.width
  pub apart : class_after a class q k ≢ class_after a class q (first_beside groups k)

-- the columns that lead from a state to a class
pub record LeadInto (a : Automaton) (class : List ℕ) (q c : ℕ) (columns : List ℕ) : Type 0 where
  pub bound : (i : ℕ) → i < length columns → get_or columns i 0 < a.width
  pub are : (k : ℕ) → k < a.width → is_in columns k ≡ (class_after a class q k == c)

-- The columns in groups. Two are in one group exactly where they lead alike.
pub record AreAlike (a : Automaton) (class : List ℕ) (groups : Refinable) : Type 0 where
  pub tidy : IsTidy groups
  pub columns : 0 < a.width → length groups.class.items ≡ a.width
  pub alike : (j k : ℕ) → j < a.width → k < a.width → get_or groups.class.items j 0 ≡ get_or groups.class.items k 0 → LeadAlike a class j k
  pub one : (j k : ℕ) → j < a.width → k < a.width → LeadAlike a class j k → get_or groups.class.items j 0 ≡ get_or groups.class.items k 0

-- the groups of an automaton's columns as columns
abbrev pub merged : Automaton → Refinable → Columns
merged a groups = record { count = length groups.first.items; of = λ x. get_or groups.class.items (column a x) 0 }

-- the classes as states, which step to where their members do
abbrev pub quotient : Automaton → List ℕ → List ℕ → Steps
quotient a class members = record {
  symbols = a.symbols;
  states = length members;
  start = get_or class a.start 0;
  next = λ c x. get_or class (step a (get_or members c 0) x) 0;
  accepting = λ c. is_accepting a (get_or members c 0);
}
