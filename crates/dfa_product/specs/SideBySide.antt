-- Internal: two automata side by side, and a constraint's table as one.
use Rattle.std.specs.Prelude.{ℕ, ◌*◌, ◌+◌, ◌/◌, ◌%◌, Bool, ◌&&◌, not, if◌then◌else◌}
use Rattle.dfa_core.specs.Columns.{Columns}
use Rattle.dfa_core.specs.Steps.{Steps}
use Rattle.template_core.specs.Tables.{accepts_at, class, column, step as table_step}
use Rattle.template_core.specs.declared.constraint.Constraint.{Constraint}
use Rattle.template_core.specs.declared.table.Table.{Table}

-- A pair of states is one number. A trace is accepted where both accept it.
abbrev pub pairs : Steps → Steps → Steps
pairs s t = record {
  symbols = s.symbols;
  states = s.states * t.states;
  start = s.start * t.states + t.start;
  next = λ q x. s.next (q / t.states) x * t.states + t.next (q % t.states) x;
  accepting = λ q. s.accepting (q / t.states) && t.accepting (q % t.states);
}

-- A pair of columns is one number. A symbol has the pair of its two columns.
abbrev pub pair_columns : Columns → Columns → Columns
pair_columns c d = record { count = c.count * d.count; of = λ x. c.of x * d.count + d.of x }

-- A constraint's table over the symbols below n: the traces that it accepts, which keep the constraint, or the others.
abbrev pub table_steps : ℕ → Table → Constraint → Bool → Steps
table_steps n t c keeps = record {
  symbols = n;
  states = t.states;
  start = t.start;
  next = λ q x. table_step t q (class c x);
  accepting = λ q. if keeps then accepts_at t q else not (accepts_at t q);
}

-- its columns are those of the classes
abbrev pub table_columns : Constraint → Columns
table_columns c = record { count = 3; of = λ x. column (class c x) }

-- the traces that aren't accepted
abbrev pub complement : Steps → Steps
complement s = record { symbols = s.symbols; states = s.states; start = s.start; next = s.next; accepting = λ q. not (s.accepting q) }
