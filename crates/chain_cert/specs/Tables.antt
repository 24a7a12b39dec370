-- The table of a template, of whose states the triples and pairs speak.
use Rattle.template_core.specs.Constraints.{IsTemplate}
use Rattle.template_core.specs.Tables.{IsTable}
use Rattle.template_core.specs.declared.kind.Kind.{Kind}
use Rattle.template_core.specs.declared.table.Table.{Table}
use Rattle.template_set.specs.Tables.{Accepts, IsLeastTable}

-- the least automaton of the traces that keep, its states numbered breadth first
pub record IsTableOf (kind : Kind) (table : Table) : Type 0 where
  pub template : IsTemplate kind
  pub whole : IsTable table
  pub accepts : Accepts kind table
  pub least : IsLeastTable kind table
