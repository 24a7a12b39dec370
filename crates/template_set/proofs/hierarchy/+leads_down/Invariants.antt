use Rattle.std.proofs.Common.{◌≡◌}
use Rattle.std.specs.List.{filter_map}
use Rattle.template_set.proofs.Rows.{height, NoneLeads}
use Rattle.template_set.proofs.hierarchy.+leads_down.Given as goal
use Rattle.template_set.specs.Hierarchy.{listed_below}

abbrev pub decreases-leads_down : goal.decreases-leads_down
decreases-leads_down l = height l.above.now.kind

abbrev pub invariant-loop-next : goal.invariant-loop-next
invariant-loop-next l = record {
  rows : filter_map (λ x. x) l.next-items ≡ listed_below l.above.kind l.above.first l.above.second;
  none : NoneLeads l.below l.next-items l.next-index;
}
