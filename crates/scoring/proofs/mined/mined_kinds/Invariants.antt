use Rattle.std.proofs.Common.{◌≡◌, filter, take}
use Rattle.template_core.specs.Repertoires.{is_candidate}
use Rattle.template_set.specs.Names.{all_kinds}
use Rattle.scoring.proofs.mined.mined_kinds.Given as goal

abbrev pub invariant-loop-kind : goal.invariant-loop-kind
invariant-loop-kind l = record {
  kinds : l.kind-items ≡ all_kinds;
  mined : l.mined.items ≡ filter (is_candidate l.fn.repertoire) (take l.kind-index all_kinds);
}
