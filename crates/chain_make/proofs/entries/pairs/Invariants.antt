use Rattle.std.proofs.Common.{◌≡◌}
use Rattle.chain_make.specs.Entries.{entries, pair}
use Rattle.chain_make.proofs.entries.pairs.Given as goal

abbrev pub invariant-loop-place : goal.invariant-loop-place
invariant-loop-place l = l.list.items ≡ entries (pair l.width) l.beside l.place
