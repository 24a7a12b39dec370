use Rattle.std.proofs.Common.{◌≡◌}
use Rattle.chain_make.specs.Entries.{entries, triple}
use Rattle.chain_make.proofs.entries.triples.Given as goal

abbrev pub invariant-loop-place : goal.invariant-loop-place
invariant-loop-place l = l.list.items ≡ entries (triple l.width) l.beside l.place
