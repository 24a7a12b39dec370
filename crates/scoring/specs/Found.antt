-- What was found so far.
use Rattle.std.specs.Prelude.{◌≡◌, ◌≤◌, List, length}
use Rattle.scoring.specs.declared.found.Found.{Found}
use Rattle.scoring.specs.declared.scored.Scored.{Scored}

-- all are counted, and listed while they are at most the limit
pub record Holds (found : Found) (all : List Scored) : Type 0 where
  pub counted : found.count ≡ length all
  pub listed : length all ≤ found.limit → found.list.items ≡ all
  pub within : length found.list.items ≤ found.limit
