use Rattle.std.proofs.Common.{◌≡◌, length, take}
use Rattle.serde_json.specs.View.{view}
use Rattle.model_json.specs.Certificate.{number_in}
use Rattle.model_json.proofs.OneByOne.{IsReadTo}
use Rattle.model_json.proofs.lists.ArrayU32Element.read.Given as goal

abbrev pub invariant-loop-place : goal.invariant-loop-place
invariant-loop-place g l = IsReadTo view number_in l.list l.place (take l.place l.tuple) × (length l.tuple ≡ g.row.N)
