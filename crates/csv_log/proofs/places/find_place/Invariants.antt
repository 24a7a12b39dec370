use Rattle.std.proofs.Common.{◌≡◌, false, take}
use Rattle.csv.specs.Records.{fields_of}
use Rattle.event_log.specs.Logs.{has_name}
use Rattle.csv_log.proofs.places.find_place.Given as goal

abbrev pub invariant-loop-place : goal.invariant-loop-place
invariant-loop-place l = has_name (take l.place (fields_of l.header)) l.name ≡ false
