use Rattle.std.proofs.Common.{rules, ◌≡◌, ◌<◌, [], true, length, get_or, sym}
use Rattle.std.specs.Str.{bytes_eq}
use Rattle.csv.specs.Records.{fields_of}
use Rattle.csv_log.proofs.Fields.{within}
use Rattle.csv_log.proofs.Firsts.{first_at}
use Rattle.csv_log.proofs.places.find_place.Goals as goal

pub returns-in-loop-place-clause-place : goal.returns-in-loop-place-clause-place
returns-in-loop-place-clause-place c =
    let inside : c.loop-place.place < length (fields_of c.args.header.now) = within _ _ c.in-Some.ensures.inside in
    let here : bytes_eq c.args.name.now (get_or (fields_of c.args.header.now) c.loop-place.place []) ≡ true = search rules in
    sym (first_at (bytes_eq c.args.name.now) (fields_of c.args.header.now) c.loop-place.place [] inside c.loop-place.invariant here).0
