use Rattle.std.proofs.Common.{◌≡◌, ◌<◌, ◌-◌, Some, length, slice_get, sym, ap, ◌∙◌, arith}
use Rattle.std.proofs.lemmas.Option.{slice_get_within}
use Rattle.std.specs.Option.{option_copied}
use Rattle.template_set.proofs.Around.{last_is}
use Rattle.template_set.proofs.places.ends_with.Goals as goal

pub returns-in-Some : goal.returns-in-Some
returns-in-Some c =
    let events = c.args.events.now in
    let is : slice_get events (length events - 1) ≡ Some c.in-Some.event.now = sym c.last.ensures.value ∙ ap option_copied c.in-Some.is in
    let within : length events - 1 < length events = slice_get_within events (length events - 1) c.in-Some.event.now is in
    sym (last_is c.args.activity c.in-Some.event.now events (length events - 1) (omega (arith, within)) is)
