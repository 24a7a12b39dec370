use Rattle.std.proofs.Common.{◌≡◌, ◌<◌, ◌^◌, take}
use Rattle.decl_base.specs.Threshold.{number_of_digits}
use Rattle.csv_log.proofs.number.number_of.Given as goal

abbrev pub invariant-loop-digit : goal.invariant-loop-digit
invariant-loop-digit l = (l.number ≡ number_of_digits (take l.digit-index l.digits)) × (l.number < 10 ^ l.digit-index)
