use Rattle.minerful_core.proofs.Reports.{both_ok, within_limits}
use Rattle.minerful_core.proofs.reading.read_log.Goals as goal

pub returns-in-Strings-clause-within : goal.returns-in-Strings-clause-within
returns-in-Strings-clause-within g c =
    both_ok c.read_strings.result _ _ _ (λ read numbered within. within_limits c.standard.result read.0 read.1 c.standard.ensures numbered within)
    c.read_strings.ensures.numbered c.read_strings.ensures.within
