use Rattle.std.proofs.Common.{sym}
use Rattle.minerful_words.specs.Rows.{command_row}
use Rattle.minerful_words.proofs.Simple.{named_is_simple}
use Rattle.minerful_words.proofs.settings.Settings.read.Goals as goal

pub parse-requires : goal.parse-requires
parse-requires c = named_is_simple c.as_str.result.now (command_row c.in-Some-named.form.now) (sym c.in-Some-named.ensures)
