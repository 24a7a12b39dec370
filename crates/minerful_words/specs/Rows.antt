-- The rows of the code's tables, as those of the definitions.
use Rattle.std.specs.Prelude.{map}
use Rattle.minerful_words.specs.Table.{OptionRow, PositionalRow, CommandRow}
use Rattle.minerful_words.specs.declared.table.CommandOption.{CommandOption}
use Rattle.minerful_words.specs.declared.table.Positional.{Positional}
use Rattle.minerful_words.specs.declared.table.CommandForm.{CommandForm}

abbrev pub option_row : CommandOption → OptionRow
option_row o = record { number = o.number; name = o.name.now; commands = o.commands.now; field = o.field }

abbrev pub positional_row : Positional → PositionalRow
positional_row p = record { name = p.name.now; is_required = p.is_required }

abbrev pub command_row : CommandForm → CommandRow
command_row f = record { command = f.command; name = f.name.now; positionals = map positional_row f.positionals.now }
