use Rattle.std.proofs.Common.{◌≡◌, List, map, drop}
use Rattle.clap.specs.Words.{Row, found_of, rows_of}
use Rattle.minerful_words.specs.Rows.{option_row}
use Rattle.minerful_words.specs.Settings.{with_texts, without_options}
use Rattle.minerful_words.specs.Steps.{IsBounded}
use Rattle.minerful_words.specs.Table.{OptionRow, options}
use Rattle.minerful_words.specs.declared.settings.Command.{Command}
use Rattle.minerful_words.specs.declared.settings.Settings.{Settings}
use Rattle.minerful_words.proofs.choices.settings_in.Given as goal

-- the settings so far, with the texts of the options that are left, are those with the texts of all options
pub record IsGiven (command : Command) (found : List Row) (settings : Settings) (rest : List OptionRow) : Type 0 where
  pub left : with_texts rest command found settings ≡ with_texts options command found (without_options command found)
  pub bounded : IsBounded settings

abbrev pub invariant-loop-option : goal.invariant-loop-option
invariant-loop-option l = IsGiven l.command (rows_of (found_of l.found)) l.settings (map option_row (drop l.option-index l.option-items))
