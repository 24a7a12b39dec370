-- The commands that read the words, as `clap` has them.
use Rattle.std.specs.Prelude.{List, [], ◌∷◌, fold, true, Some, Result, Ok, Err, ℕ, if◌then◌else◌}
use Rattle.clap.specs.Words.{App, Rule, Row, Text, Kinds, new_app, new_rule, with_rule, matches_of, fault_of}
use Rattle.clap.specs.declared.builder.action.ArgAction.TheVariants.{Set}
use Rattle.minerful_words.specs.declared.settings.Command.{Command}
use Rattle.minerful_words.specs.Table.{OptionRow, PositionalRow, CommandRow, options, takes}

-- an option that sets one text
abbrev pub text_option : Text → Rule
text_option id = record (new_rule id) { long = Some id; action = Some Set }

-- one text by its place
abbrev pub text_by_place : PositionalRow → Rule
text_by_place row = record (new_rule row.name) { required = row.is_required }

-- a command with its help and version flags off
abbrev pub bare_app : Text → App
bare_app name = record (new_app name) {
  top = record (new_app name).top { disable_help_flag = true; disable_version_flag = true };
}

-- with the option, where the command takes it
abbrev pub with_option : Command → App → OptionRow → App
with_option command app option = if takes command option then with_rule app (text_option option.name) else app

abbrev pub with_positional : App → PositionalRow → App
with_positional app row = with_rule app (text_by_place row)

-- a command with the options that it takes, and its texts by place
unfoldable pub app_for : CommandRow → App
app_for row = fold with_positional (fold (with_option row.command) (bare_app row.name) options) row.positionals

-- the rows, where there is no fault
abbrev pub rows_unless : Kinds → List Row → Result (List Row) ℕ
rows_unless [] rows = Ok rows
rows_unless (kind ∷ kinds) rows = Err 1

-- what a command finds in the words, or 1 where it doesn't take them
unfoldable pub taken : App → List Text → Result (List Row) ℕ
taken app words = rows_unless (fault_of app words) (matches_of app words)
