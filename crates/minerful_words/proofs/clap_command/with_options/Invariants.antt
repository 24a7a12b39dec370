use Rattle.std.proofs.Common.{◌≡◌, fold, map, drop}
use Rattle.clap.specs.Words.{app_of}
use Rattle.minerful_words.specs.Apps.{with_option}
use Rattle.minerful_words.specs.Rows.{option_row}
use Rattle.minerful_words.specs.Table.{options}
use Rattle.minerful_words.proofs.clap_command.with_options.Given as goal

-- the command so far, with the options that are left, is the whole
abbrev pub invariant-loop-option : goal.invariant-loop-option
invariant-loop-option l =
    fold (with_option l.taking) (app_of l.command) (map option_row (drop l.option-index l.option-items))
    ≡ fold (with_option l.taking) (app_of l.initial.command) options
