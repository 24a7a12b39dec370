use Rattle.std.proofs.Common.{◌≡◌, fold, map, drop}
use Rattle.clap.specs.Words.{app_of}
use Rattle.minerful_words.specs.Apps.{with_positional}
use Rattle.minerful_words.specs.Rows.{positional_row}
use Rattle.minerful_words.proofs.clap_command.with_positionals.Given as goal

-- the command so far, with the texts that are left, is the whole
abbrev pub invariant-loop-positional : goal.invariant-loop-positional
invariant-loop-positional l =
    fold with_positional (app_of l.command) (map positional_row (drop l.positional-index l.positionals))
    ≡ fold with_positional (app_of l.initial.command) (map positional_row l.positionals)
