use Rattle.std.proofs.Common.{ap, ◌∙◌, fold, map}
use Rattle.std.proofs.lemmas.Result.{IfOk-weaker}
use Rattle.minerful_words.specs.Apps.{app_for, with_option, with_positional}
use Rattle.minerful_words.specs.Rows.{positional_row}
use Rattle.minerful_words.specs.Table.{options}
use Rattle.minerful_words.proofs.clap_command.clap_command.Goals as goal

pub returns : goal.returns
unfolding app_for
returns c =
    IfOk-weaker c.with_positionals.result _ _
    (λ r h. h ∙ ap (λ app. fold with_positional app (map positional_row c.args.form.now.positionals.now))
    (c.in_ok-command.ensures ∙ ap (λ app. fold (with_option c.args.form.now.command) app options) c.bare_command.ensures))
    c.with_positionals.ensures
