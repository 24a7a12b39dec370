use Rattle.std.proofs.Common.{ap, ◌∙◌}
use Rattle.minerful_words.specs.Templates.{kind_named}
use Rattle.minerful_words.proofs.Named.{found_by_name}
use Rattle.minerful_words.proofs.settings.Settings.template.Goals as goal

pub returns-clause-kind : goal.returns-clause-kind
returns-clause-kind c = found_by_name c.text.result.now c.kind_of.result c.kind_of.ensures ∙ ap kind_named c.text.ensures
