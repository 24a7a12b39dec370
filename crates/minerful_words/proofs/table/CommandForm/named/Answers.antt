use Rattle.std.proofs.Common.{ap}
use Rattle.std.specs.Prelude.{find}
use Rattle.std.specs.Str.{bytes_eq}
use Rattle.minerful_words.specs.Table.{row_named}
use Rattle.minerful_words.proofs.table.CommandForm.named.Goals as goal

pub loop-form-init : goal.loop-form-init
unfolding row_named
loop-form-init c = ap (find (λ row. bytes_eq row.name c.args.text.now)) c.all-form-items.ensures
