use Rattle.std.proofs.Common.{◌≡◌, map, drop}
use Rattle.std.specs.Prelude.{find}
use Rattle.std.specs.Str.{bytes_eq}
use Rattle.minerful_words.specs.Rows.{command_row}
use Rattle.minerful_words.specs.Table.{row_named}
use Rattle.minerful_words.proofs.table.CommandForm.named.Given as goal

-- the command is among those that are left
abbrev pub invariant-loop-form : goal.invariant-loop-form
invariant-loop-form l = find (λ row. bytes_eq row.name l.text) (map command_row (drop l.form-index l.form-items)) ≡ row_named l.text
