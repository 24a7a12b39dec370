use Rattle.std.proofs.Common.{rules, ◌≡◌, true, false, Bool, refl}
use Rattle.std.specs.Str.{is_utf8}
use Rattle.std.proofs.lemmas.Str.{is_utf8-from_IsUtf8, IsUtf8-from_is_utf8}
use Rattle.csv_log.proofs.row.text_of.Goals as goal

pub returns-in-Ok-clause-some : goal.returns-in-Ok-clause-some
returns-in-Ok-clause-some c = is_utf8-from_IsUtf8 c.args.field.now (search rules)

pub returns-in-Err-clause-none : goal.returns-in-Err-clause-none
returns-in-Err-clause-none c = go (is_utf8 c.args.field.now) refl
  where
    go : (b : Bool) → is_utf8 c.args.field.now ≡ b → b ≡ false
    go true e = absurd (c.in-Err.ensures.cases.0 (IsUtf8-from_is_utf8 c.args.field.now e))
    go false e = refl
