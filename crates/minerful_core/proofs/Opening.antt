-- What is read of an input that was opened.
use Rattle.std.proofs.Common.{◌≡◌, ℕ, List, Result, IfSome, sym, subst}
use Rattle.decl_base.specs.Limits.{standard}
use Rattle.decl_base.specs.declared.limits.Limits.{Limits}
use Rattle.decl_base.specs.declared.refusal.Refusal.{Refusal}
use Rattle.decl_outside.specs.Inputs.{InputState}
use Rattle.log_columns.specs.declared.Columns.{Columns}
use Rattle.minerful_words.specs.declared.settings.Format.{Format}
use Rattle.minerful_words.specs.declared.settings.Format.TheVariants.{Strings}
use Rattle.strings_log.specs.StringLog.{string_log}
use Rattle.minerful_core.specs.Outcome.{log_of}
use Rattle.minerful_core.specs.Reading.{IsOpened}
use Rattle.minerful_core.proofs.Refusing.{told_left}

module _ (name : List ℕ) (old mid : InputState) (opened : IsOpened name old mid) where
  -- the log of the bytes that are left is that of the input
  pub strings_told : (format : Format) (columns : Columns) (limits : Limits) (wanted : Result (List (List (List ℕ))) Refusal) → format ≡ Strings → limits ≡ standard
      → IfSome mid.left (λ bytes. string_log limits bytes ≡ wanted) → IfSome old.contents (λ contents. log_of format columns (contents name) ≡ wanted)
  strings_told format columns limits wanted format_is limits_are found =
      told_left old.contents mid.left name (λ bytes. log_of format columns bytes ≡ wanted) opened.left
      (subst (λ f. IfSome mid.left (λ bytes. log_of f columns bytes ≡ wanted)) (sym format_is) (subst (λ l. IfSome mid.left (λ bytes. string_log l bytes ≡ wanted)) limits_are found))
