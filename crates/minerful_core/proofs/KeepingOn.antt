-- A run that keeps on at the limit on states prints what one that stops there does, where that has a text.
use Rattle.std.proofs.Common.{◌≡◌, ℕ, List, All, length, refl}
use Rattle.std.specs.Prelude.{nat_lt}
use Rattle.decl_base.specs.Limits.{standard}
use Rattle.decl_base.specs.declared.refusal.Refusal.TheVariants as refusal
use Rattle.decl_base.specs.declared.status.Status.{Status}
use Rattle.event_log.specs.Logs.{sorted_names}
use Rattle.minerful_words.specs.declared.settings.Command.TheVariants.{Mine}
use Rattle.minerful_words.specs.declared.settings.Settings.{Settings}
use Rattle.minerful_words.specs.declared.settings.Stage.{Stage}
use Rattle.minerful_words.specs.declared.settings.Stage.TheVariants.{Consistent, Model, Scores}
use Rattle.minerful_words.specs.declared.settings.Out.{Out}
use Rattle.minerful_words.specs.declared.settings.Out.TheVariants.{Cert, Json, Table}
use Rattle.reduce_model.specs.Reduction.{IsReduction, Reduction}
use Rattle.reduce_model.specs.Within.{IsReductionWithin}
use Rattle.reduce_model.proofs.AgreeWithin.{reduction-agrees, sift-agrees}
use Rattle.template_core.specs.Constraints.{IsWellMadeFor}
use Rattle.minerful_core.specs.Outcome.{answers, candidates_in, constraints_in, keeping_on, refuses, stopping, IsLogOutcome, IsModelOutcomeAs, IsStageOutcome}
use Rattle.minerful_core.proofs.OrderFree.{second_same}
use Rattle.minerful_core.proofs.Reports.{candidates_in_made, made_constraints}

module _ (s : Settings) (log : List (List (List ℕ))) (status : Status) (text : List ℕ) where
  agrees : (reduction : Reduction) → IsReduction (length (sorted_names log)) s.states (constraints_in (candidates_in s log)) reduction
      → IsReductionWithin (length (sorted_names log)) s.states (constraints_in (candidates_in s log)) reduction
  agrees reduction is =
      let n = length (sorted_names log) in
      let list = candidates_in s log in
      let made : All (IsWellMadeFor n) (constraints_in list) = made_constraints n list (constraints_in list) refl (candidates_in_made s log) in
      reduction-agrees n s.states (constraints_in list) reduction made is

  modelled : (out : Out) → IsModelOutcomeAs out (stopping s) (candidates_in s log) log (answers status text) → IsModelOutcomeAs out (keeping_on s) (candidates_in s log) log (answers status text)
  modelled Cert is =
      (is.0, record { reduced = agrees is.0.reduction is.1.reduced; form = is.1.form; right = is.1.right; written = is.1.written; verified = is.1.verified }, is.2)
  modelled Json is = (is.0, agrees is.0 is.1, is.2)
  modelled Table is = (is.0, agrees is.0 is.1, is.2)

  staged : (stage : Stage) → IsStageOutcome stage (stopping s) (candidates_in s log) log (answers status text) → IsStageOutcome stage (keeping_on s) (candidates_in s log) log (answers status text)
  staged Scores is = is
  staged Consistent is = (is.0, sift-agrees (length (sorted_names log)) s.states (constraints_in (candidates_in s log)) is.0 is.1, is.2)
  staged Model is = modelled s.out is

  pub same_where_stopping : IsLogOutcome Mine (stopping s) log (answers status text) → IsLogOutcome Mine (keeping_on s) log (answers status text)
  same_where_stopping is =
      second_same (nat_lt standard.candidates (length (candidates_in s log))) (answers status text ≡ refuses (refusal.Candidates (length (candidates_in s log))))
      (IsStageOutcome s.stage (stopping s) (candidates_in s log) log (answers status text)) (IsStageOutcome s.stage (keeping_on s) (candidates_in s log) log (answers status text)) (staged s.stage) is
