-- From an analysis over the names of a model to the outcome of the model.
use Rattle.std.proofs.Common.{◌≡◌, ℕ, List, subst}
use Rattle.decl_base.specs.declared.refusal.Refusal.{Refusal}
use Rattle.decl_base.specs.declared.refusal.Refusal.TheVariants.{Memory, States}
use Rattle.model_compare.specs.Analysis.{IsAnalysis, RefusesAnalysis}
use Rattle.model_json.specs.Model.{Known}
use Rattle.report_text.specs.AnalysisText.{analysis_text}
use Rattle.template_core.specs.declared.constraint.Constraint.{Constraint}
use Rattle.minerful_core.specs.Models.{constraints_over, names_of, symbols_of}
use Rattle.minerful_core.specs.Outcome.{Outcome, refuses, IsAnalysisOutcome, IsReported}
use Rattle.minerful_core.specs.Refusing.{MayRefuse}

module _ (states first : ℕ) (model : Known) where
  abbrev IsOver : List (List ℕ) → ℕ → List Constraint → Outcome → Type 0
  IsOver names n list o = IsReported (IsAnalysis n states first list) (RefusesAnalysis n states list) (analysis_text names) o

  module _ (names : List (List ℕ)) (n : ℕ) (list : List Constraint) (names_are : names ≡ names_of model) (n_is : n ≡ symbols_of names) (list_is : list ≡ constraints_over names model) where
    -- the outcome over names, symbols and a list that are those of the model
    pub outcome_of_one : (o : Outcome) → IsOver names n list o → IsAnalysisOutcome states first model o
    outcome_of_one o h =
        subst (λ l. IsOver l (symbols_of l) (constraints_over l model) o) names_are
        (subst (λ k. IsOver names k (constraints_over names model) o) n_is (subst (λ l. IsOver names n l o) list_is h))

    pub refusal_of_one : (r : Refusal) → RefusesAnalysis n states list r → MayRefuse ⊥ (λ r. IsAnalysisOutcome states first model (refuses r)) r
    refusal_of_one (States phase built) h = outcome_of_one (refuses (States phase built)) h
    refusal_of_one Memory h = tt
    refusal_of_one r h = absurd h
