-- A check of what was read, and its outcome.
use Rattle.std.proofs.Common.{◌≡◌, ℕ, zero, suc, take, ◌+◌, ◌≤◌, List, [], ◌∷◌, Bool, true, false, ◌||◌, not, nat_lt, length, Option, None, Some, Result, Ok, Err, IfSome, refl, sym, ap, ap₂, subst, ◌∙◌, arith}
use Rattle.std.proofs.lemmas.Bool.Decides.{nat_tests}
use Rattle.std.proofs.Math.Seq.{take-nil}
use Rattle.std.specs.List.{list_any, position, position_or_len}
use Rattle.std.specs.Prelude.{fold, is_some, option_map, if◌then◌else◌}
use Rattle.decl_base.specs.declared.refusal.Refusal.{Refusal}
use Rattle.decl_base.specs.declared.refusal.Refusal.TheVariants.{Memory, States}
use Rattle.decl_base.specs.declared.status.Status.TheVariants as status
use Rattle.decl_outside.specs.Faults.{Rose}
use Rattle.decl_outside.specs.Inputs.{FailedIn, InputState, noted}
use Rattle.model_compare.specs.Comparison.{IsCompared, RefusesComparing}
use Rattle.model_json.specs.Model.{Known}
use Rattle.minerful_words.specs.declared.settings.Settings.{Settings}
use Rattle.template_core.specs.declared.constraint.Constraint.{Constraint}
use Rattle.report_text.specs.CheckTable.{check_table_text}
use Rattle.report_text.specs.ComparisonText.{comparison_text}
use Rattle.trace_check.specs.Checking.{checked}
use Rattle.trace_check.specs.declared.checked.Checked.{Checked}
use Rattle.minerful_core.specs.Commands.{OfContents}
use Rattle.minerful_core.specs.Models.{constraints_over, names_of_both, symbols_of}
use Rattle.minerful_core.specs.Outcome.{Outcome, answers, refuses, is_broken_by, keeps_named, model_in, status_of_relation, IsAnswered, IsCheckOutcome, IsComparisonOutcome, IsOutcomeOf}
use Rattle.minerful_core.specs.Refusing.{MayRefuse}
use Rattle.minerful_core.specs.Run.{AsksFor, InputFailed}
use Rattle.minerful_core.proofs.Answering.{told_only}
use Rattle.minerful_core.proofs.Refusing.{MayRefuse-weaker}

-- ---- whether some trace breaks some constraint

shift : (m n : ℕ) → nat_lt (1 + m) (suc n) ≡ nat_lt m n
shift m n = grind (arith, nat_tests)

at_start : (n : ℕ) → nat_lt 0 (suc n) ≡ true
at_start n = grind (arith, nat_tests)

-- a place passes where some element does
passes-somewhere : {X : Type 0} (p : X → Bool) (xs : List X) → nat_lt (position_or_len p xs) (length xs) ≡ list_any p xs
passes-somewhere p [] = refl
passes-somewhere p (x ∷ xs) = go (p x) refl (passes-somewhere p xs)
  where
    go : (b : Bool) → p x ≡ b → nat_lt (position_or_len p xs) (length xs) ≡ list_any p xs → nat_lt (position_or_len p (x ∷ xs)) (length (x ∷ xs)) ≡ (p x || list_any p xs)
    go true e rest = rw e (at_start (length xs))
    go false e rest = rw e (shift (position_or_len p xs) (length xs) ∙ rest)

some-place : {X Y : Type 0} (p : X → Bool) (f : ℕ → Y) (xs : List X) → is_some (option_map f (position p xs)) ≡ list_any p xs
some-place p f xs = go (nat_lt (position_or_len p xs) (length xs)) refl ∙ passes-somewhere p xs
  where
    go : (b : Bool) → nat_lt (position_or_len p xs) (length xs) ≡ b → is_some (option_map f (position p xs)) ≡ nat_lt (position_or_len p xs) (length xs)
    go true e = rw e refl
    go false e = rw e refl

pub broken-rows : (model : Known) (list : List Constraint) (log : List (List (List ℕ)))
    → list_any (λ row. is_some row.broken) (checked model.names list log) ≡ list_any (λ c. list_any (λ trace. not (keeps_named model c trace)) log) list
broken-rows model [] log = refl
broken-rows model (c ∷ list) log = ap₂ (λ a b. a || b) (some-place (λ trace. not (keeps_named model c trace)) _ log) (broken-rows model list log)

pub compared : (model : Known) (log : List (List (List ℕ))) (names other : List (List ℕ)) (list same : List Constraint) (rows : List Checked) (broken : Bool) (text : List ℕ)
    → names ≡ model.names → list ≡ model.constraints → other ≡ model.names → same ≡ model.constraints
    → rows ≡ checked names list log → broken ≡ list_any (λ row. is_some row.broken) rows → text ≡ check_table_text other same rows
    → IsCheckOutcome model log (answers (if broken then status.Differs else status.Done) text)
compared model log names other list same rows broken text names_are list_is other_is same_is rows_are broken_is text_is =
    let of_model : rows ≡ checked model.names model.constraints log = rows_are ∙ ap (λ n. checked n list log) names_are ∙ ap (λ l. checked model.names l log) list_is in
    let is_broken : broken ≡ is_broken_by log model = broken_is ∙ ap (list_any (λ row. is_some row.broken)) of_model ∙ broken-rows model model.constraints log in
    let table : text ≡ check_table_text model.names model.constraints (checked model.names model.constraints log)
    = text_is ∙ ap (λ n. check_table_text n same rows) other_is ∙ ap (λ l. check_table_text model.names l rows) same_is ∙ ap (check_table_text model.names model.constraints) of_model in
    ap₂ (λ b t. answers (if b then status.Differs else status.Done) t) is_broken table

-- ---- the two inputs

-- what failed later failed over the whole
pub failed_later : (name : Option (List ℕ)) (old mid new : InputState) → old.faults ≤ mid.faults → FailedIn name mid new → FailedIn name old new
failed_later name old mid new later h = record { rose = rises old.faults mid.faults new.faults later h.rose; asked = h.asked; failed = h.failed }
  where
    rises : (a b c : ℕ) → a ≤ b → Rose b c → Rose a c
    rises a b c l h = omega (arith, l, h)

module _ (first second : List ℕ) (old mid new : InputState) where
  pub asks_both : mid.names ≡ noted old.names first → AsksFor (second ∷ []) mid new → AsksFor (first ∷ second ∷ []) old new
  asks_both asked h = go h.0 h.1
    where
      go : (n : ℕ) → new.names ≡ fold noted mid.names (take n (second ∷ [])) → AsksFor (first ∷ second ∷ []) old new
      go zero e = (1, e ∙ asked)
      go (suc n) e = (2, e ∙ ap (fold noted (noted mid.names second)) (take-nil n) ∙ ap (λ names. noted names second) asked)

-- ---- the outcome of a model and of what is read behind it

module _ {B : Type 0} (IsBoth : Known → B → Outcome → Type 0) (second : (List ℕ → List ℕ) → Result B Refusal) (s : Settings) (old mid new : InputState) where
  abbrev Is : (List ℕ → List ℕ) → Outcome → Type 0
  Is contents o = IsOutcomeOf (λ model. IsOutcomeOf (IsBoth model) (second contents)) (model_in s contents) o

  abbrev MayRefuseBoth : Refusal → Type 0
  MayRefuseBoth = MayRefuse (InputFailed (s.model ∷ s.log ∷ []) old new) (λ r. OfContents (s.model ∷ s.log ∷ []) old (λ contents. Is contents (refuses r)))

  abbrev HasModel : Known → Type 0
  HasModel model = IfSome old.contents (λ contents. model_in s contents ≡ Ok model)

  abbrev HasSecond : Result B Refusal → Type 0
  HasSecond found = IfSome mid.contents (λ contents. second contents ≡ found)

  both : (model : Known) (contents : List ℕ → List ℕ) (found : Result B Refusal) (o : Outcome) → model_in s contents ≡ Ok model → second contents ≡ found
      → IsOutcomeOf (IsBoth model) found o → Is contents o
  both model contents found o model_is second_is h =
      subst (λ m. IsOutcomeOf (λ model. IsOutcomeOf (IsBoth model) (second contents)) m o) (sym model_is) (subst (λ l. IsOutcomeOf (IsBoth model) l o) (sym second_is) h)

  -- the outcome of a model and of what was found behind it
  pub of_both : (model : Known) (found : Result B Refusal) (o : Outcome) → HasModel model → mid.contents ≡ old.contents → HasSecond found → IsOutcomeOf (IsBoth model) found o
      → OfContents (s.model ∷ s.log ∷ []) old (λ contents. Is contents o)
  of_both model found o has_model same has_second h =
      told_only s.model (s.log ∷ []) old (λ contents. Is contents o)
      (go old.contents has_model (subst (λ told. IfSome told (λ contents. second contents ≡ found)) same has_second))
    where
      go : (told : Option (List ℕ → List ℕ)) → IfSome told (λ contents. model_in s contents ≡ Ok model) → IfSome told (λ contents. second contents ≡ found) → IfSome told (λ contents. Is contents o)
      go None m l = tt
      go (Some contents) m l = both model contents found o m l h

  -- what can't be read behind the model is refused
  pub none_behind : (model : Known) (r : Refusal) → HasModel model → mid.contents ≡ old.contents → old.faults ≤ mid.faults
      → MayRefuse (FailedIn (Some s.log) mid new) (λ r. HasSecond (Err r)) r → MayRefuseBoth r
  none_behind model r has_model same later h =
      MayRefuse-weaker (FailedIn (Some s.log) mid new) (InputFailed (s.model ∷ s.log ∷ []) old new) (λ r. HasSecond (Err r))
      (λ r. OfContents (s.model ∷ s.log ∷ []) old (λ contents. Is contents (refuses r))) (λ failed. (s.log, (1, omega arith, refl), failed_later (Some s.log) old mid new later failed))
      (λ r has_second. of_both model (Err r) (refuses r) has_model same has_second refl) r h

  -- what is refused of both
  pub refused_of_both : (model : Known) (found : B) (r : Refusal) → HasModel model → mid.contents ≡ old.contents → HasSecond (Ok found)
      → MayRefuse ⊥ (λ r. IsBoth model found (refuses r)) r → MayRefuseBoth r
  refused_of_both model found r has_model same has_second h =
      MayRefuse-weaker ⊥ (InputFailed (s.model ∷ s.log ∷ []) old new) (λ r. IsBoth model found (refuses r))
      (λ r. OfContents (s.model ∷ s.log ∷ []) old (λ contents. Is contents (refuses r))) (λ no. absurd no)
      (λ r is. of_both model (Ok found) (refuses r) has_model same has_second is) r h

-- ---- the outcome of two models

module _ (states : ℕ) (first second : Known) where
  abbrev IsOver : List (List ℕ) → ℕ → List Constraint → List Constraint → Outcome → Type 0
  IsOver names n one other o =
      IsAnswered (IsCompared n states one other) (RefusesComparing n states one other) (λ comparison. answers (status_of_relation comparison.relation) (comparison_text names comparison)) o

  module _ (names : List (List ℕ)) (n : ℕ) (one other : List Constraint) (names_are : names ≡ names_of_both first second) (n_is : n ≡ symbols_of names)
      (one_is : one ≡ constraints_over names first) (other_is : other ≡ constraints_over names second) where
    -- the outcome over names, symbols and lists that are those of the models
    pub outcome_of_two : (o : Outcome) → IsOver names n one other o → IsComparisonOutcome states first second o
    outcome_of_two o h =
        subst (λ l. IsOver l (symbols_of l) (constraints_over l first) (constraints_over l second) o) names_are
        (subst (λ k. IsOver names k (constraints_over names first) (constraints_over names second) o) n_is
        (subst (λ l. IsOver names n l (constraints_over names second) o) one_is (subst (λ l. IsOver names n one l o) other_is h)))

    pub refusal_of_two : (r : Refusal) → RefusesComparing n states one other r → MayRefuse ⊥ (λ r. IsComparisonOutcome states first second (refuses r)) r
    refusal_of_two (States phase built) h = outcome_of_two (refuses (States phase built)) h
    refusal_of_two Memory h = tt
    refusal_of_two r h = absurd h
