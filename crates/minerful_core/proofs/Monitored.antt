-- Why a run over running cases is refused, and what it leaves.
use Rattle.std.proofs.Common.{◌≡◌, ℕ, ◌≤◌, List, [], ◌∷◌, false, Option, None, Some, Ok, Err, IfSome, inl, inr, refl, sym, ap, subst, ◌∙◌, true≢false, arith}
use Rattle.decl_base.specs.Limits.{standard}
use Rattle.decl_base.specs.Refusal.{status_of}
use Rattle.decl_base.specs.declared.limits.Limits.{Limits}
use Rattle.decl_base.specs.declared.refusal.Refusal.{Refusal}
use Rattle.decl_base.specs.declared.refusal.Refusal.TheVariants as refusal
use Rattle.decl_base.specs.declared.status.Status.{Status}
use Rattle.decl_base.specs.declared.status.Status.TheVariants as status
use Rattle.decl_outside.specs.Faults.{Rose}
use Rattle.decl_outside.specs.Inputs.{FailedIn, InputState, KeepsInput}
use Rattle.decl_outside.specs.Lines.{pieces}
use Rattle.decl_outside.specs.Sink.{SinkState}
use Rattle.event_log.specs.Logs.{events_of as joined}
use Rattle.minerful_words.specs.declared.settings.Command.TheVariants.{Monitor}
use Rattle.minerful_words.specs.declared.settings.Settings.{Settings}
use Rattle.model_json.specs.Model.{Known}
use Rattle.monitor_lines.specs.Watching.{PrintsAll, PrintsBefore, PrintsPart, PrintsSome, PrintsTaken, RefusesModel, WatchCause}
use Rattle.monitor_lines.proofs.Stops.{first_fault-stops}
use Rattle.strings_log.specs.Reading.{ended_lines}
use Rattle.template_core.specs.declared.constraint.Constraint.{Constraint}
use Rattle.minerful_core.specs.Models.{constraints_over, names_of, symbols_of}
use Rattle.minerful_core.specs.Monitored.{LeavesLines, LeavesRefused, MonitorCause, MonitorLeaves, OfWatched}
use Rattle.minerful_core.specs.Outcome.{answers, refuses, model_in, IsCommandOutcome, IsLinesOutcome, IsMonitorOutcome, IsOutcomeOf, IsWatchable}
use Rattle.minerful_core.specs.Reading.{IsOpened}
use Rattle.minerful_core.specs.Refusing.{MayRefuse}
use Rattle.minerful_core.specs.Run.{AppendsLine, HasStatus, InputFailed, WritesError}
use Rattle.minerful_core.proofs.Comparing.{failed_later}
use Rattle.minerful_core.proofs.Refusing.{told}

-- ---- what the inputs tell

every : {A : Type 0} (contents : Option A) (P : A → Type 0) → ((a : A) → P a) → IfSome contents P
every None P all = tt
every (Some a) P all = all a

both_told : {A : Type 0} (contents : Option A) (P Q R : A → Type 0) → ((a : A) → P a → Q a → R a) → IfSome contents P → IfSome contents Q → IfSome contents R
both_told None P Q R more p q = tt
both_told (Some a) P Q R more p q = more a p q

same_name : (a b : List ℕ) (asked : Option (List ℕ)) → asked ≡ Some a → asked ≡ Some b → a ≡ b
same_name a b asked one other = cc

-- ---- refusals before the log is read: nothing is written

module _ (s : Settings) (old new : InputState) (out : SinkState) where
  abbrev Leaves : Refusal → Type 0
  Leaves r = IfSome old.contents (λ contents. MonitorLeaves s contents new out out r)

  pub memory_cause : (old_out : SinkState) (r : Refusal) → r ≡ refusal.Memory → MonitorCause s old new old_out out r
  memory_cause old_out r e = subst (MonitorCause s old new old_out out) (sym e) tt

  pub memory_leaves : (r : Refusal) → r ≡ refusal.Memory → Leaves r
  memory_leaves r e = every old.contents (λ contents. MonitorLeaves s contents new out out r) (λ contents. subst (MonitorLeaves s contents new out out) (sym e) (inl refl))

  abbrev ModelRefuses : Refusal → Type 0
  ModelRefuses r = MayRefuse (FailedIn (Some s.model) old new) (λ r. IfSome old.contents (λ contents. model_in s contents ≡ Err r)) r

  pub unread_cause : (r : Refusal) → ModelRefuses r → MonitorCause s old new out out r
  unread_cause refusal.ReadFault h = (s.model, (0, omega arith, refl), h)
  unread_cause refusal.WriteFault h = absurd h
  unread_cause (refusal.Usage at) h = absurd h
  unread_cause r h = tt

  pub unread_leaves : (r : Refusal) → ModelRefuses r → Leaves r
  unread_leaves refusal.ReadFault h =
      every old.contents (λ contents. MonitorLeaves s contents new out out refusal.ReadFault) (λ contents. record {
        some = inl refl;
        at_model = λ apart asked. refl;
        unopened = λ apart asked closed. refl;
        at_log = λ apart asked opened. absurd (apart (same_name s.model s.log new.asked h.asked asked));
      })
  unread_leaves refusal.Memory h = memory_leaves refusal.Memory refl
  unread_leaves refusal.WriteFault h = absurd h
  unread_leaves (refusal.Usage at) h = absurd h
  unread_leaves r h = told old.contents (λ contents. model_in s contents ≡ Err r) (λ contents. MonitorLeaves s contents new out out r) (λ contents e. inl (inl e, refl)) h

  module _ (mid : InputState) (later : old.faults ≤ mid.faults) where
    pub unopened_cause : (r : Refusal) → MayRefuse (FailedIn (Some s.log) mid new) (λ r. ⊥) r → MonitorCause s old new out out r
    unopened_cause refusal.ReadFault h = (s.log, (1, omega arith, refl), failed_later (Some s.log) old mid new later h)
    unopened_cause refusal.Memory h = tt
    unopened_cause r h = absurd h

    pub unopened_leaves : (r : Refusal) → MayRefuse (FailedIn (Some s.log) mid new) (λ r. ⊥) r → (r ≡ refusal.ReadFault → new.is_open ≡ false) → Leaves r
    unopened_leaves refusal.ReadFault h closed =
        every old.contents (λ contents. MonitorLeaves s contents new out out refusal.ReadFault) (λ contents. record {
          some = inl refl;
          at_model = λ apart asked. refl;
          unopened = λ apart asked closed. refl;
          at_log = λ apart asked opened. absurd (true≢false (sym opened ∙ closed refl));
        })
    unopened_leaves refusal.Memory h closed = memory_leaves refusal.Memory refl
    unopened_leaves r h closed = absurd h

-- ---- refusals by a model, and by a log behind it

module _ (s : Settings) (old new : InputState) (model : Known) (names : List (List ℕ)) (list : List Constraint) (names_are : names ≡ names_of model) (list_is : list ≡ constraints_over names model) where
  -- what holds of the names and the list does of those of the model
  of_model : (P : List (List ℕ) → List Constraint → Type 0) → P names list → P (names_of model) (constraints_over (names_of model) model)
  of_model P h = subst (λ l. P l (constraints_over l model)) names_are (subst (P names) list_is h)

  abbrev HasModel : Type 0
  HasModel = IfSome old.contents (λ contents. model_in s contents ≡ Ok model)

  pub untried_cause : (out : SinkState) (r : Refusal) → RefusesModel (symbols_of names) s.states list r → MonitorCause s old new out out r
  untried_cause out refusal.ReadFault h = absurd h.1
  untried_cause out refusal.WriteFault h = absurd h.1
  untried_cause out (refusal.Usage at) h = absurd h.1
  untried_cause out r h = tt

  untried : (out : SinkState) (contents : List ℕ → List ℕ) (r : Refusal) → model_in s contents ≡ Ok model
      → RefusesModel (symbols_of (names_of model)) s.states (constraints_over (names_of model) model) r → MonitorLeaves s contents new out out r
  untried out contents refusal.ReadFault read h = absurd h.1
  untried out contents refusal.WriteFault read h = absurd h.1
  untried out contents refusal.Memory read h = inl refl
  untried out contents r read h = inl (inr (model, read, h), refl)

  pub untried_leaves : (out : SinkState) (r : Refusal) → HasModel → RefusesModel (symbols_of names) s.states list r → IfSome old.contents (λ contents. MonitorLeaves s contents new out out r)
  untried_leaves out r read h =
      told old.contents (λ contents. model_in s contents ≡ Ok model) (λ contents. MonitorLeaves s contents new out out r)
      (λ contents is. untried out contents r is (of_model (λ names list. RefusesModel (symbols_of names) s.states list r) h)) read

  module _ (before mid : InputState) (opened : IsOpened s.log before mid) (told_as : before.contents ≡ old.contents) (old_out out : SinkState) where
    pub watched_cause : (limits : Limits) → old.faults ≤ before.faults → (r : Refusal) → WatchCause limits names list mid new old_out out r → MonitorCause s old new old_out out r
    watched_cause limits later refusal.ReadFault h =
        (s.log, (1, omega arith, refl), failed_later (Some s.log) old mid new (omega (arith, later, opened.later)) (subst (λ name. FailedIn name mid new) opened.asked h.0))
    watched_cause limits later refusal.WriteFault h = h.0
    watched_cause limits later (refusal.Usage at) h = absurd h
    watched_cause limits later r h = tt

    module _ (watchable : IsWatchable s.states names list) where
      module _ (contents : List ℕ → List ℕ) (read : model_in s contents ≡ Ok model) (left : mid.left ≡ Some (contents s.log)) where
        -- what holds of the bytes that are left, of the names and the list is left
        leaves : (P : List (List ℕ) → List Constraint → List ℕ → Type 0) → IfSome mid.left (P names list) → OfWatched s contents (λ names list. P names list (contents s.log))
        leaves P h =
            (model, read, of_model (IsWatchable s.states) watchable, of_model (λ names list. P names list (contents s.log)) (subst (λ l. IfSome l (P names list)) left h))

        some_of_taken : (bytes : List ℕ) → PrintsTaken standard names list new.left bytes old_out out → PrintsSome standard names list bytes old_out out
        some_of_taken bytes (taken, split, sound, prints) = (ended_lines taken, sound, prints)

        before_fault : (r : Refusal) → IfSome mid.left (λ bytes. PrintsBefore standard names list r bytes old_out out) → LeavesRefused s contents r old_out out
        before_fault r h = inr (leaves (λ names list bytes. PrintsBefore standard names list r bytes old_out out) h)

        pub watched : (r : Refusal) → KeepsInput mid new → WatchCause standard names list mid new old_out out r → MonitorLeaves s contents new old_out out r
        watched refusal.ReadFault keeps h = record {
          some = inr (leaves (λ names list bytes. PrintsSome standard names list bytes old_out out) (told mid.left _ _ some_of_taken h.1));
          at_model = λ apart asked. absurd (apart (same_name s.model s.log new.asked asked (keeps.asked ∙ opened.asked)));
          unopened = λ apart asked closed. absurd (true≢false (sym keeps.stays_open ∙ closed));
          at_log = λ apart asked opened. leaves (λ names list bytes. PrintsTaken standard names list new.left bytes old_out out) h.1;
        }
        watched refusal.WriteFault keeps h = leaves (λ names list bytes. PrintsPart standard names list bytes old_out out) h.1
        watched refusal.Memory keeps h = inr (leaves (λ names list bytes. PrintsSome standard names list bytes old_out out) h)
        watched (refusal.LineLong n) keeps h = before_fault (refusal.LineLong n) h
        watched (refusal.NotUtf8 n) keeps h = before_fault (refusal.NotUtf8 n) h
        watched (refusal.NoTab n) keeps h = before_fault (refusal.NoTab n) h
        watched (refusal.Events n) keeps h = before_fault (refusal.Events n) h.1
        watched (refusal.Traces n) keeps h = before_fault (refusal.Traces n) h.1
        watched r keeps h = absurd h

        pub watched_all : IfSome mid.left (λ bytes. PrintsAll standard names list bytes old_out out) → OfWatched s contents (λ names list. PrintsAll standard names list (contents s.log) old_out out)
        watched_all h = leaves (λ names list bytes. PrintsAll standard names list bytes old_out out) h

      left_told : IfSome old.contents (λ contents. mid.left ≡ Some (contents s.log))
      left_told = subst (λ c. IfSome c (λ contents. mid.left ≡ Some (contents s.log))) told_as opened.left

      pub watched_leaves : (limits : Limits) → limits ≡ standard → HasModel → KeepsInput mid new → (r : Refusal) → WatchCause limits names list mid new old_out out r → IfSome old.contents (λ contents. MonitorLeaves s contents new old_out out r)
      watched_leaves limits limits_are read keeps r h =
          both_told old.contents (λ contents. model_in s contents ≡ Ok model) (λ contents. mid.left ≡ Some (contents s.log)) (λ contents. MonitorLeaves s contents new old_out out r)
          (λ contents is left. watched contents is left r keeps (subst (λ l. WatchCause l names list mid new old_out out r) limits_are h)) read left_told

      pub prints_all : (limits : Limits) → limits ≡ standard → HasModel → IfSome mid.left (λ bytes. PrintsAll limits names list bytes old_out out)
          → IfSome old.contents (λ contents. OfWatched s contents (λ names list. PrintsAll standard names list (contents s.log) old_out out))
      prints_all limits limits_are read h =
          both_told old.contents (λ contents. model_in s contents ≡ Ok model) (λ contents. mid.left ≡ Some (contents s.log))
          (λ contents. OfWatched s contents (λ names list. PrintsAll standard names list (contents s.log) old_out out))
          (λ contents is left. watched_all contents is left (subst (λ l. IfSome mid.left (λ bytes. PrintsAll l names list bytes old_out out)) limits_are h)) read left_told

-- ---- how a run ends

-- the outcome of what is refused
outcome_of_refused : (s : Settings) (contents : List ℕ → List ℕ) (r : Refusal) (old new : SinkState) → LeavesRefused s contents r old new → IsCommandOutcome Monitor s contents (refuses r)
outcome_of_refused s contents r old new (inl h) =
    elim h.0 [
      | inl e ↦ subst (λ m. IsOutcomeOf (λ model. IsMonitorOutcome s.states model (contents s.log)) m (refuses r)) (sym e) refl
      | inr of ↦ subst (λ m. IsOutcomeOf (λ model. IsMonitorOutcome s.states model (contents s.log)) m (refuses r)) (sym of.1) (inr (r, of.2, refl))
    ]
outcome_of_refused s contents r old new (inr (model, read, watchable, printed)) =
    subst (λ m. IsOutcomeOf (λ model. IsMonitorOutcome s.states model (contents s.log)) m (refuses r)) (sym read)
    (inl (watchable, first_fault-stops standard (pieces (contents s.log)) printed.0 r printed.1))

-- lines that are all printed are the outcome
lines_outcome : (names : List (List ℕ)) (list : List Constraint) (bytes : List ℕ) (old new : SinkState) → PrintsAll standard names list bytes old new
    → (text : List ℕ) × IsLinesOutcome names list bytes (answers status.Done text)
lines_outcome names list bytes old new (faultless, printed) = (joined printed.0, (faultless, printed.0, printed.1, refl))

outcome_of_all : (s : Settings) (contents : List ℕ → List ℕ) (old new : SinkState) → OfWatched s contents (λ names list. PrintsAll standard names list (contents s.log) old new)
    → HasStatus (IsCommandOutcome Monitor s contents) status.Done
outcome_of_all s contents old new (model, read, watchable, all) =
    let found = lines_outcome (names_of model) (constraints_over (names_of model) model) (contents s.log) old new all in
    (answers status.Done found.0, subst (λ m. IsOutcomeOf (λ model. IsMonitorOutcome s.states model (contents s.log)) m (answers status.Done found.0)) (sym read) (inl (watchable, found.1)), refl)

-- the status, and what the output and standard error hold then
abbrev EndsLines : Settings → (List ℕ → List ℕ) → Status → InputState → SinkState → SinkState → SinkState → SinkState → Type 0
EndsLines s contents ended inputs old_out out old_err err =
    HasStatus (IsCommandOutcome Monitor s contents) ended × LeavesLines s contents ended inputs old_out out × WritesError (IsCommandOutcome Monitor s contents) ended old_err err

-- the same where the contents may be told or not
pub record Ends (s : Settings) (contents : Option (List ℕ → List ℕ)) (ended : Status) (inputs : InputState) (old_out out old_err err : SinkState) : Type 0 where
  pub has_status : IfSome contents (λ contents. HasStatus (IsCommandOutcome Monitor s contents) ended)
  pub output : IfSome contents (λ contents. LeavesLines s contents ended inputs old_out out)
  pub error : IfSome contents (λ contents. WritesError (IsCommandOutcome Monitor s contents) ended old_err err)

module _ (s : Settings) (inputs : InputState) (old_out out old_err err : SinkState) where
  ends_at : (contents : List ℕ → List ℕ) (r : Refusal) → AppendsLine r old_err err → MonitorLeaves s contents inputs old_out out r → EndsLines s contents (status_of r) inputs old_out out old_err err
  ends_at contents refusal.ReadFault line h = (tt, h, line)
  ends_at contents refusal.WriteFault line h = (tt, h, line)
  ends_at contents refusal.Memory line h = (tt, h, line)
  ends_at contents r line h =
      let is = outcome_of_refused s contents r old_out out h in
      ((refuses r, is, refl), (r, refl, h), (r, is, line))

  module _ (told_contents : Option (List ℕ → List ℕ)) where
    ends_of : (ended : Status) → IfSome told_contents (λ contents. EndsLines s contents ended inputs old_out out old_err err) → Ends s told_contents ended inputs old_out out old_err err
    ends_of ended ends = record {
      has_status = told told_contents (λ c. EndsLines s c ended inputs old_out out old_err err) (λ c. HasStatus (IsCommandOutcome Monitor s c) ended) (λ c e. e.0) ends;
      output = told told_contents (λ c. EndsLines s c ended inputs old_out out old_err err) (λ c. LeavesLines s c ended inputs old_out out) (λ c e. e.1) ends;
      error = told told_contents (λ c. EndsLines s c ended inputs old_out out old_err err) (λ c. WritesError (IsCommandOutcome Monitor s c) ended old_err err) (λ c e. e.2) ends;
    }

    pub refused_ends : (r : Refusal) (ended : Status) → ended ≡ status_of r → AppendsLine r old_err err → IfSome told_contents (λ contents. MonitorLeaves s contents inputs old_out out r)
        → Ends s told_contents ended inputs old_out out old_err err
    refused_ends r ended is line h = ends_of ended
        (told told_contents (λ contents. MonitorLeaves s contents inputs old_out out r) (λ contents. EndsLines s contents ended inputs old_out out old_err err)
        (λ contents l. subst (λ e. EndsLines s contents e inputs old_out out old_err err) (sym is) (ends_at contents r line l)) h)

    pub all_ends : err ≡ old_err → IfSome told_contents (λ contents. OfWatched s contents (λ names list. PrintsAll standard names list (contents s.log) old_out out))
        → Ends s told_contents status.Done inputs old_out out old_err err
    all_ends same h = ends_of status.Done
        (told told_contents (λ contents. OfWatched s contents (λ names list. PrintsAll standard names list (contents s.log) old_out out))
        (λ contents. EndsLines s contents status.Done inputs old_out out old_err err) (λ contents l. (outcome_of_all s contents old_out out l, l, ap (λ e. e.held) same)) h)

-- ---- causes, by the status

module _ (s : Settings) (old new : InputState) (old_out out : SinkState) where
  pub fault_read : (r : Refusal) → MonitorCause s old new old_out out r → status_of r ≡ status.ReadFault → InputFailed (s.model ∷ s.log ∷ []) old new
  fault_read refusal.ReadFault h e = h
  fault_read r h e = absurd (cc)

  pub fault_written : (r : Refusal) → MonitorCause s old new old_out out r → status_of r ≡ status.WriteFault → Rose old_out.faults out.faults
  fault_written refusal.WriteFault h e = h
  fault_written r h e = absurd (cc)

  pub no_usage : (r : Refusal) → MonitorCause s old new old_out out r → status_of r ≡ status.Usage → ⊥
  no_usage (refusal.Usage at) h e = h
  no_usage r h e = cc
