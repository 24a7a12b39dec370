-- The sentence that the program stands for, of a log and of what `mine` prints of it at stage `model`.
use Rattle.std.specs.Prelude.{◌≡◌, ◌↔◌, ◌⊎◌, ℕ, suc, List, [], ◌∷◌, ◌++◌, true, false, All, Some, Ok, length, take, drop, slice_get}
use Rattle.std.specs.Io.KnownBytes.{append_known}
use Rattle.decl_outside.specs.Sink.{SinkState}
use Rattle.dfa_core.specs.Languages.{HasNoMember}
use Rattle.dfa_core.specs.Traces.{IsTrace}
use Rattle.event_log.specs.Logs.{by_ranks, sorted_names}
use Rattle.minerful_words.specs.declared.settings.Command.TheVariants.{Mine}
use Rattle.minerful_words.specs.declared.settings.Out.TheVariants.{Cert, Json}
use Rattle.minerful_words.specs.declared.settings.Settings.{Settings}
use Rattle.minerful_words.specs.declared.settings.Stage.TheVariants.{Model}
use Rattle.model_json.specs.Report.{staying}
use Rattle.reduce_model.specs.Deciding.{IsAt, after, before, is_consistent, is_kept, is_left, those}
use Rattle.reduce_model.specs.Keeping.{IsKeepable}
use Rattle.reduce_model.specs.Reduction.{Breaks, Implies, Reduction}
use Rattle.reduce_model.specs.Within.{IsClosed, IsWideList, has_witness}
use Rattle.reduce_model.specs.declared.decision.Decision.{Decision}
use Rattle.reduce_model.specs.declared.decision.Decision.TheVariants.{Kept, Conflict, Untested}
use Rattle.scoring.specs.Scores.{scored}
use Rattle.scoring.specs.declared.scored.Scored.{Scored}
use Rattle.template_core.specs.Keeping.{KeepsAll}
use Rattle.template_core.specs.declared.constraint.Constraint.{Constraint}
use Rattle.minerful_core.specs.Outcome.{candidates_in, constraints_in, log_of, model_text, text_of_log, Certified, IsCertified}

-- the settings ask for the reduced model of a log, as JSON, and to stop at the limit
pub record MinesModel (s : Settings) : Type 0 where
  pub command : s.command ≡ Mine
  pub stage : s.stage ≡ Model
  pub out : s.out ≡ Json
  pub stops : s.keep ≡ false

-- the number of activities of a log: a trace over them is a list of ranks below it
abbrev pub activities_in : List (List (List ℕ)) → ℕ
activities_in log = length (sorted_names log)

-- of the candidates and what became of each: the model, and the conflict-free model
abbrev pub model_of : List Scored → Reduction → List Constraint
model_of list reduction = those is_kept (constraints_in list) reduction.decisions

abbrev pub conflict_free_of : List Scored → Reduction → List Constraint
conflict_free_of list reduction = those is_consistent (constraints_in list) reduction.decisions

-- The report lists the model and drops the other candidates. Of these:
pub record IsHeadline (s : Settings) (log : List (List (List ℕ))) (list : List Scored) (reduction : Reduction) : Type 0 where
  -- each candidate of the log is listed or dropped, and the listed ones are the model
  pub all : list ≡ candidates_in s log
  pub each : length reduction.decisions ≡ length list
  pub listed : constraints_in (staying list reduction.decisions) ≡ model_of list reduction
  -- each has its exact scores by the finite-trace meaning
  pub scores : All (λ c. c ≡ scored (by_ranks log) c.constraint) list
  -- the model keeps exactly the traces of the conflict-free model
  pub same_traces : (trace : List ℕ) → IsTrace (activities_in log) trace → KeepsAll (model_of list reduction) trace ↔ KeepsAll (conflict_free_of list reduction) trace
  -- which lacks those candidates alone that no trace keeps together with the ones that it has before them
  pub conflicts : (place : ℕ) (c : Constraint) (d : Decision) → IsAt (constraints_in list) reduction.decisions place c d
      → d ≡ Conflict ↔ HasNoMember (activities_in log) (KeepsAll (before is_consistent place (constraints_in list) reduction.decisions ++ c ∷ []))
  -- there is at least one such trace
  pub some_trace : IsKeepable (activities_in log) (model_of list reduction)
  -- beside each constraint of the model stands a trace that keeps all others and breaks it
  pub witnesses : (place : ℕ) (c : Constraint) → slice_get (model_of list reduction) place ≡ Some c
      → (trace : List ℕ) × (slice_get reduction.witnesses place ≡ Some trace) × IsTrace (activities_in log) trace
      × Breaks (take place (model_of list reduction) ++ drop (suc place) (model_of list reduction)) c trace
  -- every candidate left out conflicts with those kept before it, or is implied by those that stay
  pub left_out : (place : ℕ) (c : Constraint) (d : Decision) → IsAt (constraints_in list) reduction.decisions place c d → (d ≡ Kept → ⊥)
      → HasNoMember (activities_in log) (KeepsAll (before is_consistent place (constraints_in list) reduction.decisions ++ c ∷ []))
      ⊎ Implies (activities_in log) (model_of list reduction) c

-- ---- the same within a limit on states, where a run keeps on

-- the settings ask for the reduced model of a log, as JSON, and to keep on at the limit
pub record MinesWithin (s : Settings) : Type 0 where
  pub command : s.command ≡ Mine
  pub stage : s.stage ≡ Model
  pub out : s.out ≡ Json
  pub keeps : s.keep ≡ true

-- the constraints of the model but the one at a place
abbrev pub others_of : ℕ → List Scored → Reduction → List Constraint
others_of place list reduction = before is_kept place (constraints_in list) reduction.decisions ++ after is_kept place (constraints_in list) reduction.decisions

-- those that the first pass left before a place, and those of the model behind it: by these it was tried in the second pass
abbrev pub tried_by : ℕ → List Scored → Reduction → List Constraint
tried_by place list reduction = before is_left place (constraints_in list) reduction.decisions ++ after is_kept place (constraints_in list) reduction.decisions

-- The report lists the model and drops the other candidates. Of these:
pub record IsHeadlineWithin (s : Settings) (log : List (List (List ℕ))) (list : List Scored) (reduction : Reduction) : Type 0 where
  -- each candidate of the log is listed or dropped, and the listed ones are the model
  pub all : list ≡ candidates_in s log
  pub each : length reduction.decisions ≡ length list
  pub listed : constraints_in (staying list reduction.decisions) ≡ model_of list reduction
  -- each has its exact scores by the finite-trace meaning
  pub scores : All (λ c. c ≡ scored (by_ranks log) c.constraint) list
  -- the model keeps exactly the traces of the conflict-free model within the limit
  pub same_traces : (trace : List ℕ) → IsTrace (activities_in log) trace → KeepsAll (model_of list reduction) trace ↔ KeepsAll (conflict_free_of list reduction) trace
  -- there is at least one such trace
  pub some_trace : IsKeepable (activities_in log) (model_of list reduction)
  -- beside each constraint of the model stands a trace that keeps all others and breaks it
  pub witnesses : (place : ℕ) (c : Constraint) → IsAt (constraints_in list) reduction.decisions place c Kept
      → (trace : List ℕ) × (slice_get reduction.witnesses (length (before has_witness place (constraints_in list) reduction.decisions)) ≡ Some trace)
      × IsTrace (activities_in log) trace × Breaks (others_of place list reduction) c trace
  -- or the mark that a list of its tests is wide, or a prefix of one
  pub untested : (place : ℕ) (c : Constraint) → IsAt (constraints_in list) reduction.decisions place c Untested
      → IsClosed (activities_in log) s.states (tried_by place list reduction) ⊎ IsClosed (activities_in log) s.states (others_of place list reduction)
  -- every candidate left out is implied by those that stay, conflicts with those kept before it, or would have made their list wide
  pub left_out : (place : ℕ) (c : Constraint) (d : Decision) → IsAt (constraints_in list) reduction.decisions place c d → is_kept d ≡ false
      → Implies (activities_in log) (model_of list reduction) c
      ⊎ (HasNoMember (activities_in log) (KeepsAll (before is_consistent place (constraints_in list) reduction.decisions ++ c ∷ []))
      ⊎ IsWideList (activities_in log) s.states (before is_consistent place (constraints_in list) reduction.decisions ++ c ∷ []))

-- ---- certificates

-- the settings ask for a certificate of the reduced model of a log
pub record MinesCertificate (s : Settings) : Type 0 where
  pub command : s.command ≡ Mine
  pub stage : s.stage ≡ Model
  pub out : s.out ≡ Cert
  pub stops_at_limit : s.keep ≡ false

-- ---- what is printed

-- there are the log of an input and a report that stands on the output more, of which the sentence holds
abbrev pub PrintsModel : Settings → List ℕ → SinkState → SinkState → Type 0
PrintsModel s bytes old new =
    (log : List (List (List ℕ))) × (list : List Scored) × (reduction : Reduction) × (log_of s.format s.columns bytes ≡ Ok log)
    × (new.held ≡ append_known old.held (text_of_log (model_text Json s.repertoire list reduction) log)) × IsHeadline s log list reduction

abbrev pub PrintsWithin : Settings → List ℕ → SinkState → SinkState → Type 0
PrintsWithin s bytes old new =
    (log : List (List (List ℕ))) × (list : List Scored) × (reduction : Reduction) × (log_of s.format s.columns bytes ≡ Ok log)
    × (new.held ≡ append_known old.held (text_of_log (model_text Json s.repertoire list reduction) log)) × IsHeadlineWithin s log list reduction

-- There are the log of an input and a certificate that stands on the output more. The sentence holds of its report, all checks of
-- its chain hold for what the report claims, and verifying its text says yes.
abbrev pub PrintsCertificate : Settings → List ℕ → SinkState → SinkState → Type 0
PrintsCertificate s bytes old new =
    (log : List (List (List ℕ))) × (list : List Scored) × (certified : Certified) × (log_of s.format s.columns bytes ≡ Ok log)
    × (new.held ≡ append_known old.held certified.text) × IsHeadline s log list certified.reduction × IsCertified s list log certified
