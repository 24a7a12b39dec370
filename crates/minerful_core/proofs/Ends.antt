-- How a run ends, for all that its inputs may hold.
use Rattle.std.proofs.Common.{◌≡◌, ℕ, List, [], Ok, IfSome, inl}
use Rattle.std.specs.Io.KnownBytes.{append_known}
use Rattle.decl_base.specs.Refusal.{status_of}
use Rattle.decl_base.specs.declared.refusal.Refusal.{Refusal}
use Rattle.decl_base.specs.declared.refusal.Refusal.TheVariants as refusal
use Rattle.decl_base.specs.declared.status.Status.{Status}
use Rattle.decl_base.specs.declared.status.Status.TheVariants as status
use Rattle.decl_outside.specs.Inputs.{InputState}
use Rattle.decl_outside.specs.Sink.{SinkState, HoldsFront}
use Rattle.minerful_words.specs.Settings.{Refuses, inputs_of, settings}
use Rattle.minerful_words.specs.declared.settings.Settings.{Settings}
use Rattle.minerful_core.specs.Commands.{CommandRefuses, HasOutcome, OfContents}
use Rattle.minerful_core.specs.Outcome.{answers, IsOutcome}
use Rattle.minerful_core.specs.Run.{AppendsLine, EndsWith, HasStatus, IsEnd, NamedInputFailed, WritesError, WritesOutput}
use Rattle.minerful_core.proofs.Answering.{outcome_of_words, refusal_of_words, told_of}
use Rattle.minerful_core.proofs.Runs.{command_fits, cut_off, ended, refused, words_fit}

-- what a run promises of how it ends
pub record Ends (words : List (List ℕ)) (inputs : InputState) (s : Status) (old_out new_out old_err new_err : SinkState) : Type 0 where
  pub has_status : IfSome inputs.contents (λ contents. HasStatus (IsOutcome words contents) s)
  pub output : IfSome inputs.contents (λ contents. WritesOutput (IsOutcome words contents) s old_out new_out)
  pub error : IfSome inputs.contents (λ contents. WritesError (IsOutcome words contents) s old_err new_err)
  pub alone : inputs_of words ≡ [] → (contents : List ℕ → List ℕ) → EndsWith (IsOutcome words contents) s old_out new_out old_err new_err

ends_of : (words : List (List ℕ)) (inputs : InputState) (s : Status) (old_out new_out old_err new_err : SinkState)
    → OfContents (inputs_of words) inputs (λ contents. EndsWith (IsOutcome words contents) s old_out new_out old_err new_err) → Ends words inputs s old_out new_out old_err new_err
ends_of words inputs s old_out new_out old_err new_err ends = record {
  has_status = told_of (inputs_of words) inputs (λ contents. HasStatus (IsOutcome words contents) s) (λ contents may. (ends contents may).0);
  output = told_of (inputs_of words) inputs (λ contents. WritesOutput (IsOutcome words contents) s old_out new_out) (λ contents may. (ends contents may).1);
  error = told_of (inputs_of words) inputs (λ contents. WritesError (IsOutcome words contents) s old_err new_err) (λ contents may. (ends contents may).2);
  alone = λ none contents. ends contents (inl none);
}

-- ---- how it ends

module _ (words : List (List ℕ)) (inputs : InputState) where
  -- the words are refused
  pub words_refused : (r : Refusal) (s : Status) (out old new : SinkState) → s ≡ status_of r → AppendsLine r old new → Refuses r (settings words) → Ends words inputs s out out old new
  words_refused r s out old new is line h =
      ends_of words inputs s out out old new (λ contents may. refused (IsOutcome words contents) r s out old new is line (words_fit (settings words) contents r h))

  module _ (given : Settings) (is_given : settings words ≡ Ok given) where
    -- the command refuses
    pub command_refused : (later : InputState) (r : Refusal) (s : Status) (out old new : SinkState) → s ≡ status_of r → AppendsLine r old new → CommandRefuses given.command given inputs later r
        → Ends words inputs s out out old new
    command_refused later r s out old new is line h = ends_of words inputs s out out old new (λ contents may.
        refused (IsOutcome words contents) r s out old new is line
        (command_fits (NamedInputFailed words inputs later) (inputs_of words) inputs (IsOutcome words) r (refusal_of_words words given is_given inputs later r h) contents may))

    -- its text is written
    pub text_written : (text : List ℕ) (s : Status) (old new err : SinkState) → IsEnd s → new.held ≡ append_known old.held text → HasOutcome given.command given inputs (answers s text)
        → Ends words inputs s old new err err
    text_written text s old new err end held h = ends_of words inputs s old new err err (λ contents may.
        ended (IsOutcome words contents) text s old new err end held (outcome_of_words words given is_given inputs (answers s text) h contents may))

    -- its text is cut off
    pub text_cut_off : (text : List ℕ) (s ended_by : Status) (old new old_err new_err : SinkState) → ended_by ≡ status.WriteFault → HoldsFront old new text → AppendsLine refusal.WriteFault old_err new_err
        → HasOutcome given.command given inputs (answers s text) → Ends words inputs ended_by old new old_err new_err
    text_cut_off text s ended_by old new old_err new_err is front line h = ends_of words inputs ended_by old new old_err new_err (λ contents may.
        cut_off (IsOutcome words contents) text s ended_by old new old_err new_err is front line (outcome_of_words words given is_given inputs (answers s text) h contents may))
