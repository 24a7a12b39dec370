-- What a run of some words leaves, where they are those of a monitor, and where they aren't.
use Rattle.std.proofs.Common.{◌≡◌, ◌≢◌, ℕ, List, [], ◌∷◌, Option, None, Some, Result, Ok, Err, IfSome, IfOk, inl, refl, sym, ap, subst, ◌∙◌}
use Rattle.decl_base.specs.Refusal.{status_of}
use Rattle.decl_base.specs.declared.refusal.Refusal.{Refusal}
use Rattle.decl_base.specs.declared.refusal.Refusal.TheVariants as refusal
use Rattle.decl_base.specs.declared.status.Status.{Status}
use Rattle.decl_outside.specs.Inputs.{InputState}
use Rattle.decl_outside.specs.Sink.{SinkState}
use Rattle.minerful_words.specs.Settings.{Refuses, inputs_for, inputs_of, settings}
use Rattle.minerful_words.specs.declared.settings.Command.{Command}
use Rattle.minerful_words.specs.declared.settings.Command.TheVariants.{Mine, Monitor}
use Rattle.minerful_words.specs.declared.settings.Settings.{Settings}
use Rattle.minerful_core.specs.Monitored.{LeavesBy, LeavesLines, LeavesOf, LeavesOutput, PrintsLines}
use Rattle.minerful_core.specs.Outcome.{Outcome, IsCommandOutcome, IsOutcome, IsSettingsOutcome}
use Rattle.minerful_core.specs.Run.{AsksFor, HasStatus, InputFailed, NamedInputFailed, WritesError, WritesOutput}
use Rattle.minerful_core.proofs.Answering.{inputs_are}
use Rattle.minerful_core.proofs.Refusing.{told}

-- ---- words of another command

plain_of : (command : Command) → command ≢ Monitor → (s : Settings) (contents : List ℕ → List ℕ) (ended : Status) (inputs : InputState) (old new : SinkState)
    → WritesOutput (IsCommandOutcome command s contents) ended old new → LeavesOf command s contents ended inputs old new
plain_of Monitor other s contents ended inputs old new h = absurd (other refl)
plain_of command other s contents ended inputs old new h = h

nothing_of : (command : Command) (s : Settings) (contents : List ℕ → List ℕ) (inputs : InputState) (out : SinkState) → LeavesOf command s contents (status_of refusal.Memory) inputs out out
nothing_of Monitor s contents inputs out = inl refl
nothing_of command s contents inputs out = refl

-- out of memory, before any input was asked for
nothing_by : (wanted : Result Settings ℕ) (contents : List ℕ → List ℕ) (r : Refusal) (inputs : InputState) (out : SinkState) → Refuses r wanted → LeavesBy wanted contents (status_of r) inputs out out
nothing_by wanted contents (refusal.Usage at) inputs out h = subst (λ w. LeavesBy w contents (status_of (refusal.Usage at)) inputs out out) (sym h) refl
nothing_by (Ok s) contents refusal.Memory inputs out h = nothing_of s.command s contents inputs out
nothing_by (Err at) contents refusal.Memory inputs out h = refl
nothing_by wanted contents r inputs out h = absurd h

every : {A : Type 0} (contents : Option A) (P : A → Type 0) → ((a : A) → P a) → IfSome contents P
every None P all = tt
every (Some a) P all = all a

module _ (words : List (List ℕ)) (contents : Option (List ℕ → List ℕ)) (ended : Status) (inputs : InputState) where
  -- words that are refused leave nothing
  pub words_leave : (r : Refusal) (out : SinkState) → ended ≡ status_of r → Refuses r (settings words) → IfSome contents (λ contents. LeavesOutput words contents ended inputs out out)
  words_leave r out is h =
      every contents (λ contents. LeavesOutput words contents ended inputs out out)
      (λ contents. subst (λ e. LeavesOutput words contents e inputs out out) (sym is) (nothing_by (settings words) contents r inputs out h))

  module _ (s : Settings) (given : settings words ≡ Ok s) (old new : SinkState) where
    -- words of another command leave a whole text, a prefix of it or nothing
    pub plain_leaves : s.command ≢ Monitor → IfSome contents (λ contents. WritesOutput (IsOutcome words contents) ended old new)
        → IfSome contents (λ contents. LeavesOutput words contents ended inputs old new)
    plain_leaves other h =
        told contents (λ contents. WritesOutput (IsOutcome words contents) ended old new) (λ contents. LeavesOutput words contents ended inputs old new)
        (λ contents w. subst (λ r. LeavesBy r contents ended inputs old new) (sym given)
        (plain_of s.command other s contents ended inputs old new (subst (λ r. WritesOutput (IsSettingsOutcome r contents) ended old new) given w))) h

-- ---- words of a monitor

module _ (words : List (List ℕ)) (s : Settings) (given : settings words ≡ Ok s) (is : s.command ≡ Monitor) where
  of_words : (P : (Outcome → Type 0) → Type 0) (contents : List ℕ → List ℕ) → P (IsCommandOutcome Monitor s contents) → P (IsOutcome words contents)
  of_words P contents h = subst (λ r. P (IsSettingsOutcome r contents)) (sym given) (subst (λ command. P (IsCommandOutcome command s contents)) (sym is) h)

  module _ (contents : Option (List ℕ → List ℕ)) where
    pub monitor_status : (ended : Status) → IfSome contents (λ contents. HasStatus (IsCommandOutcome Monitor s contents) ended) → IfSome contents (λ contents. HasStatus (IsOutcome words contents) ended)
    monitor_status ended h =
        told contents (λ contents. HasStatus (IsCommandOutcome Monitor s contents) ended) (λ contents. HasStatus (IsOutcome words contents) ended)
        (λ contents. of_words (λ Is. HasStatus Is ended) contents) h

    pub monitor_error : (ended : Status) (old new : SinkState) → IfSome contents (λ contents. WritesError (IsCommandOutcome Monitor s contents) ended old new)
        → IfSome contents (λ contents. WritesError (IsOutcome words contents) ended old new)
    monitor_error ended old new h =
        told contents (λ contents. WritesError (IsCommandOutcome Monitor s contents) ended old new) (λ contents. WritesError (IsOutcome words contents) ended old new)
        (λ contents. of_words (λ Is. WritesError Is ended old new) contents) h

    pub monitor_output : (ended : Status) (inputs : InputState) (old new : SinkState) → IfSome contents (λ contents. LeavesLines s contents ended inputs old new)
        → IfSome contents (λ contents. LeavesOutput words contents ended inputs old new)
    monitor_output ended inputs old new h =
        told contents (λ contents. LeavesLines s contents ended inputs old new) (λ contents. LeavesOutput words contents ended inputs old new)
        (λ contents l. subst (λ r. LeavesBy r contents ended inputs old new) (sym given) (subst (λ command. LeavesOf command s contents ended inputs old new) (sym is) l)) h

    -- nothing is mined
    pub none_mined : (Mines : Settings → Type 0) (Prints : Settings → (List ℕ → List ℕ) → Type 0) → ((s : Settings) → Mines s → s.command ≡ Mine)
        → IfSome contents (λ contents. IfOk (settings words) (λ s. Mines s → Prints s contents))
    none_mined Mines Prints command =
        every contents (λ contents. IfOk (settings words) (λ s. Mines s → Prints s contents))
        (λ contents. subst (λ r. IfOk r (λ s. Mines s → Prints s contents)) (sym given) (λ mines. absurd (apart (command s mines))))
      where
        apart : s.command ≡ Mine → ⊥
        apart other = cc

  inputs_named : inputs_of words ≡ inputs_for Monitor s
  inputs_named = inputs_are words s given ∙ ap (λ command. inputs_for command s) is

  pub monitor_alone : {A : Type 0} → inputs_of words ≡ [] → A
  monitor_alone none = absurd (some (sym inputs_named ∙ none))
    where
      some : s.model ∷ s.log ∷ [] ≡ [] → ⊥
      some e = cc

  pub monitor_failed : (old new : InputState) → InputFailed (inputs_for Monitor s) old new → NamedInputFailed words old new
  monitor_failed old new h = subst (λ names. InputFailed names old new) (sym inputs_named) h

  pub monitor_asks : (old new : InputState) → AsksFor (inputs_for Monitor s) old new → AsksFor (inputs_of words) old new
  monitor_asks old new h = subst (λ names. AsksFor names old new) (sym inputs_named) h

  pub monitor_prints : PrintsLines (settings words)
  monitor_prints = subst PrintsLines (sym given) is
