-- The headline follows from what the outcome is.
use Rattle.std.proofs.Common.{◌≡◌, ℕ, List, [], Bool, true, false, Option, Result, Ok, Err, IfSome, All, length, refl, sym, ap, subst, ◌∙◌}
use Rattle.std.specs.Prelude.{MatchBool, IfOk, nat_lt}
use Rattle.std.specs.Io.KnownBytes.{append_known}
use Rattle.std.proofs.lemmas.List.{length-map}
use Rattle.decl_base.specs.Limits.{standard}
use Rattle.decl_base.specs.Refusal.{status_of}
use Rattle.decl_base.specs.declared.refusal.Refusal.{Refusal}
use Rattle.decl_base.specs.declared.refusal.Refusal.TheVariants as refusal
use Rattle.decl_base.specs.declared.status.Status.{Status}
use Rattle.decl_base.specs.declared.status.Status.TheVariants as status
use Rattle.decl_outside.specs.Sink.{SinkState}
use Rattle.event_log.specs.Logs.{by_ranks, sorted_names}
use Rattle.minerful_words.specs.Settings.{settings}
use Rattle.minerful_words.specs.declared.settings.Command.TheVariants.{Mine}
use Rattle.minerful_words.specs.declared.settings.Out.{Out}
use Rattle.minerful_words.specs.declared.settings.Out.TheVariants.{Cert, Json}
use Rattle.minerful_words.specs.declared.settings.Settings.{Settings}
use Rattle.minerful_words.specs.declared.settings.Stage.TheVariants.{Model}
use Rattle.reduce_model.proofs.Consequences.{keepable, left_out, witnesses-break}
use Rattle.reduce_model.proofs.Meaning.{same-traces}
use Rattle.reduce_model.proofs.MeaningWithin.{keepable-within, left_out_within, same-traces-within, within-many, witnesses-break-within}
use Rattle.reduce_model.specs.Reduction.{IsReduction, Reduction}
use Rattle.reduce_model.specs.Within.{IsReductionWithin}
use Rattle.scoring.specs.Scores.{scored}
use Rattle.template_core.specs.Constraints.{IsWellMadeFor}
use Rattle.minerful_core.specs.Headline.{IsHeadline, IsHeadlineWithin, MinesCertificate, MinesModel, MinesWithin, PrintsCertificate, PrintsModel, PrintsWithin}
use Rattle.minerful_core.specs.Outcome.{answers, candidates_in, constraints_in, log_in, log_of, model_text, refuses, text_of_log, IsCommandOutcome, IsLogOutcome, IsModelOutcome, IsModelOutcomeAs, IsOutcome, IsOutcomeOf, IsReductionBy, IsSettingsOutcome, IsStageOutcome}
use Rattle.minerful_core.specs.Run.{WritesOutput}
use Rattle.minerful_core.proofs.Models.{constraints-staying}
use Rattle.minerful_core.proofs.Refusing.{told}
use Rattle.minerful_core.proofs.Untested.{untested-at}
use Rattle.minerful_core.proofs.Reports.{candidates_in_made, each_candidate, made_constraints}

-- the sentence holds of each reduction of the candidates
headline : (s : Settings) (log : List (List (List ℕ))) (reduction : Reduction) → IsReduction (length (sorted_names log)) s.states (constraints_in (candidates_in s log)) reduction
    → IsHeadline s log (candidates_in s log) reduction
headline s log reduction h =
    let n = length (sorted_names log) in
    let list = candidates_in s log in
    let cs = constraints_in list in
    let made : All (IsWellMadeFor n) cs = made_constraints n list cs refl (candidates_in_made s log) in
    record {
      all = refl;
      each = h.reduced.as_many ∙ length-map list (λ c. c.constraint);
      listed = constraints-staying list reduction.decisions;
      scores = each_candidate s log (λ c. c ≡ scored (by_ranks log) c.constraint) (λ c h. h.scores);
      same_traces = same-traces n cs reduction.decisions made h.reduced;
      conflicts = h.reduced.conflicts;
      some_trace = keepable n s.states cs reduction h;
      witnesses = witnesses-break n s.states cs reduction h;
      left_out = left_out n cs reduction.decisions made h.reduced;
    }

-- and of each reduction within the limit
headline_within : (s : Settings) (log : List (List (List ℕ))) (reduction : Reduction) → IsReductionWithin (length (sorted_names log)) s.states (constraints_in (candidates_in s log)) reduction
    → IsHeadlineWithin s log (candidates_in s log) reduction
headline_within s log reduction h =
    let n = length (sorted_names log) in
    let list = candidates_in s log in
    let cs = constraints_in list in
    let made : All (IsWellMadeFor n) cs = made_constraints n list cs refl (candidates_in_made s log) in
    record {
      all = refl;
      each = within-many n s.states [] cs reduction.decisions h.reduced.sifted ∙ length-map list (λ c. c.constraint);
      listed = constraints-staying list reduction.decisions;
      scores = each_candidate s log (λ c. c ≡ scored (by_ranks log) c.constraint) (λ c h. h.scores);
      same_traces = same-traces-within n s.states cs reduction.decisions made h.reduced;
      some_trace = keepable-within n s.states cs reduction h;
      witnesses = witnesses-break-within n s.states cs reduction h;
      untested = untested-at n s.states [] [] cs reduction.decisions h.reduced.untested;
      left_out = left_out_within n s.states cs reduction.decisions made h.reduced;
    }

-- ---- from the outcome of a log to what is printed

second : (b : Bool) (P Q : Type 0) → (P → ⊥) → MatchBool b P Q → Q
second true P Q never h = absurd (never h)
second false P Q never h = h

-- the outcome at stage `model` as these settings want it
modelled : (out : Out) (s : Settings) (log : List (List (List ℕ))) (text : List ℕ) → s.stage ≡ Model → s.out ≡ out → IsLogOutcome Mine s log (answers status.Done text)
    → IsModelOutcomeAs out s (candidates_in s log) log (answers status.Done text)
modelled out s log text stage out_is is =
    let list = candidates_in s log in
    let staged = second (nat_lt standard.candidates (length list)) (answers status.Done text ≡ refuses (refusal.Candidates (length list))) (IsStageOutcome s.stage s list log (answers status.Done text)) (λ e. cc) is in
    let at_model : IsStageOutcome Model s list log (answers status.Done text) = subst (λ stage. IsStageOutcome stage s list log (answers status.Done text)) stage staged in
    subst (λ out. IsModelOutcomeAs out s list log (answers status.Done text)) out_is at_model

same_text : (text other : List ℕ) → answers status.Done text ≡ answers status.Done other → text ≡ other
same_text text other e = cc

-- of these settings, the outcome of a log prints this
abbrev Shows : (Settings → Type 0) → (Settings → List ℕ → SinkState → SinkState → Type 0) → Type 0
Shows Mines Prints =
    (s : Settings) (bytes : List ℕ) (log : List (List (List ℕ))) (text : List ℕ) (old new : SinkState) → new.held ≡ append_known old.held text → Mines s → log_of s.format s.columns bytes ≡ Ok log
    → IsLogOutcome Mine s log (answers status.Done text) → Prints s bytes old new

-- there is a reduction of the candidates, and the text is that of its report
reported : (keep : Bool) (s : Settings) (log : List (List (List ℕ))) (text : List ℕ) → s.stage ≡ Model → s.out ≡ Json → s.keep ≡ keep → IsLogOutcome Mine s log (answers status.Done text)
    → (reduction : Reduction) × IsReductionBy keep (length (sorted_names log)) s.states (constraints_in (candidates_in s log)) reduction
    × (text ≡ text_of_log (model_text Json s.repertoire (candidates_in s log) reduction) log)
reported keep s log text stage out keep_is is =
    let list = candidates_in s log in
    let told = subst (λ keep. IsModelOutcome keep (model_text Json s.repertoire list) s.states list log (answers status.Done text)) keep_is (modelled Json s log text stage out is) in
    (told.0, told.1, same_text text (text_of_log (model_text Json s.repertoire list told.0) log) told.2)

shows_model : Shows MinesModel PrintsModel
shows_model s bytes log text old new held mines read is =
    let told = reported false s log text mines.stage mines.out mines.stops is in
    (log, candidates_in s log, told.0, read, held ∙ ap (append_known old.held) told.2, headline s log told.0 told.1)

shows_within : Shows MinesWithin PrintsWithin
shows_within s bytes log text old new held mines read is =
    let told = reported true s log text mines.stage mines.out mines.keeps is in
    (log, candidates_in s log, told.0, read, held ∙ ap (append_known old.held) told.2, headline_within s log told.0 told.1)

shows_certificate : Shows MinesCertificate PrintsCertificate
shows_certificate s bytes log text old new held mines read is =
    let list = candidates_in s log in
    let told = modelled Cert s log text mines.stage mines.out is in
    let reduced = subst (λ keep. IsReductionBy keep (length (sorted_names log)) s.states (constraints_in list) told.0.reduction) mines.stops_at_limit told.1.reduced in
    (log, list, told.0, read, held ∙ ap (append_known old.held) (same_text text told.0.text told.2), headline s log told.0.reduction reduced, told.1)

-- ---- from the words to what is printed

module _ (Mines : Settings → Type 0) (Prints : Settings → List ℕ → SinkState → SinkState → Type 0) (command : (s : Settings) → Mines s → s.command ≡ Mine) (shows : Shows Mines Prints) where
  of_read : (s : Settings) (bytes text : List ℕ) (old new : SinkState) → new.held ≡ append_known old.held text → (read : Result (List (List (List ℕ))) Refusal) → Mines s → log_of s.format s.columns bytes ≡ read
      → IsOutcomeOf (IsLogOutcome Mine s) read (answers status.Done text) → Prints s bytes old new
  of_read s bytes text old new held (Err r) mines e is = absurd (cc)
  of_read s bytes text old new held (Ok log) mines e is = shows s bytes log text old new held mines e is

  of_words : (wanted : Result Settings ℕ) (contents : List ℕ → List ℕ) (text : List ℕ) (old new : SinkState) → new.held ≡ append_known old.held text
      → IsSettingsOutcome wanted contents (answers status.Done text) → IfOk wanted (λ s. Mines s → Prints s (contents s.log) old new)
  of_words (Err at) contents text old new held is = tt
  of_words (Ok s) contents text old new held is = λ mines.
      of_read s (contents s.log) text old new held (log_in s contents) mines refl (subst (λ command. IsCommandOutcome command s contents (answers status.Done text)) (command s mines) is)

  -- where a run ends well, its text is that of its outcome
  printed_of : (words : List (List ℕ)) (contents : Option (List ℕ → List ℕ)) (s : Status) → s ≡ status.Done → (old new : SinkState)
      → IfSome contents (λ contents. WritesOutput (IsOutcome words contents) s old new) → IfSome contents (λ contents. IfOk (settings words) (λ given. Mines given → Prints given (contents given.log) old new))
  printed_of words contents s done old new h =
      told contents (λ c. WritesOutput (IsOutcome words c) status.Done old new) (λ c. IfOk (settings words) (λ given. Mines given → Prints given (c given.log) old new))
      (λ c h. of_words (settings words) c h.0 old new h.2 h.1) (subst (λ s. IfSome contents (λ contents. WritesOutput (IsOutcome words contents) s old new)) done h)

pub headline_of : (words : List (List ℕ)) (contents : Option (List ℕ → List ℕ)) (s : Status) → s ≡ status.Done → (old new : SinkState)
    → IfSome contents (λ contents. WritesOutput (IsOutcome words contents) s old new) → IfSome contents (λ contents. IfOk (settings words) (λ given. MinesModel given → PrintsModel given (contents given.log) old new))
headline_of = printed_of MinesModel PrintsModel (λ s mines. mines.command) shows_model

pub headline_keep_of : (words : List (List ℕ)) (contents : Option (List ℕ → List ℕ)) (s : Status) → s ≡ status.Done → (old new : SinkState)
    → IfSome contents (λ contents. WritesOutput (IsOutcome words contents) s old new) → IfSome contents (λ contents. IfOk (settings words) (λ given. MinesWithin given → PrintsWithin given (contents given.log) old new))
headline_keep_of = printed_of MinesWithin PrintsWithin (λ s mines. mines.command) shows_within

pub certified_of : (words : List (List ℕ)) (contents : Option (List ℕ → List ℕ)) (s : Status) → s ≡ status.Done → (old new : SinkState)
    → IfSome contents (λ contents. WritesOutput (IsOutcome words contents) s old new) → IfSome contents (λ contents. IfOk (settings words) (λ given. MinesCertificate given → PrintsCertificate given (contents given.log) old new))
certified_of = printed_of MinesCertificate PrintsCertificate (λ s mines. mines.command) shows_certificate

-- a refusal has another status
pub never_done : {A : Type 0} {s : Status} (r : Refusal) → s ≡ status_of r → s ≡ status.Done → A
never_done r is done = absurd (apart r (sym is ∙ done))
  where
    apart : (r : Refusal) → status_of r ≡ status.Done → ⊥
    apart refusal.Memory e = cc
    apart r e = cc
