-- The order of the traces of a log changes no outcome.
use Rattle.std.proofs.Common.{◌≡◌, ℕ, List, Bool, true, false, cond, length, sym, ap, subst, ◌∙◌}
use Rattle.std.specs.Prelude.{MatchBool, nat_lt}
use Rattle.decl_base.specs.Limits.{standard}
use Rattle.decl_base.specs.declared.refusal.Refusal.{Refusal}
use Rattle.decl_base.specs.declared.refusal.Refusal.TheVariants as refusal
use Rattle.decl_base.specs.declared.status.Status.TheVariants as status
use Rattle.event_log.specs.Logs.{by_ranks, events_of, sorted_names}
use Rattle.minerful_words.specs.declared.settings.Command.{Command}
use Rattle.minerful_words.specs.declared.settings.Command.TheVariants.{Mine, Kb, Check, Gen, Sample, Verify, Monitor, Compare, Analyse, Regex}
use Rattle.minerful_words.specs.declared.settings.Out.{Out}
use Rattle.minerful_words.specs.declared.settings.Out.TheVariants.{Cert, Json, Table}
use Rattle.minerful_words.specs.declared.settings.Settings.{Settings}
use Rattle.minerful_words.specs.declared.settings.Stage.{Stage}
use Rattle.minerful_words.specs.declared.settings.Stage.TheVariants.{Consistent, Model, Scores}
use Rattle.chain_cert.specs.Checks.{IsRight}
use Rattle.chain_cert.specs.Forms.{IsChain}
use Rattle.chain_make.specs.Claims.{claim_of}
use Rattle.reduce_model.specs.Reduction.{Reduction}
use Rattle.report_text.specs.KbTable.{kb_text}
use Rattle.scoring.specs.Candidates.{candidates_of}
use Rattle.scoring.specs.declared.scored.Scored.{Scored}
use Rattle.scoring.proofs.ByPair.{length-count}
use Rattle.minerful_core.specs.Outcome.{LogText, Outcome, answers, candidates_in, certificate_text, consistent_text, constraints_in, model_text, refuses, scores_text, summary_text, text_of_log, IsCertifiedOutcome, IsLogOutcome, IsMinedOutcome, IsModelOutcome, IsModelOutcomeAs, IsReductionBy, IsReported, IsSiftBy, IsStageOutcome, IsTold, RefusesReductionBy, RefusesSiftBy}
use Rattle.minerful_core.specs.SameTraces.{HoldTheSame}
use Rattle.minerful_core.proofs.SameScores.{same_candidates, same_table}
use Rattle.minerful_core.proofs.SameSums.{ranks_alike, same_events, same_names, same_sums}

reported_same : {A : Type 0} (IsAnswer : ℕ → A → Type 0) (Refuses : ℕ → Refusal → Type 0) (text_of other_text : A → List ℕ) (n m : ℕ) → n ≡ m → ((a : A) → text_of a ≡ other_text a) → (o : Outcome)
    → IsReported (IsAnswer n) (Refuses n) text_of o → IsReported (IsAnswer m) (Refuses m) other_text o
reported_same IsAnswer Refuses text_of other_text n m same texts (answers s text) h =
    (h.0, subst (λ k. IsAnswer k h.0) same h.1, h.2 ∙ ap (answers status.Done) (texts h.0))
reported_same IsAnswer Refuses text_of other_text n m same texts (refuses r) h = subst (λ k. IsTold (Refuses k) r) same h

pub second_same : (b : Bool) (P Q R : Type 0) → (Q → R) → MatchBool b P Q → MatchBool b P R
second_same true P Q R more h = h
second_same false P Q R more h = more h

module _ (log other : List (List (List ℕ))) (h : HoldTheSame log other) where
  same_candidates_in : (s : Settings) → candidates_in s log ≡ candidates_in s other
  same_candidates_in s =
      same_candidates (by_ranks log) (by_ranks other) (ranks_alike log other h) (length (sorted_names log)) s.repertoire s.thresholds
      ∙ ap (λ names. candidates_of (by_ranks other) (length names) s.repertoire s.thresholds) (same_names log other h)

  same_traces : length log ≡ length other
  same_traces = length-count log ∙ same_sums log other h (λ t. cond true 1 0) ∙ sym (length-count other)

  -- a text over the names and the numbers of traces and events
  told_same : (text : LogText) → text_of_log text log ≡ text_of_log text other
  told_same text =
      ap (λ names. text names (length log) (length (events_of log))) (same_names log other h)
      ∙ ap (λ n. text (sorted_names other) n (length (events_of log))) same_traces
      ∙ ap (text (sorted_names other) (length other)) (same_events log other h)

  model_same : (keep : Bool) (text : Reduction → LogText) (states : ℕ) (list : List Scored) (o : Outcome) → IsModelOutcome keep text states list log o → IsModelOutcome keep text states list other o
  model_same keep text states list o is =
      reported_same (λ n reduction. IsReductionBy keep n states (constraints_in list) reduction) (λ n r. RefusesReductionBy keep n states (constraints_in list) r)
      (λ reduction. text_of_log (text reduction) log) (λ reduction. text_of_log (text reduction) other) (length (sorted_names log)) (length (sorted_names other)) (ap length (same_names log other h))
      (λ reduction. told_same (text reduction)) o is

  certified_same : (s : Settings) (list : List Scored) (o : Outcome) → IsCertifiedOutcome s list log o → IsCertifiedOutcome s list other o
  certified_same s list (answers st text) is =
      let cs = constraints_in list in
      let as_many = ap length (same_names log other h) in
      let reduction = is.0.reduction in
      let chain = is.0.chain in (
        is.0,
        record {
          reduced = subst (λ n. IsReductionBy s.keep n s.states cs reduction) as_many is.1.reduced;
          written = is.1.written ∙ told_same (certificate_text s.repertoire list reduction chain);
          form = subst (λ n. IsChain (claim_of n cs reduction) chain) as_many is.1.form;
          verified = is.1.verified;
          right = subst (λ n. IsRight (claim_of n cs reduction) chain) as_many is.1.right;
        },
        is.2,
      )
  certified_same s list (refuses r) is = subst (λ n. IsTold (RefusesReductionBy s.keep n s.states (constraints_in list)) r) (ap length (same_names log other h)) is

  model_as_same : (out : Out) (s : Settings) (list : List Scored) (o : Outcome) → IsModelOutcomeAs out s list log o → IsModelOutcomeAs out s list other o
  model_as_same Cert s list o is = certified_same s list o is
  model_as_same Json s list o is = model_same s.keep (model_text Json s.repertoire list) s.states list o is
  model_as_same Table s list o is = model_same s.keep (model_text Table s.repertoire list) s.states list o is

  stage_same : (stage : Stage) (s : Settings) (list : List Scored) (o : Outcome) → IsStageOutcome stage s list log o → IsStageOutcome stage s list other o
  stage_same Scores s list o is = is ∙ ap (answers status.Done) (told_same (scores_text s.out s.repertoire list))
  stage_same Consistent s list o is =
      let text = consistent_text s.out s.repertoire list in
      reported_same (λ n sifting. IsSiftBy s.keep n s.states (constraints_in list) sifting) (λ n r. RefusesSiftBy s.keep n s.states (constraints_in list) r)
      (λ sifting. text_of_log (text sifting) log) (λ sifting. text_of_log (text sifting) other) (length (sorted_names log)) (length (sorted_names other)) (ap length (same_names log other h))
      (λ sifting. told_same (text sifting)) o is
  stage_same Model s list o is = model_as_same s.out s list o is

  mined_same : (Is : List Scored → List (List (List ℕ)) → Outcome → Type 0) (s : Settings) (o : Outcome) → ((list : List Scored) → Is list log o → Is list other o) → IsMinedOutcome Is s log o → IsMinedOutcome Is s other o
  mined_same Is s o same is =
      subst (λ list. MatchBool (nat_lt standard.candidates (length list)) (o ≡ refuses (refusal.Candidates (length list))) (Is list other o)) (same_candidates_in s)
      (second_same (nat_lt standard.candidates (length (candidates_in s log))) (o ≡ refuses (refusal.Candidates (length (candidates_in s log))))
      (Is (candidates_in s log) log o) (Is (candidates_in s log) other o) (same (candidates_in s log)) is)

  pub outcome_same : (command : Command) (s : Settings) (o : Outcome) → IsLogOutcome command s log o → IsLogOutcome command s other o
  outcome_same Kb s o is =
      is ∙ ap (λ names. answers status.Done (kb_text names (by_ranks log))) (same_names log other h)
      ∙ ap (answers status.Done) (same_table (by_ranks log) (by_ranks other) (ranks_alike log other h) (sorted_names other))
  outcome_same Mine s o is = mined_same (IsStageOutcome s.stage s) s o (λ list. stage_same s.stage s list o) is
  outcome_same Sample s o is = mined_same (IsModelOutcome false (summary_text s.seed) s.states) s o (λ list. model_same false (summary_text s.seed) s.states list o) is
  outcome_same Check s o is = absurd is
  outcome_same Gen s o is = absurd is
  outcome_same Verify s o is = absurd is
  outcome_same Monitor s o is = absurd is
  outcome_same Compare s o is = absurd is
  outcome_same Analyse s o is = absurd is
  outcome_same Regex s o is = absurd is
