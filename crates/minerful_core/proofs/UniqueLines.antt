-- A run over running cases has one outcome.
use Rattle.std.proofs.Common.{◌≡◌, ℕ, suc, ◌+◌, ◌≤◌, List, [], ◌∷◌, ◌++◌, Some, inl, inr, length, refl, sym, ap, ap₂, subst, ◌∙◌, append-nil, arith}
use Rattle.std.specs.Prelude.{slice_get, slice_index_or, take}
use Rattle.decl_base.specs.declared.refusal.Refusal.{Refusal}
use Rattle.decl_base.specs.declared.refusal.Refusal.TheVariants.{Candidates, Memory, States}
use Rattle.decl_base.specs.declared.status.Status.TheVariants as status
use Rattle.decl_outside.specs.Lines.{pieces}
use Rattle.event_log.specs.Logs.{events_of as joined}
use Rattle.live_monitor.specs.Standing.{IsStanding, RefusesMonitor}
use Rattle.live_monitor.specs.declared.standing.Standing.{Standing}
use Rattle.live_monitor.specs.declared.standing.Standing.TheVariants.{Broken, BrokenNow, Kept, KeptNow}
use Rattle.model_json.specs.Model.{Known}
use Rattle.monitor_lines.specs.Cases.{Event, events_in, symbol_count, trace_in}
use Rattle.monitor_lines.specs.LineText.{AreOnes, AreTexts, IsText, line_text, quoted}
use Rattle.monitor_lines.specs.Watching.{RefusesModel, most_constraints}
use Rattle.template_core.specs.Keeping.{KeepsAll, KeepsOne}
use Rattle.template_core.specs.declared.constraint.Constraint.{Constraint}
use Rattle.minerful_core.specs.Models.{constraints_over, names_of, symbols_of}
use Rattle.minerful_core.specs.Outcome.{Outcome, answers, refuses, IsLinesOutcome, IsMonitorOutcome, IsTold, IsWatchable}
use Rattle.minerful_core.proofs.UniqueModels.{prefix_unique}

-- ---- standings

module _ (n : ℕ) (Member : List ℕ → Type 0) (t : List ℕ) where
  -- a trace begins with itself
  whole : Member (t ++ []) → Member t
  whole h = subst Member (append-nil t) h

  member : Member t → Member (t ++ [])
  member h = subst Member (sym (append-nil t)) h

  pub standing_unique : (a b : Standing) → IsStanding n Member t a → IsStanding n Member t b → a ≡ b
  standing_unique Kept Kept h g = refl
  standing_unique Kept KeptNow h g = absurd (g.1 h)
  standing_unique Kept BrokenNow h g = absurd (g.0 (whole (h [] tt)))
  standing_unique Kept Broken h g = absurd (g [] tt (h [] tt))
  standing_unique KeptNow Kept h g = absurd (h.1 g)
  standing_unique KeptNow KeptNow h g = refl
  standing_unique KeptNow BrokenNow h g = absurd (g.0 h.0)
  standing_unique KeptNow Broken h g = absurd (g [] tt (member h.0))
  standing_unique BrokenNow Kept h g = absurd (h.0 (whole (g [] tt)))
  standing_unique BrokenNow KeptNow h g = absurd (h.0 g.0)
  standing_unique BrokenNow BrokenNow h g = refl
  standing_unique BrokenNow Broken h g = absurd (h.1 g)
  standing_unique Broken Kept h g = absurd (h [] tt (g [] tt))
  standing_unique Broken KeptNow h g = absurd (h [] tt (member g.0))
  standing_unique Broken BrokenNow h g = absurd (g.1 h)
  standing_unique Broken Broken h g = refl

-- ---- texts

-- lists that have the same elements, each told by one of a list that is as long
same_lists : {X Y : Type 0} (d : X) (of : List Y) (xs ys : List X) → length xs ≡ length of → length ys ≡ length of
    → ((place : ℕ) (y : Y) → slice_get of place ≡ Some y → slice_index_or xs place d ≡ slice_index_or ys place d) → xs ≡ ys
same_lists d [] [] [] long other same = refl
same_lists d [] (x ∷ xs) ys long other same = absurd (omega (arith, long))
same_lists d [] [] (y ∷ ys) long other same = absurd (omega (arith, other))
same_lists d (z ∷ of) [] ys long other same = absurd (omega (arith, long))
same_lists d (z ∷ of) (x ∷ xs) [] long other same = absurd (omega (arith, other))
same_lists d (z ∷ of) (x ∷ xs) (y ∷ ys) long other same =
    ap₂ (λ a l. a ∷ l) (same 0 z refl) (same_lists d of xs ys (omega (arith, long)) (omega (arith, other)) (λ place one at. same (suc place) one at))

ones_unique : (n : ℕ) (list : List Constraint) (trace : List ℕ) (each other : List Standing) → AreOnes n list trace each → AreOnes n list trace other → each ≡ other
ones_unique n list trace each other h g =
    same_lists Kept list each other h.as_many g.as_many
    (λ place c at. standing_unique n (KeepsOne c) trace (slice_index_or each place Kept) (slice_index_or other place Kept) (h.are place c at) (g.are place c at))

module _ (names : List (List ℕ)) (list : List Constraint) where
  text_unique : (before : List Event) (event : Event) (text other : List ℕ) → IsText names list before event text → IsText names list before event other → text ≡ other
  text_unique before event text other h g =
      let n = symbol_count names in
      let trace = trace_in names (before ++ event ∷ []) event.case in
      let whole = standing_unique n (KeepsAll list) trace h.whole g.whole h.whole_is g.whole_is in
      let each = ones_unique n list trace h.each g.each h.each_is g.each_is in
      h.text_is ∙ ap₂ (line_text (length before + 1) (quoted event.case)) whole each ∙ sym g.text_is

  texts_unique : (events : List Event) (texts others : List (List ℕ)) → AreTexts names list events texts → AreTexts names list events others → texts ≡ others
  texts_unique events texts others h g =
      same_lists [] events texts others h.as_many g.as_many
      (λ place event at. text_unique (take place events) event (slice_index_or texts place []) (slice_index_or others place []) (h.are place event at) (g.are place event at))

  lines_unique : (bytes : List ℕ) (o p : Outcome) → IsLinesOutcome names list bytes o → IsLinesOutcome names list bytes p → o ≡ p
  lines_unique bytes (answers s text) (answers u other) h g =
      h.3 ∙ ap (λ texts. answers status.Done (joined texts)) (texts_unique (events_in (pieces bytes)) h.1 g.1 h.2 g.2) ∙ sym g.3
  lines_unique bytes (answers s text) (refuses r) h g = absurd (let none = h.0 in cc)
  lines_unique bytes (refuses r) (answers s text) h g = absurd (let none = g.0 in cc)
  lines_unique bytes (refuses r) (refuses q) h g = ap refuses (cc)

-- ---- models

second : (A B : Type 0) → A × B → B
second A B h = h.1

module _ (n states : ℕ) (list : List Constraint) where
  abbrev Refuses : Refusal → Type 0
  Refuses r = IsTold (RefusesModel n states list) r

  abbrev Few : Type 0
  Few = length list ≤ most_constraints

  monitor_refuses : (phase built : ℕ) → RefusesModel n states list (States phase built) → RefusesMonitor n states list (States phase built)
  monitor_refuses phase built h = second Few (RefusesMonitor n states list (States phase built)) h

  same_refusal : (phase built other more : ℕ) → RefusesMonitor n states list (States phase built) → RefusesMonitor n states list (States other more) → States phase built ≡ States other more
  same_refusal phase built other more h g = ap₂ States (h.0 ∙ sym g.0) (prefix_unique n states list built more h.1 g.1)

  refused_unique : (r q : Refusal) → Refuses r → Refuses q → r ≡ q
  refused_unique (Candidates count) (Candidates other) h g = ap Candidates (h.0 ∙ sym g.0)
  refused_unique (Candidates count) (States phase built) h g = absurd (omega (arith, h.1, g.0))
  refused_unique (Candidates count) Memory h g = absurd g
  refused_unique (Candidates count) q h g = absurd g.1
  refused_unique (States phase built) (Candidates count) h g = absurd (omega (arith, h.0, g.1))
  refused_unique (States phase built) (States other more) h g = same_refusal phase built other more (monitor_refuses phase built h) (monitor_refuses other more g)
  refused_unique (States phase built) Memory h g = absurd g
  refused_unique (States phase built) q h g = absurd g.1
  refused_unique Memory q h g = absurd h
  refused_unique r q h g = absurd h.1

watched_or_refused : (states : ℕ) (names : List (List ℕ)) (list : List Constraint) (r : Refusal) → IsWatchable states names list → IsTold (RefusesModel (symbols_of names) states list) r → ⊥
watched_or_refused states names list (Candidates count) watchable h = let few = watchable.few in omega (arith, few, h.1)
watched_or_refused states names list (States phase built) watchable h =
    let refused = monitor_refuses (symbols_of names) states list phase built h in
    watchable.narrow built (refused.1).wide
watched_or_refused states names list Memory watchable h = h
watched_or_refused states names list r watchable h = h.1

pub monitor_unique : (states : ℕ) (model : Known) (bytes : List ℕ) (o p : Outcome) → IsMonitorOutcome states model bytes o → IsMonitorOutcome states model bytes p → o ≡ p
monitor_unique states model bytes o p (inl h) (inl g) = lines_unique (names_of model) (constraints_over (names_of model) model) bytes o p h.1 g.1
monitor_unique states model bytes o p (inl h) (inr g) = absurd (watched_or_refused states (names_of model) (constraints_over (names_of model) model) g.0 h.0 g.1)
monitor_unique states model bytes o p (inr h) (inl g) = absurd (watched_or_refused states (names_of model) (constraints_over (names_of model) model) h.0 g.0 h.1)
monitor_unique states model bytes o p (inr h) (inr g) =
    h.2 ∙ ap refuses (refused_unique (symbols_of (names_of model)) states (constraints_over (names_of model) model) h.0 g.0 h.1 g.1) ∙ sym g.2
