-- The text of a line of running cases: how its case stands then.
use Rattle.std.specs.Prelude.{◌≡◌, ℕ, ◌+◌, List, [], ◌∷◌, ◌++◌, Some, codes, decimal, length, map, slice_get, slice_index_or, take}
use Rattle.serde_json.specs.Data.{string}
use Rattle.serde_json.specs.Written.{compact_text}
use Rattle.template_core.specs.Keeping.{KeepsAll, KeepsOne}
use Rattle.template_core.specs.declared.constraint.Constraint.{Constraint}
use Rattle.live_monitor.specs.Standing.{IsStanding}
use Rattle.live_monitor.specs.declared.standing.Standing.{Standing}
use Rattle.live_monitor.specs.declared.standing.Standing.TheVariants.{Kept, KeptNow, BrokenNow, Broken}
use Rattle.monitor_lines.specs.Cases.{Event, symbol_count, trace_in}

-- K, k, b and B
abbrev pub letter : Standing → ℕ
letter Kept = 75
letter KeptNow = 107
letter BrokenNow = 98
letter Broken = 66

-- the letters of some standings, or `-` where there are none
abbrev pub letters : List Standing → List ℕ
letters [] = codes "-"
letters (one ∷ each) = map letter (one ∷ each)

-- a name as a JSON text, with its quotes
abbrev pub quoted : List ℕ → List ℕ
quoted name = compact_text (string name)

-- the number of a line, its case as a JSON text, the standing by all constraints, and those by each
abbrev pub line_text : ℕ → List ℕ → Standing → List Standing → List ℕ
line_text number case whole each =
    decimal number ++ codes " " ++ case ++ codes " " ++ (letter whole ∷ []) ++ codes " " ++ letters each ++ codes "\n"

-- the standings of a trace by each constraint of a list
pub record AreOnes (n : ℕ) (list : List Constraint) (trace : List ℕ) (each : List Standing) : Type 0 where
  pub as_many : length each ≡ length list
  pub are : (place : ℕ) (c : Constraint) → slice_get list place ≡ Some c → IsStanding n (KeepsOne c) trace (slice_index_or each place Kept)

-- the text of the event behind these: the standings of its case's trace with it, over the names and one symbol more
pub record IsText (names : List (List ℕ)) (list : List Constraint) (before : List Event) (event : Event) (text : List ℕ) : Type 0 where
  pub whole : Standing
  pub each : List Standing
  pub whole_is : IsStanding (symbol_count names) (KeepsAll list) (trace_in names (before ++ event ∷ []) event.case) whole
  pub each_is : AreOnes (symbol_count names) list (trace_in names (before ++ event ∷ []) event.case) each
  pub text_is : text ≡ line_text (length before + 1) (quoted event.case) whole each

-- the texts of some events
pub record AreTexts (names : List (List ℕ)) (list : List Constraint) (events : List Event) (texts : List (List ℕ)) : Type 0 where
  pub as_many : length texts ≡ length events
  pub are : (place : ℕ) (event : Event) → slice_get events place ≡ Some event → IsText names list (take place events) event (slice_index_or texts place [])
