-- The first line at fault, and the faults of a line in their order.
use Rattle.std.proofs.Common.{◌≡◌, ℕ, zero, suc, ◌+◌, ◌<◌, ◌≤◌, List, [], ◌∷◌, ◌++◌, true, false, Option, None, Some, length, refl, ap, ap₂, ◌∙◌, arith, length-append, ⊎_elim}
use Rattle.std.specs.Prelude.{option_and_then, slice_get}
use Rattle.std.specs.List.{range_with_len}
use Rattle.std.specs.Option.{option_or}
use Rattle.std.specs.Str.{is_utf8}
use Rattle.std.proofs.lemmas.Bool.{lt-ltb, le-ltb, cases_lt}
use Rattle.std.proofs.lemmas.List.{length_push, take-append-le, take_at}
use Rattle.decl_base.specs.declared.limits.Limits.{Limits}
use Rattle.decl_base.specs.declared.refusal.Refusal.{Refusal}
use Rattle.decl_base.specs.declared.refusal.Refusal.TheVariants as refusal
use Rattle.decl_outside.specs.Lines.{Piece, line_of}
use Rattle.strings_log.specs.StringLog.{first_fault_at}
use Rattle.strings_log.proofs.Faults.{none_found, one_found}
use Rattle.monitor_lines.specs.Cases.{cases_of, events_in, has_tab}
use Rattle.monitor_lines.specs.Faults.{fault_at, fault_behind, first_fault}
use Rattle.monitor_lines.specs.Watching.{StopsBehind}

-- ---- elements of a list that goes on

pub get-front : {X : Type 0} (front more : List X) (place : ℕ) → place < length front → slice_get (front ++ more) place ≡ slice_get front place
get-front [] more place inside = absurd (omega arith)
get-front (x ∷ front) more zero inside = refl
get-front (x ∷ front) more (suc place) inside = get-front front more place (omega arith)

pub get-behind : {X : Type 0} (front : List X) (x : X) (more : List X) → slice_get (front ++ x ∷ more) (length front) ≡ Some x
get-behind [] x more = refl
get-behind (y ∷ front) x more = get-behind front x more

-- ---- lines without a fault

module _ (limits : Limits) where
  abbrev pub Faultless : List Piece → Type 0
  Faultless lines = (place : ℕ) → place < length lines → fault_at limits lines place ≡ None

  fault_at-front : (front more : List Piece) (place : ℕ) → place < length front → fault_at limits (front ++ more) place ≡ fault_at limits front place
  fault_at-front front more place inside =
      ap₂ (λ l o. option_and_then (fault_behind limits l) o) (take-append-le place front more (omega arith)) (get-front front more place inside)

  fault_at-behind : (front : List Piece) (line : Piece) (more : List Piece) → fault_at limits (front ++ line ∷ more) (length front) ≡ fault_behind limits front line
  fault_at-behind front line more =
      ap₂ (λ l o. option_and_then (fault_behind limits l) o) (take_at front (line ∷ more) (length front) refl) (get-behind front line more)

  pub Faultless-push : (front : List Piece) (line : Piece) → Faultless front → fault_behind limits front line ≡ None → Faultless (front ++ line ∷ [])
  Faultless-push front line faultless none = λ place inside. ⊎_elim
      (λ before. fault_at-front front (line ∷ []) place before ∙ faultless place before)
      (λ here.
      let at : place ≡ length front = omega (arith, here, inside, length_push front line) in
      ap (fault_at limits (front ++ line ∷ [])) at ∙ fault_at-behind front line [] ∙ none)
      (cases_lt place (length front))

  pub first_fault-none : (lines : List Piece) → Faultless lines → first_fault limits lines ≡ None
  first_fault-none lines faultless = none_found (fault_at limits lines) 0 (length lines) (λ place below. faultless place (omega (arith, below)))

  none_before : (fault : ℕ → Option Refusal) (start count : ℕ) → first_fault_at fault (range_with_len start count) ≡ None → (place : ℕ) → start ≤ place → place < start + count → fault place ≡ None
  none_before fault start zero none place above below = absurd (omega arith)
  none_before fault start (suc count) none place above below =
      elim (fault start) as (λ v. fault start ≡ v → option_or v (first_fault_at fault (range_with_len (start + 1) count)) ≡ None → fault place ≡ None) [
        | None ↦ λ e h. ⊎_elim
            (λ later. none_before fault (start + 1) count h place (omega (arith, later)) (omega arith))
            (λ here. let at : place ≡ start = omega (arith, here, above) in ap fault at ∙ e)
            (cases_lt start place)
        | Some r ↦ λ e h. absurd (cc)
      ] refl none

  -- the fault of the line behind lines without a fault is the first
  pub first_fault-stops : (lines front : List Piece) (r : Refusal) → StopsBehind limits lines front r → first_fault limits lines ≡ Some r
  first_fault-stops lines front r h =
      let long : length front < length (front ++ h.line ∷ h.others) = omega (arith, length-append front (h.line ∷ h.others)) in
      ap (first_fault limits) h.split
      ∙ one_found (fault_at limits (front ++ h.line ∷ h.others)) 0 (length (front ++ h.line ∷ h.others)) (length front) r (omega arith) (omega (arith, long))
      (λ place below. fault_at-front front (h.line ∷ h.others) place below ∙ none_before (fault_at limits front) 0 (length front) h.faultless place (omega arith) (omega (arith, below)))
      (fault_at-behind front h.line h.others ∙ h.fault)

-- ---- the faults of a line, in their order

module _ (limits : Limits) (before : List Piece) (line : Piece) where
  abbrev case_count : ℕ
  case_count = length (cases_of (events_in (before ++ line ∷ [])))

  pub fault-long : limits.line_bytes < length line.bytes → fault_behind limits before line ≡ Some (refusal.LineLong (length before + 1))
  unfolding fault_behind
  fault-long long = rw (lt-ltb limits.line_bytes (length line.bytes) long) refl

  module _ (short : length line.bytes ≤ limits.line_bytes) where
    pub fault-not_utf8 : is_utf8 (line_of line) ≡ false → fault_behind limits before line ≡ Some (refusal.NotUtf8 (length before + 1))
    unfolding fault_behind
    fault-not_utf8 text = rw (le-ltb limits.line_bytes (length line.bytes) short, text) refl

    module _ (text : is_utf8 (line_of line) ≡ true) where
      pub fault-no_tab : has_tab (line_of line) ≡ false → fault_behind limits before line ≡ Some (refusal.NoTab (length before + 1))
      unfolding fault_behind
      fault-no_tab tab = rw (le-ltb limits.line_bytes (length line.bytes) short, text, tab) refl

      module _ (tab : has_tab (line_of line) ≡ true) where
        pub fault-events : limits.events < length before + 1 → fault_behind limits before line ≡ Some (refusal.Events limits.events)
        unfolding fault_behind
        fault-events many = rw (le-ltb limits.line_bytes (length line.bytes) short, text, tab, lt-ltb limits.events (length before + 1) many) refl

        module _ (few : length before + 1 ≤ limits.events) where
          pub fault-traces : limits.traces < case_count → fault_behind limits before line ≡ Some (refusal.Traces limits.traces)
          unfolding fault_behind
          fault-traces many = rw (le-ltb limits.line_bytes (length line.bytes) short, text, tab, le-ltb limits.events (length before + 1) few, lt-ltb limits.traces case_count many) refl

          pub fault-none : case_count ≤ limits.traces → fault_behind limits before line ≡ None
          unfolding fault_behind
          fault-none fits = rw (le-ltb limits.line_bytes (length line.bytes) short, text, tab, le-ltb limits.events (length before + 1) few, le-ltb limits.traces case_count fits) refl
