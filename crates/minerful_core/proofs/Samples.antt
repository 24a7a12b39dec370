-- A generated log that is mined, and the reading of a text in memory.
use Rattle.std.proofs.Common.{◌≡◌, ℕ, ◌+◌, List, [], ◌++◌, Option, Some, Result, Ok, IfSome, take, drop, sym, ap, subst, ◌∙◌, take-append-drop}
use Rattle.std.proofs.lemmas.List.{drop-drop}
use Rattle.std.proofs.Math.Seq.{drop-nil}
use Rattle.decl_base.specs.Limits.{standard}
use Rattle.decl_base.specs.declared.limits.Limits.{Limits}
use Rattle.decl_base.specs.declared.refusal.Refusal.{Refusal}
use Rattle.minerful_words.specs.declared.settings.Command.TheVariants.{Sample}
use Rattle.minerful_words.specs.declared.settings.Settings.{Settings}
use Rattle.strings_log.specs.StringLog.{string_log}
use Rattle.minerful_core.specs.Outcome.{Outcome, refuses, sample_of, IsLogOutcome, IsOutcomeOf}
use Rattle.minerful_core.specs.Refusing.{MayRefuse}
use Rattle.minerful_core.proofs.Refusing.{MayRefuse-weaker}

module _ (s : Settings) where
  abbrev Is : Outcome → Type 0
  Is o = IsOutcomeOf (IsLogOutcome Sample s) (string_log standard (sample_of s.seed)) o

  pub sample_outcome : (log : List (List (List ℕ))) (o : Outcome) → string_log standard (sample_of s.seed) ≡ Ok log → IsLogOutcome Sample s log o → Is o
  sample_outcome log o read is = subst (λ found. IsOutcomeOf (IsLogOutcome Sample s) found o) (sym read) is

  pub sample_refusal : (log : List (List (List ℕ))) (r : Refusal) → string_log standard (sample_of s.seed) ≡ Ok log → MayRefuse ⊥ (λ r. IsLogOutcome Sample s log (refuses r)) r → MayRefuse ⊥ (λ r. Is (refuses r)) r
  sample_refusal log r read h =
      MayRefuse-weaker ⊥ ⊥ (λ r. IsLogOutcome Sample s log (refuses r)) (λ r. Is (refuses r)) (λ no. no) (λ r. sample_outcome log (refuses r) read) r h

  -- what was read of the generated text
  pub read_sample : (limits : Limits) (left : Option (List ℕ)) (text : List ℕ) (found : Result (List (List (List ℕ))) Refusal) → limits ≡ standard → left ≡ Some text → text ≡ sample_of s.seed
      → IfSome left (λ bytes. string_log limits bytes ≡ found) → string_log standard (sample_of s.seed) ≡ found
  read_sample limits left text found limits_are left_is text_is read =
      ap (λ t. string_log standard t) (sym text_is) ∙ ap (λ l. string_log l text) (sym limits_are)
      ∙ subst (λ l. IfSome l (λ bytes. string_log limits bytes ≡ found)) left_is read

-- ---- reading a text in memory

module _ (text : List ℕ) (place n : ℕ) where
  -- what was copied is the prefix of what was left
  pub copied : (buffer : List ℕ) → take n buffer ≡ take n (drop place text) → drop place text ≡ take n buffer ++ drop (place + n) text
  copied buffer same =
      sym (take-append-drop n (drop place text)) ∙ ap (λ l. l ++ drop n (drop place text)) (sym same) ∙ ap (λ l. take n buffer ++ l) (drop-drop n place text)

  pub at_end : drop place text ≡ [] → drop (place + n) text ≡ []
  at_end none = sym (drop-drop n place text) ∙ ap (drop n) none ∙ drop-nil n
