-- The letters of a case's standings, one constraint after another.
use Rattle.std.proofs.Common.{◌≡◌, inl, inr, ℕ, ◌+◌, ◌<◌, List, [], ◌∷◌, ◌++◌, Some, get_or, length, map, slice_get, refl, sym, ap, subst, ◌∙◌, arith, append-nil, append_assoc}
use Rattle.std.proofs.lemmas.Bool.{cases_eq}
use Rattle.std.proofs.lemmas.List.{get_or_append_left, get_or_push, length_push, map-append}
use Rattle.std.proofs.lemmas.Option.{slice_get_within}
use Rattle.live_monitor.specs.Standing.{IsStanding}
use Rattle.live_monitor.specs.Stands.{StandsFor, constraints_of, symbols_of, trace_of}
use Rattle.live_monitor.specs.declared.monitor.Monitor.{Monitor}
use Rattle.live_monitor.specs.declared.standing.Standing.{Standing}
use Rattle.live_monitor.specs.declared.standing.Standing.TheVariants.{Kept}
use Rattle.template_core.specs.Keeping.{KeepsOne}
use Rattle.template_core.specs.declared.constraint.Constraint.{Constraint}
use Rattle.monitor_lines.specs.LineText.{AreOnes, letter, letters}

-- the letters of the first constraints stand behind a text
pub record ArePut (monitor : Monitor) (case place : ℕ) (old now : List ℕ) (each : List Standing) : Type 0 where
  pub long : length each ≡ place
  pub text : now ≡ old ++ map letter each
  pub are : (traces : List (List ℕ)) → StandsFor monitor traces → (k : ℕ) (c : Constraint) → k < place → slice_get (constraints_of monitor) k ≡ Some c
      → IsStanding (symbols_of monitor) (KeepsOne c) (trace_of traces case) (get_or each k Kept)

pub ArePut-none : (monitor : Monitor) (case : ℕ) (old : List ℕ) → ArePut monitor case 0 old old []
ArePut-none monitor case old = record { long = refl; text = sym (append-nil old); are = λ traces h k c below at. absurd (omega arith) }

pub ArePut-push : (monitor : Monitor) (case place : ℕ) (old now next : List ℕ) (each : List Standing) (s : Standing) (byte : ℕ) → ArePut monitor case place old now each → byte ≡ letter s → next ≡ now ++ byte ∷ []
    → ((traces : List (List ℕ)) (c : Constraint) → StandsFor monitor traces → slice_get (constraints_of monitor) place ≡ Some c → IsStanding (symbols_of monitor) (KeepsOne c) (trace_of traces case) s)
    → ArePut monitor case (place + 1) old next (each ++ s ∷ [])
ArePut-push monitor case place old now next each s byte h byte_is pushed is = record {
  long = length_push each s ∙ ap (λ n. n + 1) h.long;
  text = pushed ∙ ap (λ b. now ++ b ∷ []) byte_is ∙ ap (λ l. l ++ letter s ∷ []) h.text ∙ append_assoc old (map letter each) (letter s ∷ []) ∙ ap (λ l. old ++ l) (sym (map-append letter each (s ∷ [])));
  are = λ traces stands k c below at. elim (cases_eq k place) [
    | inl here ↦
        subst (IsStanding (symbols_of monitor) (KeepsOne c) (trace_of traces case)) (sym (get_or_push each s Kept k (h.long ∙ sym here)))
        (is traces c stands (ap (slice_get (constraints_of monitor)) (sym here) ∙ at))
    | inr apart ↦
        let inside : k < place = omega (arith, below, apart) in
        subst (IsStanding (symbols_of monitor) (KeepsOne c) (trace_of traces case)) (sym (get_or_append_left each (s ∷ []) Kept k (omega (arith, inside, h.long))))
        (h.are traces stands k c inside at)
  ];
}

some_letters : (each : List Standing) → 0 < length each → map letter each ≡ letters each
some_letters [] some = absurd (omega arith)
some_letters (s ∷ each) some = refl

abbrev pub Puts : Monitor → ℕ → List ℕ → List ℕ → Type 0
Puts monitor case old new =
    (each : List Standing) × (new ≡ old ++ letters each) × ((traces : List (List ℕ)) → StandsFor monitor traces → AreOnes (symbols_of monitor) (constraints_of monitor) (trace_of traces case) each)

-- all are put
pub Puts-all : (monitor : Monitor) (case place : ℕ) (old now : List ℕ) (put : (each : List Standing) × ArePut monitor case place old now each) → place ≡ length (constraints_of monitor) → 0 < place → Puts monitor case old now
Puts-all monitor case place old now put all some = (
  put.0,
  put.1.text ∙ ap (λ l. old ++ l) (some_letters put.0 (omega (arith, some, put.1.long))),
  λ traces h. record {
    as_many = put.1.long ∙ all;
    are = λ k c at. put.1.are traces h k c (omega (arith, all, slice_get_within (constraints_of monitor) k c at)) at;
  },
)

-- there is none
pub Puts-none : (monitor : Monitor) (case : ℕ) (old new : List ℕ) → new ≡ old ++ 45 ∷ [] → 0 ≡ length (constraints_of monitor) → Puts monitor case old new
Puts-none monitor case old new pushed none = (
  [],
  pushed,
  λ traces h. record { as_many = none; are = λ k c at. absurd (omega (arith, none, slice_get_within (constraints_of monitor) k c at)) },
)
