-- Constraints that all others imply.
use Rattle.std.proofs.Common.{◌≡◌, ◌↔◌, inl, inr, ℕ, ◌+◌, ◌<◌, List, [], ◌∷◌, ◌++◌, length, get_or, Option, Some, None, Bool, true, false, is_none, not, nat_eq, refl, ap, subst, arith}
use Rattle.std.specs.List.{slice_get}
use Rattle.std.proofs.lemmas.Bool.{cases_Bool, cases_lt}
use Rattle.std.proofs.lemmas.Option.{slice_get-get_or, slice_get_within}
use Rattle.decl_base.specs.declared.refusal.Refusal.{Refusal}
use Rattle.decl_base.specs.declared.refusal.Refusal.TheVariants.{States, Memory}
use Rattle.dfa_core.specs.Automaton.{Automaton, Accepts}
use Rattle.dfa_core.specs.Languages.{IsLeastIfAny}
use Rattle.dfa_core.specs.Traces.{IsTrace}
use Rattle.template_core.proofs.KeepsTest.{Keeps-keeps}
use Rattle.template_core.specs.Keeping.{KeepsAll, KeepsOne}
use Rattle.template_core.specs.Repertoire.{keeps}
use Rattle.template_core.specs.declared.constraint.Constraint.{Constraint}
use Rattle.template_core.specs.declared.kind.Kind.TheVariants.{Init}
use Rattle.list_dfa.specs.Lists.{Implies, IsNarrowList}
use Rattle.model_compare.specs.Analysis.{AreThose, IsRedundant, others}
use Rattle.model_compare.specs.Narrow.{IsNarrowAutomaton, RefusesList}
use Rattle.model_compare.specs.Unused.{AreRedundant, IsTold, RefusesOthers}
use Rattle.model_compare.proofs.Those.{below-more, below-skip, those-none, those-same}

-- what a read past the end would give
abbrev pub anything : Constraint
anything = record {
  kind = Init;
  first = 0;
  second = 0;
}

-- a trace that can't break a constraint keeps it
keeps-stable : (c : Constraint) (w : List ℕ) → ((KeepsOne c w → ⊥) → ⊥) → KeepsOne c w
keeps-stable c w h = elim (cases_Bool (keeps nat_eq c.kind c.first c.second w)) [
  | inl yes_ ↦ (Keeps-keeps nat_eq c.kind c.first c.second w).0 yes_
  | inr lacks ↦ absurd (h (λ kept. let yes_ = (Keeps-keeps nat_eq c.kind c.first c.second w).1 kept in cc (yes_, lacks)))
]

-- what an automaton accepts that breaks the constraint
abbrev Broken : Automaton → Constraint → List ℕ → Type 0
Broken a c w = Accepts a w × (KeepsOne c w → ⊥)

module _ (n s : ℕ) (rest : List Constraint) (a : Automaton) (h : IsNarrowAutomaton n s rest a) (c : Constraint) where
  implied-over : (found : Option (List ℕ)) → IsLeastIfAny n (Broken a c) found → (is_none found ≡ true) ↔ Implies n rest c
  implied-over None none = (λ e. λ w tw keeps. keeps-stable c w (λ breaks. none w tw ((h.least.of.same w tw).1 keeps, breaks)), λ implies. refl)
  implied-over (Some t) found = (λ e. absurd (cc e), λ implies. absurd (found.member.1 (implies t found.over ((h.least.of.same t found.over).0 found.member.0))))

  implied : (found : Option (List ℕ)) → IsLeastIfAny a.symbols (Broken a c) found → (is_none found ≡ true) ↔ Implies n rest c
  implied found is = implied-over found (subst (λ (m : ℕ). IsLeastIfAny m (Broken a c) found) h.least.of.over is)

pub told : (n s : ℕ) (list : List Constraint) (place : ℕ) (a : Automaton) (found : Option (List ℕ)) → IsNarrowAutomaton n s (others place list) a → place < length list
    → IsLeastIfAny a.symbols (Broken a (get_or list place anything)) found → IsTold n s list place (is_none found)
told n s list place a found h lt is = record {
  tells = λ c there.
      let same = slice_get-get_or list place anything lt in
      let e : get_or list place anything ≡ c = cc (same, there) in rw (← e) (implied n s (others place list) a h (get_or list place anything) found is);
  narrow = h.narrow;
}

pub not_back : (a b : Bool) → a ≡ not b → not a ≡ b
not_back a true e = ap not e
not_back a false e = ap not e

-- the places that were gone through
pub record AreToldBelow (n s : ℕ) (list : List Constraint) (place : ℕ) (numbers : List ℕ) : Type 0 where
  pub those : AreThose (λ x. (x < place + 1) × IsRedundant n list x) numbers
  pub narrow : (earlier : ℕ) → earlier < place → IsNarrowList n s (others earlier list)

pub below-none : (n s : ℕ) (list : List Constraint) → AreToldBelow n s list 0 []
below-none n s list = record {
  those = those-none _ (λ x p. let r = p.1 in let few = p.0 in let numbered = r.numbered in omega (arith, few, numbered));
  narrow = λ earlier lt. absurd (omega (arith, lt));
}

module _ (n s : ℕ) (list : List Constraint) (place : ℕ) (numbers : List ℕ) (h : AreToldBelow n s list place numbers) where
  narrow-more : IsNarrowList n s (others place list) → (earlier : ℕ) → earlier < place + 1 → IsNarrowList n s (others earlier list)
  narrow-more here earlier lt = elim (cases_lt earlier place) [
    | inl before ↦ h.narrow earlier before
    | inr last ↦ let e : earlier ≡ place = omega (arith, last, lt) in rw e here
  ]

  pub told-more : place < length list → IsTold n s list place true → AreToldBelow n s list (place + 1) (numbers ++ (place + 1) ∷ [])
  told-more lt is =
      let there = slice_get-get_or list place anything lt in record {
        those = below-more (IsRedundant n list) (place + 1) numbers h.those (record { place = place; numbered = refl; constraint = get_or list place anything; there = there; implied = (is.tells (get_or list place anything) there).0 refl });
        narrow = narrow-more is.narrow;
      }

  pub told-skip : IsTold n s list place false → AreToldBelow n s list (place + 1) numbers
  told-skip is = record {
    those = below-skip (IsRedundant n list) (place + 1) numbers h.those (λ r.
        let numbered = r.numbered in
        let e : r.place ≡ place = omega (arith, numbered) in
        let yes_ = (is.tells r.constraint (rw (← e) r.there)).1 (rw (← e) r.implied) in absurd (cc yes_));
    narrow = narrow-more is.narrow;
  }

pub told-all : (n s : ℕ) (list : List Constraint) (place : ℕ) (numbers : List ℕ) → place ≡ length list → AreToldBelow n s list place numbers → AreRedundant n s list numbers
told-all n s list place numbers e h = record {
  those = those-same _ (IsRedundant n list) numbers (λ x. (
    λ p. p.1,
    λ r.
        let within = slice_get_within list r.place r.constraint r.there in
        let numbered = r.numbered in (omega (arith, within, numbered, e), r),
  )) h.those;
  narrow = λ at lt. h.narrow at (omega (arith, lt, e));
}

pub refused-others : (n s : ℕ) (list : List Constraint) (place : ℕ) (numbers : List ℕ) (refusal : Refusal) → AreToldBelow n s list place numbers → place < length list → RefusesList n s 7 (others place list) refusal
    → RefusesOthers n s list refusal
refused-others n s list place numbers (States phase built) h lt is = (is.0, record { place = place; within = lt; wide = is.1; first = h.narrow })
refused-others n s list place numbers Memory h lt is = tt
refused-others n s list place numbers refusal h lt is = absurd is
