-- A list analysed by its automaton.
use Rattle.std.proofs.Common.{◌≡◌, ◌↔◌, inl, inr, ℕ, ◌+◌, ◌<◌, List, Option, sym, subst}
use Rattle.std.specs.List.{Contains}
use Rattle.decl_base.specs.declared.refusal.Refusal.{Refusal}
use Rattle.decl_base.specs.declared.refusal.Refusal.TheVariants.{States, Memory}
use Rattle.dfa_core.specs.Automaton.{Automaton, Accepts}
use Rattle.dfa_core.specs.Languages.{IsLeastIfAny}
use Rattle.dfa_core.specs.Traces.{IsTrace}
use Rattle.dfa_product.proofs.AfterRuns.{least-same}
use Rattle.template_core.specs.Keeping.{KeepsAll}
use Rattle.template_core.specs.declared.constraint.Constraint.{Constraint}
use Rattle.list_dfa.specs.Lists.{IsNarrowList}
use Rattle.model_compare.specs.Analysis.{Analysis, AreFirst, AreThose, IsAnalysis, IsDead, RefusesAnalysis}
use Rattle.model_compare.specs.Narrow.{IsNarrowAutomaton, RefusesList}
use Rattle.model_compare.specs.Unused.{AreRedundant, IsUnused, RefusesOthers}
use Rattle.model_compare.proofs.Firsts.{first-same}
use Rattle.model_compare.proofs.Those.{those-same}

module _ (n s k : ℕ) (list : List Constraint) (a : Automaton) (h : IsNarrowAutomaton n s list a) where
  found-keeps : (found : Option (List ℕ)) → IsLeastIfAny a.symbols (Accepts a) found → IsLeastIfAny n (KeepsAll list) found
  found-keeps found is = least-same n (Accepts a) (KeepsAll list) h.least.of.same found (subst (λ (m : ℕ). IsLeastIfAny m (Accepts a) found) h.least.of.over is)

  dead-unused : (dead : List ℕ) → AreThose (λ x. (x + 1 < a.symbols) × IsUnused a x) dead → AreThose (λ x. (x + 1 < n) × IsDead n list x) dead
  dead-unused dead = those-same _ _ dead (λ x. (
    λ p. (rw (← h.least.of.over) p.0, λ w tw keeps has. p.1 w (rw h.least.of.over tw) ((h.least.of.same w tw).1 keeps) has),
    λ p. (rw h.least.of.over p.0, λ w tw accepted has. let over : IsTrace n w = rw (← h.least.of.over) tw in p.1 w over ((h.least.of.same w over).0 accepted) has),
  ))

  first-keeps : (traces : List (List ℕ)) → AreFirst a.symbols (Accepts a) k traces → AreFirst n (KeepsAll list) k traces
  first-keeps traces is = first-same n (Accepts a) (KeepsAll list) h.least.of.same k traces (subst (λ (m : ℕ). AreFirst m (Accepts a) k traces) h.least.of.over is)

  pub analysis : (found : Option (List ℕ)) (dead redundant : List ℕ) (traces : List (List ℕ)) → IsLeastIfAny a.symbols (Accepts a) found → AreThose (λ x. (x + 1 < a.symbols) × IsUnused a x) dead
      → AreRedundant n s list redundant → AreFirst a.symbols (Accepts a) k traces → IsAnalysis n s k list (record { accepts = found; dead = dead; redundant = redundant; traces = traces })
  analysis found dead redundant traces f d r t = record {
    accepts = found-keeps found f;
    dead = dead-unused dead d;
    redundant = r.those;
    traces = first-keeps traces t;
    narrow = h.narrow;
    others_narrow = r.narrow;
  }

pub refused-list : (n s : ℕ) (list : List Constraint) (refusal : Refusal) → RefusesList n s 5 list refusal → RefusesAnalysis n s list refusal
refused-list n s list (States phase built) h = inl h
refused-list n s list Memory h = tt
refused-list n s list refusal h = absurd h

pub refused-others : (n s : ℕ) (list : List Constraint) (refusal : Refusal) → IsNarrowList n s list → RefusesOthers n s list refusal → RefusesAnalysis n s list refusal
refused-others n s list (States phase built) narrow h = inr (h.0, narrow, h.1)
refused-others n s list Memory narrow h = tt
refused-others n s list refusal narrow h = absurd h
