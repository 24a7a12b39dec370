-- Two lists compared by their automata.
use Rattle.std.proofs.Common.{◌≡◌, ℕ, List, Option, None, Some, Bool, true, false, inl, refl, subst}
use Rattle.decl_base.specs.declared.refusal.Refusal.{Refusal}
use Rattle.decl_base.specs.declared.refusal.Refusal.TheVariants.{States, Memory}
use Rattle.dfa_core.specs.Automaton.{Automaton, Accepts, accepts}
use Rattle.dfa_core.specs.Languages.{HasNoMember, IsLeastIfAny}
use Rattle.dfa_core.specs.Traces.{IsTrace}
use Rattle.dfa_product.specs.Wanted.{IsOutside}
use Rattle.template_core.specs.Keeping.{KeepsAll}
use Rattle.template_core.specs.declared.constraint.Constraint.{Constraint}
use Rattle.list_dfa.specs.Lists.{IsAutomatonOf}
use Rattle.model_compare.specs.Comparison.{Comparison, IsComparison, IsCompared, IsRelation, IsWithin, KeepsOnly, RefusesComparing, relation_of}
use Rattle.model_compare.specs.Narrow.{IsNarrowAutomaton, RefusesList}
use Rattle.model_compare.specs.declared.compared.Relation.{Relation}
use Rattle.model_compare.specs.declared.compared.Relation.TheVariants.{Equal, Stronger, Weaker, Neither}

-- ---- what an automaton of the one list accepts and one of the other doesn't

module _ (n : ℕ) (one other : List Constraint) (a b : Automaton) (h : IsAutomatonOf n one a) (k : IsAutomatonOf n other b) where
  outside-only : (w : List ℕ) → IsTrace n w → IsOutside a b w → KeepsOnly one other w
  outside-only w tw is = ((h.same w tw).0 is.0, λ keeps. is.1 ((k.same w tw).1 keeps))

  only-outside : (w : List ℕ) → IsTrace n w → KeepsOnly one other w → IsOutside a b w
  only-outside w tw is = ((h.same w tw).1 is.0, λ accepted. is.1 ((k.same w tw).0 accepted))

  found-over : (found : Option (List ℕ)) → IsLeastIfAny n (IsOutside a b) found → IsLeastIfAny n (KeepsOnly one other) found
  found-over None none = λ w tw is. none w tw (only-outside w tw is)
  found-over (Some trace) least = record {
    over = least.over;
    member = outside-only trace least.over least.member;
    none_before = λ w tw is. least.none_before w tw (only-outside w tw is);
  }

  found-only : (found : Option (List ℕ)) → IsLeastIfAny a.symbols (IsOutside a b) found → IsLeastIfAny n (KeepsOnly one other) found
  found-only found is = found-over found (subst (λ (m : ℕ). IsLeastIfAny m (IsOutside a b) found) h.over is)

  within : HasNoMember n (KeepsOnly one other) → IsWithin n one other
  within none w tw keeps = go (accepts b w) refl
    where
      go : (r : Bool) → accepts b w ≡ r → KeepsAll other w
      go true yes_ = (k.same w tw).0 yes_
      go false no_ = absurd (none w tw (keeps, λ both. let accepted : Accepts b w = (k.same w tw).1 both in absurd (cc (accepted, no_))))

module _ (n : ℕ) (first second : List Constraint) (a b : Automaton) (h : IsAutomatonOf n first a) (k : IsAutomatonOf n second b) where
  related : (f s : Option (List ℕ)) → IsLeastIfAny n (KeepsOnly first second) f → IsLeastIfAny n (KeepsOnly second first) s → IsRelation n first second (relation_of f s)
  related None None f s = (within n first second a b h k f, within n second first b a k h s)
  related None (Some u) f s = (within n first second a b h k f, record { by = u; over = s.over; keeps = s.member })
  related (Some t) None f s = (record { by = t; over = f.over; keeps = f.member }, within n second first b a k h s)
  related (Some t) (Some u) f s = (record { by = t; over = f.over; keeps = f.member }, record { by = u; over = s.over; keeps = s.member })

pub compared : (n s : ℕ) (first second : List Constraint) (a b : Automaton) (f g : Option (List ℕ)) → IsNarrowAutomaton n s first a → IsNarrowAutomaton n s second b
    → IsLeastIfAny a.symbols (IsOutside a b) f → IsLeastIfAny b.symbols (IsOutside b a) g
    → IsCompared n s first second (record { relation = relation_of f g; only_first = f; only_second = g })
compared n s first second a b f g h k only_first only_second =
    let lf = found-only n first second a b h.least.of k.least.of f only_first in
    let ls = found-only n second first b a k.least.of h.least.of g only_second in record {
      comparison = record { relation = related n first second a b h.least.of k.least.of f g lf ls; only_first = lf; only_second = ls };
      first_narrow = h.narrow;
      second_narrow = k.narrow;
    }

-- ---- refusals

pub refused-first : (n s : ℕ) (first second : List Constraint) (refusal : Refusal) → RefusesList n s 5 first refusal → RefusesComparing n s first second refusal
refused-first n s first second (States phase built) h = inl h
refused-first n s first second Memory h = tt
refused-first n s first second refusal h = absurd h

-- ---- the relation by the traces

pub told : (n : ℕ) (first second : List Constraint) (c : Comparison) → IsComparison n first second c → c.relation ≡ relation_of c.only_first c.only_second
told n first second c h = go c.relation c.only_first c.only_second h.relation h.only_first h.only_second
  where
    go : (r : Relation) (f s : Option (List ℕ)) → IsRelation n first second r → IsLeastIfAny n (KeepsOnly first second) f → IsLeastIfAny n (KeepsOnly second first) s → r ≡ relation_of f s
    go Equal None None is f s = refl
    go Equal None (Some u) is f s = absurd (s.member.1 (is.1 u s.over s.member.0))
    go Equal (Some t) g is f s = absurd (f.member.1 (is.0 t f.over f.member.0))
    go Stronger None None is f s = absurd (s is.1.by is.1.over is.1.keeps)
    go Stronger None (Some u) is f s = refl
    go Stronger (Some t) g is f s = absurd (f.member.1 (is.0 t f.over f.member.0))
    go Weaker None g is f s = absurd (f is.0.by is.0.over is.0.keeps)
    go Weaker (Some t) None is f s = refl
    go Weaker (Some t) (Some u) is f s = absurd (s.member.1 (is.1 u s.over s.member.0))
    go Neither None g is f s = absurd (f is.0.by is.0.over is.0.keeps)
    go Neither (Some t) None is f s = absurd (s is.1.by is.1.over is.1.keeps)
    go Neither (Some t) (Some u) is f s = refl
