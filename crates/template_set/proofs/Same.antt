-- That two constraints are the same, by the test of them.
use denote.Enum.Compared.{by}
use Rattle.std.proofs.Common.{◌≡◌, ◌↔◌, ℕ, Bool, true, false, ◌&&◌, eqb, refl, sym, ap, subst, ◌∙◌}
use Rattle.std.proofs.lemmas.Bool.{false≢true, and_parts, and_from, eqb-true, eq-eqb}
use Rattle.template_core.specs.contracts.kind.Kind.{enum}
use Rattle.template_core.specs.declared.constraint.Constraint.{Constraint}
use Rattle.template_core.specs.declared.kind.Kind.{Kind}
use Rattle.template_core.specs.declared.kind.Kind.TheVariants.{Init, End, Participation, AtMostOne, ChainSuccession, AlternateSuccession, Succession, CoExistence, ChainResponse, AlternateResponse, Response, ChainPrecedence, AlternatePrecedence, Precedence, RespondedExistence, NotCoExistence, NotSuccession, NotChainSuccession, Exactly, AtLeast, AtMost, NotRespondedExistence, NotResponse, NotPrecedence, NotChainResponse, NotChainPrecedence}
use Rattle.template_set.specs.Hierarchy.{of}

-- of two values of one variant: nothing is left to compare, or their numbers
abbrev bare : Unit {0} → Unit {0} → Bool
bare x y = true

abbrev counted : ℕ × Unit {0} → ℕ × Unit {0} → Bool
counted x y = eqb x.0 y.0

-- what the test of two templates computes
abbrev same : Kind → Kind → Bool
same k l = by false false enum.parts (bare, (bare, (bare, (bare, (bare, (bare, (bare, (bare, (bare, (bare, (bare, (bare, (bare, (bare, (bare, (bare, (bare, (bare, (counted, (counted, (counted, (bare, (bare, (bare, (bare, (bare, tt)))))))))))))))))))))))))) (enum.as_values k) (enum.as_values l)

same_true : (k l : Kind) → same k l ≡ true → k ≡ l
same_true Init Init e = refl
same_true End End e = refl
same_true Participation Participation e = refl
same_true AtMostOne AtMostOne e = refl
same_true ChainSuccession ChainSuccession e = refl
same_true AlternateSuccession AlternateSuccession e = refl
same_true Succession Succession e = refl
same_true CoExistence CoExistence e = refl
same_true ChainResponse ChainResponse e = refl
same_true AlternateResponse AlternateResponse e = refl
same_true Response Response e = refl
same_true ChainPrecedence ChainPrecedence e = refl
same_true AlternatePrecedence AlternatePrecedence e = refl
same_true Precedence Precedence e = refl
same_true RespondedExistence RespondedExistence e = refl
same_true NotCoExistence NotCoExistence e = refl
same_true NotSuccession NotSuccession e = refl
same_true NotChainSuccession NotChainSuccession e = refl
same_true (Exactly n) (Exactly m) e = ap Exactly (eqb-true n m e)
same_true (AtLeast n) (AtLeast m) e = ap AtLeast (eqb-true n m e)
same_true (AtMost n) (AtMost m) e = ap AtMost (eqb-true n m e)
same_true NotRespondedExistence NotRespondedExistence e = refl
same_true NotResponse NotResponse e = refl
same_true NotPrecedence NotPrecedence e = refl
same_true NotChainResponse NotChainResponse e = refl
same_true NotChainPrecedence NotChainPrecedence e = refl
same_true k l e = absurd (false≢true e)

same_itself : (k : Kind) → same k k ≡ true
same_itself (Exactly n) = eq-eqb n n refl
same_itself (AtLeast n) = eq-eqb n n refl
same_itself (AtMost n) = eq-eqb n n refl
same_itself k = refl

pub same_is : (c d : Constraint) (r : Bool) → r ≡ (same c.kind d.kind && (eqb c.first d.first && eqb c.second d.second)) → r ≡ true ↔ (c ≡ d)
same_is c d r is = (λ e. equal (sym is ∙ e), λ eq. is ∙ subst (λ d. (same c.kind d.kind && (eqb c.first d.first && eqb c.second d.second)) ≡ true) eq itself)
  where
    equal : (same c.kind d.kind && (eqb c.first d.first && eqb c.second d.second)) ≡ true → c ≡ d
    equal e =
        let both = and_parts (same c.kind d.kind) (eqb c.first d.first && eqb c.second d.second) e in
        let two = and_parts (eqb c.first d.first) (eqb c.second d.second) both.1 in
        let kinds : c.kind ≡ d.kind = same_true c.kind d.kind both.0 in
        let firsts : c.first ≡ d.first = eqb-true _ _ two.0 in
        let seconds : c.second ≡ d.second = eqb-true _ _ two.1 in
        let parts : of c.kind c.first c.second ≡ of d.kind d.first d.second = rw (kinds, firsts, seconds) refl in
        parts

    itself : (same c.kind c.kind && (eqb c.first c.first && eqb c.second c.second)) ≡ true
    itself =
        and_from (same c.kind c.kind) (eqb c.first c.first && eqb c.second c.second) (same_itself c.kind)
        (and_from (eqb c.first c.first) (eqb c.second c.second) (eq-eqb c.first c.first refl) (eq-eqb c.second c.second refl))
