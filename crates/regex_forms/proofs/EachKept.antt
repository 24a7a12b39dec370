-- The form of each kind matches the classes of a trace exactly where the trace keeps the constraint.
use Rattle.std.proofs.Common.{◌≡◌, ◌↔◌, ℕ, ◌+◌, ◌≤◌, Bool, true, false, List, [], ◌∷◌, map, cond, IsTrue, eqb, nat_eq, refl, sym, subst, ◌∙◌, arith}
use Rattle.std.proofs.lemmas.Bool.{agree_below_at}
use Rattle.regex_forms.proofs.Matched.{matched}
use Rattle.regex_forms.proofs.Walks.{is_read, is_table_of, table_walked}
use Rattle.regex_forms.specs.Derivatives.{accepted}
use Rattle.regex_forms.specs.Forms.{tree_of}
use Rattle.regex_forms.specs.Matching.{Matches}
use Rattle.regex_forms.specs.Trees.{Tree}
use Rattle.template_core.specs.Automaton.{class_of, run}
use Rattle.template_core.specs.Constraints.{IsWellMade}
use Rattle.template_core.specs.Repertoire.{Keeps}
use Rattle.template_core.specs.declared.class.Class.{Class}
use Rattle.template_core.specs.declared.class.Class.TheVariants.{First, Second, Other}
use Rattle.template_core.specs.declared.kind.Kind.{Kind}
use Rattle.template_core.specs.declared.kind.Kind.TheVariants.{Init, End, Participation, AtMostOne, ChainSuccession, AlternateSuccession, Succession, CoExistence, ChainResponse, AlternateResponse, Response, ChainPrecedence, AlternatePrecedence, Precedence, RespondedExistence, NotCoExistence, NotSuccession, NotChainSuccession, Exactly, AtLeast, AtMost, NotRespondedExistence, NotResponse, NotPrecedence, NotChainResponse, NotChainPrecedence}
use Rattle.templates_unary.specs.Init as init
use Rattle.templates_unary.specs.InitLaw as init_law
use Rattle.templates_unary.specs.End as end
use Rattle.templates_unary.specs.EndLaw as end_law
use Rattle.templates_unary.specs.Participation as participation
use Rattle.templates_unary.specs.ParticipationLaw as participation_law
use Rattle.templates_unary.specs.AtMostOne as at_most_one
use Rattle.templates_unary.specs.AtMostOneLaw as at_most_one_law
use Rattle.templates_unary.specs.Counted as counted
use Rattle.templates_unary.specs.CountedLaw as counted_law
use Rattle.templates_pair.specs.ChainSuccession as chain_succession
use Rattle.templates_pair.specs.ChainSuccessionLaw as chain_succession_law
use Rattle.templates_pair.specs.AlternateSuccession as alternate_succession
use Rattle.templates_pair.specs.AlternateSuccessionLaw as alternate_succession_law
use Rattle.templates_pair.specs.Succession as succession
use Rattle.templates_pair.specs.SuccessionLaw as succession_law
use Rattle.templates_pair.specs.CoExistence as co_existence
use Rattle.templates_pair.specs.CoExistenceLaw as co_existence_law
use Rattle.templates_pair.specs.ChainResponse as chain_response
use Rattle.templates_pair.specs.ChainResponseLaw as chain_response_law
use Rattle.templates_pair.specs.AlternateResponse as alternate_response
use Rattle.templates_pair.specs.AlternateResponseLaw as alternate_response_law
use Rattle.templates_pair.specs.Response as response
use Rattle.templates_pair.specs.ResponseLaw as response_law
use Rattle.templates_pair.specs.ChainPrecedence as chain_precedence
use Rattle.templates_pair.specs.ChainPrecedenceLaw as chain_precedence_law
use Rattle.templates_pair.specs.AlternatePrecedence as alternate_precedence
use Rattle.templates_pair.specs.AlternatePrecedenceLaw as alternate_precedence_law
use Rattle.templates_pair.specs.Precedence as precedence
use Rattle.templates_pair.specs.PrecedenceLaw as precedence_law
use Rattle.templates_pair.specs.RespondedExistence as responded_existence
use Rattle.templates_pair.specs.RespondedExistenceLaw as responded_existence_law
use Rattle.templates_neg.specs.NotCoExistence as not_co_existence
use Rattle.templates_neg.specs.NotCoExistenceLaw as not_co_existence_law
use Rattle.templates_neg.specs.NotSuccession as not_succession
use Rattle.templates_neg.specs.NotSuccessionLaw as not_succession_law
use Rattle.templates_neg.specs.NotChainSuccession as not_chain_succession
use Rattle.templates_neg.specs.NotChainSuccessionLaw as not_chain_succession_law
use Rattle.templates_neg.specs.OneSidedLaws as one_sided

-- every event of a template of two activities is read, and of one activity no event is the second
two : (a b event : ℕ) → is_read true (class_of a b event) ≡ true
two a b event = at (eqb event a) (eqb event b)
  where
    at : (v w : Bool) → is_read true (cond v First (cond w Second Other)) ≡ true
    at true w = refl
    at false true = refl
    at false false = refl

one : (a b event : ℕ) → a ≡ b → is_read false (class_of a b event) ≡ true
one a b event e = subst (λ b. is_read false (class_of a b event) ≡ true) e (at (eqb event a))
  where
    at : (v : Bool) → is_read false (cond v First (cond v Second Other)) ≡ true
    at true = refl
    at false = refl

along : {K : Type 0} (v w : Bool) → v ≡ w → IsTrue w ↔ K → IsTrue v ↔ K
along v w e h = (λ yes. h.0 (sym e ∙ yes), λ k. e ∙ h.1 k)

of_one : {K : Type 0} (next : ℕ → Class → ℕ) (accepts : ℕ → Bool) (tree : Tree) → is_table_of false next accepts tree ≡ true
    → (a b : ℕ) (trace : List ℕ) → a ≡ b → IsTrue (accepts (run next 0 a b trace)) ↔ K → IsTrue (accepted (tree ∷ []) (map (class_of a b) trace)) ↔ K
of_one next accepts tree h a b trace made = along _ _ (table_walked false next accepts tree h a b (λ event. one a b event made) trace)

of_two : {K : Type 0} (next : ℕ → Class → ℕ) (accepts : ℕ → Bool) (tree : Tree) → is_table_of true next accepts tree ≡ true
    → (a b : ℕ) (trace : List ℕ) → IsTrue (accepts (run next 0 a b trace)) ↔ K → IsTrue (accepted (tree ∷ []) (map (class_of a b) trace)) ↔ K
of_two next accepts tree h a b trace = along _ _ (table_walked true next accepts tree h a b (two a b) trace)

-- of the counted templates: for each number this computes
exactly_table : (n : ℕ) → n ≤ 9 → is_table_of false (counted.next_after (n + 1)) (counted.accepts_at n) (tree_of (Exactly n)) ≡ true
exactly_table n few =
    agree_below_at (λ n. is_table_of false (counted.next_after (n + 1)) (counted.accepts_at n) (tree_of (Exactly n))) (λ n. true) 10 n refl (omega (arith, few))

at_least_table : (n : ℕ) → n ≤ 9 → is_table_of false (counted.next_after n) (counted.accepts_at n) (tree_of (AtLeast n)) ≡ true
at_least_table n few =
    agree_below_at (λ n. is_table_of false (counted.next_after n) (counted.accepts_at n) (tree_of (AtLeast n))) (λ n. true) 10 n refl (omega (arith, few))

at_most_table : (n : ℕ) → n ≤ 9 → is_table_of false (counted.next_after (n + 1)) (counted.accepts_below (n + 1)) (tree_of (AtMost n)) ≡ true
at_most_table n few =
    agree_below_at (λ n. is_table_of false (counted.next_after (n + 1)) (counted.accepts_below (n + 1)) (tree_of (AtMost n))) (λ n. true) 10 n refl (omega (arith, few))

kept : (kind : Kind) (a b : ℕ) (trace : List ℕ) → IsWellMade kind a b
    → IsTrue (accepted (tree_of kind ∷ []) (map (class_of a b) trace)) ↔ Keeps nat_eq kind a b trace
kept Init a b trace made = of_one init.next_after init.accepts (tree_of Init) refl a b trace made (init_law.kept a b trace made)
kept End a b trace made = of_one end.next_after end.accepts (tree_of End) refl a b trace made (end_law.kept a b trace made)
kept Participation a b trace made = of_one participation.next_after participation.accepts (tree_of Participation) refl a b trace made (participation_law.kept a b trace made)
kept AtMostOne a b trace made = of_one at_most_one.next_after at_most_one.accepts (tree_of AtMostOne) refl a b trace made (at_most_one_law.kept a b trace made)
kept ChainSuccession a b trace made = of_two chain_succession.next_after chain_succession.accepts (tree_of ChainSuccession) refl a b trace (chain_succession_law.kept a b trace made)
kept AlternateSuccession a b trace made = of_two alternate_succession.next_after alternate_succession.accepts (tree_of AlternateSuccession) refl a b trace (alternate_succession_law.kept a b trace made)
kept Succession a b trace made = of_two succession.next_after succession.accepts (tree_of Succession) refl a b trace (succession_law.kept a b trace made)
kept CoExistence a b trace made = of_two co_existence.next_after co_existence.accepts (tree_of CoExistence) refl a b trace (co_existence_law.kept a b trace made)
kept ChainResponse a b trace made = of_two chain_response.next_after chain_response.accepts (tree_of ChainResponse) refl a b trace (chain_response_law.kept a b trace made)
kept AlternateResponse a b trace made = of_two alternate_response.next_after alternate_response.accepts (tree_of AlternateResponse) refl a b trace (alternate_response_law.kept a b trace made)
kept Response a b trace made = of_two response.next_after response.accepts (tree_of Response) refl a b trace (response_law.kept a b trace made)
kept ChainPrecedence a b trace made = of_two chain_precedence.next_after chain_precedence.accepts (tree_of ChainPrecedence) refl a b trace (chain_precedence_law.kept a b trace made)
kept AlternatePrecedence a b trace made = of_two alternate_precedence.next_after alternate_precedence.accepts (tree_of AlternatePrecedence) refl a b trace (alternate_precedence_law.kept a b trace made)
kept Precedence a b trace made = of_two precedence.next_after precedence.accepts (tree_of Precedence) refl a b trace (precedence_law.kept a b trace made)
kept RespondedExistence a b trace made = of_two responded_existence.next_after responded_existence.accepts (tree_of RespondedExistence) refl a b trace (responded_existence_law.kept a b trace made)
kept NotCoExistence a b trace made = of_two not_co_existence.next_after not_co_existence.accepts (tree_of NotCoExistence) refl a b trace (not_co_existence_law.kept a b trace made)
kept NotSuccession a b trace made = of_two not_succession.next_after not_succession.accepts (tree_of NotSuccession) refl a b trace (not_succession_law.kept a b trace made)
kept NotChainSuccession a b trace made = of_two not_chain_succession.next_after not_chain_succession.accepts (tree_of NotChainSuccession) refl a b trace (not_chain_succession_law.kept a b trace made)
kept (Exactly n) a b trace made =
    of_one (counted.next_after (n + 1)) (counted.accepts_at n) (tree_of (Exactly n)) (exactly_table n made.1.1) a b trace made.0 (counted_law.exactly_kept n a b trace made)
kept (AtLeast n) a b trace made =
    of_one (counted.next_after n) (counted.accepts_at n) (tree_of (AtLeast n)) (at_least_table n made.1.1) a b trace made.0 (counted_law.at_least_kept n a b trace made)
kept (AtMost n) a b trace made =
    of_one (counted.next_after (n + 1)) (counted.accepts_below (n + 1)) (tree_of (AtMost n)) (at_most_table n made.1.1) a b trace made.0 (counted_law.at_most_kept n a b trace made)
kept NotRespondedExistence a b trace made = of_two not_co_existence.next_after not_co_existence.accepts (tree_of NotRespondedExistence) refl a b trace (one_sided.responded_existence_kept a b trace made)
kept NotResponse a b trace made = of_two not_succession.next_after not_succession.accepts (tree_of NotResponse) refl a b trace (one_sided.response_kept a b trace made)
kept NotPrecedence a b trace made = of_two not_succession.next_after not_succession.accepts (tree_of NotPrecedence) refl a b trace (one_sided.precedence_kept a b trace made)
kept NotChainResponse a b trace made = of_two not_chain_succession.next_after not_chain_succession.accepts (tree_of NotChainResponse) refl a b trace (one_sided.chain_response_kept a b trace made)
kept NotChainPrecedence a b trace made = of_two not_chain_succession.next_after not_chain_succession.accepts (tree_of NotChainPrecedence) refl a b trace (one_sided.chain_precedence_kept a b trace made)

pub form_kept : (kind : Kind) (a b : ℕ) (trace : List ℕ) → IsWellMade kind a b
    → Matches (tree_of kind) (map (class_of a b) trace) ↔ Keeps nat_eq kind a b trace
form_kept kind a b trace made =
    let by_tree = matched (tree_of kind) (map (class_of a b) trace) in
    let by_table = kept kind a b trace made in
    (λ m. by_table.0 (by_tree.1 m), λ k. by_tree.0 (by_table.1 k))
