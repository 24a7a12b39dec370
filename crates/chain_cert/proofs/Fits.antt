-- Links and pairs that fit, and that relate and decide, with one table of a template and with another.
use Rattle.std.proofs.Common.{◌≡◌, ℕ, ◌<◌, List, [], ◌∷◌, length, get_or, All, sym, ◌∙◌, subst}
use Rattle.template_core.specs.Tables.{class}
use Rattle.template_core.specs.declared.constraint.Constraint.{Constraint}
use Rattle.template_core.specs.declared.kind.Kind.{Kind}
use Rattle.template_core.specs.declared.table.Table.{Table}
use Rattle.chain_cert.proofs.SameTables.{AreAlike, alike}
use Rattle.chain_cert.specs.Checks.{Decides, IsDecided, IsRelated, Relates}
use Rattle.chain_cert.specs.Forms.{FitsLink, FitsPairs, Holds, left, middle, right}
use Rattle.chain_cert.specs.Links.{state_count, step}
use Rattle.chain_cert.specs.Parts.{LinkParts}
use Rattle.chain_cert.specs.Tables.{IsTableOf}
use Rattle.chain_cert.specs.declared.claim.Dropped.{Dropped}

abbrev pub Begins : ℕ → ℕ → List (List ℕ) → Type 0
Begins states table_states pairs = All (λ pair. (left pair < states) × (middle pair < table_states)) pairs

-- ---- forms

pub fits-link : (symbols : ℕ) (automaton link : LinkParts) (kind : Kind) (table : Table) (states : ℕ) (pairs : List (List ℕ)) → IsTableOf kind table → length link.columns ≡ symbols
    → states ≡ state_count automaton → pairs ≡ link.pairs → Begins states table.states pairs → FitsLink symbols automaton kind link
fits-link symbols automaton link kind table states pairs is columns count same begins =
    let all = subst (Begins states table.states) same begins in
    record {
      columns = columns;
      table = table;
      table_is = is;
      left_below = λ k d below. subst (λ n. left (get_or link.pairs k d) < n) count (all k d below).0;
      middle_below = λ k d below. (all k d below).1;
    }

pub link-begins : (symbols : ℕ) (automaton link : LinkParts) (kind : Kind) (table : Table) (states : ℕ) (pairs : List (List ℕ)) → IsTableOf kind table → states ≡ state_count automaton
    → pairs ≡ link.pairs → FitsLink symbols automaton kind link → Begins states table.states pairs
link-begins symbols automaton link kind table states pairs is count same fits =
    let one = alike kind fits.table table fits.table_is is in
    subst (Begins states table.states) (sym same)
    (λ k d below. (subst (λ n. left (get_or link.pairs k d) < n) (sym count) (fits.left_below k d below), subst (λ n. middle (get_or link.pairs k d) < n) one.states (fits.middle_below k d below)))

pub fits-pairs : (automaton : LinkParts) (kind : Kind) (table : Table) (states : ℕ) (xs pairs : List (List ℕ)) → IsTableOf kind table → states ≡ state_count automaton → xs ≡ pairs
    → Begins states table.states xs → FitsPairs automaton kind pairs
fits-pairs automaton kind table states xs pairs is count same begins =
    let all = subst (Begins states table.states) same begins in
    record {
      table = table;
      table_is = is;
      left_below = λ k d below. subst (λ n. left (get_or pairs k d) < n) count (all k d below).0;
      middle_below = λ k d below. (all k d below).1;
    }

pub pairs-begin : (automaton : LinkParts) (kind : Kind) (table : Table) (states : ℕ) (xs pairs : List (List ℕ)) → IsTableOf kind table → states ≡ state_count automaton → xs ≡ pairs
    → FitsPairs automaton kind pairs → Begins states table.states xs
pairs-begin automaton kind table states xs pairs is count same fits =
    let one = alike kind fits.table table fits.table_is is in
    subst (Begins states table.states) (sym same)
    (λ k d below. (subst (λ n. left (get_or pairs k d) < n) (sym count) (fits.left_below k d below), subst (λ n. middle (get_or pairs k d) < n) one.states (fits.middle_below k d below)))

pub link-middle : (symbols : ℕ) (automaton link : LinkParts) (kind : Kind) (table : Table) → IsTableOf kind table → FitsLink symbols automaton kind link → All (λ triple. middle triple < table.states) link.pairs
link-middle symbols automaton link kind table is fits k d below = subst (λ n. middle (get_or link.pairs k d) < n) (alike kind fits.table table fits.table_is is).states (fits.middle_below k d below)

pub pairs-middle : (automaton : LinkParts) (kind : Kind) (table : Table) (pairs : List (List ℕ)) → IsTableOf kind table → FitsPairs automaton kind pairs → All (λ pair. middle pair < table.states) pairs
pairs-middle automaton kind table pairs is fits k d below = subst (λ n. middle (get_or pairs k d) < n) (alike kind fits.table table fits.table_is is).states (fits.middle_below k d below)

-- ---- checks

relates-same : (symbols : ℕ) (automaton : LinkParts) (c : Constraint) (link : LinkParts) (a b : Table) → AreAlike a b → All (λ triple. middle triple < a.states) link.pairs
    → Relates symbols automaton c a link → Relates symbols automaton c b link
relates-same symbols automaton c link a b one below is = record {
  starts = subst (λ n. Holds link.pairs (0 ∷ n ∷ 0 ∷ [])) one.start is.starts;
  closed = λ s less. record {
    each = λ k d there.
        subst (λ n. Holds link.pairs (step automaton (left (get_or link.pairs k d)) s ∷ n ∷ step link (right (get_or link.pairs k d)) s ∷ [])) (one.next (middle (get_or link.pairs k d)) (class c s) (below k d there)) ((is.closed s less).each k d there);
  };
  accepts = λ k d there by_left by_middle. is.accepts k d there by_left (one.accepting (middle (get_or link.pairs k d)) (below k d there) ∙ by_middle);
}

decides-same : (symbols : ℕ) (automaton : LinkParts) (d : Dropped) (pairs : List (List ℕ)) (a b : Table) → AreAlike a b → All (λ pair. middle pair < a.states) pairs
    → Decides symbols automaton d a pairs → Decides symbols automaton d b pairs
decides-same symbols automaton d pairs a b one below is = record {
  starts = subst (λ n. Holds pairs (0 ∷ n ∷ [])) one.start is.starts;
  closed = λ s less. record {
    each = λ k e there. subst (λ n. Holds pairs (step automaton (left (get_or pairs k e)) s ∷ n ∷ [])) (one.next (middle (get_or pairs k e)) (class d.constraint s) (below k e there)) ((is.closed s less).each k e there);
  };
  accepts = λ k e there by_left. sym (one.accepting (middle (get_or pairs k e)) (below k e there)) ∙ is.accepts k e there by_left;
}

pub related-by : (symbols : ℕ) (automaton : LinkParts) (c : Constraint) (link : LinkParts) (table : Table) → IsTableOf c.kind table → FitsLink symbols automaton c.kind link
    → IsRelated symbols automaton c link → Relates symbols automaton c table link
related-by symbols automaton c link table is fits related =
    relates-same symbols automaton c link related.table table (alike c.kind related.table table related.table_is is) (link-middle symbols automaton link c.kind related.table related.table_is fits) related.relates

pub decided-by : (symbols : ℕ) (automaton : LinkParts) (d : Dropped) (pairs : List (List ℕ)) (table : Table) → IsTableOf d.constraint.kind table → FitsPairs automaton d.constraint.kind pairs
    → IsDecided symbols automaton d pairs → Decides symbols automaton d table pairs
decided-by symbols automaton d pairs table is fits decided =
    decides-same symbols automaton d pairs decided.table table (alike d.constraint.kind decided.table table decided.table_is is) (pairs-middle automaton d.constraint.kind decided.table pairs decided.table_is fits) decided.decides
