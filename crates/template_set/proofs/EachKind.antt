-- Every kind stands in the list of all kinds.
use Rattle.std.proofs.Common.{◌≡◌, ℕ, zero, suc, ◌≤◌, Bool, true, ◌&&◌, nat_le, All, refl, arith}
use Rattle.std.proofs.lemmas.Bool.{and_parts, leb-true}
use Rattle.std.proofs.lemmas.List.Sums.{AllPass-from_list_all}
use Rattle.template_core.specs.Constraints.{IsTemplate}
use Rattle.template_core.specs.declared.kind.Kind.{Kind}
use Rattle.template_core.specs.declared.kind.Kind.TheVariants.{Init, End, Participation, AtMostOne, ChainSuccession, AlternateSuccession, Succession, CoExistence, ChainResponse, AlternateResponse, Response, ChainPrecedence, AlternatePrecedence, Precedence, RespondedExistence, NotCoExistence, NotSuccession, NotChainSuccession, Exactly, AtLeast, AtMost, NotRespondedExistence, NotResponse, NotPrecedence, NotChainResponse, NotChainPrecedence}
use Rattle.template_set.specs.Names.{all_kinds}

-- a fact of each number from 1 to 9
pub one_to_nine : (Q : ℕ → Type 0) → Q 1 → Q 2 → Q 3 → Q 4 → Q 5 → Q 6 → Q 7 → Q 8 → Q 9 → (n : ℕ) → 1 ≤ n → n ≤ 9 → Q n
one_to_nine Q q1 q2 q3 q4 q5 q6 q7 q8 q9 zero some few = absurd (omega arith)
one_to_nine Q q1 q2 q3 q4 q5 q6 q7 q8 q9 (suc zero) some few = q1
one_to_nine Q q1 q2 q3 q4 q5 q6 q7 q8 q9 (suc (suc zero)) some few = q2
one_to_nine Q q1 q2 q3 q4 q5 q6 q7 q8 q9 (suc (suc (suc zero))) some few = q3
one_to_nine Q q1 q2 q3 q4 q5 q6 q7 q8 q9 (suc (suc (suc (suc zero)))) some few = q4
one_to_nine Q q1 q2 q3 q4 q5 q6 q7 q8 q9 (suc (suc (suc (suc (suc zero))))) some few = q5
one_to_nine Q q1 q2 q3 q4 q5 q6 q7 q8 q9 (suc (suc (suc (suc (suc (suc zero)))))) some few = q6
one_to_nine Q q1 q2 q3 q4 q5 q6 q7 q8 q9 (suc (suc (suc (suc (suc (suc (suc zero))))))) some few = q7
one_to_nine Q q1 q2 q3 q4 q5 q6 q7 q8 q9 (suc (suc (suc (suc (suc (suc (suc (suc zero)))))))) some few = q8
one_to_nine Q q1 q2 q3 q4 q5 q6 q7 q8 q9 (suc (suc (suc (suc (suc (suc (suc (suc (suc zero))))))))) some few = q9
one_to_nine Q q1 q2 q3 q4 q5 q6 q7 q8 q9 (suc (suc (suc (suc (suc (suc (suc (suc (suc (suc n)))))))))) some few = absurd (omega arith)

pub each_kind : (P : Kind → Type 0) → All P all_kinds → (kind : Kind) → IsTemplate kind → P kind
each_kind P all Init known = all 0 Init (omega arith)
each_kind P all End known = all 1 Init (omega arith)
each_kind P all Participation known = all 2 Init (omega arith)
each_kind P all AtMostOne known = all 3 Init (omega arith)
each_kind P all ChainSuccession known = all 4 Init (omega arith)
each_kind P all AlternateSuccession known = all 5 Init (omega arith)
each_kind P all Succession known = all 6 Init (omega arith)
each_kind P all CoExistence known = all 7 Init (omega arith)
each_kind P all ChainResponse known = all 8 Init (omega arith)
each_kind P all AlternateResponse known = all 9 Init (omega arith)
each_kind P all Response known = all 10 Init (omega arith)
each_kind P all ChainPrecedence known = all 11 Init (omega arith)
each_kind P all AlternatePrecedence known = all 12 Init (omega arith)
each_kind P all Precedence known = all 13 Init (omega arith)
each_kind P all RespondedExistence known = all 14 Init (omega arith)
each_kind P all NotCoExistence known = all 15 Init (omega arith)
each_kind P all NotSuccession known = all 16 Init (omega arith)
each_kind P all NotChainSuccession known = all 17 Init (omega arith)
each_kind P all (Exactly n) known =
    one_to_nine (λ n. P (Exactly n)) (all 18 Init (omega arith)) (all 19 Init (omega arith)) (all 20 Init (omega arith)) (all 21 Init (omega arith)) (all 22 Init (omega arith)) (all 23 Init (omega arith)) (all 24 Init (omega arith)) (all 25 Init (omega arith)) (all 26 Init (omega arith)) n known.0 known.1
each_kind P all (AtLeast n) known =
    one_to_nine (λ n. P (AtLeast n)) (all 35 Init (omega arith)) (all 34 Init (omega arith)) (all 33 Init (omega arith)) (all 32 Init (omega arith)) (all 31 Init (omega arith)) (all 30 Init (omega arith)) (all 29 Init (omega arith)) (all 28 Init (omega arith)) (all 27 Init (omega arith)) n known.0 known.1
each_kind P all (AtMost n) known =
    one_to_nine (λ n. P (AtMost n)) (all 36 Init (omega arith)) (all 37 Init (omega arith)) (all 38 Init (omega arith)) (all 39 Init (omega arith)) (all 40 Init (omega arith)) (all 41 Init (omega arith)) (all 42 Init (omega arith)) (all 43 Init (omega arith)) (all 44 Init (omega arith)) n known.0 known.1
each_kind P all NotRespondedExistence known = all 45 Init (omega arith)
each_kind P all NotResponse known = all 46 Init (omega arith)
each_kind P all NotPrecedence known = all 47 Init (omega arith)
each_kind P all NotChainResponse known = all 48 Init (omega arith)
each_kind P all NotChainPrecedence known = all 49 Init (omega arith)

-- and each kind in the list is a template, by computing
abbrev is_template : Kind → Bool
is_template (Exactly n) = nat_le 1 n && nat_le n 9
is_template (AtLeast n) = nat_le 1 n && nat_le n 9
is_template (AtMost n) = nat_le 1 n && nat_le n 9
is_template kind = true

digit : (n : ℕ) → (nat_le 1 n && nat_le n 9) ≡ true → (1 ≤ n) × (n ≤ 9)
digit n e = let both = and_parts (nat_le 1 n) (nat_le n 9) e in (leb-true 1 n both.0, leb-true n 9 both.1)

from_test : (kind : Kind) → is_template kind ≡ true → IsTemplate kind
from_test (Exactly n) e = digit n e
from_test (AtLeast n) e = digit n e
from_test (AtMost n) e = digit n e
from_test kind e = tt

pub all_templates : All IsTemplate all_kinds
all_templates place other lt = from_test _ (AllPass-from_list_all is_template all_kinds refl place other lt)
