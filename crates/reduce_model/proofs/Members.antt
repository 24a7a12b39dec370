-- The same members: the same least member, and the same traces told apart.
use Rattle.std.proofs.Common.{◌≡◌, ◌↔◌, ℕ, inl, inr, List, nat_eq}
use Rattle.dfa_core.specs.Languages.{IsLeastMember}
use Rattle.dfa_core.specs.Traces.{IsTrace}
use Rattle.template_core.proofs.KeepsTest.{Keeps-keeps}
use Rattle.template_core.specs.Repertoire.{keeps}
use Rattle.template_core.specs.declared.constraint.Constraint.{Constraint}
use Rattle.reduce_model.proofs.Marks.{true_or_false}
use Rattle.reduce_model.specs.Keeping.{KeepsOne}

pub least-same : (m n : ℕ) (P Q : List ℕ → Type 0) (t : List ℕ) → m ≡ n → ((w : List ℕ) → IsTrace n w → P w ↔ Q w) → IsLeastMember m P t → IsLeastMember n Q t
least-same m n P Q t e same least =
    let over : IsTrace n t = rw (← e) least.over in
    record {
      over = over;
      member = (same t over).0 least.member;
      none_before = λ w tw is before. least.none_before w (rw e tw) ((same w tw).1 is) before;
    }

-- a trace that can't break a constraint keeps it
pub keeps-stable : (c : Constraint) (w : List ℕ) → ((KeepsOne c w → ⊥) → ⊥) → KeepsOne c w
keeps-stable c w h = elim (true_or_false (keeps nat_eq c.kind c.first c.second w)) [
  | inl yes_ ↦ (Keeps-keeps nat_eq c.kind c.first c.second w).0 yes_
  | inr lacks ↦ absurd (h (λ kept. let yes_ = (Keeps-keeps nat_eq c.kind c.first c.second w).1 kept in cc (yes_, lacks)))
]
