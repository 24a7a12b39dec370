-- Internal: the links of a chain one after the other, and the pairs of the dropped constraints.
use Rattle.std.specs.Prelude.{◌≡◌, ◌↔◌, ℕ, ◌<◌, List, length, true, false}
use Rattle.dfa_core.specs.Automaton.{Automaton, Accepts}
use Rattle.dfa_core.specs.Traces.{IsTrace}
use Rattle.template_core.specs.Keeping.{KeepsAll, KeepsOne}
use Rattle.template_core.specs.declared.constraint.Constraint.{Constraint}
use Rattle.chain_cert.specs.Checks.{IsDecided, IsRelated}
use Rattle.chain_cert.specs.Forms.{FitsLink, FitsPairs}
use Rattle.chain_cert.specs.Links.{before, last, link_at}
use Rattle.chain_cert.specs.Parts.{LinkParts, constraint_at, dropped_at, list_at}
use Rattle.chain_cert.specs.declared.claim.Dropped.{Dropped}
use Rattle.chain_make.specs.Copies.{Copies}

-- the next automaton accepts what the one before accepts and the constraint keeps, and its link comes after each link of the one before
pub record IsNext (a : Automaton) (c : Constraint) (next : Automaton) (link : LinkParts) : Type 0 where
  pub over : next.symbols ≡ a.symbols
  pub keeps : (w : List ℕ) → IsTrace a.symbols w → Accepts next w ↔ Accepts a w × KeepsOne c w
  pub copied : Copies next link
  pub fits : (automaton : LinkParts) → Copies a automaton → FitsLink a.symbols automaton c.kind link
  pub related : (automaton : LinkParts) → Copies a automaton → IsRelated a.symbols automaton c link

-- a link for each constraint of a model, and the automaton of the last one, which accepts what keeps the model
pub record AreLinks (n : ℕ) (model : List Constraint) (links : List LinkParts) (a : Automaton) : Type 0 where
  pub over : a.symbols ≡ n
  pub keeps : (w : List ℕ) → IsTrace n w → Accepts a w ↔ KeepsAll model w
  pub copied : Copies a (last links)
  pub as_many : length links ≡ length model
  pub fit : (i : ℕ) → i < length model → FitsLink n (before links i) (constraint_at model i).kind (link_at links i)
  pub related : (i : ℕ) → i < length model → IsRelated n (before links i) (constraint_at model i) (link_at links i)

-- what the automaton accepts keeps the constraint, or none of it does if it was dropped as a conflict
pub record Settles (a : Automaton) (d : Dropped) : Type 0 where
  pub implied : d.conflict ≡ false → (w : List ℕ) → IsTrace a.symbols w → Accepts a w → KeepsOne d.constraint w
  pub conflict : d.conflict ≡ true → (w : List ℕ) → IsTrace a.symbols w → Accepts a w → KeepsOne d.constraint w → ⊥

-- pairs that show it, with each link of the automaton
pub record ArePairs (a : Automaton) (d : Dropped) (pairs : List (List ℕ)) : Type 0 where
  pub fit : (automaton : LinkParts) → Copies a automaton → FitsPairs automaton d.constraint.kind pairs
  pub decided : (automaton : LinkParts) → Copies a automaton → IsDecided a.symbols automaton d pairs

-- pairs for each dropped constraint
pub record AreImplied (a : Automaton) (dropped : List Dropped) (implied : List (List (List ℕ))) : Type 0 where
  pub as_many : length implied ≡ length dropped
  pub each : (i : ℕ) → i < length dropped → ArePairs a (dropped_at dropped i) (list_at implied i)
