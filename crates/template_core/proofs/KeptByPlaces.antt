-- Where a trace keeps a constraint, in words of places.
use Rattle.std.proofs.Common.{ℕ, ◌≤◌, List, length, nat_eq, arith}
use Rattle.std.proofs.lemmas.Option.{slice_get_within}
use Rattle.template_core.proofs.ByPlaces.{activated-iff, fulfilled-iff}
use Rattle.template_core.specs.Constraints.{IsWellMade}
use Rattle.template_core.specs.Places.{EventIs, ActivatedAt, FulfilledAt}
use Rattle.template_core.specs.Repertoire.{Keeps}
use Rattle.template_core.specs.declared.kind.Kind.{Kind}

abbrev pub KeptByPlaces : Kind → ℕ → ℕ → List ℕ → Type 0
KeptByPlaces kind a b trace = (i : ℕ) → i ≤ length trace → ActivatedAt kind a b trace i → FulfilledAt kind a b trace i

pub to_places : (kind : Kind) (a b : ℕ) → IsWellMade kind a b → (trace : List ℕ) → Keeps nat_eq kind a b trace → KeptByPlaces kind a b trace
to_places kind a b made trace keeps i le active = (fulfilled-iff kind a b trace i made active).0 (keeps i le ((activated-iff kind a b trace i).1 active))

pub from_places : (kind : Kind) (a b : ℕ) → IsWellMade kind a b → (trace : List ℕ) → KeptByPlaces kind a b trace → Keeps nat_eq kind a b trace
from_places kind a b made trace kept i le active =
    let at = (activated-iff kind a b trace i).0 active in
    (fulfilled-iff kind a b trace i made at).1 (kept i le at)

-- events stand before the end
pub within : (a : ℕ) (trace : List ℕ) (i : ℕ) → EventIs a trace i → i ≤ length trace
within a trace i is = omega (arith, slice_get_within trace i a is)
