-- The four checks, and what verifying answers.
use Rattle.std.specs.Prelude.{◌≡◌, ◌≢◌, ◌⊎◌, ℕ, ◌+◌, ◌<◌, List, [], ◌∷◌, length, true, not, All, Option, MatchOption}
use Rattle.template_core.specs.Tables.{accepts_at, class, step as table_step}
use Rattle.template_core.specs.declared.constraint.Constraint.{Constraint}
use Rattle.template_core.specs.declared.table.Table.{Table}
use Rattle.chain_cert.specs.Forms.{Holds, left, middle, right}
use Rattle.template_core.specs.Keeping.{KeepsOne}
use Rattle.chain_cert.specs.Links.{is_accepting, step, before, last, link_at}
use Rattle.chain_cert.specs.Parts.{ClaimParts, ChainParts, LinkParts, constraint_at, dropped_at, list_at}
use Rattle.chain_cert.specs.Tables.{IsTableOf}
use Rattle.chain_cert.specs.declared.claim.Dropped.{Dropped}
use Rattle.chain_cert.specs.declared.verdict.Verdict.{Verdict}
use Rattle.chain_cert.specs.declared.verdict.Verdict.TheVariants.{Yes, No}

-- the first check: the example keeps the constraint at a place
abbrev pub KeepsExample : ClaimParts → ℕ → Type 0
KeepsExample claim i = KeepsOne (constraint_at claim.model i) claim.example

-- the second: the witness at a place keeps all other constraints and breaks its own
pub record IsWitnessOf (model : List Constraint) (witnesses : List (List ℕ)) (i : ℕ) : Type 0 where
  pub keeps_others : (j : ℕ) → j < length model → j ≢ i → KeepsOne (constraint_at model j) (list_at witnesses i)
  pub breaks_own : KeepsOne (constraint_at model i) (list_at witnesses i) → ⊥

abbrev pub IsWitness : ClaimParts → ℕ → Type 0
IsWitness claim i = IsWitnessOf claim.model claim.witnesses i

-- what that asks of the witness at i and the constraint at j
pub record Suits (c : Constraint) (j i : ℕ) (w : List ℕ) : Type 0 where
  pub kept : j ≢ i → KeepsOne c w
  pub broken : j ≡ i → KeepsOne c w → ⊥

-- a triple stepped by a symbol, and the triples hold each of them so stepped
abbrev pub step_triple : LinkParts → Table → Constraint → LinkParts → ℕ → List ℕ → List ℕ
step_triple automaton table c link s triple =
    step automaton (left triple) s ∷ table_step table (middle triple) (class c s) ∷ step link (right triple) s ∷ []

pub record IsClosedUnder (automaton : LinkParts) (c : Constraint) (table : Table) (link : LinkParts) (s : ℕ) : Type 0 where
  pub each : All (λ triple. Holds link.pairs (step_triple automaton table c link s triple)) link.pairs

-- the same with pairs
abbrev pub step_pair : LinkParts → Table → Constraint → ℕ → List ℕ → List ℕ
step_pair automaton table c s pair = step automaton (left pair) s ∷ table_step table (middle pair) (class c s) ∷ []

pub record ArePairsClosedUnder (automaton : LinkParts) (c : Constraint) (table : Table) (pairs : List (List ℕ)) (s : ℕ) : Type 0 where
  pub each : All (λ pair. Holds pairs (step_pair automaton table c s pair)) pairs

-- the third, with the table of the constraint's template: the triples hold the starts, they are closed under steps, and where the first two states accept, the third does
pub record Relates (symbols : ℕ) (automaton : LinkParts) (c : Constraint) (table : Table) (link : LinkParts) : Type 0 where
  pub starts : Holds link.pairs (0 ∷ table.start ∷ 0 ∷ [])
  pub closed : (s : ℕ) → s < symbols → IsClosedUnder automaton c table link s
  pub accepts :
      All (λ triple. is_accepting automaton (left triple) ≡ true → accepts_at table (middle triple) ≡ true → is_accepting link (right triple) ≡ true) link.pairs

pub record IsRelated (symbols : ℕ) (automaton : LinkParts) (c : Constraint) (link : LinkParts) : Type 0 where
  pub table : Table
  pub table_is : IsTableOf c.kind table
  pub relates : Relates symbols automaton c table link

abbrev pub IsLinked : ClaimParts → ChainParts → ℕ → Type 0
IsLinked claim chain i = IsRelated claim.symbols (before chain.links i) (constraint_at claim.model i) (link_at chain.links i)

-- the fourth, the same with pairs: where the first state accepts, the second does, or doesn't if the constraint was dropped as a conflict
pub record Decides (symbols : ℕ) (automaton : LinkParts) (d : Dropped) (table : Table) (pairs : List (List ℕ)) : Type 0 where
  pub starts : Holds pairs (0 ∷ table.start ∷ [])
  pub closed : (s : ℕ) → s < symbols → ArePairsClosedUnder automaton d.constraint table pairs s
  pub accepts : All (λ pair. is_accepting automaton (left pair) ≡ true → accepts_at table (middle pair) ≡ not d.conflict) pairs

pub record IsDecided (symbols : ℕ) (automaton : LinkParts) (d : Dropped) (pairs : List (List ℕ)) : Type 0 where
  pub table : Table
  pub table_is : IsTableOf d.constraint.kind table
  pub decides : Decides symbols automaton d table pairs

abbrev pub IsImplied : ClaimParts → ChainParts → ℕ → Type 0
IsImplied claim chain i = IsDecided claim.symbols (last chain.links) (dropped_at claim.dropped i) (list_at chain.implied i)

-- a check holds of each of n items
abbrev pub HoldsOfEach : (ℕ → Type 0) → ℕ → Type 0
HoldsOfEach P n = (i : ℕ) → i < n → P i

-- the item with this number, from 1, is the first of which a check fails
pub record FailsFirstAt (P : ℕ → Type 0) (n at : ℕ) : Type 0 where
  pub place : ℕ
  pub number : at ≡ place + 1
  pub there : place < n
  pub earlier : (i : ℕ) → i < place → P i
  pub fails : P place → ⊥

-- where a check fails first among n items, or that it holds of each
abbrev pub IsFirstFailure : (ℕ → Type 0) → ℕ → Option ℕ → Type 0
IsFirstFailure P n found = MatchOption found (HoldsOfEach P n) (FailsFirstAt P n)

-- all four checks hold
pub record IsRight (claim : ClaimParts) (chain : ChainParts) : Type 0 where
  pub example : HoldsOfEach (KeepsExample claim) (length claim.model)
  pub witnesses : HoldsOfEach (IsWitness claim) (length claim.model)
  pub links : HoldsOfEach (IsLinked claim chain) (length claim.model)
  pub implied : HoldsOfEach (IsImplied claim chain) (length claim.dropped)

-- the check with this number fails first at this item, and the checks before it hold
abbrev pub FailsAt : ClaimParts → ChainParts → ℕ → ℕ → Type 0
FailsAt claim chain check at =
    ((check ≡ 1) × FailsFirstAt (KeepsExample claim) (length claim.model) at)
    ⊎ (HoldsOfEach (KeepsExample claim) (length claim.model)
    × (((check ≡ 2) × FailsFirstAt (IsWitness claim) (length claim.model) at)
    ⊎ (HoldsOfEach (IsWitness claim) (length claim.model)
    × (((check ≡ 3) × FailsFirstAt (IsLinked claim chain) (length claim.model) at)
    ⊎ (HoldsOfEach (IsLinked claim chain) (length claim.model) × ((check ≡ 4) × FailsFirstAt (IsImplied claim chain) (length claim.dropped) at))))))

abbrev pub IsVerdict : ClaimParts → ChainParts → Verdict → Type 0
IsVerdict claim chain Yes = IsRight claim chain
IsVerdict claim chain (No check at) = FailsAt claim chain check at
