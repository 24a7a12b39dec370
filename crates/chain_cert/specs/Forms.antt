-- Which numbers have the form of a claim, of a link, of pairs, and of a chain for a claim.
use Rattle.std.specs.Prelude.{◌≡◌, ℕ, ◌*◌, ◌<◌, ◌≤◌, List, length, All, Contains, slice_index}
use Rattle.std.specs.Cmp.Lexicographic.{slice_cmp}
use Rattle.std.specs.List.{AllAdjacentBelow}
use Rattle.std.specs.Ordering.{nat_cmp}
use Rattle.std.specs.declared.cmp.Ordering.TheVariants.{Less}
use Rattle.decl_base.specs.Limits.{standard}
use Rattle.template_core.specs.Constraints.{IsWellMadeFor}
use Rattle.template_core.specs.declared.kind.Kind.{Kind}
use Rattle.template_core.specs.declared.table.Table.{Table}
use Rattle.chain_cert.specs.Traces.{IsTrace}
use Rattle.chain_cert.specs.Links.{state_count, width, before, last, link_at}
use Rattle.chain_cert.specs.Parts.{ClaimParts, LinkParts, ChainParts, constraint_at, dropped_at, list_at}
use Rattle.chain_cert.specs.Tables.{IsTableOf}
use Rattle.chain_cert.specs.declared.claim.Dropped.{Dropped}

-- constraints and traces over the symbols, and a witness for each constraint
pub record IsClaim (claim : ClaimParts) : Type 0 where
  pub few_symbols : claim.symbols ≤ 1000
  pub few_constraints : length claim.model ≤ standard.candidates
  pub constraints_made : All (IsWellMadeFor claim.symbols) claim.model
  pub witness_for_each : length claim.witnesses ≡ length claim.model
  pub witnesses_over : All (IsTrace claim.symbols) claim.witnesses
  pub few_dropped : length claim.dropped ≤ standard.candidates
  pub dropped_made : All (λ (d : Dropped). IsWellMadeFor claim.symbols d.constraint) claim.dropped
  pub example_over : IsTrace claim.symbols claim.example

-- each is before the next, where the first number that differs decides
abbrev pub IsAscending : List (List ℕ) → Type 0
IsAscending pairs = AllAdjacentBelow (λ a b. slice_cmp nat_cmp a b ≡ Less) pairs (length pairs)

-- they hold a pair: it is one of them
pub record Holds (pairs : List (List ℕ)) (pair : List ℕ) : Type 0 where
  pub is_one : Contains pairs pair

-- the parts of a triple: a state of the automaton before, one of the table, one of the link; of a pair: one of the last link, one of the table
abbrev pub left : List ℕ → ℕ
left pair = slice_index pair 0

abbrev pub middle : List ℕ → ℕ
middle pair = slice_index pair 1

abbrev pub right : List ℕ → ℕ
right pair = slice_index pair 2

-- a row for each state, columns of them, and ascending triples that end at states
pub record IsLink (link : LinkParts) : Type 0 where
  pub some_states : 0 < state_count link
  pub rows : length link.next ≡ state_count link * width link
  pub next_below : All (λ q. q < state_count link) link.next
  pub columns_below : All (λ column. column < width link) link.columns
  pub ascending : IsAscending link.pairs
  pub right_below : All (λ triple. right triple < state_count link) link.pairs

-- a column for each symbol, and triples that begin at states of the automaton before and of the constraint's table
pub record FitsLink (symbols : ℕ) (automaton : LinkParts) (kind : Kind) (link : LinkParts) : Type 0 where
  pub columns : length link.columns ≡ symbols
  pub table : Table
  pub table_is : IsTableOf kind table
  pub left_below : All (λ triple. left triple < state_count automaton) link.pairs
  pub middle_below : All (λ triple. middle triple < table.states) link.pairs

-- pairs of states of the automaton and of the constraint's table
pub record FitsPairs (automaton : LinkParts) (kind : Kind) (pairs : List (List ℕ)) : Type 0 where
  pub table : Table
  pub table_is : IsTableOf kind table
  pub left_below : All (λ pair. left pair < state_count automaton) pairs
  pub middle_below : All (λ pair. middle pair < table.states) pairs

-- a link for each constraint, which fits
pub record FitLinks (claim : ClaimParts) (links : List LinkParts) : Type 0 where
  pub one_for_each : length links ≡ length claim.model
  pub each : (i : ℕ) → i < length claim.model → FitsLink claim.symbols (before links i) (constraint_at claim.model i).kind (link_at links i)

-- and pairs for each dropped constraint, which fit
pub record IsChain (claim : ClaimParts) (chain : ChainParts) : Type 0 where
  pub links_fit : FitLinks claim chain.links
  pub pairs_for_each : length chain.implied ≡ length claim.dropped
  pub pairs_fit : (i : ℕ) → i < length claim.dropped → FitsPairs (last chain.links) (dropped_at claim.dropped i).constraint.kind (list_at chain.implied i)
