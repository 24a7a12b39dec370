-- What each step of the reduction is given and what it makes of the decisions: internal to the crate.
use Rattle.std.specs.List.{All as Every, HoldsAt}
use Rattle.std.specs.Prelude.{◌≡◌, ◌⊎◌, ℕ, suc, ◌+◌, ◌<◌, ◌≤◌, List, [], ◌∷◌, ◌++◌, Bool, Option, None, Some, length, map, take, drop, get_or, slice_get, ⊤}
use Rattle.decl_base.specs.Limits.{greatest_state_limit, standard}
use Rattle.decl_base.specs.declared.refusal.Refusal.{Refusal}
use Rattle.decl_base.specs.declared.refusal.Refusal.TheVariants.{States, Memory}
use Rattle.dfa_core.specs.Automaton.{Automaton, IsEverything, state_count}
use Rattle.dfa_core.specs.Languages.{HasNoMember, IsLeastMember}
use Rattle.dfa_minimise.specs.Wide.{IsWide}
use Rattle.template_core.specs.Constraints.{IsWellMadeFor}
use Rattle.template_core.specs.declared.constraint.Constraint.{Constraint}
use Rattle.reduce_model.specs.Building.{AreNarrow, IsFirstOfWide, all_but_each, in_phase, tests, up_to_each}
use Rattle.reduce_model.specs.Deciding.{after, as_sifted, before, is_kept, is_left, is_strongest, marked, those}
use Rattle.reduce_model.specs.Keeping.{KeepsAll, KeepsOne}
use Rattle.reduce_model.specs.Reduction.{AreWitnesses, Breaks, Implies, IsReduction, TellsFirstPass, TellsSecondPass, TellsWeaker}
use Rattle.list_dfa.specs.Extending.{AcceptsKept, Extends}
use Rattle.reduce_model.specs.Sifting.{kept_of}
use Rattle.reduce_model.specs.Within.{AreWitnessesWithin, IsClosed, IsFirstPassedWithin, IsReductionWithin, IsSecondPassedWithin, TellsUntested}
use Rattle.reduce_model.specs.declared.decision.Decision.{Decision}
use Rattle.reduce_model.specs.declared.decision.Decision.TheVariants.{Kept, FirstPass, SecondPass, Untested}
use Rattle.reduce_model.specs.declared.grown.Sought.{Sought}
use Rattle.reduce_model.specs.declared.grown.Sought.TheVariants.{Found, Missing, TooWide}
use Rattle.reduce_model.specs.declared.first_within.FirstPassed.{FirstPassed}
use Rattle.reduce_model.specs.declared.prefixes.Prefix.{Prefix}
use Rattle.reduce_model.specs.declared.witnesses_within.Witnessed.{Witnessed}
use Rattle.list_dfa.specs.Growing.{AcceptsAll, IsNarrowFrom, IsWideFrom}
use Rattle.list_dfa.specs.Lists.{IsNarrowList, IsFirstPrefix, IsAutomatonOf}

-- a decision without the marks of what comes after the first pass, and without those of the first pass too
abbrev pub before_second_pass : Decision → Decision
before_second_pass SecondPass = Kept
before_second_pass Untested = Kept
before_second_pass decision = decision

abbrev pub before_first_pass : Decision → Decision
before_first_pass FirstPass = Kept
before_first_pass decision = before_second_pass decision

-- what each step is asked for: few constraints, each well made over the symbols below n, and a limit on states that a list may have
pub record IsAsked (n s : ℕ) (list : List Constraint) : Type 0 where
  pub made : Every (IsWellMadeFor n) list
  pub few : length list ≤ standard.candidates
  pub some_states : 1 ≤ s
  pub few_states : s ≤ greatest_state_limit

-- what pruning makes of decisions
pub record IsPruned (list : List Constraint) (old new : List Decision) : Type 0 where
  pub same : map as_sifted new ≡ old
  pub weaker : TellsWeaker list new
  pub later : map before_first_pass new ≡ new

-- what the first pass makes of them, and when it stops
pub record IsFirstPassed (n s : ℕ) (list : List Constraint) (old new : List Decision) : Type 0 where
  pub same : map before_first_pass new ≡ old
  pub first_pass : TellsFirstPass n list new
  pub later : map before_second_pass new ≡ new
  pub narrow : AreNarrow n s (in_phase 2 (up_to_each [] (those is_left list new)))

abbrev pub RefusesFirstPass : ℕ → ℕ → List Constraint → List Decision → Refusal → Type 0
RefusesFirstPass n s list old (States phase built) =
    (decisions : List Decision) → length decisions ≡ length list → map is_strongest decisions ≡ map is_strongest old → TellsFirstPass n list decisions
    → IsFirstOfWide n s (in_phase 2 (up_to_each [] (those is_left list decisions))) phase built
RefusesFirstPass n s list old Memory = ⊤
RefusesFirstPass n s list old refusal = ⊥

-- what the second pass makes of them, and when it stops
pub record IsSecondPassed (n s : ℕ) (list : List Constraint) (old new : List Decision) : Type 0 where
  pub same : map before_second_pass new ≡ old
  pub second_pass : TellsSecondPass n list new
  pub tested : (place : ℕ) → get_or new place Kept ≡ Untested → ⊥
  pub narrow : AreNarrow n s (in_phase 3 (tests [] list new))

abbrev pub RefusesSecondPass : ℕ → ℕ → List Constraint → List Decision → Refusal → Type 0
RefusesSecondPass n s list old (States phase built) =
    (decisions : List Decision) → length decisions ≡ length list → map is_left decisions ≡ map is_left old → TellsSecondPass n list decisions
    → IsFirstOfWide n s (in_phase 3 (tests [] list decisions)) phase built
RefusesSecondPass n s list old Memory = ⊤
RefusesSecondPass n s list old refusal = ⊥

-- none of the constraints of a model is implied by the others
abbrev pub IsIrredundant : ℕ → List Constraint → Type 0
IsIrredundant n model = (place : ℕ) (c : Constraint) → slice_get model place ≡ Some c → HasNoMember n (Breaks (take place model ++ drop (suc place) model) c) → ⊥

-- the witnesses of a model, and when there are none
pub record IsWitnessed (n s : ℕ) (model : List Constraint) (witnesses : List (List ℕ)) : Type 0 where
  pub witnesses_of : AreWitnesses n [] model witnesses
  pub narrow : AreNarrow n s (in_phase 4 (all_but_each [] model))

abbrev pub RefusesWitnesses : ℕ → ℕ → List Constraint → Refusal → Type 0
RefusesWitnesses n s model (States phase built) = IsFirstOfWide n s (in_phase 4 (all_but_each [] model)) phase built
RefusesWitnesses n s model Memory = ⊤
RefusesWitnesses n s model refusal = ⊥

-- what becomes of a sift's decisions in the end: with its least trace a reduction
pub record IsImpliedDropped (n s : ℕ) (list : List Constraint) (old new : List Decision) (witnesses : List (List ℕ)) : Type 0 where
  pub as_many : length new ≡ length old
  pub reduction : (example : List ℕ) → IsLeastMember n (KeepsAll (kept_of list old)) example → IsReduction n s list (record { decisions = new; witnesses = witnesses; example = example })

-- For some constraints that come after a list, from the first on, the least trace that keeps all the others and breaks it. The others are narrow.
abbrev pub AreFirstWitnesses : ℕ → ℕ → List Constraint → List Constraint → List (List ℕ) → Type 0
AreFirstWitnesses n s before after [] = ⊤
AreFirstWitnesses n s before [] (w ∷ witnesses) = ⊥
AreFirstWitnesses n s before (c ∷ after) (w ∷ witnesses) =
    (IsLeastMember n (Breaks (before ++ after) c) w × IsNarrowList n s (before ++ after)) × AreFirstWitnesses n s (before ++ c ∷ []) after witnesses

-- the least trace that keeps a list and breaks a constraint
abbrev pub IsSought : ℕ → ℕ → List Constraint → Constraint → Sought → Type 0
IsSought n s list c (Found trace) = IsLeastMember n (Breaks list c) trace × IsNarrowList n s list
IsSought n s list c Missing = HasNoMember n (Breaks list c) × IsNarrowList n s list
IsSought n s list c (TooWide size) = IsFirstPrefix n s list size

-- what others say of the constraint at a place of a list
pub record IsSoughtAt (n s : ℕ) (list : List Constraint) (place : ℕ) (others : List Constraint) (sought : Sought) : Type 0 where
  pub tells : (c : Constraint) → slice_get list place ≡ Some c → IsSought n s others c sought

-- whether the others that stand imply the candidate at a place
abbrev pub IsTestedAt : ℕ → ℕ → List Constraint → List Decision → ℕ → Sought → Type 0
IsTestedAt n s list decisions place = IsSoughtAt n s list place (before is_kept place list decisions ++ after is_kept place list decisions)

-- one witness more is known where those of old are as many as the constraints before the place, and when that stops
abbrev pub AreMoreWitnesses : ℕ → ℕ → List Constraint → ℕ → List (List ℕ) → List (List ℕ) → Type 0
AreMoreWitnesses n s model place old new =
    ((length old ≡ place → ⊥) × (new ≡ old)) ⊎ ((length old ≡ place) × ((w : List ℕ) × (new ≡ old ++ w ∷ []) × IsSoughtAt n s model place (take place model ++ drop (suc place) model) (Found w)))

abbrev pub RefusesWitness : ℕ → ℕ → List Constraint → ℕ → Refusal → Type 0
RefusesWitness n s model place (States phase built) = (phase ≡ 4) × IsSoughtAt n s model place (take place model ++ drop (suc place) model) (TooWide built)
RefusesWitness n s model place Memory = ⊤
RefusesWitness n s model place refusal = ⊥

-- a list as a prefix of others
pub record IsStart (n s : ℕ) (list : List Constraint) (prefix : Prefix) : Type 0 where
  pub automaton : IsAutomatonOf n list prefix.dfa
  pub counted : prefix.length ≡ length list
  pub narrow : IsNarrowList n s list

-- the constraints before a place that have a mark, as an automaton: neither they nor fewer of them are wide for s
pub record IsPrefixOf (n s : ℕ) (list : List Constraint) (marks : List Bool) (prefix : Prefix) : Type 0 where
  pub within : prefix.place ≤ length list
  pub automaton : IsAutomatonOf n (marked (take prefix.place marks) (take prefix.place list)) prefix.dfa
  pub counted : prefix.length ≡ length (marked (take prefix.place marks) (take prefix.place list))
  pub narrow : IsNarrowList n s (marked (take prefix.place marks) (take prefix.place list))

-- some such prefixes, the first of them without a constraint
pub record AreKeptPrefixes (n s : ℕ) (list : List Constraint) (marks : List Bool) (prefixes : List Prefix) : Type 0 where
  pub some : 0 < length prefixes
  pub first : HoldsAt (λ (prefix : Prefix). prefix.place ≡ 0) prefixes 0
  pub are : Every (IsPrefixOf n s list marks) prefixes

-- the prefix of no candidate, and that it stands alone
pub record IsEmptyPrefix (n : ℕ) (prefix : Prefix) : Type 0 where
  pub every : IsEverything n prefix.dfa
  pub place : prefix.place ≡ 0
  pub none : prefix.length ≡ 0

pub record IsFirstPrefixAlone (n : ℕ) (prefixes : List Prefix) : Type 0 where
  pub prefix : Prefix
  pub alone : prefixes ≡ prefix ∷ []
  pub empty : IsEmptyPrefix n prefix

-- a prefix with one constraint more, or that it is wide
abbrev pub IsLonger : ℕ → Prefix → Constraint → Option Prefix → Type 0
IsLonger s prefix c None = IsWide prefix.dfa.symbols (AcceptsKept prefix.dfa c) s
IsLonger s prefix c (Some more) = Extends s prefix.dfa c more.dfa × (more.length ≡ prefix.length + 1)

-- a prefix stands behind the others, or there was no room for it
abbrev pub IsKeptBehind : List Prefix → Prefix → List Prefix → Type 0
IsKeptBehind old prefix new = (new ≡ old ++ prefix ∷ []) ⊎ (new ≡ old)

-- what an automaton accepts that keeps a list too and breaks a constraint
abbrev pub AcceptsBreaks : Automaton → List Constraint → Constraint → List ℕ → Type 0
AcceptsBreaks a list c w = AcceptsAll a list w × (KeepsOne c w → ⊥)

-- the least such trace, or the first part of the list that is wide: its length is counted on
abbrev pub IsSoughtFrom : ℕ → Automaton → ℕ → List Constraint → Constraint → Sought → Type 0
IsSoughtFrom s a before list c (Found trace) = IsLeastMember a.symbols (AcceptsBreaks a list c) trace × IsNarrowFrom s a list
IsSoughtFrom s a before list c Missing = HasNoMember a.symbols (AcceptsBreaks a list c) × IsNarrowFrom s a list
IsSoughtFrom s a before list c (TooWide size) = (count : ℕ) × (size ≡ before + count) × IsWideFrom s a list count

-- ---- within a limit

-- past a place, whatever comes after what is left is closed
abbrev pub AreClosedPast : ℕ → ℕ → List Constraint → List Bool → ℕ → Type 0
AreClosedPast n s list marks wide = (place : ℕ) (rest : List Constraint) → wide < place → place ≤ length list → IsClosed n s (marked (take place marks) (take place list) ++ rest)

-- what the first pass makes of decisions, and what it keeps for the second
pub record IsFirstPassedOf (n s : ℕ) (list : List Constraint) (old : List Decision) (passed : FirstPassed) : Type 0 where
  pub same : map before_first_pass passed.decisions.items ≡ old
  pub later : map before_second_pass passed.decisions.items ≡ passed.decisions.items
  pub first_pass : IsFirstPassedWithin n s [] list passed.decisions.items
  pub prefixes : AreKeptPrefixes n s list (map is_left passed.decisions.items) passed.prefixes.items
  pub closed : AreClosedPast n s list (map is_left passed.decisions.items) passed.wide

-- What the second pass makes of those that are left: one whose test is closed is untested.
abbrev pub IsTestedWithin : ℕ → ℕ → List Constraint → List Constraint → List Decision → Type 0
IsTestedWithin n s left [] decisions = ⊤
IsTestedWithin n s left (c ∷ list) [] = ⊤
IsTestedWithin n s left (c ∷ list) (SecondPass ∷ decisions) =
    (IsClosed n s (left ++ those is_kept list decisions) → ⊥) × Implies n (left ++ those is_kept list decisions) c × IsTestedWithin n s (left ++ c ∷ []) list decisions
IsTestedWithin n s left (c ∷ list) (Kept ∷ decisions) =
    (IsClosed n s (left ++ those is_kept list decisions) → ⊥) × (Implies n (left ++ those is_kept list decisions) c → ⊥) × IsTestedWithin n s (left ++ c ∷ []) list decisions
IsTestedWithin n s left (c ∷ list) (Untested ∷ decisions) = IsClosed n s (left ++ those is_kept list decisions) × IsTestedWithin n s (left ++ c ∷ []) list decisions
IsTestedWithin n s left (c ∷ list) (decision ∷ decisions) = IsTestedWithin n s left list decisions

pub record IsSecondPassedTo (n s : ℕ) (list : List Constraint) (old new : List Decision) : Type 0 where
  pub same : map before_second_pass new ≡ old
  pub tested : IsTestedWithin n s [] list new

-- an automaton of a list that isn't wide, where there is one, and the list with one constraint more
abbrev pub IsStartOf : ℕ → ℕ → List Constraint → Option Prefix → Type 0
IsStartOf n s list None = IsClosed n s list
IsStartOf n s list (Some prefix) = IsStart n s list prefix

abbrev pub IsSmall : Option Prefix → Type 0
IsSmall None = ⊤
IsSmall (Some prefix) = state_count prefix.dfa ≤ greatest_state_limit

abbrev pub length_of : Option Prefix → ℕ
length_of None = 0
length_of (Some prefix) = prefix.length

abbrev pub IsNext : ℕ → Option Prefix → Constraint → Option Prefix → Type 0
IsNext s None c next = next ≡ None
IsNext s (Some prefix) c next = IsLonger s prefix c next

-- what is found of the others of a constraint: nothing where there is no automaton of those before it, or a list with them is wide
abbrev pub IsFoundOf : ℕ → Option Prefix → List Constraint → Constraint → Option (List ℕ) → Type 0
IsFoundOf s None list c found = found ≡ None
IsFoundOf s (Some prefix) list c None = (size : ℕ) × IsWideFrom s prefix.dfa list size
IsFoundOf s (Some prefix) list c (Some trace) = IsLeastMember prefix.dfa.symbols (AcceptsBreaks prefix.dfa list c) trace × IsNarrowFrom s prefix.dfa list

-- no trace that an automaton accepts and that keeps a list breaks the constraint: that is left out
abbrev pub IsBreakable : Option Prefix → List Constraint → Constraint → Type 0
IsBreakable None list c = ⊤
IsBreakable (Some prefix) list c = HasNoMember prefix.dfa.symbols (AcceptsBreaks prefix.dfa list c) → ⊥

-- the decisions in the end, and the witnesses of those that are kept
pub record IsWitnessedWithin (n s : ℕ) (list : List Constraint) (old : List Decision) (witnessed : Witnessed) : Type 0 where
  pub same : map before_second_pass witnessed.decisions.items ≡ map before_second_pass old
  pub second_pass : IsSecondPassedWithin n s [] list witnessed.decisions.items
  pub untested : TellsUntested n s [] [] list witnessed.decisions.items
  pub witnesses : AreWitnessesWithin n [] list witnessed.decisions.items witnessed.witnesses.items

-- what becomes of a sift's decisions in the end: with its least trace a reduction
abbrev pub IsDroppedWithin : ℕ → ℕ → List Constraint → List Decision → Witnessed → Type 0
IsDroppedWithin n s list old witnessed =
    (example : List ℕ) → IsLeastMember n (KeepsAll (kept_of list old)) example → IsReductionWithin n s list (record { decisions = witnessed.decisions.items; witnesses = witnessed.witnesses.items; example = example })
