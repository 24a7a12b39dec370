-- The reduction that goes on at the limit: where a list is wide, the constraint that would make it so is left out, or no test of it is made.
use Rattle.std.specs.Prelude.{◌⊎◌, ℕ, List, [], ◌∷◌, ◌++◌, Bool, true, false, map, take, ⊤}
use Rattle.dfa_core.specs.Languages.{HasNoMember, IsLeastMember}
use Rattle.dfa_minimise.specs.Wide.{IsWide}
use Rattle.template_core.specs.declared.constraint.Constraint.{Constraint}
use Rattle.reduce_model.specs.Deciding.{as_sifted, is_kept, those}
use Rattle.reduce_model.specs.Keeping.{KeepsAll, IsKeepable}
use Rattle.reduce_model.specs.Reduction.{Breaks, Implies, Reduction, TellsWeaker}
use Rattle.reduce_model.specs.Sifting.{Sifting, kept_of}
use Rattle.reduce_model.specs.declared.decision.Decision.{Decision}
use Rattle.reduce_model.specs.declared.decision.Decision.TheVariants.{Kept, Conflict, Weaker, FirstPass, SecondPass, Beyond, Untested}

-- the traces that keep a list tell more than s traces apart
abbrev pub IsWideList : ℕ → ℕ → List Constraint → Type 0
IsWideList n s list = IsWide n (KeepsAll list) s

-- the list or a prefix of it is wide for s
pub record IsClosed (n s : ℕ) (list : List Constraint) : Type 0 where
  pub size : ℕ
  pub wide : IsWideList n s (take size list)

-- The sift: a candidate joins the kept list where some trace keeps that list and it, and the list with it isn't wide. Where no trace does, it is a conflict. Where
-- the list with it is wide, it is beyond.
abbrev pub IsSiftedWithin : ℕ → ℕ → List Constraint → List Constraint → List Decision → Type 0
IsSiftedWithin n s kept [] [] = ⊤
IsSiftedWithin n s kept [] (decision ∷ decisions) = ⊥
IsSiftedWithin n s kept (c ∷ list) [] = ⊥
IsSiftedWithin n s kept (c ∷ list) (Kept ∷ decisions) = IsKeepable n (kept ++ c ∷ []) × (IsWideList n s (kept ++ c ∷ []) → ⊥) × IsSiftedWithin n s (kept ++ c ∷ []) list decisions
IsSiftedWithin n s kept (c ∷ list) (Conflict ∷ decisions) = HasNoMember n (KeepsAll (kept ++ c ∷ [])) × IsSiftedWithin n s kept list decisions
IsSiftedWithin n s kept (c ∷ list) (Beyond ∷ decisions) = IsKeepable n (kept ++ c ∷ []) × IsWideList n s (kept ++ c ∷ []) × IsSiftedWithin n s kept list decisions
IsSiftedWithin n s kept (c ∷ list) (decision ∷ decisions) = ⊥

-- The first pass: a constraint is dropped where a list implies it. Another is left, and it joins that list where the list with it isn't wide.
abbrev pub IsFirstPassedWithin : ℕ → ℕ → List Constraint → List Constraint → List Decision → Type 0
IsFirstPassedWithin n s joined [] decisions = ⊤
IsFirstPassedWithin n s joined (c ∷ list) [] = ⊤
IsFirstPassedWithin n s joined (c ∷ list) (Conflict ∷ decisions) = IsFirstPassedWithin n s joined list decisions
IsFirstPassedWithin n s joined (c ∷ list) (Beyond ∷ decisions) = IsFirstPassedWithin n s joined list decisions
IsFirstPassedWithin n s joined (c ∷ list) (Weaker by ∷ decisions) = IsFirstPassedWithin n s joined list decisions
IsFirstPassedWithin n s joined (c ∷ list) (FirstPass ∷ decisions) = Implies n joined c × IsFirstPassedWithin n s joined list decisions
IsFirstPassedWithin n s joined (c ∷ list) (decision ∷ decisions) =
    (Implies n joined c → ⊥)
    × ((IsWideList n s (joined ++ c ∷ []) × IsFirstPassedWithin n s joined list decisions) ⊎ ((IsWideList n s (joined ++ c ∷ []) → ⊥) × IsFirstPassedWithin n s (joined ++ c ∷ []) list decisions))

-- The second pass: of those that are left, the ones before a constraint and those after it that stay are its test. It is dropped where its test isn't closed
-- and implies it.
abbrev pub IsSecondPassedWithin : ℕ → ℕ → List Constraint → List Constraint → List Decision → Type 0
IsSecondPassedWithin n s left [] decisions = ⊤
IsSecondPassedWithin n s left (c ∷ list) [] = ⊤
IsSecondPassedWithin n s left (c ∷ list) (SecondPass ∷ decisions) =
    (IsClosed n s (left ++ those is_kept list decisions) → ⊥) × Implies n (left ++ those is_kept list decisions) c × IsSecondPassedWithin n s (left ++ c ∷ []) list decisions
IsSecondPassedWithin n s left (c ∷ list) (Kept ∷ decisions) =
    (Implies n (left ++ those is_kept list decisions) c → IsClosed n s (left ++ those is_kept list decisions)) × IsSecondPassedWithin n s (left ++ c ∷ []) list decisions
IsSecondPassedWithin n s left (c ∷ list) (Untested ∷ decisions) =
    (Implies n (left ++ those is_kept list decisions) c → IsClosed n s (left ++ those is_kept list decisions)) × IsSecondPassedWithin n s (left ++ c ∷ []) list decisions
IsSecondPassedWithin n s left (c ∷ list) (decision ∷ decisions) = IsSecondPassedWithin n s left list decisions

-- Of those that stay, a constraint is untested where its test is closed, or the list of all the others that stay.
abbrev pub TellsUntested : ℕ → ℕ → List Constraint → List Constraint → List Constraint → List Decision → Type 0
TellsUntested n s left kept [] decisions = ⊤
TellsUntested n s left kept (c ∷ list) [] = ⊤
TellsUntested n s left kept (c ∷ list) (Kept ∷ decisions) =
    (IsClosed n s (left ++ those is_kept list decisions) → ⊥) × (IsClosed n s (kept ++ those is_kept list decisions) → ⊥) × TellsUntested n s (left ++ c ∷ []) (kept ++ c ∷ []) list decisions
TellsUntested n s left kept (c ∷ list) (Untested ∷ decisions) =
    (IsClosed n s (left ++ those is_kept list decisions) ⊎ IsClosed n s (kept ++ those is_kept list decisions)) × TellsUntested n s (left ++ c ∷ []) (kept ++ c ∷ []) list decisions
TellsUntested n s left kept (c ∷ list) (SecondPass ∷ decisions) = TellsUntested n s (left ++ c ∷ []) kept list decisions
TellsUntested n s left kept (c ∷ list) (decision ∷ decisions) = TellsUntested n s left kept list decisions

-- what each decision says of the candidate at its place
pub record IsReducedWithin (n s : ℕ) (list : List Constraint) (decisions : List Decision) : Type 0 where
  pub sifted : IsSiftedWithin n s [] list (map as_sifted decisions)
  pub weaker : TellsWeaker list decisions
  pub first_pass : IsFirstPassedWithin n s [] list decisions
  pub second_pass : IsSecondPassedWithin n s [] list decisions
  pub untested : TellsUntested n s [] [] list decisions

-- a witness is told of it
abbrev pub has_witness : Decision → Bool
has_witness Kept = true
has_witness decision = false

-- for each constraint that is kept and not untested, the least trace that keeps all the others that stay and breaks it
abbrev pub AreWitnessesWithin : ℕ → List Constraint → List Constraint → List Decision → List (List ℕ) → Type 0
AreWitnessesWithin n kept [] decisions [] = ⊤
AreWitnessesWithin n kept [] decisions (w ∷ witnesses) = ⊥
AreWitnessesWithin n kept (c ∷ list) [] witnesses = ⊥
AreWitnessesWithin n kept (c ∷ list) (Kept ∷ decisions) [] = ⊥
AreWitnessesWithin n kept (c ∷ list) (Kept ∷ decisions) (w ∷ witnesses) = IsLeastMember n (Breaks (kept ++ those is_kept list decisions) c) w × AreWitnessesWithin n (kept ++ c ∷ []) list decisions witnesses
AreWitnessesWithin n kept (c ∷ list) (Untested ∷ decisions) witnesses = AreWitnessesWithin n (kept ++ c ∷ []) list decisions witnesses
AreWitnessesWithin n kept (c ∷ list) (decision ∷ decisions) witnesses = AreWitnessesWithin n kept list decisions witnesses

-- the marks are those of the sift within the limit, and the trace is the least that keeps the kept list
pub record IsSiftWithin (n s : ℕ) (list : List Constraint) (sifting : Sifting) : Type 0 where
  pub sifted : IsSiftedWithin n s [] list sifting.decisions
  pub example : IsLeastMember n (KeepsAll (kept_of list sifting.decisions)) sifting.example

-- the decisions are those of the reduction within the limit, and the traces the least of their kind
pub record IsReductionWithin (n s : ℕ) (list : List Constraint) (reduction : Reduction) : Type 0 where
  pub reduced : IsReducedWithin n s list reduction.decisions
  pub witnesses : AreWitnessesWithin n [] list reduction.decisions reduction.witnesses
  pub example : IsLeastMember n (KeepsAll (those is_kept list reduction.decisions)) reduction.example
