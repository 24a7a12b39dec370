-- Trees and an automaton that tell the same words, by a finite relation between lists of trees and states.
use Rattle.std.proofs.Common.{◌≡◌, ℕ, zero, suc, Bool, true, false, ◌&&◌, ◌||◌, not, eqb, List, [], ◌∷◌, map, fold, refl, ap₂, subst, ◌⊎◌, inl, inr}
use Rattle.std.proofs.lemmas.Bool.{and_parts, or_cases, eqb-true}
use Rattle.std.specs.Bool.{beq}
use Rattle.std.specs.Cmp.{booleans_Decides}
use Rattle.regex_forms.proofs.SameTrees.{never, same-is}
use Rattle.regex_forms.specs.Derivatives.{same, step, some_has_empty, accepted}
use Rattle.regex_forms.specs.Trees.{Tree}
use Rattle.template_core.specs.Automaton.{class_of, run}
use Rattle.template_core.specs.declared.class.Class.{Class}
use Rattle.template_core.specs.declared.class.Class.TheVariants.{First, Second, Other}

-- a state, and trees that match what is accepted from it
abbrev pub Pair : Type 0
Pair = ℕ × List Tree

abbrev same_lists : List Tree → List Tree → Bool
same_lists [] [] = true
same_lists (t ∷ ts) (u ∷ us) = same t u && same_lists ts us
same_lists ts us = false

same_lists-is : (ts us : List Tree) → same_lists ts us ≡ true → ts ≡ us
same_lists-is [] [] h = refl
same_lists-is (t ∷ ts) (u ∷ us) h =
    let both = and_parts (same t u) (same_lists ts us) h in
    ap₂ (λ v vs. v ∷ vs) (same-is t u both.0) (same_lists-is ts us both.1)
same_lists-is [] (u ∷ us) h = never h
same_lists-is (t ∷ ts) [] h = never h

abbrev same_pair : Pair → Pair → Bool
same_pair p q = eqb p.0 q.0 && same_lists p.1 q.1

pair : ℕ → List Tree → Pair
pair state trees = (state, trees)

same_pair-is : (p q : Pair) → same_pair p q ≡ true → p ≡ q
unfolding pair
same_pair-is p q h =
    let both = and_parts (eqb p.0 q.0) (same_lists p.1 q.1) h in
    ap₂ pair (eqb-true p.0 q.0 both.0) (same_lists-is p.1 q.1 both.1)

abbrev pub holds : List Pair → Pair → Bool
holds [] p = false
holds (q ∷ qs) p = same_pair q p || holds qs p

abbrev every : (Pair → Bool) → List Pair → Bool
every test [] = true
every test (p ∷ ps) = test p && every test ps

every-at : (test : Pair → Bool) (ps : List Pair) → every test ps ≡ true → (p : Pair) → holds ps p ≡ true → test p ≡ true
every-at test [] all p h = never h
every-at test (q ∷ qs) all p h = at (every-at test qs both.1 p) (or_cases (same_pair q p) (holds qs p) h)
  where
    both : (test q ≡ true) × (every test qs ≡ true)
    both = and_parts (test q) (every test qs) all

    at : (holds qs p ≡ true → test p ≡ true) → (same_pair q p ≡ true) ⊎ (holds qs p ≡ true) → test p ≡ true
    at later (inl here) = subst (λ r. test r ≡ true) (same_pair-is q p here) both.0
    at later (inr there) = later there

-- the classes that are read: a template of one activity has no second
abbrev pub is_read : Bool → Class → Bool
is_read two First = true
is_read two Second = two
is_read two Other = true

module _ (two : Bool) (next : ℕ → Class → ℕ) (accepts : ℕ → Bool) where
  abbrev after : Pair → Class → Pair
  after p class = (next p.0 class, step p.1 class)

  abbrev add_if_new : Bool → Pair → List Pair → List Pair
  add_if_new true p seen = seen
  add_if_new false p seen = p ∷ seen

  abbrev follow : Bool → Bool → Pair → List Pair → List Pair
  follow true both p todo = todo
  follow false true p todo = after p First ∷ after p Second ∷ after p Other ∷ todo
  follow false false p todo = after p First ∷ after p Other ∷ todo

  -- what is reached from the pairs, in at most so many turns
  abbrev pub reached : ℕ → List Pair → List Pair → List Pair
  reached zero seen todo = seen
  reached (suc n) seen [] = seen
  reached (suc n) seen (p ∷ todo) = reached n (add_if_new (holds seen p) p seen) (follow (holds seen p) two p todo)

  abbrev is_closed_at : List Pair → Pair → Bool
  is_closed_at related p =
      beq (some_has_empty p.1) (accepts p.0) && (holds related (after p First) && (holds related (after p Other) && (not two || holds related (after p Second))))

  -- both sides accept alike, and after each class they are related again
  abbrev pub is_closed : List Pair → Bool
  is_closed related = every (is_closed_at related) related

  module _ (related : List Pair) (closed : is_closed related ≡ true) where
    parts : (p : Pair) → holds related p ≡ true
        → (some_has_empty p.1 ≡ accepts p.0) × ((class : Class) → is_read two class ≡ true → holds related (after p class) ≡ true)
    parts p h = ((booleans_Decides (some_has_empty p.1) (accepts p.0)).0 first.0, at)
      where
        first : (beq (some_has_empty p.1) (accepts p.0) ≡ true) × ((holds related (after p First) && (holds related (after p Other) && (not two || holds related (after p Second)))) ≡ true)
        first = and_parts _ _ (every-at (is_closed_at related) related closed p h)

        second : (holds related (after p First) ≡ true) × ((holds related (after p Other) && (not two || holds related (after p Second))) ≡ true)
        second = and_parts _ _ first.1

        third : (holds related (after p Other) ≡ true) × ((not two || holds related (after p Second)) ≡ true)
        third = and_parts _ _ second.1

        read : (v w : Bool) → (not v || w) ≡ true → v ≡ true → w ≡ true
        read true w h e = h
        read false w h e = never e

        at : (class : Class) → is_read two class ≡ true → holds related (after p class) ≡ true
        at First r = second.0
        at Second r = read two (holds related (after p Second)) third.1 r
        at Other r = third.0

    -- related trees and states accept the same words
    pub walked : (class_at : ℕ → Class) → ((event : ℕ) → is_read two (class_at event) ≡ true) → (trace : List ℕ) (p : Pair) → holds related p ≡ true
        → accepted p.1 (map class_at trace) ≡ accepts (fold (λ state event. next state (class_at event)) p.0 trace)
    walked class_at read [] p h = (parts p h).0
    walked class_at read (event ∷ trace) p h =
        walked class_at read trace (after p (class_at event)) ((parts p h).1 (class_at event) (read event))

-- the pairs that are reached from a tree and the start are closed
abbrev pub is_table_of : Bool → (ℕ → Class → ℕ) → (ℕ → Bool) → Tree → Bool
is_table_of two next accepts tree =
    let related = reached two next accepts 60 [] ((0, tree ∷ []) ∷ []) in
    is_closed two next accepts related && holds related (0, tree ∷ [])

pub table_walked : (two : Bool) (next : ℕ → Class → ℕ) (accepts : ℕ → Bool) (tree : Tree) → is_table_of two next accepts tree ≡ true
    → (a b : ℕ) → ((event : ℕ) → is_read two (class_of a b event) ≡ true) → (trace : List ℕ)
    → accepted (tree ∷ []) (map (class_of a b) trace) ≡ accepts (run next 0 a b trace)
table_walked two next accepts tree h a b read trace =
    let related = reached two next accepts 60 [] ((0, tree ∷ []) ∷ []) in
    let both = and_parts (is_closed two next accepts related) (holds related (0, tree ∷ [])) h in
    walked two next accepts related both.0 (class_of a b) read trace (0, tree ∷ []) both.1
