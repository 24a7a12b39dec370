-- Prefixes that the first pass keeps for the second.
use Rattle.std.proofs.Common.{◌≡◌, ◌⊎◌, ℕ, ◌+◌, ◌<◌, ◌≤◌, inl, inr, List, [], ◌∷◌, ◌++◌, Bool, length, map, take, drop, get_or, sym, ap, subst, ◌∙◌, arith}
use Rattle.std.proofs.lemmas.List.{get_or_append_left, length_push, take-append-le, take-take, take_all}
use Rattle.std.proofs.lemmas.List.Elements.{All-push, All-weaker}
use Rattle.std.specs.List.{All, HoldsAt}
use Rattle.template_core.specs.declared.constraint.Constraint.{Constraint}
use Rattle.reduce_model.specs.Passes.{AreKeptPrefixes, IsPrefixOf, IsStart}
use Rattle.reduce_model.specs.Deciding.{is_kept, is_left, marked, those}
use Rattle.reduce_model.specs.declared.decision.Decision.{Decision}
use Rattle.reduce_model.proofs.Writes.{marked-split}
use Rattle.reduce_model.specs.declared.prefixes.Prefix.{Prefix}

-- one of them, of candidates before a place
pub record IsPrefixUpTo (n s : ℕ) (list : List Constraint) (marks : List Bool) (at : ℕ) (prefix : Prefix) : Type 0 where
  pub before : prefix.place ≤ at
  pub is : IsPrefixOf n s list marks prefix

pub record AreKeptUpTo (n s : ℕ) (list : List Constraint) (marks : List Bool) (at : ℕ) (prefixes : List Prefix) : Type 0 where
  pub some : 0 < length prefixes
  pub first : HoldsAt (λ (prefix : Prefix). prefix.place ≡ 0) prefixes 0
  pub are : All (IsPrefixUpTo n s list marks at) prefixes

pub kept-later : (n s : ℕ) (list : List Constraint) (old new : List Bool) (at : ℕ) (prefixes : List Prefix) → ((place : ℕ) → place ≤ at → take place new ≡ take place old) → AreKeptUpTo n s list old at prefixes
    → AreKeptUpTo n s list new (at + 1) prefixes
kept-later n s list old new at prefixes same h = record {
  some = h.some;
  first = h.first;
  are = All-weaker (IsPrefixUpTo n s list old at) (IsPrefixUpTo n s list new (at + 1)) (λ prefix p.
      let before = p.before in
      let e = same prefix.place before in
      record {
        before = omega (arith, before);
        is = record {
          within = p.is.within;
          automaton = rw e p.is.automaton;
          counted = rw e p.is.counted;
          narrow = rw e p.is.narrow;
        };
      }) prefixes h.are;
}

pub kept-more : (n s : ℕ) (list : List Constraint) (marks : List Bool) (at : ℕ) (old new : List Prefix) (prefix : Prefix) → (new ≡ old ++ prefix ∷ []) ⊎ (new ≡ old) → IsPrefixUpTo n s list marks at prefix
    → AreKeptUpTo n s list marks at old → AreKeptUpTo n s list marks at new
kept-more n s list marks at old new prefix (inl e) is h =
    let long = length_push old prefix in
    rw e (record {
      some = omega (arith, long);
      first = λ d. rw (get_or_append_left old (prefix ∷ []) d 0 h.some) (h.first d);
      are = All-push (IsPrefixUpTo n s list marks at) old prefix h.are is;
    })
kept-more n s list marks at old new prefix (inr e) is h = rw e h

pub kept-end : (n s : ℕ) (list : List Constraint) (marks : List Bool) (at : ℕ) (prefixes : List Prefix) → AreKeptUpTo n s list marks at prefixes → AreKeptPrefixes n s list marks prefixes
kept-end n s list marks at prefixes h = record {
  some = h.some;
  first = h.first;
  are = All-weaker (IsPrefixUpTo n s list marks at) (IsPrefixOf n s list marks) (λ prefix p. p.is) prefixes h.are;
}

-- the first of them has none
pub first-none : {n s : ℕ} {list : List Constraint} {marks : List Bool} {prefixes : List Prefix} → AreKeptPrefixes n s list marks prefixes → HoldsAt (λ (prefix : Prefix). (prefix.place ≡ 0) × (prefix.length ≡ 0)) prefixes 0
first-none h = λ d.
    let at_start = h.first d in
    let counted = (h.are 0 d h.some).counted in
    (at_start, rw at_start at counted)

-- the one at a place of them
pub prefix-at : {n s : ℕ} {list : List Constraint} {marks : List Bool} {prefixes : List Prefix} (k : ℕ) {prefix : Prefix} → AreKeptPrefixes n s list marks prefixes → k < length prefixes → prefix ≡ get_or prefixes k prefix
    → IsPrefixOf n s list marks prefix
prefix-at {n = n} {s = s} {list = list} {marks = marks} k {prefix = prefix} h lt is = subst (λ (p : Prefix). IsPrefixOf n s list marks p) (sym is) (h.are k prefix lt)

pub prefix-fits : (place most : ℕ) (prefixes : List Prefix) (k : ℕ) (prefix : Prefix) → prefix ≡ get_or prefixes k prefix → HoldsAt (λ (prefix : Prefix). (prefix.place ≤ place) × (prefix.length ≤ most)) prefixes k
    → (prefix.place ≤ place) × (prefix.length ≤ most)
prefix-fits place most prefixes k prefix is fits = subst (λ (p : Prefix). (p.place ≤ place) × (p.length ≤ most)) (sym is) (fits prefix)

-- one that has no more than the first that stay, before which none is dropped
pub start-of : (n s : ℕ) (list : List Constraint) (ds : List Decision) (prefix : Prefix) (size : ℕ) → IsPrefixOf n s list (map is_left ds) prefix → prefix.length ≤ size
    → take size (those is_left list ds) ≡ take size (those is_kept list ds) → IsStart n s (take prefix.length (those is_kept list ds)) prefix
start-of n s list ds prefix size h le same =
    let front : List Constraint = marked (take prefix.place (map is_left ds)) (take prefix.place list) in
    let back : List Constraint = marked (drop prefix.place (map is_left ds)) (drop prefix.place list) in
    let cut : take (length front) (those is_left list ds) ≡ front =
    ap (take (length front)) (marked-split (map is_left ds) list prefix.place) ∙ (take-append-le (length front) front back (omega arith) ∙ take_all (length front) front (omega arith)) in
    let is : take prefix.length (those is_kept list ds) ≡ front =
    sym (take-take prefix.length size (those is_kept list ds) le)
    ∙ (ap (take prefix.length) (sym same) ∙ (take-take prefix.length size (those is_left list ds) le ∙ (ap (λ (k : ℕ). take k (those is_left list ds)) h.counted ∙ cut))) in
    rw is (record {
      automaton = h.automaton;
      counted = h.counted;
      narrow = h.narrow;
    })
