-- What the decisions of the reduction say of traces.
use Rattle.std.proofs.Common.{◌≡◌, ◌↔◌, ◌⊎◌, ℕ, zero, suc, ◌+◌, ◌<◌, ◌≤◌, inl, inr, List, [], ◌∷◌, ◌++◌, Bool, true, false, Some, length, map, take, drop, get_or, refl, sym, ap, ◌∙◌, arith, add-one}
use Rattle.std.specs.List.{All, slice_get}
use Rattle.std.proofs.lemmas.Bool.{cases_eq, cases_lt}
use Rattle.std.proofs.lemmas.List.{get_or-map, get_or-take, length-map, take_all}
use Rattle.std.proofs.lemmas.List.Elements.{All-get_or}
use Rattle.std.proofs.lemmas.Option.{slice_get_within}
use Rattle.dfa_core.specs.Traces.{IsTrace}
use Rattle.template_core.specs.Constraints.{IsWellMade, IsWellMadeFor}
use Rattle.template_core.specs.declared.constraint.Constraint.{Constraint}
use Rattle.template_set.proofs.Rows.{keeps_below, strict}
use Rattle.template_set.specs.Hierarchy.{IsStronger}
use Rattle.template_set.specs.Hierarchy.IsStronger.{directly, through}
use Rattle.reduce_model.proofs.FirstPasses.{before-has, before-lacks, none-implies}
use Rattle.reduce_model.proofs.Marks.{at_place, true_or_false}
use Rattle.list_dfa.proofs.Keeping.{anything, push-keeps, keeps-append}
use Rattle.reduce_model.proofs.Prunes.{above-here, here-above}
use Rattle.reduce_model.proofs.Writes.{marked-split}
use Rattle.reduce_model.specs.Deciding.{is_consistent, is_kept, is_left, is_strongest, marked, those}
use Rattle.reduce_model.specs.Keeping.{KeepsAll, KeepsOne}
use Rattle.reduce_model.specs.Passes.{IsIrredundant}
use Rattle.reduce_model.specs.Reduction.{Implies, IsAbove, IsReduced, TellsWeaker}
use Rattle.reduce_model.specs.declared.decision.Decision.{Decision}
use Rattle.reduce_model.specs.declared.decision.Decision.TheVariants.{Kept, Conflict, Weaker, FirstPass, SecondPass, Beyond, Untested}

-- ---- which of a list a trace keeps

-- one that has the mark
pub keeps-at : (marks : List Bool) (list : List Constraint) (w : List ℕ) (place : ℕ) → KeepsAll (marked marks list) w → place < length list → get_or marks place false ≡ true → KeepsOne (get_or list place anything) w
keeps-at [] list w place all lt has = cc
keeps-at (m ∷ marks) [] w place all lt has = absurd (omega (arith, lt))
keeps-at (true ∷ marks) (c ∷ list) w zero all lt has = all.0
keeps-at (false ∷ marks) (c ∷ list) w zero all lt has = cc
keeps-at (true ∷ marks) (c ∷ list) w (suc place) all lt has = keeps-at marks list w place all.1 (omega (arith, lt)) has
keeps-at (false ∷ marks) (c ∷ list) w (suc place) all lt has = keeps-at marks list w place all (omega (arith, lt)) has

-- all that have the mark, where each of them is kept
keeps-each : (marks : List Bool) (list : List Constraint) (w : List ℕ) → ((place : ℕ) → place < length list → get_or marks place false ≡ true → KeepsOne (get_or list place anything) w) → KeepsAll (marked marks list) w
keeps-each [] list w h = tt
keeps-each (m ∷ marks) [] w h = tt
keeps-each (true ∷ marks) (c ∷ list) w h = (h 0 (omega arith) refl, keeps-each marks list w (λ place lt has. h (suc place) (omega (arith, lt)) has))
keeps-each (false ∷ marks) (c ∷ list) w h = keeps-each marks list w (λ place lt has. h (suc place) (omega (arith, lt)) has)

-- what stands before a place, and after it
keeps-before : (marks : List Bool) (list : List Constraint) (w : List ℕ) (place : ℕ) → KeepsAll (marked marks list) w → KeepsAll (marked (take place marks) (take place list)) w
keeps-before marks list w place all =
    let split : KeepsAll (marked (take place marks) (take place list) ++ marked (drop place marks) (drop place list)) w = rw (marked-split marks list place) at all in
    ((keeps-append (marked (take place marks) (take place list)) (marked (drop place marks) (drop place list)) w).0 split).0

keeps-after : (marks : List Bool) (list : List Constraint) (w : List ℕ) (place : ℕ) → KeepsAll (marked marks list) w → KeepsAll (marked (drop place marks) (drop place list)) w
keeps-after marks list w place all =
    let split : KeepsAll (marked (take place marks) (take place list) ++ marked (drop place marks) (drop place list)) w = rw (marked-split marks list place) at all in
    ((keeps-append (marked (take place marks) (take place list)) (marked (drop place marks) (drop place list)) w).0 split).1

-- ---- the marks of decisions

pub mark : (test : Decision → Bool) (ds : List Decision) (place : ℕ) → place < length ds → get_or (map test ds) place false ≡ test (get_or ds place Kept)
mark test ds place lt = get_or-map test ds place Kept false lt

kept-or-second : (d : Decision) → is_left d ≡ true → (is_kept d ≡ true) ⊎ (d ≡ SecondPass)
kept-or-second Kept e = inl refl
kept-or-second SecondPass e = inr refl
kept-or-second Untested e = inl refl
kept-or-second d e = cc

left-or-first : (d : Decision) → is_strongest d ≡ true → (is_left d ≡ true) ⊎ (d ≡ FirstPass)
left-or-first Conflict e = cc
left-or-first (Weaker by) e = cc
left-or-first FirstPass e = inr refl
left-or-first Beyond e = cc
left-or-first d e = inl refl

strongest-or-weaker : (d : Decision) → is_consistent d ≡ true → (is_strongest d ≡ true) ⊎ ((by : ℕ) × (d ≡ Weaker by))
strongest-or-weaker Conflict e = cc
strongest-or-weaker (Weaker by) e = inr (by, refl)
strongest-or-weaker Beyond e = cc
strongest-or-weaker d e = inl refl

kept-consistent : (d : Decision) → is_kept d ≡ true → is_consistent d ≡ true
kept-consistent Kept e = refl
kept-consistent Untested e = refl
kept-consistent d e = cc

stronger-trans : {c d e : Constraint} → IsStronger c d → IsStronger d e → IsStronger c e
stronger-trans (directly l) q = through l q
stronger-trans (through l r) q = through l (stronger-trans r q)

module _ (n : ℕ) (list : List Constraint) (ds : List Decision) (many : length ds ≡ length list) (told : TellsWeaker list ds) (w : List ℕ) where
  in_ds : (place : ℕ) → place < length list → place < length ds
  in_ds place lt = omega (arith, many, lt)

  -- and those that they are above: the first that is above another stands at a later place where it is itself below one
  module _ (made : All (IsWellMadeFor n) list) (strongest : (place : ℕ) → place < length list → is_strongest (get_or ds place Kept) ≡ true → KeepsOne (get_or list place anything) w) where
    weaker-kept : (gap : ℕ) (place by : ℕ) → place < length list → get_or ds place Kept ≡ Weaker by → length list ≤ by + gap → KeepsOne (get_or list place anything) w
    weaker-kept zero place by lt is le =
        let first = (told place (get_or list place anything) (get_or ds place Kept) by (at_place list ds place many lt) (ap is_consistent is)).0 is in
        let within = slice_get_within list by first.above.constraint first.above.at in
        absurd (omega (arith, within, le))
    weaker-kept (suc gap) place by lt is le =
        let first = (told place (get_or list place anything) (get_or ds place Kept) by (at_place list ds place many lt) (ap is_consistent is)).0 is in
        let within : by < length list = slice_get_within list by first.above.constraint first.above.at in
        let here = above-here list ds (get_or list place anything) by many first.above in
        let made_by : IsWellMade (get_or list by anything).kind (get_or list by anything).first (get_or list by anything).second = (All-get_or (IsWellMadeFor n) list by anything within made).made in
        let one : KeepsOne (get_or list by anything) w = elim (strongest-or-weaker (get_or ds by Kept) here.0) [
          | inl top ↦ strongest by within top
          | inr below ↦
              let next = (told by (get_or list by anything) (get_or ds by Kept) below.0 (at_place list ds by many within) here.0).0 below.1 in
              let next_here = above-here list ds (get_or list by anything) below.0 many next.above in
              let next_within : below.0 < length list = slice_get_within list below.0 next.above.constraint next.above.at in
              let above_too : IsAbove list (map is_consistent ds) (get_or list place anything) below.0 =
              here-above list ds (get_or list place anything) below.0 many next_within next_here.0 (stronger-trans next_here.1 here.1) in
              elim (cases_lt below.0 by) [
                | inl before ↦ absurd (first.first below.0 before above_too)
                | inr from ↦ elim (cases_eq below.0 by) [
                  | inl e ↦ absurd (strict (get_or list by anything) (rw e at next_here.1))
                  | inr ne ↦ weaker-kept gap by below.0 within below.1 (omega (arith, le, from, ne))
                ]
              ]
        ] in
        keeps_below (get_or list by anything) (get_or list place anything) here.1 made_by w one

  -- the strongest and the conflict-free model
  pub strongest-consistent : All (IsWellMadeFor n) list → ((place : ℕ) → place < length list → is_strongest (get_or ds place Kept) ≡ true → KeepsOne (get_or list place anything) w) → KeepsAll (those is_consistent list ds) w
  strongest-consistent made strongest =
      keeps-each (map is_consistent ds) list w (λ place lt has. elim (strongest-or-weaker (get_or ds place Kept) (sym (mark is_consistent ds place (in_ds place lt)) ∙ has)) [
        | inl top ↦ strongest place lt top
        | inr below ↦ weaker-kept made strongest (length list) place below.0 lt below.1 (omega arith)
      ])

  pub consistent-model : KeepsAll (those is_consistent list ds) w → KeepsAll (those is_kept list ds) w
  consistent-model all =
      keeps-each (map is_kept ds) list w (λ place lt has.
      keeps-at (map is_consistent ds) list w place all lt (mark is_consistent ds place (in_ds place lt) ∙ kept-consistent (get_or ds place Kept) (sym (mark is_kept ds place (in_ds place lt)) ∙ has)))

module _ (n : ℕ) (list : List Constraint) (ds : List Decision) (h : IsReduced n list ds) (w : List ℕ) (tw : IsTrace n w) where
  in_list : (place : ℕ) → place < length list → place < length ds
  in_list place lt = let many = h.as_many in omega (arith, many, lt)

  in_marks : (test : Decision → Bool) (place : ℕ) → place < length list → place < length (map test ds)
  in_marks test place lt = let many = h.as_many in let long = length-map ds test in omega (arith, many, long, lt)

  -- the model keeps what the first pass leaves
  left-below : (all : KeepsAll (those is_kept list ds) w) (place : ℕ) → place ≤ length list → KeepsAll (marked (take place (map is_left ds)) (take place list)) w
  left-below all zero le = tt
  left-below all (suc place) le =
      let lt : place < length list = omega arith in
      let ih = left-below all place (omega arith) in
      elim (true_or_false (get_or (map is_left ds) place false)) [
        | inl has ↦
            let left : is_left (get_or ds place Kept) ≡ true = sym (mark is_left ds place (in_list place lt)) ∙ has in
            let one : KeepsOne (get_or list place anything) w = elim (kept-or-second (get_or ds place Kept) left) [
              | inl kept ↦ keeps-at (map is_kept ds) list w place all lt (mark is_kept ds place (in_list place lt) ∙ kept)
              | inr second ↦
                  let told = h.second_pass place (get_or list place anything) (get_or ds place Kept) (at_place list ds place h.as_many lt) left in
                  told.0 second w tw ((keeps-append (marked (take place (map is_left ds)) (take place list)) (marked (drop (suc place) (map is_kept ds)) (drop (suc place) list)) w).1
                  (ih, keeps-after (map is_kept ds) list w (suc place) all))
            ] in
            rw (← add-one) (rw (before-has list (map is_left ds) place (in_marks is_left place lt) lt has) (push-keeps (marked (take place (map is_left ds)) (take place list)) (get_or list place anything) w ih one))
        | inr lacks ↦ rw (← add-one) (rw (before-lacks list (map is_left ds) place (in_marks is_left place lt) lt lacks) ih)
      ]

  left-kept : KeepsAll (those is_kept list ds) w → KeepsAll (those is_left list ds) w
  left-kept all =
      let long = length-map ds is_left in
      let many = h.as_many in
      let marks : take (length list) (map is_left ds) ≡ map is_left ds = take_all (length list) (map is_left ds) (omega (arith, long, many)) in
      let whole : take (length list) list ≡ list = take_all (length list) list (omega arith) in
      let below = left-below all (length list) (omega arith) in
      rw marks at (rw whole at below)

  -- what is left keeps the strongest
  strongest-kept : KeepsAll (those is_left list ds) w → (place : ℕ) → place < length list → is_strongest (get_or ds place Kept) ≡ true → KeepsOne (get_or list place anything) w
  strongest-kept all place lt strongest = elim (left-or-first (get_or ds place Kept) strongest) [
    | inl left ↦ keeps-at (map is_left ds) list w place all lt (mark is_left ds place (in_list place lt) ∙ left)
    | inr first ↦
        let told = h.first_pass place (get_or list place anything) (get_or ds place Kept) (at_place list ds place h.as_many lt) strongest in
        told.0 first w tw (keeps-before (map is_left ds) list w place all)
  ]

-- the reduced model keeps exactly the traces of the conflict-free model
pub same-traces : (n : ℕ) (list : List Constraint) (ds : List Decision) → All (IsWellMadeFor n) list → IsReduced n list ds → (w : List ℕ) → IsTrace n w → KeepsAll (those is_kept list ds) w ↔ KeepsAll (those is_consistent list ds) w
same-traces n list ds made h w tw = (
  λ all. strongest-consistent n list ds h.as_many h.weaker w made (strongest-kept n list ds h w tw (left-kept n list ds h w tw all)),
  consistent-model n list ds h.as_many h.weaker w,
)

-- ---- none of the model is implied by the others

some-same : (x c : Constraint) → Some x ≡ Some c → x ≡ c
some-same x c e = cc

take-past : (v : List Bool) (bound place : ℕ) → bound ≤ place → get_or (take bound v) place false ≡ false
take-past v zero place le = refl
take-past [] (suc bound) place le = refl
take-past (a ∷ v) (suc bound) zero le = absurd (omega (arith, le))
take-past (a ∷ v) (suc bound) (suc place) le = take-past v bound place (omega (arith, le))

-- a constraint that has a mark stands at a place of the list
marked-place : (marks : List Bool) (list : List Constraint) (k : ℕ) (c : Constraint) → slice_get (marked marks list) k ≡ Some c
    → (place : ℕ) × (place < length list) × (get_or list place anything ≡ c) × (get_or marks place false ≡ true) × (take k (marked marks list) ≡ marked (take place marks) (take place list))
    × (drop (suc k) (marked marks list) ≡ marked (drop (suc place) marks) (drop (suc place) list))
marked-place [] list k c e = cc
marked-place (m ∷ marks) [] k c e = cc
marked-place (true ∷ marks) (x ∷ list) zero c e = (0, omega arith, some-same x c e, refl, refl, refl)
marked-place (true ∷ marks) (x ∷ list) (suc k) c e =
    let ih = marked-place marks list k c e in (suc ih.0, let lt = ih.1 in omega (arith, lt), ih.2, ih.3, ap (λ (l : List Constraint). x ∷ l) ih.4, ih.5)
marked-place (false ∷ marks) (x ∷ list) k c e =
    let ih = marked-place marks list k c e in (suc ih.0, let lt = ih.1 in omega (arith, lt), ih.2, ih.3, ih.4, ih.5)

-- fewer marks, fewer constraints to keep
keeps-fewer : (v u : List Bool) (list : List Constraint) (w : List ℕ) → ((place : ℕ) → get_or v place false ≡ true → get_or u place false ≡ true) → KeepsAll (marked u list) w → KeepsAll (marked v list) w
keeps-fewer v u list w h all = keeps-each v list w (λ place lt has. keeps-at u list w place all lt (h place has))

kept-left_mark : (d : Decision) → is_kept d ≡ true → is_left d ≡ true
kept-left_mark Kept e = refl
kept-left_mark Untested e = refl
kept-left_mark d e = cc

kept-left_marks : (ds : List Decision) (place : ℕ) → get_or (map is_kept ds) place false ≡ true → get_or (map is_left ds) place false ≡ true
kept-left_marks [] place e = cc
kept-left_marks (d ∷ ds) zero e = kept-left_mark d e
kept-left_marks (d ∷ ds) (suc place) e = kept-left_marks ds place e

take-marks : (v u : List Bool) (bound : ℕ) → ((place : ℕ) → get_or v place false ≡ true → get_or u place false ≡ true) → (place : ℕ) → get_or (take bound v) place false ≡ true → get_or (take bound u) place false ≡ true
take-marks v u zero h place e = cc
take-marks [] u (suc bound) h place e = cc
take-marks (a ∷ v) [] (suc bound) h zero e = absurd (let no_ = h 0 e in cc)
take-marks (a ∷ v) [] (suc bound) h (suc place) e = elim (cases_lt place bound) [
  | inl lt ↦ absurd (let there = h (suc place) (sym (get_or-take bound v place false lt) ∙ e) in cc)
  | inr le ↦ let e2 : get_or (take bound v) place false ≡ true = e in absurd (let p = take-past v bound place le in cc)
]
take-marks (a ∷ v) (b ∷ u) (suc bound) h zero e = h 0 e
take-marks (a ∷ v) (b ∷ u) (suc bound) h (suc place) e = take-marks v u bound (λ k has. h (suc k) has) place e

-- the other constraints of the model don't imply one of it
pub irredundant : (n : ℕ) (list : List Constraint) (ds : List Decision) → IsReduced n list ds → IsIrredundant n (those is_kept list ds)
irredundant n list ds h k c is none =
    let p = marked-place (map is_kept ds) list k c is in
    let place = p.0 in
    let lt : place < length list = p.1 in
    let many = h.as_many in
    let ld : place < length ds = omega (arith, many, lt) in
    let kept : is_kept (get_or ds place Kept) ≡ true = sym (mark is_kept ds place ld) ∙ p.3 in
    let told = h.second_pass place (get_or list place anything) (get_or ds place Kept) (at_place list ds place h.as_many lt) (kept-left_mark (get_or ds place Kept) kept) in
    let implies : Implies n (marked (take place (map is_left ds)) (take place list) ++ marked (drop (suc place) (map is_kept ds)) (drop (suc place) list)) (get_or list place anything) = λ w tw all.
    let parts = (keeps-append (marked (take place (map is_left ds)) (take place list)) (marked (drop (suc place) (map is_kept ds)) (drop (suc place) list)) w).0 all in
    let front : KeepsAll (take k (those is_kept list ds)) w =
    rw p.4 (keeps-fewer (take place (map is_kept ds)) (take place (map is_left ds)) (take place list) w (take-marks (map is_kept ds) (map is_left ds) place (kept-left_marks ds)) parts.0) in
    let back : KeepsAll (drop (suc k) (those is_kept list ds)) w = rw p.5 parts.1 in
    rw p.2 (none-implies n (take k (those is_kept list ds) ++ drop (suc k) (those is_kept list ds)) c none w tw ((keeps-append (take k (those is_kept list ds)) (drop (suc k) (those is_kept list ds)) w).1 (front, back))) in
    let second = told.1 implies in
    let stays : is_kept SecondPass ≡ true = rw second at kept in
    cc
