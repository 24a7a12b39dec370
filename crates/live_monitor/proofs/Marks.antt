-- Which states of a table lead to marked ones.
use Rattle.std.proofs.Common.{◌≡◌, ◌≢◌, ℕ, zero, suc, ◌<◌, eqb, if◌then◌else◌, inl, inr, List, [], ◌∷◌, Bool, true, false, ◌||◌, length, get_or, refl, sym, ap, subst, ◌∙◌, arith, lit<}
use Rattle.std.proofs.Math.ListN.{set}
use Rattle.std.proofs.lemmas.Bool.{cases_eq, eq-eqb, eqb-true, ne_eqb}
use Rattle.std.proofs.lemmas.List.{get_or-set_other, get_or-set_same}
use Rattle.dfa_core.specs.Traces.{IsTrace}
use Rattle.template_core.specs.Tables.{IsTable, class, column, step, table_run}
use Rattle.template_core.specs.declared.class.Class.{Class}
use Rattle.template_core.specs.declared.class.Class.TheVariants.{First, Second, Other}
use Rattle.template_core.specs.declared.constraint.Constraint.{Constraint}
use Rattle.template_core.specs.declared.table.Table.{Table}
use Rattle.live_monitor.specs.Watching.{AreOfEachClass, LeadsToMarked, leads_on}

-- how many of some states aren't marked
abbrev pub unmarked : List Bool → ℕ
unmarked [] = zero
unmarked (true ∷ marked) = unmarked marked
unmarked (false ∷ marked) = suc (unmarked marked)

-- one more mark
pub unmarked-set : (marked : List Bool) (i : ℕ) → i < length marked → get_or marked i false ≡ false → unmarked (set marked i true) < unmarked marked
unmarked-set [] i lt e = absurd (omega (arith, lt))
unmarked-set (true ∷ marked) zero lt e = absurd (cc e)
unmarked-set (false ∷ marked) zero lt e = omega arith
unmarked-set (true ∷ marked) (suc i) lt e = unmarked-set marked i (omega (arith, lt)) e
unmarked-set (false ∷ marked) (suc i) lt e = let less = unmarked-set marked i (omega (arith, lt)) e in omega (arith, less)

module _ (n : ℕ) (table : Table) (c : Constraint) (events : List ℕ) (whole : IsTable table) (each : AreOfEachClass n c events) where
  -- what leads to a state that leads to a marked one
  pub leads-one : (marked leading : List Bool) (state : ℕ) → state < table.states
      → ((q : ℕ) → q < table.states → get_or leading q false ≡ true → LeadsToMarked n table c marked q)
      → leads_on table c events leading state ≡ true → LeadsToMarked n table c marked state
  leads-one marked leading state lt sound e = go (at 0) (at 1) (at 2) refl refl refl e
    where
      at : ℕ → Bool
      at k = get_or leading (step table state (class c (get_or events k 0))) false

      one : (k : ℕ) → k < 3 → get_or leading (step table state (class c (get_or events k 0))) false ≡ true → LeadsToMarked n table c marked state
      one k lk is =
          let r = sound (step table state (class c (get_or events k 0))) (whole.step_bound state (class c (get_or events k 0)) lt) is in
          record { by = get_or events k 0 ∷ r.by; over = (each.within k lk, r.over); there = r.there }

      go : (x y z : Bool) → get_or leading (step table state (class c (get_or events 0 0))) false ≡ x → get_or leading (step table state (class c (get_or events 1 0))) false ≡ y
          → get_or leading (step table state (class c (get_or events 2 0))) false ≡ z → (x || (y || z)) ≡ true → LeadsToMarked n table c marked state
      go true y z ex ey ez is = one 0 (lit< tt) ex
      go false true z ex ey ez is = one 1 (lit< tt) ey
      go false false true ex ey ez is = one 2 (lit< tt) ez
      go false false false ex ey ez is = absurd (cc is)

  -- a state more
  pub sound-set : (marked leading : List Bool) (state : ℕ) → LeadsToMarked n table c marked state
      → ((q : ℕ) → q < table.states → get_or leading q false ≡ true → LeadsToMarked n table c marked q)
      → (q : ℕ) → q < table.states → get_or (set leading state true) q false ≡ true → LeadsToMarked n table c marked q
  sound-set marked leading state leads sound q lq is = elim (cases_eq q state) [
    | inl e ↦ subst (LeadsToMarked n table c marked) (sym e) leads
    | inr ne ↦ sound q lq (sym (get_or-set_other leading state q true false ne) ∙ is)
  ]

  or-place : (k : ℕ) (at : ℕ → Bool) → k < 3 → at k ≡ true → (at 0 || (at 1 || at 2)) ≡ true
  or-place k at lk is = go k (at 0) (at 1) (at 2) refl refl refl lk is
    where
      go : (k : ℕ) (x y z : Bool) → at 0 ≡ x → at 1 ≡ y → at 2 ≡ z → k < 3 → at k ≡ true → (x || (y || z)) ≡ true
      go zero x y z ex ey ez lk is = rw (sym ex ∙ is) refl
      go (suc zero) true y z ex ey ez lk is = refl
      go (suc zero) false y z ex ey ez lk is = rw (sym ey ∙ is) refl
      go (suc (suc zero)) true y z ex ey ez lk is = refl
      go (suc (suc zero)) false true z ex ey ez lk is = refl
      go (suc (suc zero)) false false z ex ey ez lk is = sym ez ∙ is
      go (suc (suc (suc k))) x y z ex ey ez lk is = absurd (omega (arith, lk))

  column-below : (k : Class) → column k < 3
  column-below First = lit< tt
  column-below Second = lit< tt
  column-below Other = lit< tt

  -- where no state is missing, each state is there from which some continuation leads to a marked one
  pub complete : (marked leading : List Bool) → ((q : ℕ) → get_or marked q false ≡ true → get_or leading q false ≡ true)
      → ((q : ℕ) → q < table.states → leads_on table c events leading q ≡ true → get_or leading q false ≡ true)
      → (q : ℕ) (w : List ℕ) → q < table.states → IsTrace n w → get_or marked (table_run table c q w) false ≡ true → get_or leading q false ≡ true
  complete marked leading contains closed q [] lq over is = contains q is
  complete marked leading contains closed q (x ∷ w) lq over is =
      let next = complete marked leading contains closed (step table q (class c x)) w (whole.step_bound q (class c x) lq) over.1 is in
      let alike : class c (get_or events (column (class c x)) 0) ≡ class c x = each.alike x over.0 in
      let there : get_or leading (step table q (class c (get_or events (column (class c x)) 0))) false ≡ true = ap (λ k. get_or leading (step table q k) false) alike ∙ next in
      closed q lq (or-place (column (class c x)) (λ k. get_or leading (step table q (class c (get_or events k 0))) false) (column-below (class c x)) there)

-- a state more holds those that were there
pub contains-set : (marked leading : List Bool) (state : ℕ) → state < length leading → ((q : ℕ) → get_or marked q false ≡ true → get_or leading q false ≡ true)
    → (q : ℕ) → get_or marked q false ≡ true → get_or (set leading state true) q false ≡ true
contains-set marked leading state lt contains q is = elim (cases_eq q state) [
  | inl e ↦ rw e (get_or-set_same leading state true false lt)
  | inr ne ↦ get_or-set_other leading state q true false ne ∙ contains q is
]

clash : false ≡ true → ⊥
clash is = cc is

pub other-class : (c : Constraint) (third other : ℕ) → third ≡ other → other ≢ c.first → other ≢ c.second → class c third ≡ Other
other-class c third other e nf ns = rw (e, ne_eqb other c.first nf, ne_eqb other c.second ns) refl

-- one symbol of each class that an event may have
pub each-class : (n : ℕ) (c : Constraint) (third : ℕ) → c.first < n → c.second < n → third < n
    → ((x : ℕ) → x < n → x ≢ c.first → x ≢ c.second → class c third ≡ Other) → AreOfEachClass n c (c.first ∷ c.second ∷ third ∷ [])
each-class n c third lf ls lt rest = record { within = within; alike = λ x lx. alike x lx (eqb x c.first) (eqb x c.second) refl refl }
  where
    within : (k : ℕ) → k < 3 → get_or (c.first ∷ c.second ∷ third ∷ []) k 0 < n
    within zero lk = lf
    within (suc zero) lk = ls
    within (suc (suc zero)) lk = lt
    within (suc (suc (suc k))) lk = absurd (omega (arith, lk))

    alike : (x : ℕ) → x < n → (i j : Bool) → eqb x c.first ≡ i → eqb x c.second ≡ j
        → class c (get_or (c.first ∷ c.second ∷ third ∷ []) (column (if i then First else (if j then Second else Other))) 0) ≡ (if i then First else (if j then Second else Other))
    alike x lx true j ei ej =
        let is : class c x ≡ First = rw ei refl in
        ap (class c) (sym (eqb-true x c.first ei)) ∙ is
    alike x lx false true ei ej =
        let is : class c x ≡ Second = rw (ei, ej) refl in
        ap (class c) (sym (eqb-true x c.second ej)) ∙ is
    alike x lx false false ei ej = rest x lx (λ e. clash (sym ei ∙ eq-eqb x c.first e)) (λ e. clash (sym ej ∙ eq-eqb x c.second e))
