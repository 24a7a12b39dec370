-- A table that is filled row by row, and the run through it.
use Rattle.std.proofs.Common.{◌≡◌, ◌≢◌, ◌↔◌, ◌⊎◌, ℕ, suc, ◌<◌, ◌≤◌, List, [], ◌∷◌, Bool, false, IsTrue, length, slice_set, slice_index_or, nat_eq, refl, sym, ap, subst, ◌∙◌, arith, ⊎_elim}
use Rattle.std.proofs.lemmas.List.{get_or-set_same, get_or-set_other}
use Rattle.template_core.specs.Recognition.{Recognises}
use Rattle.template_core.specs.Automaton.{TemplateMeaning, run}
use Rattle.template_core.specs.Constraints.{IsWellMade}
use Rattle.template_core.specs.Repertoire.{Keeps}
use Rattle.template_core.specs.Tables.{column, class, step, table_run, keeps_by, IsTable}
use Rattle.template_core.specs.declared.class.Class.{Class}
use Rattle.template_core.specs.declared.class.Class.TheVariants.{First, Second, Other}
use Rattle.template_core.specs.declared.constraint.Constraint.{Constraint}
use Rattle.template_core.specs.declared.kind.Kind.{Kind}
use Rattle.template_core.specs.declared.table.Table.{Table}
use Rattle.template_set.specs.Tables.{Accepts, IsTableBy}

-- the first k rows are those of the automaton
pub record IsFilled (next_state : ℕ → Class → ℕ) (is_accepting : ℕ → Bool) (states k : ℕ) (next : List (List ℕ)) (accepting : List Bool) : Type 0 where
  pub rows : (s : ℕ) (class : Class) → s < k → slice_index_or (slice_index_or next s []) (column class) 0 ≡ next_state s class
  pub below : (s : ℕ) (class : Class) → s < k → next_state s class < states
  pub marks : (s : ℕ) → s < k → slice_index_or accepting s false ≡ is_accepting s

pub one_more : (next_state : ℕ → Class → ℕ) (is_accepting : ℕ → Bool) (states k : ℕ) (next : List (List ℕ)) (accepting : List Bool) (x y z : ℕ) (v : Bool)
    → IsFilled next_state is_accepting states k next accepting → k < length next → k < length accepting
    → x ≡ next_state k First → y ≡ next_state k Second → z ≡ next_state k Other → x < states → y < states → z < states → v ≡ is_accepting k
    → IsFilled next_state is_accepting states (suc k) (slice_set next k (x ∷ y ∷ z ∷ [])) (slice_set accepting k v)
one_more next_state is_accepting states k next accepting x y z v filled in_next in_accepting ex ey ez bx by bz ev = record {
  rows = λ s class h. ⊎_elim
      (λ lt. ap (λ row. slice_index_or row (column class) 0) (get_or-set_other next k s (x ∷ y ∷ z ∷ []) [] (apart s k lt)) ∙ filled.rows s class lt)
      (λ same. here s class same)
      (split s k h);
  below = λ s class h. ⊎_elim (λ lt. filled.below s class lt) (λ same. bound s class same) (split s k h);
  marks = λ s h. ⊎_elim
      (λ lt. get_or-set_other accepting k s v false (apart s k lt) ∙ filled.marks s lt)
      (λ same. ap (λ n. slice_index_or (slice_set accepting k v) n false) same ∙ get_or-set_same accepting k v false in_accepting ∙ ev ∙ ap is_accepting (sym same))
      (split s k h);
}
  where
    split : (s k : ℕ) → s < suc k → (s < k) ⊎ (s ≡ k)
    split s k h = grind arith

    apart : (s k : ℕ) → s < k → s ≢ k
    apart s k h e = absurd (omega arith)

    entry : (class : Class) → slice_index_or (x ∷ y ∷ z ∷ []) (column class) 0 ≡ next_state k class
    entry First = ex
    entry Second = ey
    entry Other = ez

    here : (s : ℕ) (class : Class) → s ≡ k → slice_index_or (slice_index_or (slice_set next k (x ∷ y ∷ z ∷ [])) s []) (column class) 0 ≡ next_state s class
    here s class same =
        ap (λ n. slice_index_or (slice_index_or (slice_set next k (x ∷ y ∷ z ∷ [])) n []) (column class) 0) same
        ∙ ap (λ row. slice_index_or row (column class) 0) (get_or-set_same next k (x ∷ y ∷ z ∷ []) [] in_next)
        ∙ entry class
        ∙ ap (λ n. next_state n class) (sym same)

    bound_at : (class : Class) → next_state k class < states
    bound_at First = subst (λ n. n < states) ex bx
    bound_at Second = subst (λ n. n < states) ey by
    bound_at Other = subst (λ n. n < states) ez bz

    bound : (s : ℕ) (class : Class) → s ≡ k → next_state s class < states
    bound s class same = subst (λ n. next_state n class < states) (sym same) (bound_at class)

-- a table whose rows in use are filled
pub filled-by : (meaning : TemplateMeaning) (table : Table) → IsFilled meaning.next meaning.accepts meaning.states meaning.states table.next table.accepting
    → table.states ≡ meaning.states → table.start ≡ 0 → IsTableBy meaning table
unfolding step
filled-by meaning table filled es et = record {
  states_are = es;
  start_is = et;
  next_is = filled.rows;
  accepting_is = filled.marks;
  closed = filled.below;
}

module _ (meaning : TemplateMeaning) (table : Table) (by : IsTableBy meaning table) where
  pub by-IsTable : meaning.states ≤ 12 → IsTable table
  by-IsTable few = record {
    some_states = omega (arith, by.states_are, meaning.some_states);
    few_states = omega (arith, by.states_are);
    start_bound = omega (arith, by.states_are, by.start_is, meaning.some_states);
    step_bound = λ state class h.
        let lt : state < meaning.states = omega (arith, by.states_are) in
        omega (arith, by.states_are, by.next_is state class lt, by.closed state class lt);
  }

  -- the run through the table is the automaton's
  by-run : (c : Constraint) (trace : List ℕ) (state : ℕ) → state < meaning.states
      → (table_run table c state trace ≡ run meaning.next state c.first c.second trace) × (table_run table c state trace < meaning.states)
  by-run c [] state h = (refl, h)
  by-run c (event ∷ trace) state h =
      let e : step table state (class c event) ≡ meaning.next state (class c event) = by.next_is state (class c event) h in
      let lt : step table state (class c event) < meaning.states = subst (λ n. n < meaning.states) (sym e) (by.closed state (class c event) h) in
      let rest = by-run c trace (step table state (class c event)) lt in
      (rest.0 ∙ ap (λ n. run meaning.next n c.first c.second trace) e, rest.1)

  pub by-Accepts : (kind other : Kind) → kind ≡ other → Recognises meaning other → Accepts kind table
  by-Accepts kind other is law c trace made =
      let begins = by-run c trace table.start (omega (arith, by.start_is, meaning.some_states)) in
      let same : keeps_by table c trace ≡ meaning.accepts (run meaning.next 0 c.first c.second trace)
      = by.accepting_is (table_run table c table.start trace) begins.1 ∙ ap meaning.accepts (begins.0 ∙ ap (λ n. run meaning.next n c.first c.second trace) by.start_is) in
      subst (λ k. IsTrue (keeps_by table c trace) ↔ Keeps nat_eq k c.first c.second trace) (sym is)
      (subst (λ v. IsTrue v ↔ Keeps nat_eq other c.first c.second trace) (sym same)
      (law c.first c.second trace (subst (λ k. IsWellMade k c.first c.second) is made)))
