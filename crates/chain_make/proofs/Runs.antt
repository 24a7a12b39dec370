-- Runs of two automata side by side.
use Rattle.std.proofs.Common.{◌≡◌, inl, inr, ℕ, zero, suc, ◌+◌, ◌*◌, ◌/◌, ◌%◌, ◌<◌, List, [], ◌∷◌, ◌++◌, Bool, true, false, ◌&&◌, length, get_or, refl, sym, ap, ◌∙◌, subst, arith}
use Rattle.std.proofs.lemmas.Bool.{cases_eq}
use Rattle.std.proofs.lemmas.Nat.{div-mul-add, mod-mul-add}
use Rattle.dfa_core.specs.Automaton.{Automaton, IsEverything, accepts, is_accepting, run, step, steps_of}
use Rattle.dfa_core.specs.Steps.{Steps, run as run_of, accepts as accepts_of}
use Rattle.dfa_core.specs.Traces.{IsTrace}
use Rattle.dfa_core.proofs.Runs.{run-append, run-bound}
use Rattle.dfa_minimise.specs.Least.{IsLeast}
use Rattle.template_core.specs.Tables.{IsTable, accepts_at, class, keeps_by, table_run, step as table_step}
use Rattle.template_core.specs.declared.constraint.Constraint.{Constraint}
use Rattle.template_core.specs.declared.table.Table.{Table}
use Rattle.chain_make.specs.Beside.{LeadsToBoth, LeadsToOne, pairs}

trace-append : (n : ℕ) (u w : List ℕ) → IsTrace n u → IsTrace n w → IsTrace n (u ++ w)
trace-append n [] w h k = k
trace-append n (x ∷ u) w h k = (h.0, trace-append n u w h.1 k)

-- one symbol more
pub both-more : (s t : Steps) (q r x : ℕ) → LeadsToBoth s t q r → x < s.symbols → LeadsToBoth s t (s.next q x) (t.next r x)
both-more s t q r x h lx = record {
  by = h.by ++ x ∷ [];
  over = trace-append s.symbols h.by (x ∷ []) h.over (lx, tt);
  first = run-append s s.start h.by (x ∷ []) ∙ ap (λ (p : ℕ). s.next p x) h.first;
  second = run-append t t.start h.by (x ∷ []) ∙ ap (λ (p : ℕ). t.next p x) h.second;
}

pub both-start : (s t : Steps) → LeadsToBoth s t s.start t.start
both-start s t = record { by = []; over = tt; first = refl; second = refl }

-- one state beside each
pub both-one : (s t : Steps) → LeadsToOne s t → (p q r : ℕ) → LeadsToBoth s t p q → LeadsToBoth s t p r → q ≡ r
both-one s t one p q r h k = sym h.second ∙ (one h.by k.by h.over k.over (h.first ∙ sym k.first) ∙ k.second)

-- the states of a least automaton are told by what is accepted
pub one-least : (s : Steps) (a : Automaton) → IsLeast a → a.symbols ≡ s.symbols → ((w : List ℕ) → IsTrace s.symbols w → accepts a w ≡ accepts_of s w) → LeadsToOne s (steps_of a)
one-least s a least over same u w tu tw e = elim (cases_eq (run a a.start u) (run a a.start w)) [
  | inl one ↦ one
  | inr other ↦
      let tu2 : IsTrace a.symbols u = rw over tu in
      let tw2 : IsTrace a.symbols w = rw over tw in
      let told = least.apart (run a a.start u) (run a a.start w) (run-bound a least.whole a.start u least.whole.start_bound tu2) (run-bound a least.whole a.start w least.whole.start_bound tw2) other in
      let tx : IsTrace s.symbols told.by = subst (λ (n : ℕ). IsTrace n told.by) over told.over in
      absurd (told.differs (
      ap (is_accepting a) (sym (run-append (steps_of a) a.start u told.by))
      ∙ (same (u ++ told.by) (trace-append s.symbols u told.by tu tx)
      ∙ (ap s.accepting (run-append s s.start u told.by ∙ (ap (λ (q : ℕ). run_of s q told.by) e ∙ sym (run-append s s.start w told.by)))
      ∙ (sym (same (w ++ told.by) (trace-append s.symbols w told.by tw tx))
      ∙ ap (is_accepting a) (run-append (steps_of a) a.start w told.by))))
      ))
]

-- each trace leads the automaton of one state to state 0, since it accepts there
accepting-within : (xs : List Bool) (q : ℕ) → get_or xs q false ≡ true → q < length xs
accepting-within [] q e = absurd (cc)
accepting-within (x ∷ xs) zero e = omega arith
accepting-within (x ∷ xs) (suc q) e = let ih = accepting-within xs q e in omega (arith, ih)

pub run-everything : (n : ℕ) (a : Automaton) → IsEverything n a → (w : List ℕ) → IsTrace n w → run a a.start w ≡ 0
run-everything n a all w tw = let b = accepting-within a.accepting (run a a.start w) (all.accepts_all w tw) in omega (arith, b, all.one_state)

pub one-everything : (s : Steps) (a : Automaton) (n : ℕ) → IsEverything n a → n ≡ s.symbols → LeadsToOne s (steps_of a)
one-everything s a n all over u w tu tw e = run-everything n a all u (rw over tu) ∙ sym (run-everything n a all w (rw over tw))

-- an automaton and a table
module _ (a : Automaton) (t : Table) (c : Constraint) (is : IsTable t) where
  table_run-below : (u : ℕ) (w : List ℕ) → u < t.states → table_run t c u w < t.states
  table_run-below u [] lt = lt
  table_run-below u (x ∷ w) lt = table_run-below (table_step t u (class c x)) w (is.step_bound u (class c x) lt)

  run-pairs : (p u : ℕ) (w : List ℕ) → u < t.states → run_of (pairs a t c) (p * t.states + u) w ≡ run a p w * t.states + table_run t c u w
  run-pairs p u [] lt = refl
  run-pairs p u (x ∷ w) lt = rw (div-mul-add p t.states u lt, mod-mul-add p t.states u lt) (run-pairs (step a p x) (table_step t u (class c x)) w (is.step_bound u (class c x) lt))

  pub left-run : (w : List ℕ) → run_of (pairs a t c) (pairs a t c).start w / t.states ≡ run a a.start w
  left-run w = ap (λ (n : ℕ). n / t.states) (run-pairs a.start t.start w is.start_bound) ∙ (div-mul-add (run a a.start w) t.states (table_run t c t.start w) (table_run-below t.start w is.start_bound))

  pub middle-run : (w : List ℕ) → run_of (pairs a t c) (pairs a t c).start w % t.states ≡ table_run t c t.start w
  middle-run w = ap (λ (n : ℕ). n % t.states) (run-pairs a.start t.start w is.start_bound) ∙ (mod-mul-add (run a a.start w) t.states (table_run t c t.start w) (table_run-below t.start w is.start_bound))

  pub accepts-pairs : (w : List ℕ) → accepts_of (pairs a t c) w ≡ (accepts a w && keeps_by t c w)
  accepts-pairs w =
      ap (λ (n : ℕ). is_accepting a n && accepts_at t (run_of (pairs a t c) (pairs a t c).start w % t.states)) (left-run w)
      ∙ ap (λ (n : ℕ). accepts a w && accepts_at t n) (middle-run w)
