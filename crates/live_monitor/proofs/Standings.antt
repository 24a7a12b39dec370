-- Standings of traces by the states to which they lead.
use Rattle.std.proofs.Common.{◌≡◌, ◌↔◌, ℕ, ◌+◌, ◌<◌, inl, inr, List, [], ◌∷◌, ◌++◌, Bool, true, false, not, IsTrue, get_or, length, subst, refl, sym, ap, ◌∙◌, arith}
use Rattle.std.proofs.lemmas.Bool.{cases_eq}
use Rattle.std.proofs.lemmas.List.{get_or_append_left, get_or_push}
use Rattle.dfa_core.specs.Automaton.{Automaton, accepts, is_accepting, run, state_count, step, steps_of}
use Rattle.dfa_core.specs.Traces.{IsTrace}
use Rattle.dfa_core.proofs.Runs.{run-append, step_bound}
use Rattle.dfa_minimise.specs.Least.{IsLeast}
use Rattle.list_dfa.specs.Lists.{IsLeastOf}
use Rattle.template_core.specs.Keeping.{KeepsAll, KeepsOne}
use Rattle.template_core.specs.Tables.{IsTable, accepts_at, class, step as table_step, table_run}
use Rattle.template_core.specs.declared.constraint.Constraint.{Constraint}
use Rattle.template_core.specs.declared.table.Table.{Table}
use Rattle.live_monitor.specs.Standing.{IsStanding}
use Rattle.live_monitor.specs.Watching.{AcceptsFrom, IsWatched, LeadsToMarked, TableAcceptsFrom, settled_by, standing_by}
use Rattle.live_monitor.specs.declared.standing.Standing.{Standing}
use Rattle.live_monitor.specs.declared.standing.Standing.TheVariants.{Kept, KeptNow, BrokenNow, Broken}
use Rattle.live_monitor.specs.declared.watched.Watched.{Watched}

pub trace-append : (n : ℕ) (u v : List ℕ) → IsTrace n u → IsTrace n v → IsTrace n (u ++ v)
trace-append n [] v over more = more
trace-append n (x ∷ u) v over more = (over.0, trace-append n u v over.1 more)

-- two traces with the same continuations in two languages have one standing
standing-same : (n : ℕ) (P Q : List ℕ → Type 0) (t u : List ℕ) (s : Standing) → ((w : List ℕ) → IsTrace n w → P (t ++ w) ↔ Q (u ++ w)) → P t ↔ Q u → IsStanding n P t s → IsStanding n Q u s
standing-same n P Q t u Kept h now is = λ w over. (h w over).0 (is w over)
standing-same n P Q t u KeptNow h now is = (now.0 is.0, λ every. is.1 (λ w over. (h w over).1 (every w over)))
standing-same n P Q t u BrokenNow h now is = (λ q. is.0 (now.1 q), λ none. is.1 (λ w over p. none w over ((h w over).0 p)))
standing-same n P Q t u Broken h now is = λ w over q. is w over ((h w over).1 q)

-- the standing at the state to which a trace leads is the trace's
pub standing-whole : (n : ℕ) (list : List Constraint) (a : Automaton) (t : List ℕ) (s : Standing) → IsLeastOf n list a → IsTrace n t
    → IsStanding n (AcceptsFrom a (run a a.start t)) [] s → IsStanding n (KeepsAll list) t s
standing-whole n list a t s least over is = standing-same n (AcceptsFrom a (run a a.start t)) (KeepsAll list) [] t s joins (least.of.same t over) is
  where
    joins : (w : List ℕ) → IsTrace n w → AcceptsFrom a (run a a.start t) w ↔ KeepsAll list (t ++ w)
    joins w more =
        let same = least.of.same (t ++ w) (trace-append n t w over more) in
        let e : accepts a (t ++ w) ≡ is_accepting a (run a (run a a.start t) w) = ap (is_accepting a) (run-append (steps_of a) a.start t w) in
        (λ is. same.0 (e ∙ is), λ keeps. sym e ∙ same.1 keeps)

-- one more standing
pub standings-push : (a : Automaton) (standings : List Standing) (state : ℕ) (s : Standing) → length standings ≡ state
    → ((q : ℕ) → q < state → IsStanding a.symbols (AcceptsFrom a q) [] (get_or standings q Kept)) → IsStanding a.symbols (AcceptsFrom a state) [] s
    → (q : ℕ) → q < state + 1 → IsStanding a.symbols (AcceptsFrom a q) [] (get_or (standings ++ s ∷ []) q Kept)
standings-push a standings state s long are is q lq = elim (cases_eq q state) [
  | inl e ↦
      let new : IsStanding a.symbols (AcceptsFrom a q) [] s = subst (λ r. IsStanding a.symbols (AcceptsFrom a r) [] s) (sym e) is in
      subst (IsStanding a.symbols (AcceptsFrom a q) []) (sym (get_or_push standings s Kept q (long ∙ sym e))) new
  | inr ne ↦
      let lt : q < state = omega (arith, lq, ne) in
      subst (IsStanding a.symbols (AcceptsFrom a q) []) (sym (get_or_append_left standings (s ∷ []) Kept q (omega (arith, lt, long)))) (are q lt)
]

pub table_run-append : (table : Table) (c : Constraint) (q : ℕ) (u w : List ℕ) → table_run table c q (u ++ w) ≡ table_run table c (table_run table c q u) w
table_run-append table c q [] w = refl
table_run-append table c q (x ∷ u) w = table_run-append table c (table_step table q (class c x)) u w

pub table_run-bound : (table : Table) (c : Constraint) (q : ℕ) (w : List ℕ) → IsTable table → q < table.states → table_run table c q w < table.states
table_run-bound table c q [] whole lt = lt
table_run-bound table c q (x ∷ w) whole lt = table_run-bound table c (table_step table q (class c x)) w whole (whole.step_bound q (class c x) lt)

pub standing-one : (n : ℕ) (one : Watched) (t : List ℕ) (s : Standing) → IsWatched n one
    → IsStanding n (TableAcceptsFrom one.table one.constraint (table_run one.table one.constraint one.table.start t)) [] s → IsStanding n (KeepsOne one.constraint) t s
standing-one n one t s is at = standing-same n (TableAcceptsFrom one.table one.constraint (table_run one.table one.constraint one.table.start t)) (KeepsOne one.constraint) [] t s joins (is.language t) at
  where
    joins : (w : List ℕ) → IsTrace n w → TableAcceptsFrom one.table one.constraint (table_run one.table one.constraint one.table.start t) w ↔ KeepsOne one.constraint (t ++ w)
    joins w more =
        let same = is.language (t ++ w) in
        let e = ap (accepts_at one.table) (table_run-append one.table one.constraint one.table.start t w) in
        (λ yes. same.0 (e ∙ yes), λ keeps. sym e ∙ same.1 keeps)

clash : false ≡ true → ⊥
clash is = cc is

not_true : (b : Bool) → (b ≡ true → ⊥) → b ≡ false
not_true true never = absurd (never refl)
not_true false never = refl

-- where all continuations of a state are accepted, or none, each symbol leads back to it: else two states weren't told apart
stays-alike : (a : Automaton) (q : ℕ) (b : Bool) → IsLeast a → q < state_count a → ((w : List ℕ) → IsTrace a.symbols w → is_accepting a (run a q w) ≡ b)
    → (x : ℕ) → x < a.symbols → step a q x ≡ q
stays-alike a q b least lt alike x lx = elim (cases_eq (step a q x) q) [
  | inl e ↦ e
  | inr ne ↦
      let t = least.apart (step a q x) q (step_bound a least.whole q x lt lx) lt ne in
      absurd (t.differs (alike (x ∷ t.by) (lx, t.over) ∙ sym (alike t.by t.over)))
]

run-stays : (a : Automaton) (q : ℕ) → ((x : ℕ) → x < a.symbols → step a q x ≡ q) → (w : List ℕ) → IsTrace a.symbols w → run a q w ≡ q
run-stays a q stays [] over = refl
run-stays a q stays (x ∷ w) over = ap (λ r. run a r w) (stays x over.0) ∙ run-stays a q stays w over.1

pub standing-settled : (a : Automaton) (q : ℕ) (keeps settled : Bool) → IsLeast a → q < state_count a → is_accepting a q ≡ keeps
    → IsTrue settled ↔ ((x : ℕ) → x < a.symbols → step a q x ≡ q) → IsStanding a.symbols (AcceptsFrom a q) [] (settled_by keeps settled)
standing-settled a q true true least lt e stays = λ w over. ap (is_accepting a) (run-stays a q (stays.0 refl) w over) ∙ e
standing-settled a q true false least lt e stays = (e, λ every. clash (stays.1 (stays-alike a q true least lt every)))
standing-settled a q false false least lt e stays = (λ yes. clash (sym e ∙ yes), λ none. clash (stays.1 (stays-alike a q false least lt (λ w over. not_true (is_accepting a (run a q w)) (none w over)))))
standing-settled a q false true least lt e stays = λ w over yes. clash (sym e ∙ (sym (ap (is_accepting a) (run-stays a q (stays.0 refl) w over)) ∙ yes))

module _ (n : ℕ) (table : Table) (c : Constraint) (rejecting : List Bool) (whole : IsTable table)
    (opposite : (q : ℕ) → q < 12 → get_or rejecting q false ≡ not (get_or table.accepting q false)) where
  rejected : (q : ℕ) (w : List ℕ) → q < table.states → get_or rejecting (table_run table c q w) false ≡ not (accepts_at table (table_run table c q w))
  rejected q w lt = let bound = table_run-bound table c q w whole lt in opposite (table_run table c q w) (omega (arith, bound, whole.few_states))

  -- the standing at a state, where it is known whether some continuation leads to an accepting state, and to another
  pub standing-marked : (q : ℕ) (keeps may_keep may_break : Bool) → q < table.states → accepts_at table q ≡ keeps
      → (may_keep ≡ true → LeadsToMarked n table c table.accepting q)
      → ((w : List ℕ) → IsTrace n w → get_or table.accepting (table_run table c q w) false ≡ true → may_keep ≡ true)
      → (may_break ≡ true → LeadsToMarked n table c rejecting q)
      → ((w : List ℕ) → IsTrace n w → get_or rejecting (table_run table c q w) false ≡ true → may_break ≡ true)
      → IsStanding n (TableAcceptsFrom table c q) [] (standing_by keeps may_keep may_break)
  standing-marked q keeps may_keep false lt e sound complete breaks all = λ w over. accepted (accepts_at table (table_run table c q w)) w refl over
    where
      accepted : (b : Bool) (w : List ℕ) → accepts_at table (table_run table c q w) ≡ b → IsTrace n w → accepts_at table (table_run table c q w) ≡ true
      accepted true w is over = is
      accepted false w is over = absurd (clash (all w over (rejected q w lt ∙ ap not is)))
  standing-marked q keeps false true lt e sound complete breaks all = λ w over yes. clash (complete w over yes)
  standing-marked q true true true lt e sound complete breaks all = (
    e,
    λ every.
        let l = breaks refl in clash (sym (ap not (every l.by l.over)) ∙ (sym (rejected q l.by lt) ∙ l.there)),
  )
  standing-marked q false true true lt e sound complete breaks all = (λ yes. clash (sym e ∙ yes), λ none. let l = sound refl in none l.by l.over l.there)
