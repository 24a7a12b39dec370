-- Events and new cases, for what a monitor keeps.
use Rattle.std.proofs.Common.{◌≡◌, ℕ, ◌+◌, ◌*◌, ◌<◌, ◌≤◌, ◌⊎◌, inl, inr, List, [], ◌∷◌, ◌++◌, All, Some, length, map, get_or, slice_get, option_map, take, drop, refl, sym, ap, subst, ◌∙◌, arith}
use Rattle.std.proofs.Math.ListN.{set}
use Rattle.std.proofs.Math.Nat.{mul-le-mul_right}
use Rattle.std.proofs.lemmas.Bool.{cases_eq, cases_lt}
use Rattle.std.proofs.lemmas.List.{get_or-append-add, get_or_read, get_or-set_other, get_or-set_same, get_or_append_left, get_or_push, length-append, length-map, length-set, length_push, map-append, take_more, take_all, drop_all, append-nil}
use Rattle.std.proofs.lemmas.List.Elements.{All-nil, All-push, All-set}
use Rattle.std.proofs.lemmas.Option.{get_or_from_slice_get, slice_get-map, slice_get_within}
use Rattle.dfa_core.specs.Automaton.{run, state_count, step, steps_of}
use Rattle.dfa_core.specs.Traces.{IsTrace}
use Rattle.dfa_core.proofs.Runs.{run-append, run-bound}
use Rattle.template_core.specs.Tables.{class, step as table_step, table_run}
use Rattle.template_core.specs.Keeping.{KeepsAll, KeepsOne}
use Rattle.template_core.specs.declared.constraint.Constraint.{Constraint}
use Rattle.live_monitor.specs.Standing.{IsStanding}
use Rattle.live_monitor.specs.declared.standing.Standing.TheVariants.{Kept}
use Rattle.live_monitor.specs.Stands.{LeadTo, trace_of, watched_constraints}
use Rattle.live_monitor.specs.Watching.{AcceptsFrom, AreStepped, IsWatched, IsWatchedList, TableAcceptsFrom}
use Rattle.live_monitor.specs.declared.watched.Watched.{Watched}
use Rattle.live_monitor.specs.declared.watched_list.WatchedList.{WatchedList}
use Rattle.live_monitor.proofs.Standings.{standing-one, standing-whole, table_run-append, table_run-bound, trace-append}

-- the row of a case is within those of all
pub row-within : (case cases k : ℕ) → case < cases → case * k + k ≤ cases * k
row-within case cases k lt = let le : (case + 1) * k ≤ cases * k = mul-le-mul_right k (omega (arith, lt)) in grind (arith, le)

-- a place of another case's row is before or behind the row of a case
pub other-row : (case i k place : ℕ) → place < k → (i ≡ case → ⊥) → ((i * k + place < case * k) ⊎ (case * k + k ≤ i * k + place))
other-row case i k place lp ne = elim (cases_lt i case) [
  | inl lt ↦ let le = row-within i case k lt in inl (omega (arith, le, lp))
  | inr ge ↦ let lt : case < i = omega (arith, ge, ne) in let le = row-within case i k lt in inr (omega (arith, le))
]

module _ (list : WatchedList) (watched : List Watched) (states table_states : List ℕ) (traces : List (List ℕ)) (h : LeadTo list watched states table_states traces) where
  over-case : (case : ℕ) → case < length states → IsTrace list.dfa.symbols (trace_of traces case)
  over-case case lt = h.over case [] (omega (arith, h.cases, lt))

  -- the states that are kept are states
  pub state-bound : (case : ℕ) → case < length states → get_or states case 0 < state_count list.dfa
  state-bound case lt =
      let bound = run-bound list.dfa h.whole.least.least.whole list.dfa.start (trace_of traces case) h.whole.least.least.whole.start_bound (over-case case lt) in
      subst (λ q. q < state_count list.dfa) (sym (h.states_are case lt)) bound

  pub watched-at : (place : ℕ) (one : Watched) → slice_get watched place ≡ Some one → IsWatched list.dfa.symbols one
  watched-at place one at = subst (IsWatched list.dfa.symbols) (get_or_from_slice_get watched place one one at) (h.each place one (slice_get_within watched place one at))

  pub table_state-bound : (case place : ℕ) (one : Watched) → case < length states → slice_get watched place ≡ Some one → get_or table_states (case * length watched + place) 0 < one.table.states
  table_state-bound case place one lt at =
      let is = watched-at place one at in
      let bound = table_run-bound one.table one.constraint one.table.start (trace_of traces case) is.table is.table.start_bound in
      subst (λ q. q < one.table.states) (sym (h.table_states_are case place one lt at)) bound

  pub row-room : (case : ℕ) → case < length states → case * length watched + length watched ≤ length table_states
  row-room case lt = let le = row-within case (length states) (length watched) lt in omega (arith, le, h.rows)

  pub place-room : (case place : ℕ) → case < length states → place < length watched → case * length watched + place < length table_states
  place-room case place lt lp = let le = row-room case lt in omega (arith, le, lp)

  -- what is read at a place of a case's row
  pub cell-read : (case place width cell : ℕ) → case < length states → place < length watched → width ≡ length watched → cell ≡ get_or table_states (case * width + place) cell
      → cell ≡ get_or table_states (case * length watched + place) 0
  cell-read case place width cell lt lp same is =
      let room : case * width + place < length table_states = rw same (place-room case place lt lp) in
      get_or_read table_states (case * width + place) cell room is 0 ∙ ap (λ k. get_or table_states (case * k + place) 0) same

  some_constraint : {x y : Constraint} → Some x ≡ Some y → x ≡ y
  some_constraint e = cc e

  -- the standings of a case
  pub standing-case : (case state : ℕ) → case < length states → state ≡ get_or states case 0
      → IsStanding list.dfa.symbols (KeepsAll (watched_constraints watched)) (trace_of traces case) (get_or list.standings.items state Kept)
  standing-case case state lt e =
      let n = list.dfa.symbols in
      let there : state ≡ run list.dfa list.dfa.start (trace_of traces case) = e ∙ h.states_are case lt in
      let bound : state < state_count list.dfa = subst (λ q. q < state_count list.dfa) (sym e) (state-bound case lt) in
      let at = h.whole.standings state bound in
      standing-whole n (watched_constraints watched) list.dfa (trace_of traces case) (get_or list.standings.items state Kept) h.whole.least (over-case case lt)
      (subst (λ q. IsStanding n (AcceptsFrom list.dfa q) [] (get_or list.standings.items state Kept)) there at)

  pub standing-place : (case place state : ℕ) (one : Watched) (c : Constraint) → case < length states → slice_get watched place ≡ Some one → slice_get (watched_constraints watched) place ≡ Some c
      → state ≡ get_or table_states (case * length watched + place) 0 → IsStanding list.dfa.symbols (KeepsOne c) (trace_of traces case) (get_or one.standings state Kept)
  standing-place case place state one c lt at atc e =
      let n = list.dfa.symbols in
      let is = watched-at place one at in
      let same : one.constraint ≡ c = some_constraint (sym (slice_get-map (λ (w : Watched). w.constraint) watched place ∙ ap (option_map (λ (w : Watched). w.constraint)) at) ∙ atc) in
      let there : state ≡ table_run one.table one.constraint one.table.start (trace_of traces case) = e ∙ h.table_states_are case place one lt at in
      let bound : state < one.table.states = subst (λ q. q < one.table.states) (sym e) (table_state-bound case place one lt at) in
      let s = get_or one.standings state Kept in
      subst (λ d. IsStanding n (KeepsOne d) (trace_of traces case) s) same
      (standing-one n one (trace_of traces case) s is (subst (λ q. IsStanding n (TableAcceptsFrom one.table one.constraint q) [] s) there (is.standings state bound)))

  -- an event of a case
  pub lead-event : (case symbol : ℕ) (table_states' : List ℕ) → case < length states → symbol < list.dfa.symbols → length table_states' ≡ length table_states
      → AreStepped watched symbol (case * length watched) (length watched) table_states table_states'
      → LeadTo list watched (set states case (step list.dfa (get_or states case 0) symbol)) table_states' (set traces case (trace_of traces case ++ symbol ∷ []))
  lead-event case symbol table_states' lt ls long stepped = record {
    whole = h.whole;
    each = h.each;
    cases = length-set traces case t ∙ (h.cases ∙ sym (length-set states case q));
    rows = long ∙ (h.rows ∙ ap (λ k. k * length watched) (sym (length-set states case q)));
    over = All-set (IsTrace list.dfa.symbols) traces case t (trace-append list.dfa.symbols (trace_of traces case) (symbol ∷ []) (over-case case lt) (ls, tt)) h.over;
    states_are = λ i li. state i (omega (arith, length-set states case q, li));
    table_states_are = λ i place one li at. table_state i place one (omega (arith, length-set states case q, li)) at;
  }
    where
      t : List ℕ
      t = trace_of traces case ++ symbol ∷ []

      q : ℕ
      q = step list.dfa (get_or states case 0) symbol

      at_case : case < length traces
      at_case = omega (arith, h.cases, lt)

      state : (i : ℕ) → i < length states → get_or (set states case (step list.dfa (get_or states case 0) symbol)) i 0 ≡ run list.dfa list.dfa.start (get_or (set traces case (trace_of traces case ++ symbol ∷ [])) i [])
      state i li = elim (cases_eq i case) [
        | inl e ↦ rw (e, get_or-set_same states case (step list.dfa (get_or states case 0) symbol) 0 lt, get_or-set_same traces case (trace_of traces case ++ symbol ∷ []) [] at_case)
            (ap (λ r. step list.dfa r symbol) (h.states_are case lt) ∙ sym (run-append (steps_of list.dfa) list.dfa.start (trace_of traces case) (symbol ∷ [])))
        | inr ne ↦ rw (get_or-set_other states case i (step list.dfa (get_or states case 0) symbol) 0 ne, get_or-set_other traces case i (trace_of traces case ++ symbol ∷ []) [] ne) (h.states_are i li)
      ]

      table_state : (i place : ℕ) (one : Watched) → i < length states → slice_get watched place ≡ Some one
          → get_or table_states' (i * length watched + place) 0 ≡ table_run one.table one.constraint one.table.start (get_or (set traces case (trace_of traces case ++ symbol ∷ [])) i [])
      table_state i place one li at =
          let lp = slice_get_within watched place one at in
          elim (cases_eq i case) [
            | inl e ↦ rw (e, get_or-set_same traces case (trace_of traces case ++ symbol ∷ []) [] at_case)
                (stepped.stepped place one lp at ∙ (ap (λ r. table_step one.table r (class one.constraint symbol)) (h.table_states_are case place one lt at)
                ∙ sym (table_run-append one.table one.constraint one.table.start (trace_of traces case) (symbol ∷ []))))
            | inr ne ↦ rw (get_or-set_other traces case i (trace_of traces case ++ symbol ∷ []) [] ne)
                (stepped.others (i * length watched + place) (other-row case i (length watched) place lp ne) ∙ h.table_states_are i place one li at)
          ]

  -- a new case
  pub lead-begin : LeadTo list watched (states ++ list.dfa.start ∷ []) (table_states ++ map (λ one. one.table.start) watched) (traces ++ [] ∷ [])
  lead-begin = record {
    whole = h.whole;
    each = h.each;
    cases = length_push traces [] ∙ (ap (λ k. k + 1) h.cases ∙ sym (length_push states list.dfa.start));
    rows =
        let two = length-append table_states (map (λ one. one.table.start) watched) in
        let starts : length (map (λ (one : Watched). one.table.start) watched) ≡ length watched = length-map watched (λ (one : Watched). one.table.start) in
        let more = length_push states list.dfa.start in
        rw (two, starts, more, h.rows) (grind arith);
    over = All-push (IsTrace list.dfa.symbols) traces [] h.over tt;
    states_are = λ i li. state i (omega (arith, length_push states list.dfa.start, li));
    table_states_are = λ i place one li at. table_state i place one (omega (arith, length_push states list.dfa.start, li)) at;
  }
    where
      state : (i : ℕ) → i < length states + 1 → get_or (states ++ list.dfa.start ∷ []) i 0 ≡ run list.dfa list.dfa.start (get_or (traces ++ [] ∷ []) i [])
      state i li = elim (cases_eq i (length states)) [
        | inl e ↦ rw (get_or_push states list.dfa.start 0 i (sym e), get_or_push traces [] [] i (h.cases ∙ sym e)) refl
        | inr ne ↦
            let lt : i < length states = omega (arith, li, ne) in
            rw (get_or_append_left states (list.dfa.start ∷ []) 0 i lt, get_or_append_left traces ([] ∷ []) [] i (omega (arith, lt, h.cases))) (h.states_are i lt)
      ]

      table_state : (i place : ℕ) (one : Watched) → i < length states + 1 → slice_get watched place ≡ Some one
          → get_or (table_states ++ map (λ one. one.table.start) watched) (i * length watched + place) 0 ≡ table_run one.table one.constraint one.table.start (get_or (traces ++ [] ∷ []) i [])
      table_state i place one li at =
          let lp = slice_get_within watched place one at in
          elim (cases_eq i (length states)) [
            | inl e ↦
                let row : i * length watched + place ≡ length table_states + place = rw (e, h.rows) refl in
                let start : get_or (map (λ (one : Watched). one.table.start) watched) place 0 ≡ one.table.start
                = get_or_from_slice_get (map (λ (one : Watched). one.table.start) watched) place one.table.start 0 (slice_get-map (λ (one : Watched). one.table.start) watched place ∙ ap (option_map (λ (one : Watched). one.table.start)) at) in
                rw (row, get_or-append-add table_states (map (λ (one : Watched). one.table.start) watched) place 0, get_or_push traces [] [] i (h.cases ∙ sym e)) start
            | inr ne ↦
                let lt : i < length states = omega (arith, li, ne) in
                let le = row-within i (length states) (length watched) lt in
                rw (get_or_append_left table_states (map (λ (one : Watched). one.table.start) watched) 0 (i * length watched + place) (omega (arith, le, lp, h.rows)), get_or_append_left traces ([] ∷ []) [] i (omega (arith, lt, h.cases)))
                (h.table_states_are i place one lt at)
          ]

-- no case
pub lead-none : (list : WatchedList) (watched : List Watched) → IsWatchedList list.dfa.symbols (watched_constraints watched) list → All (IsWatched list.dfa.symbols) watched → LeadTo list watched [] [] []
lead-none list watched whole each = record {
  whole = whole;
  each = each;
  cases = refl;
  rows = omega arith;
  over = All-nil (IsTrace list.dfa.symbols);
  states_are = λ i li. absurd (omega (arith, li));
  table_states_are = λ i place one li at. absurd (omega (arith, li));
}

-- a monitor of no case, by what it is made of
pub lead-new : (n : ℕ) (constraints : List Constraint) (list : WatchedList) (watched : List Watched) → IsWatchedList n constraints list → All (IsWatched n) watched → watched_constraints watched ≡ constraints → LeadTo list watched [] [] []
lead-new n constraints list watched whole each of =
    let over : n ≡ list.dfa.symbols = sym whole.least.of.over in
    let these : IsWatchedList list.dfa.symbols (watched_constraints watched) list = subst (λ m. IsWatchedList m (watched_constraints watched) list) over (subst (λ l. IsWatchedList n l list) (sym of) whole) in
    lead-none list watched these (subst (λ m. All (IsWatched m) watched) over each)

-- one constraint more
pub constraints-push : (watched : List Watched) (list : List Constraint) (i : ℕ) (one : Watched) (d : Constraint) → watched_constraints watched ≡ take i list → i < length list
    → one.constraint ≡ get_or list i d → watched_constraints (watched ++ one ∷ []) ≡ take (i + 1) list
constraints-push watched list i one d these lt e = map-append (λ (w : Watched). w.constraint) watched (one ∷ []) ∙ (ap (λ l. l ++ one.constraint ∷ []) these ∙ (ap (λ c. take i list ++ c ∷ []) e ∙ sym (take_more list i d lt)))

-- one constraint's state more
pub stepped-more : (watched : List Watched) (symbol from place value : ℕ) (old new : List ℕ) (one : Watched) → from + place < length new → slice_get watched place ≡ Some one
    → value ≡ table_step one.table (get_or new (from + place) 0) (class one.constraint symbol)
    → AreStepped watched symbol from place old new → AreStepped watched symbol from (place + 1) old (set new (from + place) value)
stepped-more watched symbol from place value old new one lt at is stepped = record {
  stepped = λ k other lk there. elim (cases_eq k place) [
    | inl e ↦
        let same : other ≡ one = some_same (sym there ∙ (ap (slice_get watched) e ∙ at)) in
        rw (e, same, get_or-set_same new (from + place) value 0 lt) (is ∙ ap (λ r. table_step one.table r (class one.constraint symbol)) (stepped.others (from + place) (inr (omega arith))))
    | inr ne ↦
        let apart : from + k ≡ from + place → ⊥ = λ e. ne (omega (arith, e)) in
        rw (get_or-set_other new (from + place) (from + k) value 0 apart) (stepped.stepped k other (omega (arith, lk, ne)) there)
  ];
  others = λ k outside.
      let apart : k ≡ from + place → ⊥ = λ e. not_there k outside e in
      get_or-set_other new (from + place) k value 0 apart ∙ stepped.others k (still k outside);
}
  where
    some_same : {x y : Watched} → Some x ≡ Some y → x ≡ y
    some_same e = cc e

    not_there : (k : ℕ) → ((k < from) ⊎ (from + (place + 1) ≤ k)) → k ≡ from + place → ⊥
    not_there k (inl lt) e = omega (arith, lt, e)
    not_there k (inr le) e = omega (arith, le, e)

    still : (k : ℕ) → ((k < from) ⊎ (from + (place + 1) ≤ k)) → ((k < from) ⊎ (from + place ≤ k))
    still k (inl lt) = inl lt
    still k (inr le) = inr (omega (arith, le))

-- one that stays more
pub stepped-still : (watched : List Watched) (symbol from place : ℕ) (old new : List ℕ) (one : Watched) → slice_get watched place ≡ Some one
    → table_step one.table (get_or new (from + place) 0) (class one.constraint symbol) ≡ get_or new (from + place) 0
    → AreStepped watched symbol from place old new → AreStepped watched symbol from (place + 1) old new
stepped-still watched symbol from place old new one at stays stepped = record {
  stepped = λ k other lk there. elim (cases_eq k place) [
    | inl e ↦
        let same : other ≡ one = some_one (sym there ∙ (ap (slice_get watched) e ∙ at)) in
        rw (e, same) (sym stays ∙ ap (λ r. table_step one.table r (class one.constraint symbol)) (stepped.others (from + place) (inr (omega arith))))
    | inr ne ↦ stepped.stepped k other (omega (arith, lk, ne)) there
  ];
  others = λ k outside. stepped.others k (before k outside);
}
  where
    some_one : {x y : Watched} → Some x ≡ Some y → x ≡ y
    some_one e = cc e

    before : (k : ℕ) → ((k < from) ⊎ (from + (place + 1) ≤ k)) → ((k < from) ⊎ (from + place ≤ k))
    before k (inl lt) = inl lt
    before k (inr le) = inr (omega (arith, le))

-- what is written back of a whole list
pub written : (xs items : List ℕ) (n : ℕ) → n ≡ length items → length xs ≡ length items → take n (xs ++ drop (length xs) items) ≡ xs
written xs items n e long =
    let none : drop (length xs) items ≡ [] = drop_all (length xs) items (omega (arith, long)) in
    let whole : take n xs ≡ xs = take_all n xs (omega (arith, e, long)) in
    ap (λ ys. take n (xs ++ ys)) none ∙ (ap (take n) (append-nil xs) ∙ whole)
