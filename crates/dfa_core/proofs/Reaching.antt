-- The automaton of a search over columns that is over.
use Rattle.std.proofs.Common.{◌≡◌, inl, inr, ℕ, ◌+◌, ◌*◌, ◌<◌, ◌≤◌, ◌^◌, List, [], ◌∷◌, Bool, false, map, take, length, get_or, refl, sym, ap, ◌∙◌, arith}
use Rattle.std.proofs.lemmas.List.{get_or-map, length-map, take_all}
use Rattle.std.proofs.lemmas.Nat.{mul-add-lt}
use Rattle.std.proofs.Math.Nat.{mul_comm}
use Rattle.dfa_core.specs.Automaton.{Automaton, automaton, IsBreadthFirst, IsReachable, IsWhole, step, step_column, steps_of}
use Rattle.dfa_core.specs.Columns.{AreColumns, Columns, HasColumns}
use Rattle.dfa_core.specs.Grouping.{IsGrouped, by_columns}
use Rattle.dfa_core.specs.Searching.{IsExplored}
use Rattle.dfa_core.specs.Steps.{Steps, run}
use Rattle.dfa_core.specs.Traces.{IsTrace}
use Rattle.dfa_core.proofs.Grouped.{at_most-numbers, before-symbols, numbers, over-numbers, over-symbols, run-numbers, run-symbols, symbols}
use Rattle.dfa_core.proofs.Paths.{from_start, to, to-in_order, to-over, to-state}
use Rattle.dfa_core.proofs.Runs.{run-bound}

module _ (s : Steps) (c : Columns) (of least states next : List ℕ) (accepting : List Bool) (h : IsGrouped c s.symbols of least) (are : AreColumns s c)
    (x : IsExplored (by_columns s least) states next) (few : s.symbols < 2 ^ 32) (all : accepting ≡ map s.accepting states) where
  abbrev r : Automaton
  r = automaton of (length least) 0 next accepting

  e : length accepting ≡ length states
  e = ap length all ∙ length-map states s.accepting

  abbrev least_to : ℕ → List ℕ
  least_to = to (by_columns s least) states x.found (length states * length least) x.search

  in_table : (t k : ℕ) → t < length states → k < length least → t * length least + k < length next
  in_table t k lt lk = let b = mul-add-lt t (length least) k (length states) lt lk in let m = mul_comm (length least) (length states) in omega (arith, x.table_length)

  whole-explored : IsWhole r
  unfolding step_column
  whole-explored = record {
    start_bound = omega (arith, x.search.some, e);
    few_states = omega (arith, x.few, x.fits, e);
    few_symbols = omega (arith, h.of_length, few);
    few_columns = omega (arith, h.few, few);
    column_bound = λ y ly. h.of_bound y (omega (arith, h.of_length, ly));
    table_length = x.table_length ∙ ap (λ (n : ℕ). n * length least) (sym e);
    entry_bound = λ q k lq lk. let b = x.entries.bound q k lk (in_table q k (omega (arith, e, lq)) lk) in omega (arith, e, b);
  }

  -- the state that a number stands for goes along with a run
  states-run : (t : ℕ) (w : List ℕ) → t < length states → IsTrace s.symbols w → get_or states (run (steps_of r) t w) 0 ≡ run (by_columns s least) (get_or states t 0) (numbers s c of least h are w)
  unfolding step step_column
  states-run t [] l tw = refl
  states-run t (y ∷ w) l tw =
      let lk = h.of_bound y tw.0 in
      states-run (step r t y) w (x.entries.bound t (get_or of y 0) lk (in_table t (get_or of y 0) l lk)) tw.1
      ∙ ap (λ q. run (by_columns s least) q (numbers s c of least h are w)) (x.entries.are t (get_or of y 0) lk (in_table t (get_or of y 0) l lk))

  state-run : (w : List ℕ) → IsTrace s.symbols w → get_or states (run (steps_of r) 0 w) 0 ≡ run s s.start w
  state-run w tw = states-run 0 w x.search.some tw ∙ (ap (λ q. run (by_columns s least) q (numbers s c of least h are w)) x.search.first ∙ run-numbers s c of least h are s.start w tw)

  over-r : (w : List ℕ) → IsTrace s.symbols w → IsTrace (length of) w
  over-r w tw = rw h.of_length tw

  run-in : (w : List ℕ) → IsTrace s.symbols w → run (steps_of r) 0 w < length states
  run-in w tw = omega (arith, e, run-bound r whole-explored 0 w (omega (arith, e, x.search.some)) (over-r w tw))

  breadth_first-explored : IsBreadthFirst r
  unfolding to
  breadth_first-explored = record {
    to = λ q. symbols s c of least h are (least_to q);
    over = λ q l. over-r (symbols s c of least h are (least_to q)) (over-least_to q (omega (arith, e, l)));
    reached = λ q l.
        let lq : q < length states = omega (arith, e, l) in
        let tw = over-least_to q lq in
        x.search.distinct (run (steps_of r) 0 (symbols s c of least h are (least_to q))) q (run-in (symbols s c of least h are (least_to q)) tw) lq
        (state-run (symbols s c of least h are (least_to q)) tw
        ∙ (run-symbols s c of least h are s.start (least_to q) ∙ to-state (by_columns s least) states x.found (length states * length least) x.search q q (omega arith) lq));
    least = λ w tr.
        let tw : IsTrace s.symbols w = rw h.of_length at tr in
        elim (from_start (by_columns s least) states x.found (length states * length least) x.search (numbers s c of least h are w) (over-numbers s c of least h are w tw)) [
          | inl m ↦
              let same : run (steps_of r) 0 w ≡ m.number =
              x.search.distinct (run (steps_of r) 0 w) m.number (run-in w tw) m.bound (state-run w tw ∙ (sym (run-numbers s c of least h are s.start w tw) ∙ m.is)) in
              rw same (at_most-numbers s c of least h are (least_to m.number) w tw m.least)
          | inr b ↦ absurd (omega (arith, b.more))
        ];
    in_order = λ q t lt l.
        let low : t < length states = omega (arith, e, l) in
        before-symbols s c of least h are (least_to q) (least_to t)
        (to-over (by_columns s least) states x.found (length states * length least) x.search t t (omega arith) low)
        (to-in_order (by_columns s least) states x.found (length states * length least) x.search t q t (omega arith) lt low);
  }
    where
      over-least_to : (q : ℕ) → q < length states → IsTrace s.symbols (symbols s c of least h are (least_to q))
      over-least_to q lq = over-symbols s c of least h are (least_to q) (to-over (by_columns s least) states x.found (length states * length least) x.search q q (omega arith) lq)

  reachable-explored : IsReachable s r
  reachable-explored = record {
    over = h.of_length;
    same = λ w tw. ap (λ (l : List Bool). get_or l (run (steps_of r) 0 w) false) all ∙ (get_or-map s.accepting states (run (steps_of r) 0 w) 0 false (run-in w tw) ∙ ap s.accepting (state-run w tw));
    one_for_state = λ u w tu tw same. x.search.distinct (run (steps_of r) 0 u) (run (steps_of r) 0 w) (run-in u tu) (run-in w tw) (state-run u tu ∙ (same ∙ sym (state-run w tw)));
    few = omega (arith, x.few, e);
    whole = whole-explored;
    in_order = breadth_first-explored;
  }

  columns-explored : HasColumns c r
  columns-explored = record {
    within = λ y ly. are.bound y (omega (arith, h.of_length, ly));
    together = λ y z ly lz same. h.together y z (omega (arith, h.of_length, ly)) (omega (arith, h.of_length, lz)) same;
    apart = λ y z ly lz same.
        sym (h.apart y (omega (arith, h.of_length, ly))) ∙ (ap (λ (k : ℕ). c.of (get_or least k 0)) same ∙ h.apart z (omega (arith, h.of_length, lz)));
    some = record {
      symbol = λ k. get_or least k 0;
      bound = λ k lk. omega (arith, h.of_length, h.least_bound k lk);
      of = h.least_of;
    };
  }

-- with the marks of all states, which a loop has asked for
pub built : (s : Steps) (c : Columns) (of least states next items : List ℕ) (accepting : List Bool) (width k : ℕ) → IsGrouped c s.symbols of least → AreColumns s c → IsExplored (by_columns s least) states next → s.symbols < 2 ^ 32
    → accepting ≡ map s.accepting (take k items) → length items ≤ k → items ≡ states → width ≡ length least → IsReachable s (automaton of width 0 next accepting) × HasColumns c (automaton of width 0 next accepting)
built s c of least states next items accepting width k h are x few e le same is =
    let all = e ∙ ap (map s.accepting) (take_all k items le ∙ same) in
    rw is (reachable-explored s c of least states next accepting h are x few all, columns-explored s c of least states next accepting h are x few all)
