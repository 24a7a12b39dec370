-- Runs of an automaton.
use Rattle.std.proofs.Common.{◌≡◌, ℕ, zero, suc, ◌+◌, ◌*◌, ◌<◌, ◌^◌, List, [], ◌∷◌, ◌++◌, length, replicate, Bool, true, false, get_or, refl, ap, ◌∙◌, arith, lit<}
use Rattle.std.specs.List.{AllByRecursion}
use Rattle.std.proofs.lemmas.List.{length-replicate}
use Rattle.std.proofs.lemmas.Nat.{mul-add-lt}
use Rattle.std.proofs.Math.Nat.{mul_comm}
use Rattle.dfa_core.specs.Automaton.{Automaton, automaton, IsWhole, IsEverything, state_count, column, step, step_column, run, accepts, is_accepting, steps_of}
use Rattle.dfa_core.specs.Columns.{AreColumns, columns_of}
use Rattle.dfa_core.specs.Steps.{Steps, run as run_of}
use Rattle.dfa_core.specs.Traces.{IsTrace}

pub run-append : (s : Steps) (q : ℕ) (u w : List ℕ) → run_of s q (u ++ w) ≡ run_of s (run_of s q u) w
run-append s q [] w = refl
run-append s q (x ∷ u) w = run-append s (s.next q x) u w

-- a step leads to a state
pub step_bound : (a : Automaton) → IsWhole a → (q x : ℕ) → q < state_count a → x < a.symbols → step a q x < state_count a
unfolding step
step_bound a h q x lt lx = h.entry_bound q (column a x) lt (h.column_bound x lx)

pub run-bound : (a : Automaton) → IsWhole a → (q : ℕ) (w : List ℕ) → q < state_count a → IsTrace a.symbols w → run a q w < state_count a
run-bound a h q [] lt t = lt
run-bound a h q (x ∷ w) lt t = run-bound a h (step a q x) w (step_bound a h q x lt t.0) t.1

pub columns-whole : (a : Automaton) → IsWhole a → AreColumns (steps_of a) (columns_of a)
unfolding step
columns-whole a h = record { bound = h.column_bound; alike = λ q x y lx ly same. ap (step_column a q) same }

-- with one state, and that accepting, each trace is accepted
pub accepts-one_state : (a : Automaton) → IsWhole a → state_count a ≡ 1 → is_accepting a 0 ≡ true → (w : List ℕ) → IsTrace a.symbols w → accepts a w ≡ true
accepts-one_state a h one ok w t =
    let lt : run a a.start w < state_count a = run-bound a h a.start w h.start_bound t in
    let z : run a a.start w ≡ 0 = omega arith in
    ap (λ q. is_accepting a q) z ∙ ok

zeros : (n i : ℕ) → get_or (replicate n zero) i 0 ≡ zero
zeros zero i = refl
zeros (suc n) zero = refl
zeros (suc n) (suc i) = zeros n i

pub whole-everything : (n : ℕ) (columns next : List ℕ) (accepting : List Bool) → n < 2 ^ 32 → columns ≡ replicate n zero → next ≡ 0 ∷ [] → accepting ≡ true ∷ [] → IsWhole (automaton columns 1 0 next accepting)
unfolding step_column
whole-everything n columns next accepting few c e f = rw (c, e, f) (record {
  start_bound = omega arith;
  few_states = lit< tt;
  few_symbols = omega (arith, length-replicate n zero, few);
  few_columns = lit< tt;
  column_bound = λ x lx. rw (zeros n x) (omega arith);
  table_length = refl;
  entry_bound = λ q k lq lk. let z : q * 1 + k ≡ 0 = omega arith in rw z (omega arith);
})

pub everything-from_whole : (n : ℕ) (columns next : List ℕ) (accepting : List Bool) → columns ≡ replicate n zero → accepting ≡ true ∷ [] → IsWhole (automaton columns 1 0 next accepting) → IsEverything n (automaton columns 1 0 next accepting)
everything-from_whole n columns next accepting c f whole =
    let over : length columns ≡ n = ap length c ∙ length-replicate n zero in
    record {
      over = over;
      one_state = ap length f;
      accepts_all = λ w t. accepts-one_state (automaton columns 1 0 next accepting) whole (ap length f) (ap (λ (l : List Bool). get_or l 0 false) f) w (rw over t);
    }

below : (n : ℕ) (xs : List ℕ) (k : ℕ) → AllByRecursion (λ x. x < n) xs → k < length xs → get_or xs k 0 < n
below n [] k all lt = absurd (omega (arith, lt))
below n (x ∷ xs) zero all lt = all.0
below n (x ∷ xs) (suc k) all lt = below n xs k all.1 (omega (arith, lt))

-- columns of symbols, and a table whose entries are states
pub whole-entries : (columns : List ℕ) (width start : ℕ) (next : List ℕ) (accepting : List Bool) → length columns < 2 ^ 32 → width < 2 ^ 32 → AllByRecursion (λ k. k < width) columns
    → start < length accepting → length accepting < 2 ^ 32 → length next ≡ length accepting * width → AllByRecursion (λ x. x < length accepting) next → IsWhole (automaton columns width start next accepting)
unfolding step_column
whole-entries columns width start next accepting short narrow within first few long all = record {
  start_bound = first;
  few_states = few;
  few_symbols = short;
  few_columns = narrow;
  column_bound = λ x lx. below width columns x within lx;
  table_length = long;
  entry_bound = λ q k lq lk.
      let b = mul-add-lt q width k (length accepting) lq lk in
      let m = mul_comm width (length accepting) in
      below (length accepting) next (q * width + k) all (omega (arith, long, b, m));
}
