-- What the classes' automaton accepts, that its states are told apart, and that no two of its columns lead alike.
use Rattle.std.proofs.Common.{◌≡◌, inl, inr, ℕ, ◌<◌, ◌≤◌, List, [], ◌∷◌, ◌++◌, length, get_or, refl, sym, ap, ◌∙◌, subst, arith}
use Rattle.std.proofs.lemmas.Bool.{cases_eq, cases_lt}
use Rattle.std.proofs.lemmas.List.{get_or_past}
use Rattle.dfa_core.specs.Traces.{IsTrace}
use Rattle.dfa_core.specs.Automaton.{Automaton, IsBreadthFirst, IsReachable, IsWhole, SameLanguage, column, is_accepting, state_count, step, step_column, steps_of}
use Rattle.dfa_core.specs.Columns.{AreColumns, HasColumns, columns_of}
use Rattle.dfa_core.proofs.ColumnCounts.{few-columns}
use Rattle.dfa_core.specs.Steps.{Steps, accepts, run}
use Rattle.dfa_core.proofs.Runs.{run-append, run-bound, step_bound}
use Rattle.dfa_minimise.specs.Classes.{AreAlike, IsEquivalence, LeadAlike, merged, quotient}
use Rattle.dfa_minimise.specs.Least.{HasDistinctColumns, IsLeast}
use Rattle.dfa_minimise.specs.declared.refinable.Refinable.{Refinable}

trace-append : (n : ℕ) (u w : List ℕ) → IsTrace n u → IsTrace n w → IsTrace n (u ++ w)
trace-append n [] w tu tw = tw
trace-append n (x ∷ u) w tu tw = (tu.0, trace-append n u w tu.1 tw)

module _ (a : Automaton) (class members : List ℕ) (whole : IsWhole a) (h : IsEquivalence a class members) where
  abbrev g : Steps
  g = quotient a class members

  -- the class goes along with the run
  pub run-class : (q : ℕ) (w : List ℕ) → q < state_count a → IsTrace a.symbols w → run g (get_or class q 0) w ≡ get_or class (run (steps_of a) q w) 0
  unfolding step
  run-class q [] lq tw = refl
  run-class q (x ∷ w) lq tw =
      let p = h.partition in
      let lc = p.class_bound q lq in
      ap (λ c. run g c w) (h.stable (get_or members (get_or class q 0) 0) q (column a x) (p.member_bound (get_or class q 0) lc) lq (whole.column_bound x tw.0) (p.member_class (get_or class q 0) lc))
      ∙ run-class (step a q x) w (step_bound a whole q x lq tw.0) tw.1

  member-accepts : (q : ℕ) → q < state_count a → is_accepting a (get_or members (get_or class q 0) 0) ≡ is_accepting a q
  member-accepts q lq =
      let p = h.partition in
      let lc = p.class_bound q lq in
      h.sound.alike (get_or members (get_or class q 0) 0) q (p.member_bound (get_or class q 0) lc) lq (p.member_class (get_or class q 0) lc)

  pub accepts-quotient : (w : List ℕ) → IsTrace a.symbols w → accepts g w ≡ accepts (steps_of a) w
  accepts-quotient w tw =
      ap (λ c. is_accepting a (get_or members c 0)) (run-class a.start w whole.start_bound tw)
      ∙ member-accepts (run (steps_of a) a.start w) (run-bound a whole a.start w whole.start_bound tw)

  pub language-quotient : (r : Automaton) → IsReachable g r → (b : Automaton) → IsReachable (steps_of b) a → SameLanguage r b
  language-quotient r is b from = record {
    over = is.over ∙ from.over;
    same = λ w tw.
        let t : IsTrace a.symbols w = rw is.over at tw in
        let t2 : IsTrace b.symbols w = rw from.over at t in is.same w t ∙ (accepts-quotient w t ∙ from.same w t2);
  }

  pub least-quotient : (r : Automaton) → IsReachable g r → IsLeast r
  least-quotient r is = record {
    whole = is.whole;
    apart = λ p q lp lq ne.
        let b = is.in_order in
        let u = b.to p in
        let v = b.to q in
        let tu : IsTrace a.symbols u = rw is.over at (b.over p lp) in
        let tv : IsTrace a.symbols v = rw is.over at (b.over q lq) in
        let lu = run-bound a whole a.start u whole.start_bound tu in
        let lv = run-bound a whole a.start v whole.start_bound tv in
        let differ : get_or class (run (steps_of a) a.start u) 0 ≡ get_or class (run (steps_of a) a.start v) 0 → ⊥ = λ e.
        let led : run g g.start u ≡ run g g.start v = run-class a.start u whole.start_bound tu ∙ (e ∙ sym (run-class a.start v whole.start_bound tv)) in
        ne (sym (b.reached p lp) ∙ (is.one_for_state u v tu tv led ∙ b.reached q lq)) in
        let d = h.sound.apart (run (steps_of a) a.start u) (run (steps_of a) a.start v) lu lv differ in
        let from : (s : ℕ) (t : List ℕ) → run (steps_of r) r.start t ≡ s → IsTrace a.symbols t → is_accepting r (run (steps_of r) s d.by) ≡ is_accepting a (run (steps_of a) (run (steps_of a) a.start t) d.by) = λ s t e tt_.
        ap (λ z. is_accepting r (run (steps_of r) z d.by)) (sym e)
        ∙ (ap (is_accepting r) (sym (run-append (steps_of r) r.start t d.by))
        ∙ (is.same (t ++ d.by) (trace-append a.symbols t d.by tt_ d.over)
        ∙ (accepts-quotient (t ++ d.by) (trace-append a.symbols t d.by tt_ d.over)
        ∙ ap (is_accepting a) (run-append (steps_of a) a.start t d.by)))) in
        record {
          by = d.by;
          over = let P : ℕ → Type 0 = λ n. IsTrace n d.by in subst P (sym is.over) d.over;
          differs = λ e. d.differs (sym (from p u (b.reached p lp) tu) ∙ (e ∙ from q v (b.reached q lq) tv));
        };
  }

  -- the member of a class, or state 0
  member_state : (c : ℕ) → get_or members c 0 < state_count a
  member_state c = elim (cases_lt c (length members)) [ inl lt ↦ h.partition.member_bound c lt | inr past ↦ rw (get_or_past members c 0 past) (omega (arith, whole.start_bound)) ]

  pub columns-quotient : (groups : Refinable) → AreAlike a class groups → AreColumns g (merged a groups)
  unfolding step
  columns-quotient groups al = record {
    bound = λ x lx.
        let lk = whole.column_bound x lx in
        let known = al.columns (omega (arith, lk)) in
        al.tidy.refinable.class_bound (column a x) (omega (arith, lk, known));
    alike = λ c x y lx ly same. (al.alike (column a x) (column a y) (whole.column_bound x lx) (whole.column_bound y ly) same).alike (get_or members c 0) (member_state c);
  }

  -- symbols that lead alike in what is reached of the classes lead to one class from each state
  lead-alike : (r : Automaton) → IsReachable g r → IsBreadthFirst a → (x y : ℕ) → x < a.symbols → y < a.symbols → ((p : ℕ) → p < state_count r → step r p x ≡ step r p y) → LeadAlike a class (column a x) (column a y)
  unfolding step
  lead-alike r is order x y lx ly same = record {
    alike = λ q lq. elim (cases_eq (get_or class (step a q x) 0) (get_or class (step a q y) 0)) [
      | inl e ↦ e
      | inr ne ↦
          let d = h.sound.apart (step a q x) (step a q y) (step_bound a whole q x lq lx) (step_bound a whole q y lq ly) ne in
          let u = order.to q in
          let tu = order.over q lq in
          let p = run (steps_of r) r.start u in
          let lp : p < state_count r = run-bound r is.whole r.start u is.whole.start_bound (rw is.over tu) in
          let through : (z : ℕ) → z < a.symbols → is_accepting a (run (steps_of a) q (z ∷ d.by)) ≡ is_accepting r (run (steps_of r) p (z ∷ d.by)) = λ z lz.
          let t : IsTrace a.symbols (u ++ z ∷ d.by) = trace-append a.symbols u (z ∷ d.by) tu (lz, d.over) in
          ap (λ s. is_accepting a (run (steps_of a) s (z ∷ d.by))) (sym (order.reached q lq))
          ∙ (ap (is_accepting a) (sym (run-append (steps_of a) a.start u (z ∷ d.by)))
          ∙ (sym (accepts-quotient (u ++ z ∷ d.by) t)
          ∙ (sym (is.same (u ++ z ∷ d.by) t)
          ∙ ap (is_accepting r) (run-append (steps_of r) r.start u (z ∷ d.by))))) in
          absurd (d.differs (through x lx ∙ (ap (λ s. is_accepting r (run (steps_of r) s d.by)) (same p lp) ∙ sym (through y ly))))
    ];
  }

  -- so of the columns of what is reached no two lead alike
  pub distinct-quotient : (r : Automaton) (groups : Refinable) → IsReachable g r → IsBreadthFirst a → AreAlike a class groups → HasColumns (merged a groups) r → HasDistinctColumns r
  unfolding step
  distinct-quotient r groups is order al k = record {
    one = λ i j li lj same.
        let s = k.some in
        let x = s.symbol i in
        let y = s.symbol j in
        let lx : x < a.symbols = rw is.over at (s.bound i li) in
        let ly : y < a.symbols = rw is.over at (s.bound j lj) in
        let alike = lead-alike r is order x y lx ly (λ p lp. ap (λ c. step_column r p c) (s.of i li) ∙ (same p lp ∙ sym (ap (λ c. step_column r p c) (s.of j lj)))) in
        sym (s.of i li) ∙ (k.together x y (s.bound i li) (s.bound j lj) (al.one (column a x) (column a y) (whole.column_bound x lx) (whole.column_bound y ly) alike) ∙ s.of j lj);
  }

-- of the columns of an automaton at most all are left, of what is reached and of its classes
pub fewer-columns : (a b r : Automaton) (groups : Refinable) → HasColumns (columns_of a) b → IsWhole b → r.symbols ≡ b.symbols → HasColumns (merged b groups) r → r.width ≤ a.width
fewer-columns a b r groups h whole over k =
    let le = few-columns (columns_of a) b (column a) a.width h h.within (λ x y lx ly e. e) in
    let le2 = few-columns (merged b groups) r (column b) b.width k (λ x lx. whole.column_bound x (omega (arith, over, lx))) (λ x y lx ly e. ap (λ c. get_or groups.class.items c 0) e) in
    omega (arith, le, le2)
