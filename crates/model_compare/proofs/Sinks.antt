-- Symbols that no accepted trace of a least automaton has: they lead to its one sink.
use Rattle.std.proofs.Common.{◌≡◌, ◌↔◌, inl, inr, ℕ, zero, suc, ◌+◌, ◌<◌, List, [], ◌∷◌, ◌++◌, length, get_or, Bool, true, false, refl, sym, ap, ◌∙◌, arith}
use Rattle.std.specs.List.{Contains}
use Rattle.std.proofs.lemmas.Bool.{cases_eq, false_from_ne_true}
use Rattle.std.proofs.lemmas.List.Elements.{Contains-append_right}
use Rattle.dfa_core.specs.Automaton.{Automaton, IsBreadthFirst, is_accepting, run, state_count, step, steps_of}
use Rattle.dfa_core.specs.Traces.{IsTrace}
use Rattle.dfa_core.proofs.Runs.{run-append, step_bound}
use Rattle.dfa_minimise.specs.Least.{IsLeast}
use Rattle.model_compare.specs.Unused.{IsSink, IsUnused}

trace-append : (n : ℕ) (u w : List ℕ) → IsTrace n u → IsTrace n w → IsTrace n (u ++ w)
trace-append n [] w tu tw = tw
trace-append n (x ∷ u) w tu tw = (tu.0, trace-append n u w tu.1 tw)

module _ (a : Automaton) (least : IsLeast a) where
  -- nothing is accepted from a sink
  rejected : (s : ℕ) → IsSink a s → (w : List ℕ) → IsTrace a.symbols w → is_accepting a (run a s w) ≡ false
  rejected s sink [] tw = sink.rejects
  rejected s sink (x ∷ w) tw = rw (sink.stays x tw.0) (rejected s sink w tw.1)

  -- a state from which nothing is accepted is the sink
  is-sink : (s q : ℕ) → s < state_count a → IsSink a s → q < state_count a → ((w : List ℕ) → IsTrace a.symbols w → is_accepting a (run a q w) ≡ false) → q ≡ s
  is-sink s q ls sink lq stuck = elim (cases_eq q s) [
    | inl e ↦ e
    | inr ne ↦ let apart = least.apart q s lq ls ne in absurd (apart.differs (stuck apart.by apart.over ∙ sym (rejected s sink apart.by apart.over)))
  ]

  -- and one is a sink
  sink-from : (q : ℕ) → q < state_count a → ((w : List ℕ) → IsTrace a.symbols w → is_accepting a (run a q w) ≡ false) → IsSink a q
  sink-from q lq stuck = record {
    rejects = stuck [] tt;
    stays = λ x lx. elim (cases_eq (step a q x) q) [
      | inl e ↦ e
      | inr ne ↦
          let apart = least.apart (step a q x) q (step_bound a least.whole q x lq lx) lq ne in
          absurd (apart.differs (stuck (x ∷ apart.by) (lx, apart.over) ∙ sym (stuck apart.by apart.over)))
    ];
  }

  unaccepted : (s x : ℕ) → IsSink a s → ((q : ℕ) → q < state_count a → step a q x ≡ s) → (w : List ℕ) (q : ℕ) → q < state_count a → IsTrace a.symbols w → Contains w x
      → is_accepting a (run a q w) ≡ false
  unaccepted s x sink leads [] q lq tw has = absurd (omega (arith, has.1))
  unaccepted s x sink leads (y ∷ w) q lq tw has = go (unaccepted s x sink leads w) has.0 has.1 has.2
    where
      go : ((p : ℕ) → p < state_count a → IsTrace a.symbols w → Contains w x → is_accepting a (run a p w) ≡ false) → (k : ℕ) → k < length (y ∷ w) → get_or (y ∷ w) k x ≡ x
          → is_accepting a (run a (step a q y) w) ≡ false
      go ih zero l e = rw (ap (step a q) e ∙ leads q lq) (rejected s sink w tw.1)
      go ih (suc k) l e = ih (step a q y) (step_bound a least.whole q y lq tw.0) tw.1 (k, omega (arith, l), e)

  pub unused-leads : (s x : ℕ) → IsSink a s → ((q : ℕ) → q < state_count a → step a q x ≡ s) → IsUnused a x
  unused-leads s x sink leads w tw accepted has = let rejects = unaccepted s x sink leads w a.start least.whole.start_bound tw has in absurd (cc (accepted, rejects))

  module _ (order : IsBreadthFirst a) where
    -- nothing is accepted after a symbol that is not used
    stuck-unused : (x q : ℕ) → IsUnused a x → x < a.symbols → q < state_count a → (w : List ℕ) → IsTrace a.symbols w → is_accepting a (run a (step a q x) w) ≡ false
    stuck-unused x q unused lx lq w tw = false_from_ne_true (is_accepting a (run a (step a q x) w)) (λ accepted.
        let there : run a a.start (order.to q ++ x ∷ w) ≡ run a (step a q x) w = run-append (steps_of a) a.start (order.to q) (x ∷ w) ∙ ap (λ (p : ℕ). run a p (x ∷ w)) (order.reached q lq) in
        unused (order.to q ++ x ∷ w) (trace-append a.symbols (order.to q) (x ∷ w) (order.over q lq) (lx, tw)) (ap (is_accepting a) there ∙ accepted) (Contains-append_right (order.to q) (x ∷ w) x (0, omega arith, refl)))

    pub leads-unused : (s x : ℕ) → s < state_count a → IsSink a s → IsUnused a x → x < a.symbols → (q : ℕ) → q < state_count a → step a q x ≡ s
    leads-unused s x ls sink unused lx q lq = is-sink s (step a q x) ls sink (step_bound a least.whole q x lq lx) (stuck-unused x q unused lx lq)

    pub none-unused : ((q : ℕ) → q < state_count a → IsSink a q → ⊥) → (x : ℕ) → x < a.symbols → IsUnused a x → ⊥
    none-unused none x lx unused =
        let q = step a a.start x in
        let lq = step_bound a least.whole a.start x least.whole.start_bound lx in none q lq (sink-from q lq (stuck-unused x a.start unused lx least.whole.start_bound))
