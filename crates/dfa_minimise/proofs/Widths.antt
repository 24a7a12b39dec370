-- How many states a least automaton has, and how many traces its language tells apart.
use Rattle.std.proofs.Common.{◌≡◌, ◌≢◌, ℕ, suc, ◌<◌, ◌≤◌, inl, inr, List, [], ◌∷◌, ◌++◌, Bool, true, false, IsTrue, ◌↔◌, refl, sym, ap, ◌∙◌, arith}
use Rattle.std.proofs.lemmas.Bool.{cases_eq, cases_lt}
use Rattle.dfa_core.specs.Automaton.{Automaton, IsWhole, IsBreadthFirst, IsReachable, Accepts, SameLanguage, accepts, is_accepting, run, state_count, steps_of}
use Rattle.dfa_core.specs.Traces.{IsTrace}
use Rattle.dfa_core.proofs.Pigeons.{TakesNoneTwice, le_from_injection}
use Rattle.dfa_core.proofs.Runs.{run-append, run-bound}
use Rattle.dfa_minimise.specs.Classes.{AreManyApart}
use Rattle.dfa_minimise.specs.Least.{IsLeast}
use Rattle.dfa_minimise.specs.Wide.{TellsApart, IsWide}

-- traces that are told apart lead to different states
states_differ : (a : Automaton) (u v : List ℕ) → TellsApart a.symbols (Accepts a) u v → run a a.start u ≢ run a a.start v
states_differ a u v t same =
    let e : accepts a (u ++ t.by) ≡ accepts a (v ++ t.by) = ap (is_accepting a) (run-append (steps_of a) a.start u t.by ∙ (ap (λ q. run a q t.by) same ∙ sym (run-append (steps_of a) a.start v t.by))) in
    t.differs (λ is. sym e ∙ is, λ is. e ∙ is)

-- a language that is wide for s wants more states than s
pub states-from_wide : (a : Automaton) (s : ℕ) → IsWhole a → IsWide a.symbols (Accepts a) s → s < state_count a
states-from_wide a s whole wide =
    let f : ℕ → ℕ = λ i. run a a.start (wide.trace i) in
    let once : TakesNoneTwice f (suc s) = λ i j li lj same. elim (cases_eq i j) [
      | inl e ↦ e
      | inr ne ↦ elim (cases_lt i j) [
        | inl lt ↦ absurd (states_differ a (wide.trace i) (wide.trace j) (wide.apart i j lt (omega arith)) same)
        | inr ge ↦ absurd (states_differ a (wide.trace j) (wide.trace i) (wide.apart j i (omega arith) (omega arith)) (sym same))
      ]
    ] in
    let le = le_from_injection f (suc s) (state_count a) (λ i li. run-bound a whole a.start (wide.trace i) whole.start_bound (wide.over i (omega arith))) once in
    omega (arith, le)

-- no language is wide for as many states as some automaton of it has
pub narrow-few_states : (a : Automaton) (s : ℕ) → IsWhole a → state_count a ≤ s → IsWide a.symbols (Accepts a) s → ⊥
narrow-few_states a s whole few wide = let lt = states-from_wide a s whole wide in omega (arith, few, lt)

both_or_none : (x y : Bool) → IsTrue x ↔ IsTrue y → x ≡ y
both_or_none true y same = sym (same.0 refl)
both_or_none false true same = same.1 refl
both_or_none false false same = refl

-- the least traces to two states are told apart by what tells the states apart
pub wide-from_apart : (a : Automaton) (s : ℕ) → IsBreadthFirst a → AreManyApart a s → IsWide a.symbols (Accepts a) s
wide-from_apart a s order many = record {
  trace = λ i. order.to (many.state i);
  over = λ i le. order.over (many.state i) (many.bound i le);
  apart = λ i j less le.
      let p = many.state i in
      let q = many.state j in
      let lp : p < state_count a = many.bound i (omega arith) in
      let lq : q < state_count a = many.bound j le in
      let t = many.apart i j less le in
      record {
        by = t.by;
        over = t.over;
        differs = λ same. t.differs (
            ap (is_accepting a) (ap (λ r. run a r t.by) (sym (order.reached p lp)) ∙ sym (run-append (steps_of a) a.start (order.to p) t.by))
            ∙ (both_or_none (accepts a (order.to p ++ t.by)) (accepts a (order.to q ++ t.by)) same ∙ ap (is_accepting a) (run-append (steps_of a) a.start (order.to q) t.by ∙ ap (λ r. run a r t.by) (order.reached q lq)))
            );
      };
}

pub wide-from_states : (a : Automaton) (s : ℕ) → IsLeast a → IsBreadthFirst a → s < state_count a → IsWide a.symbols (Accepts a) s
wide-from_states a s least order lt = wide-from_apart a s order (record {
  state = λ i. i;
  bound = λ i le. omega arith;
  apart = λ i j less le. least.apart i j (omega arith) (omega arith) (λ e. omega (arith, e));
})

trace-append : (n : ℕ) (u v : List ℕ) → IsTrace n u → IsTrace n v → IsTrace n (u ++ v)
trace-append n [] v tu tv = tv
trace-append n (x ∷ u) v tu tv = (tu.0, trace-append n u v tu.1 tv)

-- width is a fact of the traces that are members
pub wide-same : (n s : ℕ) (P Q : List ℕ → Type 0) → ((w : List ℕ) → IsTrace n w → P w ↔ Q w) → IsWide n P s → IsWide n Q s
wide-same n s P Q same wide = record {
  trace = wide.trace;
  over = wide.over;
  apart = λ i j less le.
      let t = wide.apart i j less le in
      let u = same (wide.trace i ++ t.by) (trace-append n (wide.trace i) t.by (wide.over i (omega arith)) t.over) in
      let v = same (wide.trace j ++ t.by) (trace-append n (wide.trace j) t.by (wide.over j le) t.over) in
      record {
        by = t.by;
        over = t.over;
        differs = λ e. t.differs (λ p. v.1 (e.0 (u.0 p)), λ p. u.1 (e.1 (v.0 p)));
      };
}

-- the members of a language that a small automaton accepts
pub narrow-members : (a : Automaton) (s : ℕ) (P : List ℕ → Type 0) → IsWhole a → ((w : List ℕ) → IsTrace a.symbols w → P w ↔ Accepts a w) → state_count a ≤ s → IsWide a.symbols P s → ⊥
narrow-members a s P whole same few wide = narrow-few_states a s whole few (wide-same a.symbols s P (Accepts a) same wide)

-- the same over equal numbers of symbols
pub wide-over : (m n s : ℕ) (P Q : List ℕ → Type 0) → m ≡ n → ((w : List ℕ) → IsTrace n w → P w ↔ Q w) → IsWide n Q s → IsWide m P s
wide-over m n s P Q e same wide = rw e (wide-same n s Q P (λ w tw. ((same w tw).1, (same w tw).0)) wide)

pub over-wide : (m n s : ℕ) (P Q : List ℕ → Type 0) → m ≡ n → ((w : List ℕ) → IsTrace n w → P w ↔ Q w) → IsWide m P s → IsWide n Q s
over-wide m n s P Q e same wide = wide-same n s P Q same (rw e at wide)

-- automata of one language accept the same traces
pub same-accepts : (a b : Automaton) → SameLanguage b a → (w : List ℕ) → IsTrace b.symbols w → Accepts b w ↔ Accepts a w
same-accepts a b h w tw = let e = h.same w tw in (λ is. sym e ∙ is, λ is. e ∙ is)

-- where states of what is reached are told apart, the language is wide
pub wide-from_reached : (a b : Automaton) (s : ℕ) → IsReachable (steps_of a) b → AreManyApart b s → IsWide a.symbols (Accepts a) s
wide-from_reached a b s is many =
    over-wide b.symbols a.symbols s (Accepts b) (Accepts a) is.over (λ w tw. let e = is.same w tw in (λ yes_. sym e ∙ yes_, λ yes_. e ∙ yes_)) (wide-from_apart b s is.in_order many)
