-- A run over pairs is two runs side by side.
use Rattle.std.proofs.Common.{◌≡◌, ℕ, ◌+◌, ◌*◌, ◌<◌, List, [], ◌∷◌, Option, Some, None, Bool, true, false, not, ◌&&◌, cond, refl, sym, ap, ◌∙◌}
use Rattle.std.proofs.lemmas.Nat.{div-mul-add, mod-mul-add}
use Rattle.dfa_core.specs.Automaton.{Automaton, IsReachable, IsWhole, steps_of}
use Rattle.dfa_core.specs.Languages.{IsLeastIfAny}
use Rattle.dfa_core.specs.Steps.{Steps, Accepts, accepts, run}
use Rattle.dfa_core.specs.Traces.{IsTrace}
use Rattle.dfa_core.proofs.Runs.{step_bound}
use Rattle.template_core.specs.Tables.{IsTable, class, keeps_by, table_run, step as table_step}
use Rattle.template_core.specs.declared.constraint.Constraint.{Constraint}
use Rattle.template_core.specs.declared.table.Table.{Table}
use Rattle.dfa_product.specs.Pairs.{IsIntersection, IsMeet}
use Rattle.dfa_product.specs.SideBySide.{complement, pairs, table_steps}
use Rattle.dfa_product.specs.Wanted.{IsOutside, IsWanted}
use Rattle.dfa_product.specs.declared.wanted.Want.TheVariants.{Beside}

-- the start is a state, and each step leads to a state
pub record IsClosed (s : Steps) : Type 0 where
  pub start_bound : s.start < s.states
  pub next_bound : (q x : ℕ) → q < s.states → x < s.symbols → s.next q x < s.states

module _ (s t : Steps) (h : IsClosed t) where
  run-pairs : (q p : ℕ) (w : List ℕ) → p < t.states → IsTrace t.symbols w → run (pairs s t) (q * t.states + p) w ≡ run s q w * t.states + run t p w
  run-pairs q p [] lt tw = refl
  run-pairs q p (x ∷ w) lt tw = rw (div-mul-add q t.states p lt, mod-mul-add q t.states p lt) (run-pairs (s.next q x) (t.next p x) w (h.next_bound p x lt tw.0) tw.1)

  run-below : (p : ℕ) (w : List ℕ) → p < t.states → IsTrace t.symbols w → run t p w < t.states
  run-below p [] lt tw = lt
  run-below p (x ∷ w) lt tw = run-below (t.next p x) w (h.next_bound p x lt tw.0) tw.1

  pub accepts-pairs : (w : List ℕ) → IsTrace t.symbols w → accepts (pairs s t) w ≡ (accepts s w && accepts t w)
  accepts-pairs w tw =
      let lt = run-below t.start w h.start_bound tw in
      rw (run-pairs s.start t.start w h.start_bound tw, div-mul-add (run s s.start w) t.states (run t t.start w) lt, mod-mul-add (run s s.start w) t.states (run t t.start w) lt) refl

closed-whole : (a : Automaton) → IsWhole a → IsClosed (steps_of a)
closed-whole a h = record { start_bound = h.start_bound; next_bound = step_bound a h }

closed-table : (n : ℕ) (t : Table) (c : Constraint) (keeps : Bool) → IsTable t → IsClosed (table_steps n t c keeps)
closed-table n t c keeps h = record { start_bound = h.start_bound; next_bound = λ q x lq lx. h.step_bound q (class c x) lq }

run-table : (n : ℕ) (t : Table) (c : Constraint) (keeps : Bool) (p : ℕ) (w : List ℕ) → run (table_steps n t c keeps) p w ≡ table_run t c p w
run-table n t c keeps p [] = refl
run-table n t c keeps p (x ∷ w) = run-table n t c keeps (table_step t p (class c x)) w

accepts-table : (n : ℕ) (t : Table) (c : Constraint) (keeps : Bool) (w : List ℕ) → accepts (table_steps n t c keeps) w ≡ cond keeps (keeps_by t c w) (not (keeps_by t c w))
accepts-table n t c keeps w = ap (table_steps n t c keeps).accepting (run-table n t c keeps t.start w)

accepts-pairs_table : (a : Automaton) (t : Table) (c : Constraint) (keeps : Bool) → IsTable t → (w : List ℕ) → IsTrace a.symbols w
    → accepts (pairs (steps_of a) (table_steps a.symbols t c keeps)) w ≡ (accepts (steps_of a) w && cond keeps (keeps_by t c w) (not (keeps_by t c w)))
accepts-pairs_table a t c keeps h w tw =
    accepts-pairs (steps_of a) (table_steps a.symbols t c keeps) (closed-table a.symbols t c keeps h) w tw ∙ ap (λ (b : Bool). accepts (steps_of a) w && b) (accepts-table a.symbols t c keeps w)

pub meet-reachable : (a : Automaton) (t : Table) (c : Constraint) (r : Automaton) → IsTable t → IsReachable (pairs (steps_of a) (table_steps a.symbols t c true)) r → IsMeet a t c r
meet-reachable a t c r h is = record {
  over = is.over;
  both = λ w tw. is.same w tw ∙ accepts-pairs_table a t c true h w tw;
  few_states = is.few;
}

pub intersection-reachable : (a b r : Automaton) → IsWhole b → b.symbols ≡ a.symbols → IsReachable (pairs (steps_of a) (steps_of b)) r → IsIntersection a b r
intersection-reachable a b r h same is = record {
  over = is.over;
  both = λ w tw. let t : IsTrace b.symbols w = rw same tw in is.same w tw ∙ accepts-pairs (steps_of a) (steps_of b) (closed-whole b h) w t;
  few_states = is.few;
}

and_true : (x y : Bool) → (x && not y) ≡ true → (x ≡ true) × (y ≡ false)
and_true true true e = absurd (cc e)
and_true true false e = (refl, refl)
and_true false y e = absurd (cc e)

-- a trace that the pairs accept is wanted, and the other way round
beside-accepted : (a : Automaton) (t : Table) (c : Constraint) → IsTable t → (w : List ℕ) → IsTrace a.symbols w → Accepts (pairs (steps_of a) (table_steps a.symbols t c false)) w → IsWanted a (Beside t c) w
beside-accepted a t c h w tw is = and_true (accepts (steps_of a) w) (keeps_by t c w) (sym (accepts-pairs_table a t c false h w tw) ∙ is)

accepted-beside : (a : Automaton) (t : Table) (c : Constraint) → IsTable t → (w : List ℕ) → IsTrace a.symbols w → IsWanted a (Beside t c) w → Accepts (pairs (steps_of a) (table_steps a.symbols t c false)) w
accepted-beside a t c h w tw is = accepts-pairs_table a t c false h w tw ∙ (rw (is.0, is.1) refl)

pub found-beside : (a : Automaton) (t : Table) (c : Constraint) → IsTable t → (found : Option (List ℕ))
    → IsLeastIfAny a.symbols (Accepts (pairs (steps_of a) (table_steps a.symbols t c false))) found → IsLeastIfAny a.symbols (IsWanted a (Beside t c)) found
found-beside a t c h None none = λ w tw is. none w tw (accepted-beside a t c h w tw is)
found-beside a t c h (Some trace) least = record {
  over = least.over;
  member = beside-accepted a t c h trace least.over least.member;
  none_before = λ w tw is. least.none_before w tw (accepted-beside a t c h w tw is);
}

-- ---- what another automaton doesn't accept

closed-complement : (a : Automaton) → IsWhole a → IsClosed (complement (steps_of a))
closed-complement a h = record { start_bound = h.start_bound; next_bound = step_bound a h }

run-complement : (s : Steps) (q : ℕ) (w : List ℕ) → run (complement s) q w ≡ run s q w
run-complement s q [] = refl
run-complement s q (x ∷ w) = run-complement s (s.next q x) w

accepts-complement : (s : Steps) (w : List ℕ) → accepts (complement s) w ≡ not (accepts s w)
accepts-complement s w = ap (complement s).accepting (run-complement s s.start w)

accepts-outside : (a b : Automaton) → IsWhole b → b.symbols ≡ a.symbols → (w : List ℕ) → IsTrace a.symbols w
    → accepts (pairs (steps_of a) (complement (steps_of b))) w ≡ (accepts (steps_of a) w && not (accepts (steps_of b) w))
accepts-outside a b h same w tw =
    let t : IsTrace b.symbols w = rw same tw in
    accepts-pairs (steps_of a) (complement (steps_of b)) (closed-complement b h) w t ∙ ap (λ (r : Bool). accepts (steps_of a) w && r) (accepts-complement (steps_of b) w)

true_and-not : (x y : Bool) → x ≡ true → (y ≡ true → ⊥) → (x && not y) ≡ true
true_and-not x true is isnt = absurd (isnt refl)
true_and-not x false is isnt = rw is refl

outside-accepted : (a b : Automaton) → IsWhole b → b.symbols ≡ a.symbols → (w : List ℕ) → IsTrace a.symbols w
    → Accepts (pairs (steps_of a) (complement (steps_of b))) w → IsOutside a b w
outside-accepted a b h same w tw is =
    let both = and_true (accepts (steps_of a) w) (accepts (steps_of b) w) (sym (accepts-outside a b h same w tw) ∙ is) in
    let isnt = both.1 in
    (both.0, λ accepted. absurd (cc (isnt, accepted)))

accepted-outside : (a b : Automaton) → IsWhole b → b.symbols ≡ a.symbols → (w : List ℕ) → IsTrace a.symbols w
    → IsOutside a b w → Accepts (pairs (steps_of a) (complement (steps_of b))) w
accepted-outside a b h same w tw is = accepts-outside a b h same w tw ∙ true_and-not (accepts (steps_of a) w) (accepts (steps_of b) w) is.0 is.1

pub found-outside : (a b : Automaton) → IsWhole b → b.symbols ≡ a.symbols → (found : Option (List ℕ))
    → IsLeastIfAny a.symbols (Accepts (pairs (steps_of a) (complement (steps_of b)))) found → IsLeastIfAny a.symbols (IsOutside a b) found
found-outside a b h same None none = λ w tw is. none w tw (accepted-outside a b h same w tw is)
found-outside a b h same (Some trace) least = record {
  over = least.over;
  member = outside-accepted a b h same trace least.over least.member;
  none_before = λ w tw is. least.none_before w tw (accepted-outside a b h same w tw is);
}
