-- Cells that are filled state by state, and walks along them.
use Rattle.std.proofs.Common.{◌≡◌, inl, inr, ℕ, suc, ◌+◌, ◌*◌, ◌<◌, ◌≤◌, List, Option, Some, None, Bool, true, false, ◌||◌, ◌&&◌, eqb, leb, length, get_or, set, refl, sym, ap, ◌∙◌, arith, get_or-set_same, get_or-set_other, length-set, eq-eqb}
use Rattle.std.proofs.lemmas.Bool.{cases_eq, cases_lt}
use Rattle.std.proofs.lemmas.List.{get_or_read}
use Rattle.std.proofs.lemmas.Nat.{same_from_place, mul-add-lt}
use Rattle.std.proofs.Math.Nat.{mul_comm}
use Rattle.dfa_core.specs.Automaton.{Automaton, IsWhole, state_count, step_column}
use Rattle.dfa_minimise.proofs.Progress.{AreFilled, LeadsTo, after}
use Rattle.dfa_minimise.specs.Preimages.{AreSources, IsGreatest}
use Rattle.dfa_minimise.proofs.Marking.{eqb_not, or-true, or-false}

greatest-skip : (a : Automaton) (x t bound : ℕ) (o : Option ℕ) → (step_column a bound x ≡ t → ⊥) → IsGreatest a x t bound o → IsGreatest a x t (bound + 1) o
greatest-skip a x t bound None ne h = λ p l e. elim (cases_eq p bound) [ inl same ↦ ne (ap (λ q. step_column a q x) (sym same) ∙ e) | inr off ↦ h p (omega arith) e ]
greatest-skip a x t bound (Some g) ne h = (omega (arith, h.0), h.1, λ p lo hi e. elim (cases_eq p bound) [ inl same ↦ ne (ap (λ q. step_column a q x) (sym same) ∙ e) | inr off ↦ h.2 p lo (omega arith) e ])

pub filled-more : (a : Automaton) (column state target : ℕ) (last before : List (Option ℕ)) → IsWhole a → column < a.width → state < state_count a → target ≡ column * state_count a + step_column a state column
    → AreFilled a column state last before → AreFilled a column (state + 1) (set last target (Some state)) (set before (column * state_count a + state) (get_or last target None))
filled-more a column state target last before whole lk ls is h =
    let n = state_count a in
    let lt = whole.entry_bound state column ls lk in
    let t_in : target < length last = let b = mul-add-lt column n (step_column a state column) a.width lk lt in let c = mul_comm n a.width in omega (arith, is, h.last_length) in
    let s_in : column * n + state < length before = let b = mul-add-lt column n state a.width lk ls in let c = mul_comm n a.width in omega (arith, h.before_length) in
    let last_other : (k t : ℕ) → t < n → ((k ≡ column) × (t ≡ step_column a state column) → ⊥) → get_or (set last target (Some state)) (k * n + t) None ≡ get_or last (k * n + t) None =
    λ k t l ne. get_or-set_other last target (k * n + t) (Some state) None (λ e. ne (same_from_place k t column (step_column a state column) n l lt (e ∙ is))) in
    record {
      last_length = length-set last target (Some state) ∙ h.last_length;
      before_length = length-set before (column * n + state) (get_or last target None) ∙ h.before_length;
      last_done = λ k t l l2 less. rw (last_other k t l2 (λ e. omega (arith, e.0, less))) (h.last_done k t l l2 less);
      last_at = λ k t l l2 same. elim (cases_eq t (step_column a state column)) [
        | inl here ↦
            let e : get_or (set last target (Some state)) (k * n + t) None ≡ Some state = ap (λ i. get_or (set last target (Some state)) i None) (rw (here, same) (sym is)) ∙ get_or-set_same last target (Some state) None t_in in
            rw e (omega arith, ap (λ i. step_column a state i) same ∙ sym here, λ p lo hi f. omega arith)
        | inr off ↦ rw (last_other k t l2 (λ e. off e.1)) (greatest-skip a k t state (get_or last (k * n + t) None) (λ e. off (sym e ∙ ap (λ i. step_column a state i) same)) (h.last_at k t l l2 same))
      ];
      last_open = λ k t l l2 more. rw (last_other k t l2 (λ e. omega (arith, e.0, more))) (h.last_open k t l l2 more);
      before_of = λ k q l l2 less. elim (cases_eq (k * n + q) (column * n + state)) [
        | inl same ↦
            let i = same_from_place k q column state n l2 ls same in
            let e : get_or (set before (column * n + state) (get_or last target None)) (k * n + q) None ≡ get_or last target None = rw same (get_or-set_same before (column * n + state) (get_or last target None) None s_in) in
            rw (e, is, i.0, i.1) (h.last_at column (step_column a state column) lk lt refl)
        | inr ne ↦ rw (get_or-set_other before (column * n + state) (k * n + q) (get_or last target None) None ne) (h.before_of k q l l2 (omega arith))
      ];
    }

-- with all states gone through, the next column begins
pub filled-next : (a : Automaton) (column state : ℕ) (last before : List (Option ℕ)) → state ≡ state_count a → AreFilled a column state last before → AreFilled a (column + 1) 0 last before
filled-next a column state last before all h = record {
  last_length = h.last_length;
  before_length = h.before_length;
  last_done = λ k t l l2 less. elim (cases_eq k column) [ inl same ↦ rw all at (h.last_at k t l l2 same) | inr ne ↦ h.last_done k t l l2 (omega arith) ];
  last_at = λ k t l l2 same. h.last_open k t l l2 (omega arith);
  last_open = λ k t l l2 more. h.last_open k t l l2 (omega arith);
  before_of = λ k q l l2 less. let next : k * state_count a + q < suc column * state_count a = omega arith in h.before_of k q l l2 (omega (arith, all));
}

-- what is visited of a walk, at a state
abbrev pub visited : Automaton → ℕ → ℕ → Option ℕ → Bool → ℕ → Bool
visited a x t o b q = b || (eqb t (step_column a q x) && leb (after o) q)

and-false : (b : Bool) → (b && false) ≡ false
and-false true = refl
and-false false = refl

and-true : (b : Bool) → (b && true) ≡ b
and-true true = refl
and-true false = refl

leb_not : (m q : ℕ) → q < m → leb m q ≡ false
leb_not m q h = grind arith

leb_yes : (m q : ℕ) → m ≤ q → leb m q ≡ true
leb_yes m q h = grind arith

unseen : (a : Automaton) (x t n : ℕ) (o : Option ℕ) (q : ℕ) → IsGreatest a x t n o → q < n → (eqb t (step_column a q x) && leb (after o) q) ≡ false
unseen a x t n None q h lq = elim (cases_eq t (step_column a q x)) [ inl same ↦ absurd (h q lq (sym same)) | inr ne ↦ ap (λ (c : Bool). c && leb 0 q) (eqb_not t (step_column a q x) ne) ]
unseen a x t n (Some g) q h lq = elim (cases_eq t (step_column a q x)) [
  | inl same ↦ elim (cases_lt g q) [
    | inl lt ↦ absurd (h.2 q lt lq (sym same))
    | inr ge ↦ ap (λ (c : Bool). eqb t (step_column a q x) && c) (leb_not (g + 1) q (omega arith)) ∙ and-false (eqb t (step_column a q x))
  ]
  | inr ne ↦ ap (λ (c : Bool). c && leb (g + 1) q) (eqb_not t (step_column a q x) ne)
]

pub after_le : (a : Automaton) (x t g : ℕ) (o : Option ℕ) → IsGreatest a x t g o → after o ≤ g
after_le a x t g None h = omega arith
after_le a x t g (Some f) h = omega (arith, h.0)

-- what stands at a state's place among the cells of a column
pub reads-greatest : (a : Automaton) (cells : List (Option ℕ)) (x q t bound states : ℕ) (o : Option ℕ) → length cells ≡ a.width * state_count a → states ≡ state_count a → x < a.width → q < state_count a
    → o ≡ get_or cells (x * states + q) o → IsGreatest a x t bound (get_or cells (x * state_count a + q) None) → IsGreatest a x t bound o
reads-greatest a cells x q t bound states o long e lx lq is greatest =
    let b = mul-add-lt x (state_count a) q a.width lx lq in
    let m = mul_comm (state_count a) a.width in
    let inside : x * state_count a + q < length cells = omega (arith, long, b, m) in
    rw (get_or_read cells (x * states + q) o (rw e inside) is None, e) greatest

-- before a state that the column leads to the target
pub reads-before : (a : Automaton) (last before : List (Option ℕ)) (x q t states : ℕ) (o : Option ℕ) → AreSources a last before → states ≡ state_count a → x < a.width → q < state_count a → step_column a q x ≡ t
    → o ≡ get_or before (x * states + q) o → IsGreatest a x t q o
reads-before a last before x q t states o sources e lx lq leads is =
    let gr : IsGreatest a x (step_column a q x) q o = reads-greatest a before x q (step_column a q x) q states o sources.before_length e lx lq is (sources.before_of x q lx lq) in
    rw leads at gr

pub leads-greatest : (a : Automaton) (x t n : ℕ) (o : Option ℕ) → IsGreatest a x t n o → n ≤ state_count a → LeadsTo a x t o
leads-greatest a x t n None h le = tt
leads-greatest a x t n (Some g) h le = (omega (arith, h.0), h.1)

pub walk-none : (a : Automaton) (x t : ℕ) (o : Option ℕ) (b : Bool) (q : ℕ) → IsGreatest a x t (state_count a) o → q < state_count a → b ≡ visited a x t o b q
walk-none a x t o b q h lq = sym (ap (λ (c : Bool). b || c) (unseen a x t (state_count a) o q h lq) ∙ or-false b)

seen : (a : Automaton) (x t g : ℕ) (o : Option ℕ) (q : ℕ) → step_column a g x ≡ t → IsGreatest a x t g o → ((eqb t (step_column a q x) && leb (g + 1) q) || eqb g q) ≡ (eqb t (step_column a q x) && leb (after o) q)
seen a x t g o q e h =
    let le = after_le a x t g o h in
    elim (cases_eq g q) [
      | inl same ↦
          let e2 : t ≡ step_column a q x = sym e ∙ ap (λ k. step_column a k x) same in
          rw (eq-eqb g q same, or-true (eqb t (step_column a q x) && leb (g + 1) q), eq-eqb t (step_column a q x) e2, leb_yes (after o) q (omega arith)) refl
      | inr ne ↦ rw (eqb_not g q ne, or-false (eqb t (step_column a q x) && leb (g + 1) q)) (elim (cases_lt q g) [
        | inl lt ↦ (ap (λ (c : Bool). eqb t (step_column a q x) && c) (leb_not (g + 1) q (omega arith)) ∙ and-false (eqb t (step_column a q x))) ∙ sym (unseen a x t g o q h lt)
        | inr ge ↦ ap (λ (c : Bool). eqb t (step_column a q x) && c) (leb_yes (g + 1) q (omega arith) ∙ sym (leb_yes (after o) q (omega arith)))
      ])
    ]

pub walk-more : (a : Automaton) (x t g : ℕ) (o : Option ℕ) (b : Bool) (q : ℕ) → step_column a g x ≡ t → IsGreatest a x t g o → (visited a x t (Some g) b q || eqb g q) ≡ visited a x t o b q
walk-more a x t g o true q e h = refl
walk-more a x t g o false q e h = seen a x t g o q e h
