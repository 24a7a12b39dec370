-- A template has one table, as far as its states go: two least automata of the same traces, both numbered breadth first, are one.
use Rattle.std.proofs.Common.{◌≡◌, ℕ, zero, suc, ◌-◌, ◌<◌, ◌≤◌, ◌⊎◌, inl, inr, List, [], ◌∷◌, ◌++◌, length, map, Bool, true, false, IsTrue, All, refl, sym, ap, ◌∙◌, arith, subst, append_assoc}
use Rattle.std.proofs.lemmas.Bool.{cases_lt}
use Rattle.std.proofs.lemmas.List.{map-append, append-nil}
use Rattle.std.proofs.lemmas.List.Elements.{All-append, All-cons, All-head, All-nil, All-tail}
use Rattle.std.specs.List.{AllByRecursion, range_with_len}
use Rattle.template_core.proofs.Made.{made-from}
use Rattle.template_core.specs.Automaton.{class_of}
use Rattle.template_core.specs.Constraints.{arity, IsTemplate, IsWellMade, IsWellMadeIn}
use Rattle.template_core.specs.Groups.{activities_of, group_of}
use Rattle.template_core.specs.Tables.{IsTable, accepts_at, keeps_by, step, table_run}
use Rattle.template_core.specs.declared.class.Class.TheVariants.{First, Second, Other}
use Rattle.template_core.specs.declared.class.Class.{Class}
use Rattle.template_core.specs.declared.constraint.Constraint.{Constraint}
use Rattle.template_core.specs.declared.group.Group.TheVariants.{Existence, Relation, Mutual, Negative}
use Rattle.template_core.specs.declared.group.Group.{Group}
use Rattle.template_core.specs.declared.kind.Kind.{Kind}
use Rattle.template_core.specs.declared.table.Table.{Table}
use Rattle.template_set.specs.Tables.{IsClassOf, class_run, entries, first_seen}
use Rattle.chain_cert.proofs.FirstSeen.{Front, all-seen, front-range, front-seen, range-below, range-fixed, seen-map}
use Rattle.chain_cert.specs.Tables.{IsTableOf}

-- ---- a trace for each word of classes

abbrev event : Class → ℕ
event First = 0
event Second = 1
event Other = 2

-- one constraint of each template
abbrev sample : Kind → Constraint
sample kind = record {
  kind = kind;
  first = 0;
  second = arity kind - 1;
}

made-in-group : (group : Group) → IsWellMadeIn group 0 (activities_of group - 1)
made-in-group Existence = refl
made-in-group (Relation activation) = omega arith
made-in-group Mutual = omega arith
made-in-group Negative = omega arith

made : (kind : Kind) → IsTemplate kind → IsWellMade kind 0 (arity kind - 1)
made kind is = made-from kind 0 (arity kind - 1) is (made-in-group (group_of kind))

one_or_two-in : (group : Group) → (activities_of group ≡ 1) ⊎ (activities_of group ≡ 2)
one_or_two-in Existence = inl refl
one_or_two-in (Relation activation) = inr refl
one_or_two-in Mutual = inr refl
one_or_two-in Negative = inr refl

one_or_two : (kind : Kind) → (arity kind ≡ 1) ⊎ (arity kind ≡ 2)
one_or_two kind = one_or_two-in (group_of kind)

class-event : (kind : Kind) (x : Class) → IsClassOf kind x → class_of 0 (arity kind - 1) (event x) ≡ x
class-event kind First is = refl
class-event kind Second is = ap (λ n. class_of 0 (n - 1) 1) (is refl)
class-event kind Other is = elim (one_or_two kind) [ inl e ↦ ap (λ n. class_of 0 (n - 1) 2) e | inr e ↦ ap (λ n. class_of 0 (n - 1) 2) e ]

word-run : (kind : Kind) (t : Table) (word : List Class) → All (IsClassOf kind) word → (state : ℕ) → table_run t (sample kind) state (map event word) ≡ class_run t state word
word-run kind t [] valid state = refl
word-run kind t (x ∷ word) valid state =
    ap (λ y. table_run t (sample kind) (step t state y) (map event word)) (class-event kind x (All-head (IsClassOf kind) x word valid))
    ∙ word-run kind t word (All-tail (IsClassOf kind) x word valid) (step t state x)

same_test : (x y : Bool) → (IsTrue x → IsTrue y) → (IsTrue y → IsTrue x) → x ≡ y
same_test true y there back = sym (there refl)
same_test false true there back = back refl
same_test false false there back = refl

run-append : (t : Table) (u v : List Class) (state : ℕ) → class_run t state (u ++ v) ≡ class_run t (class_run t state u) v
run-append t [] v state = refl
run-append t (x ∷ u) v state = run-append t u v (step t state x)

run-below : (t : Table) → IsTable t → (word : List Class) (state : ℕ) → state < t.states → class_run t state word < t.states
run-below t whole [] state below = below
run-below t whole (x ∷ word) state below = run-below t whole word (step t state x) (whole.step_bound state x below)

module _ (kind : Kind) (a b : Table) (one : IsTableOf kind a) (two : IsTableOf kind b) where
  accepts-same : (word : List Class) → All (IsClassOf kind) word → accepts_at a (class_run a a.start word) ≡ accepts_at b (class_run b b.start word)
  accepts-same word valid =
      let w = map event word in
      let left = one.accepts (sample kind) w (made kind one.template) in
      let right = two.accepts (sample kind) w (made kind one.template) in
      ap (accepts_at a) (sym (word-run kind a word valid a.start))
      ∙ (same_test (keeps_by a (sample kind) w) (keeps_by b (sample kind) w) (λ e. right.1 (left.0 e)) (λ e. left.1 (right.0 e)) ∙ ap (accepts_at b) (word-run kind b word valid b.start))

  -- two words that lead to one state of the one lead to states of the other that no word tells apart
  same-after : (u v w : List Class) → All (IsClassOf kind) u → All (IsClassOf kind) v → All (IsClassOf kind) w → class_run a a.start u ≡ class_run a a.start v
      → accepts_at b (class_run b (class_run b b.start u) w) ≡ accepts_at b (class_run b (class_run b b.start v) w)
  same-after u v w u_valid v_valid w_valid same =
      ap (accepts_at b) (sym (run-append b u w b.start))
      ∙ (sym (accepts-same (u ++ w) (All-append (IsClassOf kind) u w u_valid w_valid))
      ∙ (ap (accepts_at a) (run-append a u w a.start ∙ (ap (λ q. class_run a q w) same ∙ sym (run-append a v w a.start)))
      ∙ (accepts-same (v ++ w) (All-append (IsClassOf kind) v w v_valid w_valid) ∙ ap (accepts_at b) (run-append b v w b.start))))

  not-less : (u v : List Class) → All (IsClassOf kind) u → All (IsClassOf kind) v → class_run a a.start u ≡ class_run a a.start v → class_run b b.start u < class_run b b.start v → ⊥
  not-less u v u_valid v_valid same less =
      let apart = two.least.apart (class_run b b.start u) (class_run b b.start v) less (run-below b two.whole v b.start two.whole.start_bound) in
      apart.2 (same-after u v apart.0 u_valid v_valid apart.1 same)

  same-states : (u v : List Class) → All (IsClassOf kind) u → All (IsClassOf kind) v → class_run a a.start u ≡ class_run a a.start v → class_run b b.start u ≡ class_run b b.start v
  same-states u v u_valid v_valid same = elim (cases_lt (class_run b b.start u) (class_run b b.start v)) [
    | inl less ↦ absurd (not-less u v u_valid v_valid same less)
    | inr le ↦ elim (cases_lt (class_run b b.start v) (class_run b b.start u)) [ inl less ↦ absurd (not-less v u v_valid u_valid (sym same) less) | inr ge ↦ omega arith ]
  ]

-- ---- the state of the other table

module _ (kind : Kind) (a b : Table) (one : IsTableOf kind a) (two : IsTableOf kind b) where
  abbrev pick : (p : ℕ) → (p < a.states) ⊎ (a.states ≤ p) → ℕ
  pick p (inl below) = class_run b b.start (one.least.reached p below).0
  pick p (inr past) = p

  abbrev other : ℕ → ℕ
  other p = pick p (cases_lt p a.states)

  other-at : (u : List Class) → All (IsClassOf kind) u → other (class_run a a.start u) ≡ class_run b b.start u
  other-at u valid = go (cases_lt (class_run a a.start u) a.states)
    where
      go : (s : (class_run a a.start u < a.states) ⊎ (a.states ≤ class_run a a.start u)) → pick (class_run a a.start u) s ≡ class_run b b.start u
      go (inl below) = let r = one.least.reached (class_run a a.start u) below in same-states kind a b one two r.0 u r.1 valid r.2
      go (inr past) = let below = run-below a one.whole u a.start one.whole.start_bound in absurd (omega (arith, below))

  other-is : (p : ℕ) (below : p < a.states) → other p ≡ class_run b b.start (one.least.reached p below).0
  other-is p below = let r = one.least.reached p below in ap other (sym r.2) ∙ other-at r.0 r.1

  other-below : (p : ℕ) → p < a.states → other p < b.states
  other-below p below = subst (λ q. q < b.states) (sym (other-is p below)) (run-below b two.whole (one.least.reached p below).0 b.start two.whole.start_bound)

  other-start : other a.start ≡ b.start
  other-start = other-at [] (All-nil (IsClassOf kind))

  other-once : (p q : ℕ) → p < a.states → q < a.states → other p ≡ other q → p ≡ q
  other-once p q p_below q_below same =
      let r = one.least.reached p p_below in
      let s = one.least.reached q q_below in
      sym r.2 ∙ (same-states kind b a two one r.0 s.0 r.1 s.1 (sym (other-is p p_below) ∙ (same ∙ other-is q q_below)) ∙ s.2)

  other-accepts : (p : ℕ) → p < a.states → accepts_at a p ≡ accepts_at b (other p)
  other-accepts p below =
      let r = one.least.reached p below in
      ap (accepts_at a) (sym r.2) ∙ (accepts-same kind a b one two r.0 r.1 ∙ ap (accepts_at b) (sym (other-is p below)))

  valid-step : (p : ℕ) (x : Class) → IsClassOf kind x → p < a.states → other (step a p x) ≡ step b (other p) x
  valid-step p x is below =
      let r = one.least.reached p below in
      let word = r.0 ++ x ∷ [] in
      let valid = All-append (IsClassOf kind) r.0 (x ∷ []) r.1 (All-cons (IsClassOf kind) x [] is (All-nil (IsClassOf kind))) in
      let there : class_run a a.start word ≡ step a p x = run-append a r.0 (x ∷ []) a.start ∙ ap (λ q. step a q x) r.2 in
      let here : class_run b b.start word ≡ step b (other p) x = run-append b r.0 (x ∷ []) b.start ∙ ap (λ q. step b q x) (sym (other-is p below)) in
      ap other (sym there) ∙ (other-at word valid ∙ here)

  other-step : (p : ℕ) (x : Class) → p < a.states → other (step a p x) ≡ step b (other p) x
  other-step p First below = valid-step p First (λ e. cc) below
  other-step p Other below = valid-step p Other (λ e. cc) below
  other-step p Second below = elim (one_or_two kind) [
    | inl e ↦
        ap other (one.least.second e p below)
        ∙ (valid-step p Other (λ no. cc) below ∙ sym (two.least.second e (other p) (other-below p below)))
    | inr e ↦ valid-step p Second (λ same. e) below
  ]

-- ---- rows

abbrev row : Table → ℕ → List ℕ
row t n = step t n First ∷ step t n Second ∷ step t n Other ∷ []

-- the start, and then the entries of the first n rows
abbrev rows : Table → ℕ → List ℕ
rows t n = t.start ∷ entries t n

parts : (P : ℕ → Type 0) (xs ys : List ℕ) → AllByRecursion P (xs ++ ys) → AllByRecursion P xs × AllByRecursion P ys
parts P [] ys all = (tt, all)
parts P (x ∷ xs) ys all = let rest = parts P xs ys all.1 in ((all.0, rest.0), rest.1)

joined : (P : ℕ → Type 0) (xs ys : List ℕ) → AllByRecursion P xs → AllByRecursion P ys → AllByRecursion P (xs ++ ys)
joined P [] ys one two = two
joined P (x ∷ xs) ys one two = (one.0, joined P xs ys one.1 two)

step-in : (t : Table) (P : ℕ → Type 0) (n p : ℕ) (x : Class) → p < n → AllByRecursion P (entries t n) → P (step t p x)
unfolding entries
step-in t P zero p x below all = absurd (omega arith)
step-in t P (suc n) p x below all =
    let both = parts P (entries t n) (row t n) all in
    elim (cases_lt p n) [ inl less ↦ step-in t P n p x less both.0 | inr le ↦ let same : n ≡ p = omega arith in subst (λ q. P (step t q x)) same (of-row x both.1) ]
  where
    of-row : (x : Class) → AllByRecursion P (row t n) → P (step t n x)
    of-row First all = all.0
    of-row Second all = all.1.0
    of-row Other all = all.1.1.0

rows-below : (t : Table) → IsTable t → (n : ℕ) → n ≤ t.states → AllByRecursion (λ q. q < t.states) (rows t n)
unfolding entries
rows-below t whole n le = (whole.start_bound, go n le)
  where
    go : (n : ℕ) → n ≤ t.states → AllByRecursion (λ q. q < t.states) (entries t n)
    go zero le = tt
    go (suc n) le =
        let step_below : (x : Class) → step t n x < t.states = λ x. whole.step_bound n x (omega arith) in
        joined (λ q. q < t.states) (entries t n) (row t n) (go n (omega arith)) (step_below First, (step_below Second, (step_below Other, tt)))

rows-front : (t : Table) (n all : ℕ) → n ≤ all → Front (rows t n) (rows t all)
unfolding entries
rows-front t n zero le = record {
  back = [];
  is = subst (λ k. rows t zero ≡ rows t k ++ []) (none n le) (sym (append-nil (rows t zero)));
}
  where
    none : (n : ℕ) → n ≤ 0 → 0 ≡ n
    none n le = omega arith
rows-front t n (suc all) le = elim (cases_lt all n) [
  | inl less ↦ record {
    back = [];
    is = subst (λ k. rows t (suc all) ≡ rows t k ++ []) (all-of n all le less) (sym (append-nil (rows t (suc all))));
  }
  | inr below ↦
      let rest = rows-front t n all below in
      record {
        back = rest.back ++ row t all;
        is = ap (λ (l : List ℕ). l ++ row t all) rest.is ∙ append_assoc (rows t n) rest.back (row t all);
      }
]
  where
    all-of : (n all : ℕ) → n ≤ suc all → all < n → suc all ≡ n
    all-of n all le less = omega arith

-- a walk stays below a bound that no step passes
stays : (t : Table) (v : ℕ) → ((p : ℕ) (x : Class) → p < v → step t p x < v) → (word : List Class) (state : ℕ) → state < v → class_run t state word < v
stays t v closed [] state below = below
stays t v closed (x ∷ word) state below = stays t v closed word (step t state x) (closed state x below)

-- how many states the first n rows meet
abbrev met : Table → ℕ → ℕ
met t n = length (first_seen (rows t n))

module _ (kind : Kind) (t : Table) (is : IsTableOf kind t) where
  -- they are met in the order of their numbers
  met-in-order : (n : ℕ) → n ≤ t.states → first_seen (rows t n) ≡ range_with_len 0 (met t n)
  met-in-order n le =
      let front = rows-front t n t.states le in
      let seen = front-seen (rows t n) front.back in
      front-range 0 t.states (first_seen (rows t n)) seen.back (sym is.least.breadth_first ∙ (ap first_seen front.is ∙ seen.is))

  -- and as long as there are states, one more than the rows
  met-more : (n : ℕ) → n < t.states → n < met t n
  met-more n there = elim (cases_lt n (met t n)) [ inl more ↦ more | inr le ↦ absurd (none le) ]
    where
      none : met t n ≤ n → ⊥
      none le =
          let below = all-seen (λ q. q < n) (rows t n) (subst (AllByRecursion (λ q. q < n)) (sym (met-in-order n (omega arith))) (range-below 0 (met t n) n (omega arith))) in
          let reached = is.least.reached n there in
          let stayed = stays t n (λ p x p_below. step-in t (λ q. q < n) n p x p_below below.1) reached.0 t.start below.0 in
          omega (arith, stayed, reached.2)

-- ---- the other state has the same number

module _ (kind : Kind) (a b : Table) (one : IsTableOf kind a) (two : IsTableOf kind b) where
  abbrev pub twin : ℕ → ℕ
  twin p = other kind a b one two p

  rows-mapped : (n : ℕ) → n ≤ a.states → ((i : ℕ) → i < n → twin i ≡ i) → map twin (rows a n) ≡ rows b n
  unfolding entries
  rows-mapped zero le same = ap (λ q. q ∷ []) (other-start kind a b one two)
  rows-mapped (suc n) le same =
      let below : n < a.states = omega arith in
      let at : (x : Class) → twin (step a n x) ≡ step b n x = λ x. other-step kind a b one two n x below ∙ ap (λ q. step b q x) (same n (omega arith)) in
      map-append twin (rows a n) (row a n)
      ∙ (ap (λ (l : List ℕ). l ++ map twin (row a n)) (rows-mapped n (omega arith) (λ i less. same i (omega arith)))
      ∙ (ap (λ q. rows b n ++ q ∷ twin (step a n Second) ∷ twin (step a n Other) ∷ []) (at First)
      ∙ (ap (λ q. rows b n ++ step b n First ∷ q ∷ twin (step a n Other) ∷ []) (at Second) ∙ ap (λ q. rows b n ++ step b n First ∷ step b n Second ∷ q ∷ []) (at Other))))

  fits : (v : ℕ) → v ≤ a.states → ((i : ℕ) → i < v → twin i ≡ i) → v ≤ b.states
  fits zero le same = omega arith
  fits (suc u) le same = let there = other-below kind a b one two u (omega arith) in omega (arith, there, same u (omega arith))

  twin-is : (v : ℕ) → v < a.states → ((i : ℕ) → i < v → twin i ≡ i) → twin v ≡ v
  twin-is v below same =
      let more = met-more kind a one v below in
      let mapped = seen-map twin a.states (rows a v) (other-once kind a b one two) (rows-below a one.whole v (omega arith)) in
      range-fixed twin 0 (met a v) (met b v) v
      (ap (map twin) (sym (met-in-order kind a one v (omega arith))) ∙ (sym mapped ∙ (ap first_seen (rows-mapped v (omega arith) same) ∙ met-in-order kind b two v (fits v (omega arith) same))))
      (omega arith) (omega (arith, more))

  twins : (n : ℕ) → n ≤ a.states → (i : ℕ) → i < n → twin i ≡ i
  twins zero le i less = absurd (omega arith)
  twins (suc n) le i less = elim (cases_lt i n) [
    | inl before ↦ twins n (omega arith) i before
    | inr here ↦ let same : n ≡ i = omega arith in subst (λ k. twin k ≡ k) same (twin-is n (omega arith) (twins n (omega arith)))
  ]

  same : (v : ℕ) → v < a.states → twin v ≡ v
  same v below = twins a.states (omega arith) v below

  no-more : a.states ≤ b.states
  no-more = elim (cases_lt b.states a.states) [ inl more ↦ let lt = other-below kind a b one two b.states more in absurd (omega (arith, lt, same b.states more)) | inr le ↦ le ]

pub record AreAlike (a b : Table) : Type 0 where
  pub states : a.states ≡ b.states
  pub start : a.start ≡ b.start
  pub next : (state : ℕ) (class : Class) → state < a.states → step a state class ≡ step b state class
  pub accepting : (state : ℕ) → state < a.states → accepts_at a state ≡ accepts_at b state

pub alike : (kind : Kind) (a b : Table) → IsTableOf kind a → IsTableOf kind b → AreAlike a b
alike kind a b one two =
    let le = no-more kind a b one two in
    let ge = no-more kind b a two one in
    record {
      states = omega arith;
      start = sym (same kind a b one two a.start one.whole.start_bound) ∙ other-start kind a b one two;
      next = λ p x below.
          sym (same kind a b one two (step a p x) (one.whole.step_bound p x below))
          ∙ (other-step kind a b one two p x below ∙ ap (λ q. step b q x) (same kind a b one two p below));
      accepting = λ p below. other-accepts kind a b one two p below ∙ ap (accepts_at b) (same kind a b one two p below);
    }
