-- A constraint is kept by all traces exactly where no trace breaks it, and then all its activated places are fulfilled.
use Rattle.std.proofs.Common.{◌≡◌, ◌↔◌, ℕ, zero, suc, ◌+◌, ◌≤◌, List, [], ◌∷◌, Bool, true, false, ◌&&◌, ◌||◌, not, cond, get_or, length, sum_by, count_by, Option, None, Some, All, refl, sym, ap, ◌∙◌, arith, ⊎_elim}
use Rattle.std.proofs.lemmas.Bool.{true≢false, cases_lt, and_parts}
use Rattle.std.proofs.lemmas.List.Elements.{All-cons}
use Rattle.std.proofs.lemmas.List.Sums.{sum_by-cons, count_by-le-length}
use Rattle.std.specs.List.{position, position_or_len}
use Rattle.std.specs.Option.{option_map}
use Rattle.std.specs.Str.{bytes_eq}
use Rattle.template_core.proofs.Traces.{count_by-cons}
use Rattle.template_core.specs.Events.{one_if, count_places, all_places}
use Rattle.template_core.specs.Repertoire.{is_activated, is_fulfilled, keeps}
use Rattle.template_core.specs.declared.constraint.Constraint.{Constraint}
use Rattle.template_core.specs.declared.kind.Kind.{Kind}
use Rattle.trace_check.specs.Checking.{row, checked, name_at, first_place}
use Rattle.trace_check.specs.declared.checked.Checked.{Checked}
use Rattle.trace_check.proofs.Grows.{position-at, position-past, at_most}
use Rattle.trace_check.proofs.Renamed.{broken_at}

module _ {A : Type 0} (p : A → Bool) where
  abbrev fails : A → Bool
  fails x = not (p x)

  step : (v : Bool) (n m k : ℕ) → m ≤ n → one_if v + m ≡ suc n → (m ≡ n → k ≡ n) → cond (not (not v)) (1 + k) 0 ≡ suc n
  step true n m k le e h = omega (arith, h (omega arith))
  step false n m k le e h = absurd (omega arith)

  all-pass : (xs : List A) → count_by p xs ≡ length xs → position_or_len fails xs ≡ length xs
  all-pass [] e = refl
  all-pass (x ∷ xs) e = step (p x) (length xs) (count_by p xs) (position_or_len fails xs) (count_by-le-length p xs) (sym (count_by-cons p x xs) ∙ e) (all-pass xs)

  back : (v : Bool) (n m k : ℕ) → k ≤ n → cond (not (not v)) (1 + k) 0 ≡ suc n → (k ≡ n → m ≡ n) → one_if v + m ≡ suc n
  back true n m k le e h = omega (arith, e, h (omega (arith, e)))
  back false n m k le e h = absurd (omega (arith, e))

  none-fails : (xs : List A) → position_or_len fails xs ≡ length xs → count_by p xs ≡ length xs
  none-fails [] e = refl
  none-fails (x ∷ xs) e = count_by-cons p x xs ∙ back (p x) (length xs) (count_by p xs) (position_or_len fails xs) (at_most fails xs) e (none-fails xs)

  pub all-none : (xs : List A) → count_by p xs ≡ length xs ↔ position fails xs ≡ None
  all-none xs = (
    λ e. position-past fails xs (omega (arith, all-pass xs e)),
    λ none. none-fails xs (⊎_elim (λ lt. absurd (clash (sym (position-at fails xs (position_or_len fails xs) refl lt) ∙ none))) (λ ge. omega (arith, ge, at_most fails xs)) (cases_lt (position_or_len fails xs) (length xs))),
  )
    where
      clash : {n : ℕ} → Some n ≡ None → ⊥
      clash e = cc

map-none : {X Y : Type 0} (f : X → Y) (o : Option X) → (o ≡ None) ↔ (option_map f o ≡ None)
map-none f None = (λ e. refl, λ e. refl)
map-none f (Some x) = (λ e. absurd (clash e), λ e. absurd (clash e))
  where
    clash : {Z : Type 0} {z : Z} → Some z ≡ None → ⊥
    clash e = cc

count-kept : (act ful : ℕ → Bool) (n : ℕ) → all_places (λ i. not (act i) || ful i) n ≡ true → count_places (λ i. act i && ful i) n ≡ count_places act n
unfolding count_places all_places
count-kept act ful zero e = refl
count-kept act ful (suc n) e =
    let both = and_parts (all_places (λ i. not (act i) || ful i) n) (not (act n) || ful n) e in
    omega (arith, count-kept act ful n both.0, one (act n) (ful n) both.1)
  where
    one : (x y : Bool) → (not x || y) ≡ true → one_if (x && y) ≡ one_if x
    one true true e = omega arith
    one true false e = absurd (true≢false (sym e))
    one false y e = omega arith

sum-kept : {A : Type 0} (p : A → Bool) (f g : A → ℕ) → ((t : A) → p t ≡ true → f t ≡ g t) → (log : List A) → count_by p log ≡ length log → sum_by f log ≡ sum_by g log
sum-kept p f g each [] e = refl
sum-kept p f g each (t ∷ log) e =
    let first : p t ≡ true = passes (p t) (sym (count_by-cons p t log) ∙ e) in
    omega (arith, sum_by-cons f t log, sum_by-cons g t log, each t first, sum-kept p f g each log (omega (arith, count_by-cons p t log, e, ap one_if first)))
  where
    passes : (v : Bool) → one_if v + count_by p log ≡ suc (length log) → v ≡ true
    passes true e = refl
    passes false e = absurd (omega (arith, e, count_by-le-length p log))

module _ {A : Type 0} (same : A → A → Bool) (kind : Kind) (a b : A) (log : List (List A)) where
  kept-none : (row same kind a b log).kept ≡ length log ↔ (row same kind a b log).broken ≡ None
  kept-none =
      let all = all-none (keeps same kind a b) log in
      let none = map-none (λ i. broken_at (i + 1) (first_place same kind a b (get_or log i []))) (position (λ t. not (keeps same kind a b t)) log) in
      (λ e. none.0 (all.0 e), λ e. all.1 (none.1 e))

  none-fulfilled : (row same kind a b log).broken ≡ None → (row same kind a b log).fulfilled ≡ (row same kind a b log).activated
  none-fulfilled e =
      sum-kept (keeps same kind a b) (λ t. count_places (λ i. is_activated same kind a b t i && is_fulfilled same kind a b t i) (suc (length t)))
      (λ t. count_places (is_activated same kind a b t) (suc (length t))) (λ t kept. count-kept (is_activated same kind a b t) (is_fulfilled same kind a b t) (suc (length t)) kept) log (kept-none.1 e)

pub all-kept : (names : List (List ℕ)) (list : List Constraint) (log : List (List (List ℕ))) → All (λ (r : Checked). r.kept ≡ length log ↔ r.broken ≡ None) (checked names list log)
all-kept names [] log = λ k d inside. absurd (omega arith)
all-kept names (c ∷ list) log = All-cons (λ (r : Checked). r.kept ≡ length log ↔ r.broken ≡ None) _ _ (kept-none bytes_eq c.kind (name_at names c.first) (name_at names c.second) log) (all-kept names list log)

pub all-fulfilled : (names : List (List ℕ)) (list : List Constraint) (log : List (List (List ℕ))) → All (λ (r : Checked). r.broken ≡ None → r.fulfilled ≡ r.activated) (checked names list log)
all-fulfilled names [] log = λ k d inside. absurd (omega arith)
all-fulfilled names (c ∷ list) log =
    All-cons (λ (r : Checked). r.broken ≡ None → r.fulfilled ≡ r.activated) _ _ (none-fulfilled bytes_eq c.kind (name_at names c.first) (name_at names c.second) log) (all-fulfilled names list log)
