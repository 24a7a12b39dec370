-- How the traces of a log keep a constraint doesn't depend on what its activities are called.
use Rattle.std.proofs.Common.{◌≡◌, ℕ, zero, suc, ◌+◌, List, [], ◌∷◌, Bool, true, false, ◌&&◌, ◌||◌, not, cond, nat_eq, nat_le, nat_lt, ltb, get_or, length, map, take, drop, filter, sum_by, Option, None, Some, refl, sym, ap, ap₂, ◌∙◌, arith}
use Rattle.std.proofs.lemmas.List.{length-map, take-map, drop-map}
use Rattle.std.proofs.lemmas.List.Sums.{sum_by-cons}
use Rattle.std.specs.List.{position, position_or_len, range_with_len}
use Rattle.std.specs.Option.{option_map}
use Rattle.template_core.proofs.Places.{count_places-same}
use Rattle.template_core.specs.Counters.{occurrences}
use Rattle.template_core.specs.Events.{count_places, all_places, at_head, at_place, occurs, is_first, is_last, before_first, after_last}
use Rattle.template_core.specs.Groups.{group_of}
use Rattle.template_core.specs.Repertoire.{each, each_of, at_first, none, alternates_later, alternates_earlier, is_activated_in, is_activated, is_fulfilled, keeps}
use Rattle.template_core.specs.Tests.{has, has_later, has_earlier, has_next, has_previous}
use Rattle.template_core.specs.declared.group.Activation.TheVariants as by
use Rattle.template_core.specs.declared.group.Group.{Group}
use Rattle.template_core.specs.declared.group.Group.TheVariants.{Existence, Relation, Mutual, Negative}
use Rattle.template_core.specs.declared.kind.Kind.{Kind}
use Rattle.template_core.specs.declared.kind.Kind.TheVariants.{Init, End, Participation, AtMostOne, ChainSuccession, AlternateSuccession, Succession, CoExistence, ChainResponse, AlternateResponse, Response, ChainPrecedence, AlternatePrecedence, Precedence, RespondedExistence, NotCoExistence, NotSuccession, NotChainSuccession, Exactly, AtLeast, AtMost, NotRespondedExistence, NotResponse, NotPrecedence, NotChainResponse, NotChainPrecedence}
use Rattle.trace_check.specs.Checking.{first_place, first_broken, row}
use Rattle.trace_check.specs.declared.checked.Broken.{Broken}
use Rattle.trace_check.specs.declared.checked.Checked.{Checked}

abbrev pub broken_at : ℕ → ℕ → Broken
broken_at number place = record { trace = number; place = place }

abbrev pub row_by : ℕ → ℕ → ℕ → Option Broken → Checked
row_by x y z o = record { activated = x; fulfilled = y; kept = z; broken = o }

pub same_row : (x y z p q r : ℕ) (o u : Option Broken) → x ≡ p → y ≡ q → z ≡ r → o ≡ u → row_by x y z o ≡ row_by p q r u
same_row x y z p q r o u e f g h = cc

-- ---- tests that agree

filter-same : (p q : ℕ → Bool) → ((k : ℕ) → p k ≡ q k) → (xs : List ℕ) → filter p xs ≡ filter q xs
filter-same p q same [] = refl
filter-same p q same (x ∷ xs) = ap₂ (λ v l. cond v (x ∷ l) l) (same x) (filter-same p q same xs)

all_places-same : (p q : ℕ → Bool) → ((k : ℕ) → p k ≡ q k) → (n : ℕ) → all_places p n ≡ all_places q n
unfolding all_places
all_places-same p q same zero = refl
all_places-same p q same (suc n) = ap₂ (λ v w. v && w) (all_places-same p q same n) (same n)

sum_by-map : {X Y : Type 0} (h : X → Y) (p : Y → ℕ) (q : X → ℕ) → ((x : X) → p (h x) ≡ q x) → (xs : List X) → sum_by p (map h xs) ≡ sum_by q xs
sum_by-map h p q each [] = refl
sum_by-map h p q each (x ∷ xs) = omega (arith, sum_by-cons p (h x) (map h xs), sum_by-cons q x xs, each x, sum_by-map h p q each xs)

position_or_len-map : {X Y : Type 0} (h : X → Y) (p : Y → Bool) (q : X → Bool) → ((x : X) → p (h x) ≡ q x) → (xs : List X) → position_or_len p (map h xs) ≡ position_or_len q xs
position_or_len-map h p q each [] = refl
position_or_len-map h p q each (x ∷ xs) = ap₂ (λ v n. cond (not v) (1 + n) 0) (each x) (position_or_len-map h p q each xs)

position-map : {X Y : Type 0} (h : X → Y) (p : Y → Bool) (q : X → Bool) → ((x : X) → p (h x) ≡ q x) → (xs : List X) → position p (map h xs) ≡ position q xs
position-map h p q each xs =
    ap₂ (λ n m. cond (ltb n m) (Some n) None) (position_or_len-map h p q each xs) (length-map xs h)

module _ {A B : Type 0} (same : A → A → Bool) (other : B → B → Bool) (h : A → B) where
  abbrev Agrees : A → B → Type 0
  Agrees a x = (e : A) → other (h e) x ≡ same e a

  get_or-maps : (log : List (List A)) (i : ℕ) → get_or (map (map h) log) i [] ≡ map h (get_or log i [])
  get_or-maps [] zero = refl
  get_or-maps [] (suc i) = refl
  get_or-maps (t ∷ log) zero = refl
  get_or-maps (t ∷ log) (suc i) = get_or-maps log i

  occurs-map : (a : A) (x : B) → Agrees a x → (t : List A) → occurs other x (map h t) ≡ occurs same a t
  occurs-map a x at [] = refl
  occurs-map a x at (e ∷ t) = ap₂ (λ v w. v || w) (at e) (occurs-map a x at t)

  is_first-map : (a : A) (x : B) → Agrees a x → (t : List A) → is_first other x (map h t) ≡ is_first same a t
  is_first-map a x at [] = refl
  is_first-map a x at (e ∷ t) = at e

  is_last-map : (a : A) (x : B) → Agrees a x → (t : List A) → is_last other x (map h t) ≡ is_last same a t
  is_last-map a x at [] = refl
  is_last-map a x at (e ∷ []) = at e
  is_last-map a x at (e ∷ f ∷ t) = is_last-map a x at (f ∷ t)

  map-cond : (v : Bool) (s t : List A) → map h (cond v s t) ≡ cond v (map h s) (map h t)
  map-cond true s t = refl
  map-cond false s t = refl

  before_first-map : (a : A) (x : B) → Agrees a x → (t : List A) → before_first other x (map h t) ≡ map h (before_first same a t)
  before_first-map a x at [] = refl
  before_first-map a x at (e ∷ t) =
      ap₂ (λ v s. cond v [] (h e ∷ s)) (at e) (before_first-map a x at t) ∙ sym (map-cond (same e a) [] (e ∷ before_first same a t))

  after_last-map : (a : A) (x : B) → Agrees a x → (t : List A) → after_last other x (map h t) ≡ map h (after_last same a t)
  after_last-map a x at [] = refl
  after_last-map a x at (e ∷ t) =
      ap₂ (λ v s. cond v s (cond (other (h e) x) (map h t) (h e ∷ map h t))) (occurs-map a x at t) (after_last-map a x at t)
      ∙ ap (λ v. cond (occurs same a t) (map h (after_last same a t)) (cond v (map h t) (h e ∷ map h t))) (at e)
      ∙ ap (λ s. cond (occurs same a t) (map h (after_last same a t)) s) (sym (map-cond (same e a) t (e ∷ t)))
      ∙ sym (map-cond (occurs same a t) (after_last same a t) (cond (same e a) t (e ∷ t)))

  abbrev Matches : (List B → B → List B → Bool) → (List A → A → List A → Bool) → Type 0
  Matches p q = (before : List A) (event : A) (after : List A) → p (map h before) (h event) (map h after) ≡ q before event after

  at_place-map : (p : List B → B → List B → Bool) (q : List A → A → List A → Bool) → Matches p q → (t : List A) (k : ℕ) → at_place p (map h t) k ≡ at_place q t k
  at_place-map p q each t k = ap₂ (λ before rest. at_head (p before) rest) (take-map h k t) (drop-map h k t) ∙ heads (take k t) (drop k t)
    where
      heads : (before rest : List A) → at_head (p (map h before)) (map h rest) ≡ at_head (q before) rest
      heads before [] = refl
      heads before (e ∷ after) = each before e after

  occurrences-map : (a : A) (x : B) → Agrees a x → (t : List A) → occurrences other x (map h t) ≡ occurrences same a t
  occurrences-map a x at t =
      ap (count_places (at_place (each other x) (map h t))) (length-map t h)
      ∙ count_places-same (at_place (each other x) (map h t)) (at_place (each same a) t) (length t) (λ k lt. at_place-map (each other x) (each same a) (λ before e after. at e) t k)

  module _ (a b : A) (x y : B) (at_a : Agrees a x) (at_b : Agrees b y) where
    first-map : (p q : List B → B → List B → Bool) (r s : List A → A → List A → Bool) → Matches p r → Matches q s → Matches (at_first other x p q) (at_first same a r s)
    first-map p q r s one two before e after =
        ap (λ v. cond v (p (map h before) (h e) (map h after)) (q (map h before) (h e) (map h after))) (at_a e)
        ∙ ap₂ (λ v w. cond (same e a) v w) (one before e after) (two before e after)

    first-at : (p q : List B → B → List B → Bool) (r s : List A → A → List A → Bool) → Matches p r → Matches q s → (t : List A) (k : ℕ)
        → at_place (at_first other x p q) (map h t) k ≡ at_place (at_first same a r s) t k
    first-at p q r s one two t k = at_place-map (at_first other x p q) (at_first same a r s) (first-map p q r s one two) t k

    none-map : (p : List B → B → List B → Bool) (q : List A → A → List A → Bool) → Matches p q → Matches (none other p) (none same q)
    none-map p q each before e after = ap not (each before e after)

    later-map : (c : A) (z : B) → Agrees c z → Matches (has_later other z) (has_later same c)
    later-map c z at before e after = occurs-map c z at after

    earlier-map : (c : A) (z : B) → Agrees c z → Matches (has_earlier other z) (has_earlier same c)
    earlier-map c z at before e after = occurs-map c z at before

    has-map : (c : A) (z : B) → Agrees c z → Matches (has other z) (has same c)
    has-map c z at before e after = ap₂ (λ v w. v || w) (occurs-map c z at before) (ap₂ (λ v w. v || w) (at e) (occurs-map c z at after))

    next-map : (c : A) (z : B) → Agrees c z → Matches (has_next other z) (has_next same c)
    next-map c z at before e after = is_first-map c z at after

    previous-map : (c : A) (z : B) → Agrees c z → Matches (has_previous other z) (has_previous same c)
    previous-map c z at before e after = is_last-map c z at before

    alternates_later-map : Matches (alternates_later other x y) (alternates_later same a b)
    alternates_later-map before e after =
        ap₂ (λ v w. v && not w) (occurs-map b y at_b after) (ap (occurs other x) (before_first-map b y at_b after) ∙ occurs-map a x at_a (before_first same b after))

    alternates_earlier-map : Matches (alternates_earlier other x y) (alternates_earlier same a b)
    alternates_earlier-map before e after =
        ap₂ (λ v w. v && not w) (occurs-map a x at_a before) (ap (occurs other y) (after_last-map a x at_a before) ∙ occurs-map b y at_b (after_last same a before))

    each-map : Matches (each_of other x y) (each_of same a b)
    each-map before e after = ap₂ (λ v w. v || w) (at_a e) (at_b e)

    activated_in-map : (group : Group) (t : List A) (k : ℕ) → is_activated_in other group x y (map h t) k ≡ is_activated_in same group a b t k
    activated_in-map Existence t k = ap (λ n. nat_eq k n) (length-map t h)
    activated_in-map (Relation by.First) t k = at_place-map (each other x) (each same a) (λ before e after. at_a e) t k
    activated_in-map (Relation by.Second) t k = at_place-map (each other y) (each same b) (λ before e after. at_b e) t k
    activated_in-map Mutual t k = at_place-map (each_of other x y) (each_of same a b) each-map t k
    activated_in-map Negative t k = at_place-map (each_of other x y) (each_of same a b) each-map t k

    fulfilled-map : (kind : Kind) (t : List A) (k : ℕ) → is_fulfilled other kind x y (map h t) k ≡ is_fulfilled same kind a b t k
    fulfilled-map Init t k = is_first-map a x at_a t
    fulfilled-map End t k = is_last-map a x at_a t
    fulfilled-map Participation t k = occurs-map a x at_a t
    fulfilled-map AtMostOne t k = ap (λ n. nat_lt n 2) (occurrences-map a x at_a t)
    fulfilled-map ChainSuccession t k = first-at (has_next other y) (has_previous other x) (has_next same b) (has_previous same a) (next-map b y at_b) (previous-map a x at_a) t k
    fulfilled-map AlternateSuccession t k = first-at (alternates_later other x y) (alternates_earlier other x y) (alternates_later same a b) (alternates_earlier same a b) alternates_later-map alternates_earlier-map t k
    fulfilled-map Succession t k = first-at (has_later other y) (has_earlier other x) (has_later same b) (has_earlier same a) (later-map b y at_b) (earlier-map a x at_a) t k
    fulfilled-map CoExistence t k = first-at (has other y) (has other x) (has same b) (has same a) (has-map b y at_b) (has-map a x at_a) t k
    fulfilled-map ChainResponse t k = at_place-map (has_next other y) (has_next same b) (next-map b y at_b) t k
    fulfilled-map AlternateResponse t k = at_place-map (alternates_later other x y) (alternates_later same a b) alternates_later-map t k
    fulfilled-map Response t k = at_place-map (has_later other y) (has_later same b) (later-map b y at_b) t k
    fulfilled-map ChainPrecedence t k = at_place-map (has_previous other x) (has_previous same a) (previous-map a x at_a) t k
    fulfilled-map AlternatePrecedence t k = at_place-map (alternates_earlier other x y) (alternates_earlier same a b) alternates_earlier-map t k
    fulfilled-map Precedence t k = at_place-map (has_earlier other x) (has_earlier same a) (earlier-map a x at_a) t k
    fulfilled-map RespondedExistence t k = at_place-map (has other y) (has same b) (has-map b y at_b) t k
    fulfilled-map NotCoExistence t k =
        first-at (none other (has other y)) (none other (has other x)) (none same (has same b)) (none same (has same a)) (none-map (has other y) (has same b) (has-map b y at_b)) (none-map (has other x) (has same a) (has-map a x at_a)) t k
    fulfilled-map NotSuccession t k =
        first-at (none other (has_later other y)) (none other (has_earlier other x)) (none same (has_later same b)) (none same (has_earlier same a)) (none-map (has_later other y) (has_later same b) (later-map b y at_b)) (none-map (has_earlier other x) (has_earlier same a) (earlier-map a x at_a)) t k
    fulfilled-map NotChainSuccession t k =
        first-at (none other (has_next other y)) (none other (has_previous other x)) (none same (has_next same b)) (none same (has_previous same a)) (none-map (has_next other y) (has_next same b) (next-map b y at_b)) (none-map (has_previous other x) (has_previous same a) (previous-map a x at_a)) t k
    fulfilled-map (Exactly n) t k = ap (λ m. nat_eq m n) (occurrences-map a x at_a t)
    fulfilled-map (AtLeast n) t k = ap (nat_le n) (occurrences-map a x at_a t)
    fulfilled-map (AtMost n) t k = ap (λ m. nat_le m n) (occurrences-map a x at_a t)
    fulfilled-map NotRespondedExistence t k = at_place-map (none other (has other y)) (none same (has same b)) (none-map (has other y) (has same b) (has-map b y at_b)) t k
    fulfilled-map NotResponse t k = at_place-map (none other (has_later other y)) (none same (has_later same b)) (none-map (has_later other y) (has_later same b) (later-map b y at_b)) t k
    fulfilled-map NotPrecedence t k = at_place-map (none other (has_earlier other x)) (none same (has_earlier same a)) (none-map (has_earlier other x) (has_earlier same a) (earlier-map a x at_a)) t k
    fulfilled-map NotChainResponse t k = at_place-map (none other (has_next other y)) (none same (has_next same b)) (none-map (has_next other y) (has_next same b) (next-map b y at_b)) t k
    fulfilled-map NotChainPrecedence t k = at_place-map (none other (has_previous other x)) (none same (has_previous same a)) (none-map (has_previous other x) (has_previous same a) (previous-map a x at_a)) t k

    module _ (kind : Kind) where
      active-map : (t : List A) (k : ℕ) → is_activated other kind x y (map h t) k ≡ is_activated same kind a b t k
      active-map t k = activated_in-map (group_of kind) t k

      count_active-map : (t : List A) → count_places (is_activated other kind x y (map h t)) (suc (length (map h t))) ≡ count_places (is_activated same kind a b t) (suc (length t))
      count_active-map t =
          ap (λ n. count_places (is_activated other kind x y (map h t)) (suc n)) (length-map t h)
          ∙ count_places-same (is_activated other kind x y (map h t)) (is_activated same kind a b t) (suc (length t)) (λ k lt. active-map t k)

      both-map : (t : List A) (k : ℕ) → (is_activated other kind x y (map h t) k && is_fulfilled other kind x y (map h t) k) ≡ (is_activated same kind a b t k && is_fulfilled same kind a b t k)
      both-map t k = ap₂ (λ v w. v && w) (active-map t k) (fulfilled-map kind t k)

      count_both-map : (t : List A) → count_places (λ k. is_activated other kind x y (map h t) k && is_fulfilled other kind x y (map h t) k) (suc (length (map h t)))
          ≡ count_places (λ k. is_activated same kind a b t k && is_fulfilled same kind a b t k) (suc (length t))
      count_both-map t =
          ap (λ n. count_places (λ k. is_activated other kind x y (map h t) k && is_fulfilled other kind x y (map h t) k) (suc n)) (length-map t h)
          ∙ count_places-same _ (λ k. is_activated same kind a b t k && is_fulfilled same kind a b t k) (suc (length t)) (λ k lt. both-map t k)

      keeps-map : (t : List A) → keeps other kind x y (map h t) ≡ keeps same kind a b t
      keeps-map t =
          ap (λ n. all_places (λ k. not (is_activated other kind x y (map h t) k) || is_fulfilled other kind x y (map h t) k) (suc n)) (length-map t h)
          ∙ all_places-same (λ k. not (is_activated other kind x y (map h t) k) || is_fulfilled other kind x y (map h t) k) (λ k. not (is_activated same kind a b t k) || is_fulfilled same kind a b t k)
          (λ k. ap₂ (λ v w. not v || w) (active-map t k) (fulfilled-map kind t k)) (suc (length t))

      first_place-map : (t : List A) → first_place other kind x y (map h t) ≡ first_place same kind a b t
      first_place-map t =
          ap (λ n. get_or (filter (λ k. not (is_fulfilled other kind x y (map h t) k)) (filter (is_activated other kind x y (map h t)) (range_with_len 0 (suc n)))) 0 0) (length-map t h)
          ∙ ap (λ l. get_or (filter (λ k. not (is_fulfilled other kind x y (map h t) k)) l) 0 0) (filter-same (is_activated other kind x y (map h t)) (is_activated same kind a b t) (active-map t) (range_with_len 0 (suc (length t))))
          ∙ ap (λ l. get_or l 0 0)
          (filter-same (λ k. not (is_fulfilled other kind x y (map h t) k)) (λ k. not (is_fulfilled same kind a b t k)) (λ k. ap not (fulfilled-map kind t k)) (filter (is_activated same kind a b t) (range_with_len 0 (suc (length t)))))

      broken-map : (log : List (List A)) → first_broken other kind x y (map (map h) log) ≡ first_broken same kind a b log
      broken-map log =
          ap (option_map (λ i. broken_at (i + 1) (first_place other kind x y (get_or (map (map h) log) i []))))
          (position-map (map h) (λ t. not (keeps other kind x y t)) (λ t. not (keeps same kind a b t)) (λ t. ap not (keeps-map t)) log)
          ∙ within (position (λ t. not (keeps same kind a b t)) log)
        where
          within : (o : Option ℕ) → option_map (λ i. broken_at (i + 1) (first_place other kind x y (get_or (map (map h) log) i []))) o ≡ option_map (λ i. broken_at (i + 1) (first_place same kind a b (get_or log i []))) o
          within None = refl
          within (Some i) = ap (λ n. Some (broken_at (i + 1) n)) (ap (first_place other kind x y) (get_or-maps log i) ∙ first_place-map (get_or log i []))

      pub row-map : (log : List (List A)) → row other kind x y (map (map h) log) ≡ row same kind a b log
      row-map log =
          same_row _ _ _ _ _ _ _ _ (sum_by-map (map h) _ (λ t. count_places (is_activated same kind a b t) (suc (length t))) count_active-map log)
          (sum_by-map (map h) _ (λ t. count_places (λ k. is_activated same kind a b t k && is_fulfilled same kind a b t k) (suc (length t))) count_both-map log)
          (sum_by-map (map h) (λ t. cond (keeps other kind x y t) 1 0) (λ t. cond (keeps same kind a b t) 1 0) (λ t. ap (λ v. cond v 1 0) (keeps-map t)) log) (broken-map log)
