-- The names of a certificate's tasks.
use Rattle.std.proofs.Common.{◌≡◌, ℕ, zero, suc, ◌+◌, ◌-◌, ◌<◌, ◌≤◌, List, [], ◌∷◌, ◌++◌, ◌&&◌, Bool, true, false, cond, drop, eqb, fold, length, refl, sym, ap, ap₂, ◌∙◌, None, Some, Result, Ok, Err, Ordering, Less, Equal, Greater, arith}
use Rattle.std.specs.Prelude.{nat_le, slice_get}
use Rattle.std.proofs.lemmas.Bool.{eq-eqb, ne_eqb}
use Rattle.std.proofs.lemmas.Bool.Decides.{nat_tests}
use Rattle.decl_base.specs.Limits.{standard}
use Rattle.decl_base.specs.declared.refusal.Refusal.{Refusal}
use Rattle.decl_base.specs.declared.refusal.Refusal.TheVariants.{Memory}
use Rattle.std.specs.Cmp.Lexicographic.{slice_cmp}
use Rattle.std.specs.Ordering.{is_ge, is_lt, nat_cmp}
use Rattle.std.proofs.lemmas.List.{length-drop, length_push}
use Rattle.event_log.specs.Logs.{first_seen, has_name, with_name}
use Rattle.model_json.specs.Model.{ModelCause, within}
use Rattle.model_json.specs.Certificate.{ascend, names_of}
use Rattle.model_json.proofs.ItemsRead.{within-few}

-- ---- each name once

with_name-most : (names : List (List ℕ)) (name : List ℕ) → length (with_name names name) ≤ length names + 1
with_name-most names name =
    elim (has_name names name) as (λ v. length (cond v names (names ++ name ∷ [])) ≤ length names + 1) [
      | true ↦ omega arith
      | false ↦ omega (arith, length_push names name)
    ]

seen-most : (names texts : List (List ℕ)) → length (fold with_name names texts) ≤ length names + length texts
seen-most names [] = omega arith
seen-most names (text ∷ texts) = omega (arith, with_name-most names text, seen-most (with_name names text) texts)

pub first_seen-most : (texts : List (List ℕ)) → length (first_seen texts) ≤ length texts
first_seen-most texts = omega (arith, seen-most [] texts)

-- ---- names that ascend from a place on

pub ascend-step : (names : List (List ℕ)) (i : ℕ) (x y : List ℕ) → slice_get names i ≡ Some x → slice_get names (suc i) ≡ Some y
    → ascend (drop i names) ≡ (is_lt (slice_cmp nat_cmp x y) && ascend (drop (suc i) names))
ascend-step [] i x y at_i at_next = absurd (cc)
ascend-step (n ∷ []) zero x y at_i at_next = absurd (cc)
ascend-step (n ∷ m ∷ names) zero x y at_i at_next =
    let first : n ≡ x = cc in
    let second : m ≡ y = cc in
    ap₂ (λ a b. is_lt (slice_cmp nat_cmp a b) && ascend (m ∷ names)) first second
ascend-step (n ∷ names) (suc i) x y at_i at_next = ascend-step names i x y at_i at_next

short : (names : List (List ℕ)) → length names ≤ 1 → ascend names ≡ true
short [] few = refl
short (x ∷ []) few = refl
short (x ∷ y ∷ names) few = absurd (omega (arith, few))

pub ascend-end : (names : List (List ℕ)) (i : ℕ) → length names ≤ i + 1 → ascend (drop i names) ≡ true
ascend-end names i past = short (drop i names) (omega (arith, length-drop i names, past))

module _ (names : List (List ℕ)) (id : ℕ) (x y : List ℕ) (some : 1 ≤ id) (at_x : slice_get names (id - 1) ≡ Some x) (at_y : slice_get names id ≡ Some y) (so_far : ascend names ≡ ascend (drop (id - 1) names)) where
  next : slice_get names (suc (id - 1)) ≡ Some y
  next = ap (slice_get names) {x = suc (id - 1)} {y = id} (omega (arith, some)) ∙ at_y

  pub ascend-fails : is_ge (slice_cmp nat_cmp x y) ≡ true → false ≡ ascend names
  ascend-fails ge = sym (so_far ∙ ascend-step names (id - 1) x y at_x next ∙ go (slice_cmp nat_cmp x y) ge)
    where
      go : (o : Ordering) → is_ge o ≡ true → (is_lt o && ascend (drop (suc (id - 1)) names)) ≡ false
      go Less e = absurd (cc)
      go Equal e = refl
      go Greater e = refl

  pub ascend-goes : is_ge (slice_cmp nat_cmp x y) ≡ false → ascend names ≡ ascend (drop ((id + 1) - 1) names)
  ascend-goes lt = so_far ∙ ascend-step names (id - 1) x y at_x next ∙ go (slice_cmp nat_cmp x y) lt ∙ ap (λ n. ascend (drop n names)) {x = suc (id - 1)} {y = (id + 1) - 1} (omega (arith, some))
    where
      go : (o : Ordering) → is_ge o ≡ false → (is_lt o && ascend (drop (suc (id - 1)) names)) ≡ ascend (drop (suc (id - 1)) names)
      go Less e = refl
      go Equal e = absurd (cc)
      go Greater e = absurd (cc)

-- ---- the names that the definition takes

ok-same : {A : Type 0} (x y : A) (r : Result A Refusal) → r ≡ Ok x → r ≡ Ok y → x ≡ y
ok-same x y r a b = cc

module _ (texts : List (List ℕ)) where
  pub names-many : standard.activities < length texts → names_of texts ≡ None
  names-many many =
      let over : nat_le (length texts) standard.activities ≡ false = grind (arith, nat_tests) in
      ap (λ b. cond (b && (eqb (length (first_seen texts)) (length texts)) && ascend (first_seen texts)) (Some (first_seen texts)) None) over

  module _ (few : length texts ≤ standard.activities) where
    is_few : nat_le (length texts) standard.activities ≡ true
    is_few = grind (arith, nat_tests)

    seen-few : within (first_seen texts) ≡ Ok (first_seen texts)
    seen-few = within-few (first_seen texts) (omega (arith, few, first_seen-most texts))

    -- no refusal but for memory
    pub only-memory : (r : Refusal) → ModelCause (within (first_seen texts)) r → r ≡ Memory
    only-memory Memory h = refl
    only-memory r h = let both : Ok (first_seen texts) ≡ Err r = sym seen-few ∙ h in absurd (cc)

    module _ (names : List (List ℕ)) (is : within (first_seen texts) ≡ Ok names) where
      seen-is : first_seen texts ≡ names
      seen-is = ok-same (first_seen texts) names (within (first_seen texts)) seen-few is

      pub names-good : length names ≡ length texts → ascend names ≡ true → names_of texts ≡ Some names
      names-good many up = rw (seen-is, is_few, eq-eqb (length names) (length texts) many, up) refl

      pub names-twice : (length names ≡ length texts → ⊥) → names_of texts ≡ None
      names-twice many = rw (seen-is, is_few, ne_eqb (length names) (length texts) many) refl

      pub names-fall : ascend names ≡ false → names_of texts ≡ None
      names-fall down = rw (seen-is, is_few, down) (go (eqb (length names) (length texts)))
        where
          go : (b : Bool) → cond (b && false) (Some names) None ≡ None
          go true = refl
          go false = refl

-- ---- names that were there already

seen-least : (names put : List (List ℕ)) → length names ≤ length (fold with_name names put)
seen-least names [] = omega arith
seen-least names (p ∷ put) =
    let one : length names ≤ length (with_name names p) =
    elim (has_name names p) as (λ v. length names ≤ length (cond v names (names ++ p ∷ []))) [ true ↦ omega arith | false ↦ omega (arith, length_push names p) ] in
    omega (arith, one, seen-least (with_name names p) put)

pub same-names : (names put : List (List ℕ)) → length (fold with_name names put) ≡ length names → fold with_name names put ≡ names
same-names names [] h = refl
same-names names (p ∷ put) h = go (has_name names p) refl h (λ k. same-names names put k)
  where
    go : (b : Bool) → has_name names p ≡ b → length (fold with_name (cond b names (names ++ p ∷ [])) put) ≡ length names → (length (fold with_name names put) ≡ length names → fold with_name names put ≡ names)
        → fold with_name (cond b names (names ++ p ∷ [])) put ≡ names
    go true e k same = same k
    go false e k same = absurd (omega (arith, k, length_push names p, seen-least (names ++ p ∷ []) put))
