-- A search that follows one step after the other.
use Rattle.std.proofs.Common.{◌≡◌, ◌≢◌, inl, inr, ℕ, ◌+◌, ◌*◌, ◌/◌, ◌<◌, ◌≤◌, List, [], ◌∷◌, ◌++◌, false, Option, Some, None, MatchOption, length, get_or, set, refl, sym, ap, ◌∙◌, arith, get_or-set_same, get_or-set_other, length-set}
use Rattle.std.proofs.lemmas.List.{get_or_append_left, get_or_push, length_push}
use Rattle.std.proofs.lemmas.Nat.{same_from_place, mul-add-lt, div_below, div-mul-add, mod-mul-add}
use Rattle.std.proofs.lemmas.Bool.{cases_eq, cases_lt}
use Rattle.std.proofs.Math.Nat.{mul_comm}
use Rattle.dfa_core.specs.declared.search.Search.{Search}
use Rattle.dfa_core.specs.Steps.{Steps}
use Rattle.dfa_core.specs.Searching.{IsSearch, AreNumbers, Follows, IsOn, HasNumber, TakesNumber, Numbers, AreEntries, IsExplored}
use Rattle.dfa_core.proofs.Pigeons.{le_from_injection}
use Rattle.dfa_core.proofs.Places.{pushed, row_le}

-- one more step is followed
module _ (a : Steps) (states found : List ℕ) (done at x : ℕ) (h : IsSearch a states found done) (e : done ≡ at * a.symbols + x) (la : at < length states) (lx : x < a.symbols) where
  -- to a state that was found
  pub search-known : (i : ℕ) → i < length states → get_or states i 0 ≡ a.next (get_or states at 0) x → IsSearch a states found (done + 1)
  search-known i li is = record {
    some = h.some;
    first = h.first;
    below = h.below;
    distinct = h.distinct;
    found_length = h.found_length;
    found_before = λ t p l. let b = h.found_before t p l in omega arith;
    found_earlier = h.found_earlier;
    found_there = h.found_there;
    found_in_order = h.found_in_order;
    followed = λ t y lt ly less. elim (cases_lt (t * a.symbols + y) done) [
      | inl before ↦ h.followed t y lt ly before
      | inr last ↦
          let same = same_from_place t y at x a.symbols ly lx (omega arith) in
          rw (same.0, same.1) (record { number = i; bound = li; is = is; by = λ p. let b = h.found_before i p li in omega arith })
    ];
  }

  -- to another
  pub search-new : (y : ℕ) → y ≡ a.next (get_or states at 0) x → y < a.states → ((t : ℕ) → t < length states → get_or states t 0 ≡ y → ⊥)
      → IsSearch a (states ++ y ∷ []) (found ++ done ∷ []) (done + 1)
  search-new y to ly fresh =
      let n = length states in
      let fl = h.found_length in
      let states_grow : length (states ++ y ∷ []) ≡ n + 1 = length_push states y in
      let found_grow : length (found ++ done ∷ []) ≡ length found + 1 = length_push found done in
      let old : (t : ℕ) → t < n → get_or (states ++ y ∷ []) t 0 ≡ get_or states t 0 = λ t l. get_or_append_left states (y ∷ []) 0 t l in
      let at_end : get_or (states ++ y ∷ []) n 0 ≡ y = get_or_push states y 0 n refl in
      record {
        some = omega arith;
        first = old 0 h.some ∙ h.first;
        below = λ t l. elim (pushed states y 0 t n refl (omega arith)) [ inl p ↦ rw p.1 (h.below t p.0) | inr p ↦ rw p.1 ly ];
        distinct = λ s t ls lt f. elim (pushed states y 0 s n refl (omega arith)) [
          | inl p ↦ elim (pushed states y 0 t n refl (omega arith)) [
            | inl q ↦ h.distinct s t p.0 q.0 (sym p.1 ∙ (f ∙ q.1))
            | inr q ↦ absurd (fresh s p.0 (sym p.1 ∙ (f ∙ q.1)))
          ]
          | inr p ↦ elim (pushed states y 0 t n refl (omega arith)) [
            | inl q ↦ absurd (fresh t q.0 (sym q.1 ∙ (sym f ∙ p.1)))
            | inr q ↦ p.0 ∙ sym q.0
          ]
        ];
        found_length = omega arith;
        found_before = λ t p l. elim (pushed found done 0 t n fl (omega arith)) [
          | inl q ↦ let b = h.found_before t p q.0 in rw q.1 (omega arith)
          | inr q ↦ rw q.1 (omega arith)
        ];
        found_earlier = λ t p l. elim (pushed found done 0 t n fl (omega arith)) [
          | inl q ↦ rw q.1 (h.found_earlier t p q.0)
          | inr q ↦ let b = mul-add-lt at a.symbols x n la lx in let c = mul_comm a.symbols n in rw (q.1, q.0) (omega arith)
        ];
        found_there = λ t p l. elim (pushed found done 0 t n fl (omega arith)) [
          | inl q ↦
              let b : get_or found t 0 / a.symbols < t = div_below (get_or found t 0) a.symbols t (omega arith) (h.found_earlier t p q.0) in
              rw (q.1, old (get_or found t 0 / a.symbols) (omega arith), old t q.0) (h.found_there t p q.0)
          | inr q ↦ rw (q.1, q.0, e, div-mul-add at a.symbols x lx, mod-mul-add at a.symbols x lx, old at la, at_end) (sym to)
        ];
        found_in_order = λ s t p less l. elim (pushed found done 0 t n fl (omega arith)) [
          | inl q ↦ rw (q.1, get_or_append_left found (done ∷ []) 0 s (omega arith)) (h.found_in_order s t p less q.0)
          | inr q ↦ let b = h.found_before s p (omega arith) in rw (q.1, get_or_append_left found (done ∷ []) 0 s (omega arith)) b
        ];
        followed = λ t z lt lz less. elim (cases_lt (t * a.symbols + z) done) [
          | inl before ↦
              let le : t ≤ at = row_le t z at x a.symbols (omega arith) lx in
              let f = h.followed t z (omega arith) lz before in
              record {
                number = f.number;
                bound = omega (arith, f.bound);
                is = rw (old f.number f.bound, old t (omega arith)) f.is;
                by = λ p. rw (get_or_append_left found (done ∷ []) 0 f.number (omega (arith, f.bound))) (f.by p);
              }
          | inr last ↦
              let same = same_from_place t z at x a.symbols lz lx (omega arith) in
              rw (same.0, same.1) (record {
                number = n;
                bound = omega arith;
                is = rw (at_end, old at la) to;
                by = λ p. rw (get_or_push found done 0 n fl) (omega arith);
              })
        ];
      }

numbers-new : (count y : ℕ) (states : List ℕ) (numbers : List (Option ℕ)) → AreNumbers count states numbers → y < count → get_or numbers y None ≡ None
    → AreNumbers count (states ++ y ∷ []) (set numbers y (Some (length states)))
numbers-new count y states numbers h ly none =
    let n = length states in
    let states_grow : length (states ++ y ∷ []) ≡ n + 1 = length_push states y in
    let there : y < length numbers = omega (arith, h.numbers_length) in
    record {
      numbers_length = length-set numbers y (Some n) ∙ h.numbers_length;
      numbered = λ t l. elim (pushed states y 0 t n refl (omega arith)) [
        | inl p ↦
            let has : get_or numbers (get_or states t 0) None ≡ Some t = h.numbered t p.0 in
            let ne : get_or states t 0 ≢ y = λ e. let is : None ≡ Some t = sym none ∙ (rw e at has) in cc in
            rw p.1 (get_or-set_other numbers y (get_or states t 0) (Some n) None ne ∙ has)
        | inr p ↦ rw p.1 (get_or-set_same numbers y (Some n) None there ∙ ap Some (sym p.0))
      ];
      named = λ q t e. elim (cases_eq q y) [
        | inl same ↦
            let is : Some n ≡ Some t = sym (get_or-set_same numbers y (Some n) None there) ∙ (rw same at e) in
            let z : n ≡ t = cc in
            (omega arith, get_or_push states y 0 t z ∙ sym same)
        | inr ne ↦
            let was = h.named q t (sym (get_or-set_other numbers y q (Some n) None ne) ∙ e) in
            (omega arith, get_or_append_left states (y ∷ []) 0 t was.0 ∙ was.1)
      ];
    }

pub on-more : (a : Steps) (old new : Search) (done at x y number : ℕ) → IsOn a old done → done ≡ at * a.symbols + x → at < length old.states.items → x < a.symbols
    → y ≡ a.next (get_or old.states.items at 0) x → y < a.states → Numbers old new y done number → Follows a old new done at x number
on-more a old new done at x y number h place la lx to ly m = go (get_or old.numbers.items y None) refl m
  where
    states : List ℕ
    states = old.states.items

    go : (o : Option ℕ) → get_or old.numbers.items y None ≡ o → MatchOption o (TakesNumber old new y done number) (λ known. HasNumber old new known number) → Follows a old new done at x number
    go None e takes =
        let grow : length (states ++ y ∷ []) ≡ length states + 1 = length_push states y in
        let fresh : (t : ℕ) → t < length states → get_or states t 0 ≡ y → ⊥ = λ t l same. let is : None ≡ Some t = sym e ∙ (rw same at (h.numbers.numbered t l)) in cc in
        record {
          on = record {
            fits = h.fits;
            order = rw (takes.states, takes.found) (search-new a states old.found.items done at x h.order place la lx y to ly fresh);
            numbers = rw (takes.states, takes.numbers) (numbers-new a.states y states old.numbers.items h.numbers ly e);
          };
          bound = rw (takes.states, takes.is) (omega arith);
          is = rw (takes.states, takes.is) (get_or_push states y 0 (length states) refl ∙ to);
          grows = rw takes.states (omega arith);
          stay = λ t l. rw takes.states (get_or_append_left states (y ∷ []) 0 t l);
          last = λ t ge l. let l2 : t < length (states ++ y ∷ []) = rw takes.states at l in (omega (arith, takes.is), takes.is);
        }
    go (Some known) e has =
        let name = h.numbers.named y known e in
        record {
          on = record {
            fits = h.fits;
            order = rw (has.states, has.found) (search-known a states old.found.items done at x h.order place la lx known name.0 (name.1 ∙ to));
            numbers = rw (has.states, has.numbers) h.numbers;
          };
          bound = rw (has.states, has.is) name.0;
          is = rw (has.states, has.is) (name.1 ∙ to);
          grows = rw has.states (omega arith);
          stay = λ t l. rw has.states refl;
          last = λ t ge l. let l2 : t < length states = rw has.states at l in absurd (omega arith);
        }

pub few-search : (a : Steps) (states found : List ℕ) (done : ℕ) → IsSearch a states found done → length states ≤ a.states
few-search a states found done h = le_from_injection (λ t. get_or states t 0) (length states) a.states h.below h.distinct

-- no state that was found is accepting, if the one that may have been found just now isn't
pub none-more : (a : Steps) (old new : Search) (done at x number : ℕ) → Follows a old new done at x number
    → ((k : ℕ) → k < length old.states.items → a.accepting (get_or old.states.items k 0) ≡ false)
    → (number ≡ length old.states.items → a.accepting (get_or new.states.items number 0) ≡ false)
    → (k : ℕ) → k < length new.states.items → a.accepting (get_or new.states.items k 0) ≡ false
none-more a old new done at x number s none fresh k l = elim (cases_lt k (length old.states.items)) [
  | inl lt ↦ ap a.accepting (s.stay k lt) ∙ none k lt
  | inr ge ↦ let p = s.last k ge l in rw p.0 (fresh p.1)
]

-- one more entry, where more states may have been found
pub entries-more : (a : Steps) (old new : Search) (next : List ℕ) (at x number : ℕ) → Follows a old new (length next) at x number → at < length old.states.items → x < a.symbols
    → length next ≡ at * a.symbols + x → AreEntries a old.states.items next → AreEntries a new.states.items (next ++ number ∷ [])
entries-more a old new next at x number s la lx e h =
    let grow : length (next ++ number ∷ []) ≡ length next + 1 = length_push next number in
    let sg = s.grows in
    let sb = s.bound in
    record {
      bound = λ t y ly l. elim (pushed next number 0 (t * a.symbols + y) (length next) refl (omega arith)) [
        | inl p ↦ let b = h.bound t y ly p.0 in rw p.1 (omega arith)
        | inr p ↦ rw p.1 sb
      ];
      are = λ t y ly l. elim (pushed next number 0 (t * a.symbols + y) (length next) refl (omega arith)) [
        | inl p ↦
            let le : t ≤ at = row_le t y at x a.symbols (omega arith) lx in
            rw (p.1, s.stay (get_or next (t * a.symbols + y) 0) (h.bound t y ly p.0), s.stay t (omega arith)) (h.are t y ly p.0)
        | inr p ↦ let same = same_from_place t y at x a.symbols ly lx (p.0 ∙ e) in rw (p.1, same.0, same.1, s.stay at la) s.is
      ];
    }

-- with a row for each state, the search is over
pub explored-all : (a : Steps) (search : Search) (next : List ℕ) → IsOn a search (length next) → length next ≡ length search.states.items * a.symbols
    → AreEntries a search.states.items next → IsExplored a search.states.items next
explored-all a search next h all entries = record {
  found = search.found.items;
  search = rw all at h.order;
  few = few-search a search.states.items search.found.items (length next) h.order;
  fits = h.fits;
  table_length = all;
  entries = entries;
}
