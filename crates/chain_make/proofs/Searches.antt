-- A search that follows one step after the other.
use Rattle.std.proofs.Common.{◌≡◌, ◌≢◌, inl, inr, ℕ, zero, suc, ◌+◌, ◌<◌, ◌≤◌, List, [], ◌∷◌, ◌++◌, Option, Some, None, MatchOption, length, replicate, get_or, set, refl, sym, ap, ◌∙◌, subst, arith, get_or-set_same, get_or-set_other, length-set}
use Rattle.std.proofs.lemmas.List.{get_or_append_left, get_or_push, length_push, length-replicate}
use Rattle.std.proofs.lemmas.Bool.{cases_eq, cases_lt}
use Rattle.dfa_core.specs.Steps.{Steps}
use Rattle.dfa_core.proofs.Pigeons.{le_from_injection}
use Rattle.dfa_core.proofs.Places.{pushed}
use Rattle.chain_make.specs.Beside.{AreBeside, LeadsToBoth, LeadsToOne}
use Rattle.chain_make.specs.Searching.{Adds, AddsFound, AddsNone, AreFollowed, Follows, IsFollowed, IsSearch, found_at, found_of}
use Rattle.chain_make.specs.declared.search.Found.{Found}
use Rattle.chain_make.specs.declared.search.Search.{Search}
use Rattle.chain_make.proofs.Runs.{both-more, both-one, both-start}

pub some-within : (xs : List (Option ℕ)) (q r : ℕ) → get_or xs q None ≡ Some r → q < length xs
some-within [] q r e = absurd (cc)
some-within (x ∷ xs) zero r e = omega arith
some-within (x ∷ xs) (suc q) r e = let ih = some-within xs q r e in omega arith

-- a state more
module _ (s t : Steps) (beside : List (Option ℕ)) (found : List Found) (y r : ℕ) (h : IsSearch s t beside found) (ly : y < s.states) (lr : r < t.states) (none : get_or beside y None ≡ None) (both : LeadsToBoth s t y r) where
  there : y < length beside
  there = omega (arith, h.as_many, ly)

  pub set-keeps : (q k : ℕ) → get_or beside q None ≡ Some k → get_or (set beside y (Some r)) q None ≡ Some k
  set-keeps q k e = elim (cases_eq q y) [
    | inl same ↦ let is : None ≡ Some k = sym none ∙ (rw same at e) in absurd (cc)
    | inr ne ↦ get_or-set_other beside y q (Some r) None ne ∙ e
  ]

  set-is : (q k : ℕ) → q ≡ y → get_or (set beside y (Some r)) q None ≡ Some k → r ≡ k
  set-is q k same e =
      let is : Some r ≡ Some k = sym (get_or-set_same beside y (Some r) None there) ∙ (rw same at e) in
      cc

  pub search-new : IsSearch s t (set beside y (Some r)) (found ++ found_of y r ∷ [])
  search-new =
      let grow : length (found ++ found_of y r ∷ []) ≡ length found + 1 = length_push found (found_of y r) in
      let at_end : found_at (found ++ found_of y r ∷ []) (length found) ≡ found_of y r = get_or_push found (found_of y r) (found_of 0 0) (length found) refl in
      let fresh : (i : ℕ) → i < length found → (found_at found i).state ≡ y → ⊥ = λ i l e. let is : None ≡ Some (found_at found i).beside = sym none ∙ (rw e at (h.named i l)) in cc in
      record {
        as_many = length-set beside y (Some r) ∙ h.as_many;
        start = set-keeps s.start t.start h.start;
        below = λ q k e. elim (cases_eq q y) [
          | inl same ↦ subst (λ (n : ℕ). n < t.states) (set-is q k same e) lr
          | inr ne ↦ h.below q k (sym (get_or-set_other beside y q (Some r) None ne) ∙ e)
        ];
        led = λ q k e. elim (cases_eq q y) [
          | inl same ↦ rw (same, sym (set-is q k same e)) both
          | inr ne ↦ h.led q k (sym (get_or-set_other beside y q (Some r) None ne) ∙ e)
        ];
        listed = λ q k e. elim (cases_eq q y) [
          | inl same ↦ record {
            place = length found;
            there = omega arith;
            state = ap (λ (f : Found). f.state) at_end ∙ sym same;
            beside = ap (λ (f : Found). f.beside) at_end ∙ set-is q k same e;
          }
          | inr ne ↦
              let l = h.listed q k (sym (get_or-set_other beside y q (Some r) None ne) ∙ e) in
              let old : found_at (found ++ found_of y r ∷ []) l.place ≡ found_at found l.place = get_or_append_left found (found_of y r ∷ []) (found_of 0 0) l.place l.there in
              record {
                place = l.place;
                there = omega (arith, l.there);
                state = ap (λ (f : Found). f.state) old ∙ l.state;
                beside = ap (λ (f : Found). f.beside) old ∙ l.beside;
              }
        ];
        named = λ i l. elim (pushed found (found_of y r) (found_of 0 0) i (length found) refl (omega arith)) [
          | inl p ↦ rw p.1 (set-keeps (found_at found i).state (found_at found i).beside (h.named i p.0))
          | inr p ↦ rw p.1 (get_or-set_same beside y (Some r) None there)
        ];
        distinct = λ i j li lj e. elim (pushed found (found_of y r) (found_of 0 0) i (length found) refl (omega arith)) [
          | inl p ↦ elim (pushed found (found_of y r) (found_of 0 0) j (length found) refl (omega arith)) [
            | inl q ↦ h.distinct i j p.0 q.0 (sym (ap (λ (f : Found). f.state) p.1) ∙ (e ∙ ap (λ (f : Found). f.state) q.1))
            | inr q ↦ absurd (fresh i p.0 (sym (ap (λ (f : Found). f.state) p.1) ∙ (e ∙ ap (λ (f : Found). f.state) q.1)))
          ]
          | inr p ↦ elim (pushed found (found_of y r) (found_of 0 0) j (length found) refl (omega arith)) [
            | inl q ↦ absurd (fresh j q.0 (sym (ap (λ (f : Found). f.state) q.1) ∙ (sym e ∙ ap (λ (f : Found). f.state) p.1)))
            | inr q ↦ p.0 ∙ sym q.0
          ]
        ];
      }

-- one more step
pub follows-more : (s t : Steps) (old new : Search) (at x : ℕ) → LeadsToOne s t → IsSearch s t old.beside.items old.found.items → at < length old.found.items → x < s.symbols
    → s.next (found_at old.found.items at).state x < s.states → t.next (found_at old.found.items at).beside x < t.states → Adds old new (s.next (found_at old.found.items at).state x) (t.next (found_at old.found.items at).beside x) → Follows s t old new at x
follows-more s t old new at x one h la lx ly lr adds = go (get_or old.beside.items y None) refl adds
  where
    f : Found
    f = found_at old.found.items at

    y : ℕ
    y = s.next f.state x

    r : ℕ
    r = t.next f.beside x

    both : LeadsToBoth s t y r
    both = both-more s t f.state f.beside x (h.led f.state f.beside (h.named at la)) lx

    go : (o : Option ℕ) → get_or old.beside.items y None ≡ o → MatchOption o (AddsFound old new y r) (λ known. AddsNone old new) → Follows s t old new at x
    go None e a =
        let grow : length (old.found.items ++ found_of y r ∷ []) ≡ length old.found.items + 1 = length_push old.found.items (found_of y r) in
        let stay : (i : ℕ) → i < length old.found.items → found_at new.found.items i ≡ found_at old.found.items i = λ i l. rw a.found (get_or_append_left old.found.items (found_of y r ∷ []) (found_of 0 0) i l) in
        record {
          search = rw (a.beside, a.found) (search-new s t old.beside.items old.found.items y r h ly lr e both);
          grows = rw a.found (omega arith);
          stay = stay;
          keep = λ q k was. rw a.beside (set-keeps s t old.beside.items old.found.items y r h ly lr e both q k was);
          followed = rw (stay at la, a.beside) (get_or-set_same old.beside.items y (Some r) None (omega (arith, h.as_many, ly)));
        }
    go (Some known) e a =
        let is : known ≡ r = both-one s t one y known r (h.led y known e) both in
        record {
          search = rw (a.beside, a.found) h;
          grows = rw a.found (omega arith);
          stay = λ i l. rw a.found refl;
          keep = λ q k was. rw a.beside was;
          followed = rw (a.beside, a.found) (e ∙ ap Some is);
        }

-- ---- what was followed

module _ (s t : Steps) where
  pub followed-step : (old new : Search) (at x : ℕ) → at < length old.found.items → AreFollowed s t old at x → Follows s t old new at x → AreFollowed s t new at (x + 1)
  followed-step old new at x la h f =
      let kept : (i y : ℕ) → i < length old.found.items → IsFollowed s t old i y → IsFollowed s t new i y =
      λ i y l was. rw (f.stay i l) (f.keep (s.next (found_at old.found.items i).state y) (t.next (found_at old.found.items i).beside y) was) in
      record {
        search_is = f.search;
        rows = λ i y li ly. kept i y (omega (arith, li, la)) (h.rows i y li ly);
        row = λ y ly. elim (cases_lt y x) [ inl before ↦ kept at y la (h.row y before) | inr last ↦ let e : y ≡ x = omega arith in rw e f.followed ];
      }

  pub followed-row : (search : Search) (at x : ℕ) → s.symbols ≤ x → AreFollowed s t search at x → AreFollowed s t search (at + 1) 0
  followed-row search at x le h = record {
    search_is = h.search_is;
    rows = λ i y li ly. elim (cases_lt i at) [ inl before ↦ h.rows i y before ly | inr last ↦ let e : i ≡ at = omega arith in rw e (h.row y (omega (arith, ly, le))) ];
    row = λ y ly. absurd (omega (arith, ly));
  }

  pub followed-none : (search : Search) → IsSearch s t search.beside.items search.found.items → AreFollowed s t search 0 0
  followed-none search h = record {
    search_is = h;
    rows = λ i y li ly. absurd (omega (arith, li));
    row = λ y ly. absurd (omega (arith, ly));
  }

  pub beside-all : (search : Search) (at : ℕ) → length search.found.items ≤ at → AreFollowed s t search at 0 → AreBeside s t search.beside.items
  beside-all search at le h =
      let i = h.search_is in
      record {
        as_many = i.as_many;
        start = i.start;
        stepped = λ q r x e lx. let l = i.listed q r e in rw (l.state, l.beside) at (h.rows l.place x (omega (arith, l.there, le)) lx);
        below = i.below;
        led = i.led;
      }

  pub few-found : (search : Search) → IsSearch s t search.beside.items search.found.items → length search.found.items ≤ s.states
  few-found search h = le_from_injection (λ i. (found_at search.found.items i).state) (length search.found.items) s.states
      (λ i l. let b = some-within search.beside.items (found_at search.found.items i).state (found_at search.found.items i).beside (h.named i l) in omega (arith, b, h.as_many))
      h.distinct

  -- a search that has found the start alone
  none-at : {X : Type 0} (d : X) (n q : ℕ) → get_or (replicate n d) q d ≡ d
  none-at d zero q = refl
  none-at d (suc n) zero = refl
  none-at d (suc n) (suc q) = none-at d n q

  pub search-start : (beside : List (Option ℕ)) (found : List Found) → s.start < s.states → t.start < t.states → beside ≡ set (replicate s.states None) s.start (Some t.start) → found ≡ found_of s.start t.start ∷ []
      → IsSearch s t beside found
  search-start beside found less lt eb ef = rw (eb, ef) (record {
    as_many = length-set (replicate s.states None) s.start (Some t.start) ∙ length-replicate {A = Option ℕ} s.states None;
    start = here;
    below = λ q r e. elim (cases_eq q s.start) [ inl same ↦ subst (λ (n : ℕ). n < t.states) (is q r same e) lt | inr ne ↦ absurd (no q r ne e) ];
    led = λ q r e. elim (cases_eq q s.start) [ inl same ↦ rw (same, sym (is q r same e)) (both-start s t) | inr ne ↦ absurd (no q r ne e) ];
    listed = λ q r e. elim (cases_eq q s.start) [
      | inl same ↦ record { place = 0; there = omega arith; state = sym same; beside = is q r same e }
      | inr ne ↦ absurd (no q r ne e)
    ];
    named = λ i l. let z : i ≡ 0 = omega arith in rw z here;
    distinct = λ i j li lj e. omega arith;
  })
    where
      here : get_or (set (replicate s.states None) s.start (Some t.start)) s.start None ≡ Some t.start
      here = get_or-set_same (replicate s.states None) s.start (Some t.start) None (omega (arith, less, length-replicate {A = Option ℕ} s.states None))

      is : (q r : ℕ) → q ≡ s.start → get_or (set (replicate s.states None) s.start (Some t.start)) q None ≡ Some r → t.start ≡ r
      is q r same e = let both : Some t.start ≡ Some r = sym here ∙ (rw same at e) in cc

      no : (q r : ℕ) → q ≢ s.start → get_or (set (replicate s.states None) s.start (Some t.start)) q None ≡ Some r → ⊥
      no q r ne e = let both : None ≡ Some r = sym (none-at None s.states q) ∙ (sym (get_or-set_other (replicate s.states None) s.start q (Some t.start) None ne) ∙ e) in cc

  -- what was found are states
  pub found-below : (beside : List (Option ℕ)) (found : List Found) → IsSearch s t beside found → (i : ℕ) → i < length found → (found_at found i).state < s.states
  found-below beside found h i lt = let b = some-within beside (found_at found i).state (found_at found i).beside (h.named i lt) in omega (arith, b, h.as_many)

  pub beside-below : (beside : List (Option ℕ)) (found : List Found) → IsSearch s t beside found → (i : ℕ) → i < length found → (found_at found i).beside < t.states
  beside-below beside found h i lt = h.below (found_at found i).state (found_at found i).beside (h.named i lt)

-- the same of what is read and told
pub follows-at : (s t : Steps) (old new : Search) (at x : ℕ) (f : Found) (y r : ℕ) → LeadsToOne s t → IsSearch s t old.beside.items old.found.items → at < length old.found.items → x < s.symbols
    → f ≡ found_at old.found.items at → y ≡ s.next f.state x → r ≡ t.next f.beside x → y < s.states → r < t.states → Adds old new y r → Follows s t old new at x
follows-at s t old new at x f y r one h la lx ef ey er ly lr adds =
    let state : y ≡ s.next (found_at old.found.items at).state x = ey ∙ ap (λ (g : Found). s.next g.state x) ef in
    let beside : r ≡ t.next (found_at old.found.items at).beside x = er ∙ ap (λ (g : Found). t.next g.beside x) ef in
    follows-more s t old new at x one h la lx (subst (λ (n : ℕ). n < s.states) state ly) (subst (λ (n : ℕ). n < t.states) beside lr)
    (subst (λ (n : ℕ). Adds old new n (t.next (found_at old.found.items at).beside x)) state (subst (λ (n : ℕ). Adds old new y n) beside adds))
