-- The least traces to the states that a search found.
use Rattle.std.proofs.Common.{◌≡◌, ◌⊎◌, inl, inr, ℕ, zero, suc, ◌+◌, ◌*◌, ◌/◌, ◌%◌, ◌<◌, ◌≤◌, List, [], ◌∷◌, ◌++◌, true, false, reverse, length, get_or, refl, sym, ap, ◌∙◌, arith, append_assoc}
use Rattle.std.proofs.lemmas.List.{append-nil, reverse-append}
use Rattle.std.proofs.lemmas.Nat.{div_below, div-add-mod', mul-add-lt}
use Rattle.std.proofs.lemmas.Bool.{cases_eq, cases_lt}
use Rattle.std.proofs.Math.Nat.{mul-le-mul_right, mul_comm, mod-lt}
use Rattle.dfa_core.specs.Steps.{Steps, Accepts, accepts, run}
use Rattle.dfa_core.specs.Languages.{HasNoMember, IsLeastMember}
use Rattle.dfa_core.specs.Searching.{IsSearch, path}
use Rattle.dfa_core.specs.Shortlex.{IsBefore, IsAtMost}
use Rattle.dfa_core.specs.Traces.{IsTrace}
use Rattle.dfa_core.proofs.Runs.{run-append}
use Rattle.dfa_core.proofs.Shortlex.{before-append, before-last, before-nil, at_most_trans, at_most-append, at_most-longer, not_before}

trace-push : (n : ℕ) (w : List ℕ) (x : ℕ) → IsTrace n w → x < n → IsTrace n (w ++ x ∷ [])
trace-push n [] x h lt = (lt, tt)
trace-push n (y ∷ w) x h lt = (h.0, trace-push n w x h.1 lt)

-- Numbers that were found at places in earlier rows.
abbrev pub IsEarlier : ℕ → List ℕ → ℕ → Type 0
IsEarlier s found n = (t : ℕ) → 0 < t → t < n → get_or found t 0 < t * s

some_symbols : (s : ℕ) (found : List ℕ) (n : ℕ) → IsEarlier s found n → (t : ℕ) → 0 < t → t < n → 0 < s
some_symbols s found n h t p l = elim (cases_eq s 0) [
  | inl z ↦ let b : get_or found t 0 < t * 0 = rw z at (h t p l) in absurd (omega (arith, b))
  | inr ne ↦ omega arith
]

pub parent_earlier : (s : ℕ) (found : List ℕ) (n : ℕ) → IsEarlier s found n → (t : ℕ) → 0 < t → t < n → get_or found t 0 / s < t
parent_earlier s found n h t p l = div_below (get_or found t 0) s t (some_symbols s found n h t p l) (h t p l)

path-fuel : (s : ℕ) (found : List ℕ) (b : ℕ) → IsEarlier s found b → (n m t : ℕ) → t ≤ n → t ≤ m → t < b → path s found n t ≡ path s found m t
path-fuel s found b h zero zero t hn hm l = refl
path-fuel s found b h zero (suc m) zero hn hm l = refl
path-fuel s found b h zero (suc m) (suc t) hn hm l = absurd (omega arith)
path-fuel s found b h (suc n) zero zero hn hm l = refl
path-fuel s found b h (suc n) zero (suc t) hn hm l = absurd (omega arith)
path-fuel s found b h (suc n) (suc m) zero hn hm l = refl
path-fuel s found b h (suc n) (suc m) (suc t) hn hm l =
    let p = parent_earlier s found b h (suc t) (omega arith) l in
    ap (λ (w : List ℕ). w ++ (get_or found (suc t) 0 % s) ∷ []) (path-fuel s found b h n m (get_or found (suc t) 0 / s) (omega arith) (omega arith) (omega arith))

pub path-found : (s : ℕ) (found : List ℕ) (n : ℕ) → IsEarlier s found n → (t : ℕ) → 0 < t → t < n
    → path s found t t ≡ path s found (get_or found t 0 / s) (get_or found t 0 / s) ++ (get_or found t 0 % s) ∷ []
path-found s found n h zero p l = absurd (omega arith)
path-found s found n h (suc t) p l =
    let b = parent_earlier s found n h (suc t) p l in
    ap (λ (w : List ℕ). w ++ (get_or found (suc t) 0 % s) ∷ []) (path-fuel s found n h t (get_or found (suc t) 0 / s) (get_or found (suc t) 0 / s) (omega arith) (omega arith) (omega arith))

-- a loop that goes back along the path
pub path_more : (s : ℕ) (found : List ℕ) (n t : ℕ) (whole rest : List ℕ) → IsEarlier s found n → 0 < t → t < n → whole ≡ path s found t t ++ reverse rest
    → whole ≡ path s found (get_or found t 0 / s) (get_or found t 0 / s) ++ reverse (rest ++ (get_or found t 0 % s) ∷ [])
path_more s found n t whole rest h p l e =
    e ∙ (rw (path-found s found n h t p l, reverse-append rest ((get_or found t 0 % s) ∷ [])) (append_assoc (path s found (get_or found t 0 / s) (get_or found t 0 / s)) ((get_or found t 0 % s) ∷ []) (reverse rest)))

-- a trace, from where another leads, that leads to a number, and the path to that is at most both
pub record IsMet (a : Steps) (states found : List ℕ) (q : ℕ) (u w : List ℕ) : Type 0 where
  pub number : ℕ
  pub bound : number < length states
  pub is : run a q w ≡ get_or states number 0
  pub least : IsAtMost (path a.symbols found number number) (u ++ w)

-- a trace that takes a step that wasn't followed: all that was found stands before it
pub record IsBehind (a : Steps) (states found : List ℕ) (done : ℕ) (w : List ℕ) : Type 0 where
  pub more : done < length states * a.symbols
  pub after : (t : ℕ) → t < length states → IsAtMost (path a.symbols found t t) w

module _ (a : Steps) (states found : List ℕ) (done : ℕ) (h : IsSearch a states found done) where
  -- the step by which a number was found
  abbrev parent : ℕ → ℕ
  parent t = get_or found t 0 / a.symbols

  abbrev symbol : ℕ → ℕ
  symbol t = get_or found t 0 % a.symbols

  place : (t : ℕ) → parent t * a.symbols + symbol t ≡ get_or found t 0
  place t = div-add-mod' (get_or found t 0) a.symbols

  earlier : (t : ℕ) → 0 < t → t < length states → parent t < t
  earlier t p l = parent_earlier a.symbols found (length states) h.found_earlier t p l

  symbol_below : (t : ℕ) → 0 < t → t < length states → symbol t < a.symbols
  symbol_below t p l = mod-lt (get_or found t 0) (some_symbols a.symbols found (length states) h.found_earlier t p l)

  -- places in the order of their rows, and in a row of their symbols
  rows_in_order : (p x q y : ℕ) → x < a.symbols → y < a.symbols → p * a.symbols + x ≤ q * a.symbols + y → (p < q) ⊎ ((p ≡ q) × (x ≤ y))
  rows_in_order p x q y lx ly le = elim (cases_lt p q) [
    | inl lt ↦ inl lt
    | inr ge ↦ elim (cases_eq p q) [
      | inl same ↦ let le2 : q * a.symbols + x ≤ q * a.symbols + y = rw same at le in inr (same, omega arith)
      | inr ne ↦ let more : suc q * a.symbols ≤ p * a.symbols = mul-le-mul_right a.symbols (omega arith) in absurd (omega arith)
    ]
  ]

  unfoldable pub to : ℕ → List ℕ
  to t = path a.symbols found t t

  to-zero : to 0 ≡ []
  unfolding to
  to-zero = refl

  to-found : (t : ℕ) → 0 < t → t < length states → to t ≡ to (parent t) ++ symbol t ∷ []
  unfolding to
  to-found t p l = path-found a.symbols found (length states) h.found_earlier t p l

  pub to-over : (n t : ℕ) → t ≤ n → t < length states → IsTrace a.symbols (to t)
  to-over n zero hn l = rw to-zero tt
  to-over zero (suc t) hn l = absurd (omega arith)
  to-over (suc n) (suc t) hn l =
      let b = earlier (suc t) (omega arith) l in
      rw (to-found (suc t) (omega arith) l) (trace-push a.symbols (to (parent (suc t))) (symbol (suc t)) (to-over n (parent (suc t)) (omega arith) (omega arith)) (symbol_below (suc t) (omega arith) l))

  -- the path to a number leads to its state
  pub to-state : (n t : ℕ) → t ≤ n → t < length states → run a a.start (to t) ≡ get_or states t 0
  to-state n zero hn l = rw to-zero (sym h.first)
  to-state zero (suc t) hn l = absurd (omega arith)
  to-state (suc n) (suc t) hn l =
      let b = earlier (suc t) (omega arith) l in
      rw (to-found (suc t) (omega arith) l)
      (run-append a a.start (to (parent (suc t))) (symbol (suc t) ∷ [])
      ∙ (ap (λ q. a.next q (symbol (suc t))) (to-state n (parent (suc t)) (omega arith) (omega arith)) ∙ h.found_there (suc t) (omega arith) l))

  pub to-in_order : (n q r : ℕ) → r ≤ n → q < r → r < length states → IsBefore (to q) (to r)
  to-in_order zero q r hn lt l = absurd (omega arith)
  to-in_order (suc n) zero r hn lt l = rw (to-zero, to-found r lt l) (before-nil (to (parent r)) (symbol r))
  to-in_order (suc n) (suc q) r hn lt l = go (rows_in_order (parent (suc q)) (symbol (suc q)) (parent r) (symbol r) (symbol_below (suc q) pq lq) (symbol_below r pr l) below) (to-in_order n (parent (suc q)) (parent r) (omega (arith, br)))
    where
      pq : 0 < suc q
      pq = omega arith

      lq : suc q < length states
      lq = omega arith

      pr : 0 < r
      pr = omega arith

      br : parent r < r
      br = earlier r pr l

      before : get_or found (suc q) 0 < get_or found r 0
      before = h.found_in_order (suc q) r pq lt l

      below : parent (suc q) * a.symbols + symbol (suc q) ≤ parent r * a.symbols + symbol r
      below = omega (arith, before, place (suc q), place r)

      go : (parent (suc q) < parent r) ⊎ ((parent (suc q) ≡ parent r) × (symbol (suc q) ≤ symbol r)) → (parent (suc q) < parent r → parent r < length states → IsBefore (to (parent (suc q))) (to (parent r))) → IsBefore (to (suc q)) (to r)
      go (inl less) ih = rw (to-found (suc q) pq lq, to-found r pr l) (before-append (to (parent (suc q))) (to (parent r)) (symbol (suc q)) (symbol r) (ih less (omega (arith, br))))
      go (inr p) ih =
          let less : parent (suc q) * a.symbols + symbol (suc q) < parent r * a.symbols + symbol r = omega (arith, before, place (suc q), place r) in
          let less2 : parent r * a.symbols + symbol (suc q) < parent r * a.symbols + symbol r = rw p.0 at less in
          let strict : symbol (suc q) < symbol r = omega arith in
          rw (to-found (suc q) pq lq, to-found r pr l, p.0) (before-last (to (parent r)) (symbol (suc q)) (symbol r) strict)

  -- a number that was found by a step or at an earlier place
  to-step : (t q x : ℕ) (u : List ℕ) → t < length states → q < length states → x < a.symbols → (0 < t → get_or found t 0 ≤ q * a.symbols + x) → IsAtMost (to q) u → IsAtMost (to t) (u ++ x ∷ [])
  to-step zero q x u l lq lx early le = rw to-zero (inr (before-nil u x))
  to-step (suc n) q x u l lq lx early le =
      let t : ℕ = suc n in
      let p : 0 < t = omega arith in
      let below : parent t * a.symbols + symbol t ≤ q * a.symbols + x = omega (arith, early p, place t) in
      let rest : IsAtMost (to q ++ x ∷ []) (u ++ x ∷ []) = at_most-append (to q) u x le in
      rw (to-found t p l) (at_most_trans (to (parent t) ++ symbol t ∷ []) (to q ++ x ∷ []) (u ++ x ∷ [])
      (elim (rows_in_order (parent t) (symbol t) q x (symbol_below t p l) lx below) [
        | inl less ↦ inr (before-append (to (parent t)) (to q) (symbol t) x (to-in_order q (parent t) q (omega arith) less lq))
        | inr r ↦ rw r.0 (elim (cases_eq (symbol t) x) [
          | inl same ↦ inl (ap (λ (y : ℕ). to q ++ y ∷ []) same)
          | inr ne ↦ inr (before-last (to q) (symbol t) x (omega (arith, r.1)))
        ])
      ])
      rest)

  met_or_behind : (t : ℕ) (u w : List ℕ) → t < length states → IsTrace a.symbols w → IsAtMost (to t) u
      → IsMet a states found (get_or states t 0) u w ⊎ IsBehind a states found done (u ++ w)
  unfolding to
  met_or_behind t u [] l tw le = inl (record { number = t; bound = l; is = refl; least = rw (append-nil u) le })
  met_or_behind t u (x ∷ w) l tw le = elim (cases_lt (t * a.symbols + x) done) [
    | inl less ↦
        let f = h.followed t x l tw.0 less in
        elim (met_or_behind f.number (u ++ x ∷ []) w f.bound tw.1 (to-step f.number t x u f.bound l tw.0 f.by le)) [
          | inl m ↦ inl (record { number = m.number; bound = m.bound; is = ap (λ q. run a q w) (sym f.is) ∙ m.is; least = rw (append_assoc u (x ∷ []) w) at m.least })
          | inr b ↦ inr (record { more = b.more; after = λ s ls. rw (append_assoc u (x ∷ []) w) at (b.after s ls) })
        ]
    | inr all ↦ inr (record {
      more = let b = mul-add-lt t a.symbols x (length states) l tw.0 in let c = mul_comm a.symbols (length states) in omega arith;
      after = λ s ls.
          let early : 0 < s → get_or found s 0 ≤ t * a.symbols + x = λ p. let b = h.found_before s p ls in omega arith in
          rw (append_assoc u (x ∷ []) w) at (at_most-longer (to s) (u ++ x ∷ []) w (to-step s t x u ls l tw.0 early le));
    })
  ]

  pub from_start : (w : List ℕ) → IsTrace a.symbols w → IsMet a states found a.start [] w ⊎ IsBehind a states found done w
  unfolding to
  from_start w tw = rw h.first at (met_or_behind 0 [] w h.some tw (inl to-zero))

  -- the first number whose state is accepting
  pub first-found : (t : ℕ) → t < length states → a.accepting (get_or states t 0) ≡ true → ((k : ℕ) → k < t → a.accepting (get_or states k 0) ≡ false) → IsLeastMember a.symbols (Accepts a) (to t)
  unfolding to
  first-found t l ok before = record {
    over = to-over t t (omega arith) l;
    member = ap a.accepting (to-state t t (omega arith) l) ∙ ok;
    none_before = λ w tw is before_it. elim (from_start w tw) [
      | inl m ↦
          let is2 : a.accepting (get_or states m.number 0) ≡ true = ap a.accepting (sym m.is) ∙ is in
          not_before (to t) w (at_most_trans (to t) (to m.number) w
          (elim (cases_lt t m.number) [
            | inl less ↦ inr (to-in_order m.number t m.number (omega arith) less m.bound)
            | inr ge ↦ elim (cases_eq t m.number) [
              | inl same ↦ inl (ap to same)
              | inr ne ↦ let no = before m.number (omega arith) in absurd (cc (no, is2))
            ]
          ])
          m.least)
          before_it
      | inr b ↦ not_before (to t) w (b.after t l) before_it
    ];
  }

  pub none-found : done ≡ length states * a.symbols → ((k : ℕ) → k < length states → a.accepting (get_or states k 0) ≡ false) → HasNoMember a.symbols (Accepts a)
  none-found all none w tw is = elim (from_start w tw) [
    | inl m ↦ let no : accepts a w ≡ false = ap a.accepting m.is ∙ none m.number m.bound in absurd (cc (no, is))
    | inr b ↦ let more = b.more in absurd (omega arith)
  ]
