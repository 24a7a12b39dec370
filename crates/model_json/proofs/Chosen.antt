-- Two lists side by side, one more place at a time, and what is chosen of them.
use Rattle.std.proofs.Common.{◌≡◌, ℕ, ◌+◌, ◌<◌, List, [], ◌∷◌, ◌++◌, Bool, true, false, cond, length, take, drop, get_or, count_by, map, refl, sym, ap, ap₂, ◌∙◌, arith, length-take, append-nil, drop-cons, true≢false, suc, Option, None, Some}
use Rattle.std.specs.Prelude.{All}
use Rattle.template_core.proofs.Traces.{count_by-cons}
use Rattle.template_core.specs.Events.{one_if}
use Rattle.std.proofs.lemmas.List.{take_more, length-drop}
use Rattle.std.proofs.lemmas.List.Elements.{filter-append, All-nil, All-cons, All-head, All-tail, All-filter, All-map}
use Rattle.std.specs.List.{filter, zip}
use Rattle.reduce_model.specs.declared.decision.Decision.{Decision}
use Rattle.scoring.specs.declared.scored.Scored.{Scored}
use Rattle.reduce_model.specs.Deciding.{is_kept}
use Rattle.reduce_model.specs.declared.decision.Decision.TheVariants.{Kept, Untested}
use Rattle.model_json.specs.Report.{is_tested, staying, with_witnesses}

zip-append : {X Y : Type 0} (xs us : List X) (ys vs : List Y) → length xs ≡ length ys → zip (xs ++ us) (ys ++ vs) ≡ zip xs ys ++ zip us vs
zip-append [] us [] vs h = refl
zip-append [] us (y ∷ ys) vs h = absurd (omega arith)
zip-append (x ∷ xs) us [] vs h = absurd (omega arith)
zip-append (x ∷ xs) us (y ∷ ys) vs h = ap (λ l. (x, y) ∷ l) (zip-append xs us ys vs (omega arith))

-- the pairs up to a place, and the one there
pub zip-more : {X Y : Type 0} (xs : List X) (ys : List Y) (i : ℕ) (x : X) (y e : Y) → length ys ≡ length xs → i < length xs → x ≡ get_or xs i x → y ≡ get_or ys i e
    → zip (take (i + 1) xs) (take (i + 1) ys) ≡ zip (take i xs) (take i ys) ++ (x, y) ∷ []
zip-more xs ys i x y e same h x_is y_is =
    let in_ys : i < length ys = omega arith in
    ap₂ zip (take_more xs i x h ∙ ap (λ z. take i xs ++ z ∷ []) (sym x_is)) (take_more ys i e in_ys ∙ ap (λ z. take i ys ++ z ∷ []) (sym y_is))
    ∙ zip-append (take i xs) (x ∷ []) (take i ys) (y ∷ []) (omega (arith, length-take i xs, length-take i ys))

module _ {X : Type 0} (p : X → Bool) (before after : List X) (q : X) (grown : after ≡ before ++ q ∷ []) where
  one_more : filter p after ≡ filter p before ++ cond (p q) (q ∷ []) []
  one_more = ap (filter p) grown ∙ filter-append p before (q ∷ [])

  pub filter-taken : p q ≡ true → filter p after ≡ filter p before ++ q ∷ []
  filter-taken passes = one_more ∙ ap (λ b. filter p before ++ cond b (q ∷ []) []) passes

  pub filter-left : p q ≡ false → filter p after ≡ filter p before
  filter-left fails = one_more ∙ ap (λ b. filter p before ++ cond b (q ∷ []) []) fails ∙ append-nil (filter p before)

pub All-zip : {X Y : Type 0} (P : X → Type 0) (xs : List X) (ys : List Y) → All P xs → All (λ q. P q.0) (zip xs ys)
All-zip {X} {Y} P [] ys h = All-nil (λ (q : X × Y). P q.0)
All-zip {X} {Y} P (x ∷ xs) [] h = All-nil (λ (q : X × Y). P q.0)
All-zip {X} {Y} P (x ∷ xs) (y ∷ ys) h = All-cons (λ (q : X × Y). P q.0) (x, y) (zip xs ys) (All-head P x xs h) (All-zip P xs ys (All-tail P x xs h))

-- what holds of all candidates holds of those that stay
pub All-staying : (P : Scored → Type 0) (list : List Scored) (decisions : List Decision) → All P list → All P (staying list decisions)
All-staying P list decisions h =
    let kept : Scored × Decision → Bool = λ q. is_kept q.1 in
    All-map P (λ (q : Scored × Decision). q.0) (filter kept (zip list decisions))
    (All-filter kept (λ q. P q.0) (zip list decisions) (All-zip P list decisions h))

-- ---- what stays, with its witnesses

module _ (s : Scored) (list : List Scored) (decisions : List Decision) where
  with-tested : (d : Decision) (witness : List ℕ) (witnesses : List (List ℕ)) → is_tested d ≡ true
      → with_witnesses (s ∷ list) (d ∷ decisions) (witness ∷ witnesses) ≡ (s, Some witness) ∷ with_witnesses list decisions witnesses
  with-tested Kept witness witnesses tested = refl
  with-tested d witness witnesses tested = absurd (true≢false (sym tested))

  with-untested : (d : Decision) (witnesses : List (List ℕ)) → is_tested d ≡ false → is_kept d ≡ true
      → with_witnesses (s ∷ list) (d ∷ decisions) witnesses ≡ (s, None) ∷ with_witnesses list decisions witnesses
  with-untested Untested witnesses tested stays = refl
  with-untested Kept witnesses tested stays = absurd (true≢false tested)
  with-untested d witnesses tested stays = absurd (true≢false (sym stays))

  with-dropped : (d : Decision) (witnesses : List (List ℕ)) → is_kept d ≡ false → with_witnesses (s ∷ list) (d ∷ decisions) witnesses ≡ with_witnesses list decisions witnesses
  with-dropped Kept witnesses out = absurd (true≢false out)
  with-dropped Untested witnesses out = absurd (true≢false out)
  with-dropped d witnesses out = refl

-- what is dropped has no witness
pub untested-dropped : (d : Decision) → is_kept d ≡ false → is_tested d ≡ false
untested-dropped Kept out = absurd (true≢false out)
untested-dropped d out = refl

-- what is to come from a place on, and that there are as many witnesses for it
abbrev pub rest_of : List Scored → List Decision → List (List ℕ) → ℕ → ℕ → List (Scored × Option (List ℕ))
rest_of list decisions witnesses i next = with_witnesses (drop i list) (drop i decisions) (drop next witnesses)

abbrev pub AreLeft : List Decision → List (List ℕ) → ℕ → ℕ → Type 0
AreLeft decisions witnesses i next = length (drop next witnesses) ≡ count_by is_tested (drop i decisions)

module _ (list : List Scored) (decisions : List Decision) (witnesses : List (List ℕ)) (i next : ℕ) (s : Scored) (d other : Decision)
    (many : length decisions ≡ length list) (inside : i < length list) (s_is : s ≡ get_or list i s) (d_is : d ≡ get_or decisions i other) (left : AreLeft decisions witnesses i next) where
  rest_list : drop i list ≡ s ∷ drop (i + 1) list
  rest_list = drop-cons list i s inside ∙ ap (λ x. x ∷ drop (suc i) list) (sym s_is) ∙ ap (λ n. s ∷ drop n list) {x = suc i} {y = i + 1} (omega arith)

  rest_decisions : drop i decisions ≡ d ∷ drop (i + 1) decisions
  rest_decisions = drop-cons decisions i other (omega (arith, many)) ∙ ap (λ x. x ∷ drop (suc i) decisions) (sym d_is) ∙ ap (λ n. d ∷ drop n decisions) {x = suc i} {y = i + 1} (omega arith)

  here : (ws : List (List ℕ)) → with_witnesses (drop i list) (drop i decisions) ws ≡ with_witnesses (s ∷ drop (i + 1) list) (d ∷ drop (i + 1) decisions) ws
  here ws = ap₂ (λ xs ds. with_witnesses xs ds ws) rest_list rest_decisions

  counted : length (drop next witnesses) ≡ count_by is_tested (d ∷ drop (i + 1) decisions)
  counted = left ∙ ap (count_by is_tested) rest_decisions

  pub some_left : is_tested d ≡ true → next < length witnesses
  some_left tested = omega (arith, counted, count_by-cons is_tested d (drop (i + 1) decisions), ap one_if tested, length-drop next witnesses)

  module _ (witness : List ℕ) (is : witness ≡ get_or witnesses next witness) (tested : is_tested d ≡ true) where
    rest_witnesses : drop next witnesses ≡ witness ∷ drop (next + 1) witnesses
    rest_witnesses = drop-cons witnesses next witness (some_left tested) ∙ ap (λ x. x ∷ drop (suc next) witnesses) (sym is) ∙ ap (λ n. witness ∷ drop n witnesses) {x = suc next} {y = next + 1} (omega arith)

    pub rest-tested : rest_of list decisions witnesses i next ≡ (s, Some witness) ∷ rest_of list decisions witnesses (i + 1) (next + 1)
    rest-tested =
        here (drop next witnesses) ∙ ap (with_witnesses (s ∷ drop (i + 1) list) (d ∷ drop (i + 1) decisions)) rest_witnesses
        ∙ with-tested s (drop (i + 1) list) (drop (i + 1) decisions) d witness (drop (next + 1) witnesses) tested

    pub left-tested : AreLeft decisions witnesses (i + 1) (next + 1)
    left-tested = omega (arith, counted, ap length rest_witnesses, count_by-cons is_tested d (drop (i + 1) decisions), ap one_if tested)

  module _ (untested : is_tested d ≡ false) where
    pub rest-untested : is_kept d ≡ true → rest_of list decisions witnesses i next ≡ (s, None) ∷ rest_of list decisions witnesses (i + 1) next
    rest-untested stays = here (drop next witnesses) ∙ with-untested s (drop (i + 1) list) (drop (i + 1) decisions) d (drop next witnesses) untested stays

    pub rest-dropped : is_kept d ≡ false → rest_of list decisions witnesses i next ≡ rest_of list decisions witnesses (i + 1) next
    rest-dropped out = here (drop next witnesses) ∙ with-dropped s (drop (i + 1) list) (drop (i + 1) decisions) d (drop next witnesses) out

    pub left-untested : AreLeft decisions witnesses (i + 1) next
    left-untested = omega (arith, counted, count_by-cons is_tested d (drop (i + 1) decisions), ap one_if untested)

pub All-unmap : {X Y : Type 0} (P : Y → Type 0) (f : X → Y) (xs : List X) → All P (map f xs) → All (λ x. P (f x)) xs
All-unmap P f [] all = All-nil (λ x. P (f x))
All-unmap P f (x ∷ xs) all = All-cons (λ x. P (f x)) x xs (All-head P (f x) (map f xs) all) (All-unmap P f xs (All-tail P (f x) (map f xs) all))

-- with their witnesses or without, the same constraints stay
pub stay-same : (list : List Scored) (decisions : List Decision) (witnesses : List (List ℕ)) → length witnesses ≡ count_by is_tested decisions
    → map (λ p. p.0.constraint) (with_witnesses list decisions witnesses) ≡ map (λ s. s.constraint) (staying list decisions)
stay-same [] [] witnesses many = refl
stay-same [] (d ∷ decisions) witnesses many = refl
stay-same (s ∷ list) [] witnesses many = refl
stay-same (s ∷ list) (Kept ∷ decisions) [] many = absurd (omega (arith, many, count_by-cons is_tested Kept decisions))
stay-same (s ∷ list) (Kept ∷ decisions) (w ∷ witnesses) many = ap (λ l. s.constraint ∷ l) (stay-same list decisions witnesses (omega (arith, many, count_by-cons is_tested Kept decisions)))
stay-same (s ∷ list) (Untested ∷ decisions) witnesses many = ap (λ l. s.constraint ∷ l) (stay-same list decisions witnesses (omega (arith, many, count_by-cons is_tested Untested decisions)))
stay-same (s ∷ list) (d ∷ decisions) witnesses many = stay-same list decisions witnesses (omega (arith, many, count_by-cons is_tested d decisions))
