-- The decisions of the reduction within a limit are determined.
use Rattle.std.proofs.Common.{◌≡◌, ◌⊎◌, ℕ, ◌<◌, inl, inr, List, [], ◌∷◌, ◌++◌, Bool, true, false, length, map, get_or, refl, sym, ap, ◌∙◌, subst, arith}
use Rattle.std.proofs.lemmas.List.{ext_get_or, get_or-map}
use Rattle.dfa_core.specs.Languages.{IsLeastMember}
use Rattle.template_core.specs.declared.constraint.Constraint.{Constraint}
use Rattle.reduce_model.proofs.Consequences.{least_unique, three-same}
use Rattle.reduce_model.proofs.Determined.{decision_same, same-mark, strongest_same, weaker_same}
use Rattle.reduce_model.proofs.MeaningWithin.{within-many}
use Rattle.reduce_model.proofs.Reduces.{consistent-pruning}
use Rattle.reduce_model.proofs.Writes.{map-map_same, view_same}
use Rattle.reduce_model.specs.Deciding.{as_sifted, is_consistent, is_kept, is_left, is_strongest, marked, those}
use Rattle.reduce_model.specs.Keeping.{KeepsAll}
use Rattle.reduce_model.specs.Reduction.{Breaks, Implies, Reduction}
use Rattle.reduce_model.specs.Sifting.{Sifting, kept_of}
use Rattle.reduce_model.specs.Within.{AreWitnessesWithin, IsClosed, IsFirstPassedWithin, IsReducedWithin, IsReductionWithin, IsSecondPassedWithin, IsSiftWithin, IsSiftedWithin, IsWideList, TellsUntested, has_witness}
use Rattle.reduce_model.specs.declared.decision.Decision.{Decision}
use Rattle.reduce_model.specs.declared.decision.Decision.TheVariants.{Kept, Conflict, Weaker, FirstPass, SecondPass, Beyond, Untested}

pub sifted_within_unique : (n s : ℕ) (kept xs : List Constraint) (ds es : List Decision) → IsSiftedWithin n s kept xs ds → IsSiftedWithin n s kept xs es → ds ≡ es
sifted_within_unique n s kept [] [] [] h g = refl
sifted_within_unique n s kept [] [] (e ∷ es) h g = absurd g
sifted_within_unique n s kept [] (d ∷ ds) es h g = absurd h
sifted_within_unique n s kept (x ∷ xs) [] es h g = absurd h
sifted_within_unique n s kept (x ∷ xs) (d ∷ ds) [] h g = absurd g
sifted_within_unique n s kept (x ∷ xs) (Kept ∷ ds) (Kept ∷ es) h g = ap (λ (l : List Decision). Kept ∷ l) (sifted_within_unique n s (kept ++ x ∷ []) xs ds es h.2 g.2)
sifted_within_unique n s kept (x ∷ xs) (Kept ∷ ds) (Conflict ∷ es) h g = absurd (g.0 h.0.by h.0.over h.0.keeps)
sifted_within_unique n s kept (x ∷ xs) (Kept ∷ ds) (Beyond ∷ es) h g = absurd (h.1 g.1)
sifted_within_unique n s kept (x ∷ xs) (Conflict ∷ ds) (Kept ∷ es) h g = absurd (h.0 g.0.by g.0.over g.0.keeps)
sifted_within_unique n s kept (x ∷ xs) (Conflict ∷ ds) (Conflict ∷ es) h g = ap (λ (l : List Decision). Conflict ∷ l) (sifted_within_unique n s kept xs ds es h.1 g.1)
sifted_within_unique n s kept (x ∷ xs) (Conflict ∷ ds) (Beyond ∷ es) h g = absurd (h.0 g.0.by g.0.over g.0.keeps)
sifted_within_unique n s kept (x ∷ xs) (Beyond ∷ ds) (Kept ∷ es) h g = absurd (g.1 h.1)
sifted_within_unique n s kept (x ∷ xs) (Beyond ∷ ds) (Conflict ∷ es) h g = absurd (g.0 h.0.by h.0.over h.0.keeps)
sifted_within_unique n s kept (x ∷ xs) (Beyond ∷ ds) (Beyond ∷ es) h g = ap (λ (l : List Decision). Beyond ∷ l) (sifted_within_unique n s kept xs ds es h.2 g.2)
sifted_within_unique n s kept (x ∷ xs) (Weaker by ∷ ds) (e ∷ es) h g = absurd h
sifted_within_unique n s kept (x ∷ xs) (FirstPass ∷ ds) (e ∷ es) h g = absurd h
sifted_within_unique n s kept (x ∷ xs) (SecondPass ∷ ds) (e ∷ es) h g = absurd h
sifted_within_unique n s kept (x ∷ xs) (Untested ∷ ds) (e ∷ es) h g = absurd h
sifted_within_unique n s kept (x ∷ xs) (d ∷ ds) (e ∷ es) h g = absurd g

-- ---- one mark after the other

-- what is said of a list by its first decision: where two lists of decisions have the one mark alike, they have the other alike
unique-by : (p q : Decision → Bool) (S : List Constraint → List Constraint → List Decision → Type 0)
    → ((start : List Constraint) (c : Constraint) (list : List Constraint) (d : Decision) (ds : List Decision) (e : Decision) (es : List Decision) → ((start_ : List Constraint) → S start_ list ds → S start_ list es → map q ds ≡ map q es) → p d ≡ p e
    → S start (c ∷ list) (d ∷ ds) → S start (c ∷ list) (e ∷ es) → map q (d ∷ ds) ≡ map q (e ∷ es))
    → (start list : List Constraint) (ds es : List Decision) → length ds ≡ length list → map p ds ≡ map p es → S start list ds → S start list es → map q ds ≡ map q es
unique-by p q S says start list [] [] many same h g = refl
unique-by p q S says start list [] (e ∷ es) many same h g = cc
unique-by p q S says start list (d ∷ ds) [] many same h g = cc
unique-by p q S says start [] (d ∷ ds) (e ∷ es) many same h g = absurd (omega (arith, many))
unique-by p q S says start (c ∷ list) (d ∷ ds) (e ∷ es) many same h g =
    let here : p d ≡ p e = cc in
    let rest : map p ds ≡ map p es = cc in
    says start c list d ds e es (λ start_ a b. unique-by p q S says start_ list ds es (omega (arith, many)) rest a b) here h g

-- ---- what a first decision says, by its marks

-- it has neither of two marks, or the first alone, or both
abbrev Says : (Decision → Bool) → (Decision → Bool) → Type 0 → Type 0 → Type 0 → Decision → Type 0
Says p q Out Dropped Stays d = ((p d ≡ false) × (q d ≡ false) × Out) ⊎ (((p d ≡ true) × (q d ≡ false) × Dropped) ⊎ ((p d ≡ true) × (q d ≡ true) × Stays))

-- where one that is dropped and one that stays can't both be
says-same : (p q : Decision → Bool) {O D T O_ D_ T_ : Type 0} (d : Decision) (ds : List Decision) (e : Decision) (es : List Decision) → p d ≡ p e → Says p q O D T d → Says p q O_ D_ T_ e
    → (O → O_ → map q ds ≡ map q es) → (D → D_ → map q ds ≡ map q es) → (T → T_ → map q ds ≡ map q es) → (D → T_ → ⊥) → (D_ → T → ⊥) → map q (d ∷ ds) ≡ map q (e ∷ es)
says-same p q d ds e es here (inl h) (inl g) o dropped stays not_ other = let ih = o h.2 g.2 in let a = h.1 in let b = g.1 in cc (ih, a, b)
says-same p q d ds e es here (inl h) (inr (inl g)) o dropped stays not_ other = let a = h.0 in let b = g.0 in absurd (cc (here, a, b))
says-same p q d ds e es here (inl h) (inr (inr g)) o dropped stays not_ other = let a = h.0 in let b = g.0 in absurd (cc (here, a, b))
says-same p q d ds e es here (inr (inl h)) (inl g) o dropped stays not_ other = let a = h.0 in let b = g.0 in absurd (cc (here, a, b))
says-same p q d ds e es here (inr (inr h)) (inl g) o dropped stays not_ other = let a = h.0 in let b = g.0 in absurd (cc (here, a, b))
says-same p q d ds e es here (inr (inl h)) (inr (inl g)) o dropped stays not_ other = let ih = dropped h.2 g.2 in let a = h.1 in let b = g.1 in cc (ih, a, b)
says-same p q d ds e es here (inr (inl h)) (inr (inr g)) o dropped stays not_ other = absurd (not_ h.2 g.2)
says-same p q d ds e es here (inr (inr h)) (inr (inl g)) o dropped stays not_ other = absurd (other g.2 h.2)
says-same p q d ds e es here (inr (inr h)) (inr (inr g)) o dropped stays not_ other = let ih = stays h.2 g.2 in let a = h.1 in let b = g.1 in cc (ih, a, b)

abbrev Joins : ℕ → ℕ → List Constraint → Constraint → List Constraint → List Decision → Type 0
Joins n s joined c list ds = (IsWideList n s (joined ++ c ∷ []) × IsFirstPassedWithin n s joined list ds) ⊎ ((IsWideList n s (joined ++ c ∷ []) → ⊥) × IsFirstPassedWithin n s (joined ++ c ∷ []) list ds)

abbrev FirstSays : ℕ → ℕ → List Constraint → Constraint → List Constraint → Decision → List Decision → Type 0
FirstSays n s joined c list d ds = Says is_strongest is_left (IsFirstPassedWithin n s joined list ds) (Implies n joined c × IsFirstPassedWithin n s joined list ds) ((Implies n joined c → ⊥) × Joins n s joined c list ds) d

first-says : (n s : ℕ) (joined : List Constraint) (c : Constraint) (list : List Constraint) (d : Decision) (ds : List Decision) → IsFirstPassedWithin n s joined (c ∷ list) (d ∷ ds) → FirstSays n s joined c list d ds
first-says n s joined c list Conflict ds h = inl (refl, refl, h)
first-says n s joined c list (Weaker by) ds h = inl (refl, refl, h)
first-says n s joined c list FirstPass ds h = inr (inl (refl, refl, h))
first-says n s joined c list Beyond ds h = inl (refl, refl, h)
first-says n s joined c list d ds h = inr (inr (refl, refl, h))

left-joins : (n s : ℕ) (joined : List Constraint) (c : Constraint) (list : List Constraint) (ds es : List Decision) → ((joined_ : List Constraint) → IsFirstPassedWithin n s joined_ list ds → IsFirstPassedWithin n s joined_ list es → map is_left ds ≡ map is_left es) → Joins n s joined c list ds → Joins n s joined c list es → map is_left ds ≡ map is_left es
left-joins n s joined c list ds es ih_ (inl h) (inl g) = ih_ joined h.1 g.1
left-joins n s joined c list ds es ih_ (inl h) (inr g) = absurd (g.0 h.0)
left-joins n s joined c list ds es ih_ (inr h) (inl g) = absurd (h.0 g.0)
left-joins n s joined c list ds es ih_ (inr h) (inr g) = ih_ (joined ++ c ∷ []) h.1 g.1

left_unique : (n s : ℕ) (joined list : List Constraint) (ds es : List Decision) → length ds ≡ length list → map is_strongest ds ≡ map is_strongest es → IsFirstPassedWithin n s joined list ds → IsFirstPassedWithin n s joined list es → map is_left ds ≡ map is_left es
left_unique n s = unique-by is_strongest is_left (IsFirstPassedWithin n s) (λ joined c list d ds e es ih here h g.
    says-same is_strongest is_left d ds e es here (first-says n s joined c list d ds h) (first-says n s joined c list e es g) (λ a b. ih joined a b) (λ a b. ih joined a.1 b.1) (λ a b. left-joins n s joined c list ds es ih a.1 b.1)
    (λ a b. b.0 a.0) (λ a b. b.0 a.0))

-- ---- the second pass

abbrev SecondSays : ℕ → ℕ → List Constraint → Constraint → List Constraint → Decision → List Decision → Type 0
SecondSays n s left c list d ds =
    Says is_left is_kept (IsSecondPassedWithin n s left list ds)
    ((IsClosed n s (left ++ those is_kept list ds) → ⊥) × Implies n (left ++ those is_kept list ds) c × IsSecondPassedWithin n s (left ++ c ∷ []) list ds)
    ((Implies n (left ++ those is_kept list ds) c → IsClosed n s (left ++ those is_kept list ds)) × IsSecondPassedWithin n s (left ++ c ∷ []) list ds) d

second-says : (n s : ℕ) (left : List Constraint) (c : Constraint) (list : List Constraint) (d : Decision) (ds : List Decision) → IsSecondPassedWithin n s left (c ∷ list) (d ∷ ds) → SecondSays n s left c list d ds
second-says n s left c list Kept ds h = inr (inr (refl, refl, h))
second-says n s left c list SecondPass ds h = inr (inl (refl, refl, h))
second-says n s left c list Untested ds h = inr (inr (refl, refl, h))
second-says n s left c list d ds h = inl (refl, refl, h)

-- a test that isn't closed and implies the constraint isn't another that is closed where it does
not-both : (n s : ℕ) (left : List Constraint) (c : Constraint) (list : List Constraint) (ds es : List Decision) → map is_kept ds ≡ map is_kept es
    → (IsClosed n s (left ++ those is_kept list ds) → ⊥) → Implies n (left ++ those is_kept list ds) c → (Implies n (left ++ those is_kept list es) c → IsClosed n s (left ++ those is_kept list es)) → ⊥
not-both n s left c list ds es ih open_ implies closed =
    let rest : those is_kept list ds ≡ those is_kept list es = ap (λ (v : List Bool). marked v list) ih in
    open_ (rw rest (closed (rw (← rest) implies)))

kept_unique : (n s : ℕ) (left list : List Constraint) (ds es : List Decision) → length ds ≡ length list → map is_left ds ≡ map is_left es → IsSecondPassedWithin n s left list ds → IsSecondPassedWithin n s left list es → map is_kept ds ≡ map is_kept es
kept_unique n s = unique-by is_left is_kept (IsSecondPassedWithin n s) (λ left c list d ds e es ih here h g.
    says-same is_left is_kept d ds e es here (second-says n s left c list d ds h) (second-says n s left c list e es g) (λ a b. ih left a b) (λ a b. ih (left ++ c ∷ []) a.2 b.2) (λ a b. ih (left ++ c ∷ []) a.1 b.1)
    (λ a b. not-both n s left c list ds es (ih (left ++ c ∷ []) a.2 b.1) a.0 a.1 b.0) (λ a b. not-both n s left c list es ds (sym (ih (left ++ c ∷ []) b.1 a.2)) a.0 a.1 b.0))

-- ---- the untested ones

abbrev UntestedSays : ℕ → ℕ → List Constraint → List Constraint → Constraint → List Constraint → Decision → List Decision → Type 0
UntestedSays n s left kept c list d ds =
    ((is_left d ≡ false) × (has_witness d ≡ false) × TellsUntested n s left kept list ds)
    ⊎ (((is_left d ≡ true) × (is_kept d ≡ false) × (has_witness d ≡ false) × TellsUntested n s (left ++ c ∷ []) kept list ds)
    ⊎ (((is_left d ≡ true) × (is_kept d ≡ true) × (has_witness d ≡ true) × (IsClosed n s (left ++ those is_kept list ds) → ⊥) × (IsClosed n s (kept ++ those is_kept list ds) → ⊥) × TellsUntested n s (left ++ c ∷ []) (kept ++ c ∷ []) list ds)
    ⊎ ((is_left d ≡ true) × (is_kept d ≡ true) × (has_witness d ≡ false) × (IsClosed n s (left ++ those is_kept list ds) ⊎ IsClosed n s (kept ++ those is_kept list ds)) × TellsUntested n s (left ++ c ∷ []) (kept ++ c ∷ []) list ds)))

untested-says : (n s : ℕ) (left kept : List Constraint) (c : Constraint) (list : List Constraint) (d : Decision) (ds : List Decision) → TellsUntested n s left kept (c ∷ list) (d ∷ ds) → UntestedSays n s left kept c list d ds
untested-says n s left kept c list Kept ds h = inr (inr (inl (refl, refl, refl, h.0, h.1, h.2)))
untested-says n s left kept c list SecondPass ds h = inr (inl (refl, refl, refl, h))
untested-says n s left kept c list Untested ds h = inr (inr (inr (refl, refl, refl, h.0, h.1)))
untested-says n s left kept c list d ds h = inl (refl, refl, h)

-- not both
closed-or : (n s : ℕ) (a b x y : List Constraint) → x ≡ a → y ≡ b → (IsClosed n s a → ⊥) → (IsClosed n s b → ⊥) → IsClosed n s x ⊎ IsClosed n s y → ⊥
closed-or n s a b x y e f h g (inl closed) = h (rw e at closed)
closed-or n s a b x y e f h g (inr closed) = g (rw f at closed)

untested-more : (n s : ℕ) (left kept : List Constraint) (c : Constraint) (list : List Constraint) (d : Decision) (ds : List Decision) (e : Decision) (es : List Decision) → ((left_ kept_ : List Constraint) → TellsUntested n s left_ kept_ list ds → TellsUntested n s left_ kept_ list es → map has_witness ds ≡ map has_witness es) → is_left d ≡ is_left e → is_kept d ≡ is_kept e → map is_kept ds ≡ map is_kept es → UntestedSays n s left kept c list d ds → UntestedSays n s left kept c list e es → map has_witness (d ∷ ds) ≡ map has_witness (e ∷ es)
untested-more n s left kept c list d ds e es ih_ here stay k (inl h) (inl g) = let ih = ih_ left kept h.2 g.2 in let a = h.1 in let b = g.1 in cc (ih, a, b)
untested-more n s left kept c list d ds e es ih_ here stay k (inl h) (inr (inl g)) = let a = h.0 in let b = g.0 in absurd (cc (here, a, b))
untested-more n s left kept c list d ds e es ih_ here stay k (inl h) (inr (inr (inl g))) = let a = h.0 in let b = g.0 in absurd (cc (here, a, b))
untested-more n s left kept c list d ds e es ih_ here stay k (inl h) (inr (inr (inr g))) = let a = h.0 in let b = g.0 in absurd (cc (here, a, b))
untested-more n s left kept c list d ds e es ih_ here stay k (inr (inl h)) (inl g) = let a = h.0 in let b = g.0 in absurd (cc (here, a, b))
untested-more n s left kept c list d ds e es ih_ here stay k (inr (inr (inl h))) (inl g) = let a = h.0 in let b = g.0 in absurd (cc (here, a, b))
untested-more n s left kept c list d ds e es ih_ here stay k (inr (inr (inr h))) (inl g) = let a = h.0 in let b = g.0 in absurd (cc (here, a, b))
untested-more n s left kept c list d ds e es ih_ here stay k (inr (inl h)) (inr (inl g)) = let ih = ih_ (left ++ c ∷ []) kept h.3 g.3 in let a = h.2 in let b = g.2 in cc (ih, a, b)
untested-more n s left kept c list d ds e es ih_ here stay k (inr (inl h)) (inr (inr (inl g))) = let a = h.1 in let b = g.1 in absurd (cc (stay, a, b))
untested-more n s left kept c list d ds e es ih_ here stay k (inr (inl h)) (inr (inr (inr g))) = let a = h.1 in let b = g.1 in absurd (cc (stay, a, b))
untested-more n s left kept c list d ds e es ih_ here stay k (inr (inr (inl h))) (inr (inl g)) = let a = h.1 in let b = g.1 in absurd (cc (stay, a, b))
untested-more n s left kept c list d ds e es ih_ here stay k (inr (inr (inr h))) (inr (inl g)) = let a = h.1 in let b = g.1 in absurd (cc (stay, a, b))
untested-more n s left kept c list d ds e es ih_ here stay k (inr (inr (inl h))) (inr (inr (inl g))) =
    let ih = ih_ (left ++ c ∷ []) (kept ++ c ∷ []) h.5 g.5 in let a = h.2 in let b = g.2 in cc (ih, a, b)
untested-more n s left kept c list d ds e es ih_ here stay k (inr (inr (inr h))) (inr (inr (inr g))) =
    let ih = ih_ (left ++ c ∷ []) (kept ++ c ∷ []) h.4 g.4 in let a = h.2 in let b = g.2 in cc (ih, a, b)
untested-more n s left kept c list d ds e es ih_ here stay k (inr (inr (inl h))) (inr (inr (inr g))) =
    let rest : those is_kept list es ≡ those is_kept list ds = ap (λ (v : List Bool). marked v list) (sym k) in
    absurd (closed-or n s (left ++ those is_kept list ds) (kept ++ those is_kept list ds) (left ++ those is_kept list es) (kept ++ those is_kept list es) (ap (λ (l : List Constraint). left ++ l) rest) (ap (λ (l : List Constraint). kept ++ l) rest) h.3 h.4 g.3)
untested-more n s left kept c list d ds e es ih_ here stay k (inr (inr (inr h))) (inr (inr (inl g))) =
    let rest : those is_kept list ds ≡ those is_kept list es = ap (λ (v : List Bool). marked v list) k in
    absurd (closed-or n s (left ++ those is_kept list es) (kept ++ those is_kept list es) (left ++ those is_kept list ds) (kept ++ those is_kept list ds) (ap (λ (l : List Constraint). left ++ l) rest) (ap (λ (l : List Constraint). kept ++ l) rest) g.3 g.4 h.3)

untested_unique : (n s : ℕ) (left kept list : List Constraint) (ds es : List Decision) → length ds ≡ length list → map is_left ds ≡ map is_left es → map is_kept ds ≡ map is_kept es → TellsUntested n s left kept list ds → TellsUntested n s left kept list es
    → map has_witness ds ≡ map has_witness es
untested_unique n s left kept [] [] [] many l k h g = refl
untested_unique n s left kept list [] (e ∷ es) many l k h g = cc
untested_unique n s left kept list (d ∷ ds) [] many l k h g = cc
untested_unique n s left kept (c ∷ list) [] [] many l k h g = refl
untested_unique n s left kept [] (d ∷ ds) (e ∷ es) many l k h g = absurd (omega (arith, many))
untested_unique n s left kept (c ∷ list) (d ∷ ds) (e ∷ es) many l k h g =
    let here : is_left d ≡ is_left e = cc in
    let here_kept : is_kept d ≡ is_kept e = cc in
    let left_ : map is_left ds ≡ map is_left es = cc in
    let kept_ : map is_kept ds ≡ map is_kept es = cc in
    untested-more n s left kept c list d ds e es (λ l k a b. untested_unique n s l k list ds es (omega (arith, many)) left_ kept_ a b) here here_kept kept_ (untested-says n s left kept c list d ds h) (untested-says n s left kept c list e es g)

-- ---- all

untested-witness : (d e : Decision) → is_kept d ≡ is_kept e → has_witness d ≡ has_witness e → d ≡ Untested → e ≡ Untested
untested-witness Untested Untested k h u = refl
untested-witness d e k h u = cc

pub reduced_within_unique : (n s : ℕ) (list : List Constraint) (ds es : List Decision) → IsReducedWithin n s list ds → IsReducedWithin n s list es → ds ≡ es
reduced_within_unique n s list ds es hd he =
    let sifted = sifted_within_unique n s [] list (map as_sifted ds) (map as_sifted es) hd.sifted he.sifted in
    let md = within-many n s [] list ds hd.sifted in
    let me = within-many n s [] list es he.sifted in
    let consistent : map is_consistent ds ≡ map is_consistent es =
    view_same as_sifted is_consistent ds (map as_sifted es) consistent-pruning sifted ∙ map-map_same as_sifted is_consistent es consistent-pruning in
    let strongest = strongest_same list ds es md me consistent hd.weaker he.weaker in
    let left = left_unique n s [] list ds es md strongest hd.first_pass he.first_pass in
    let kept = kept_unique n s [] list ds es md left hd.second_pass he.second_pass in
    let witness = untested_unique n s [] [] list ds es md left kept hd.untested he.untested in
    ext_get_or Kept ds es (md ∙ sym me) (λ place lt.
    let in_list : place < length list = omega (arith, md, lt) in
    let le : place < length es = omega (arith, me, in_list) in
    let d = get_or ds place Kept in
    let e = get_or es place Kept in
    let same_sifted : as_sifted d ≡ as_sifted e = sym (get_or-map as_sifted ds place Kept Kept lt) ∙ (ap (λ (l : List Decision). get_or l place Kept) sifted ∙ get_or-map as_sifted es place Kept Kept le) in
    let same_left = same-mark is_left ds es place lt le left in
    let same_kept = same-mark is_kept ds es place lt le kept in
    let same_witness = same-mark has_witness ds es place lt le witness in
    decision_same d e same_sifted (weaker_same list ds es md me consistent hd.weaker he.weaker place in_list) (weaker_same list es ds me md (sym consistent) he.weaker hd.weaker place in_list) same_left same_kept
    (untested-witness d e same_kept same_witness) (untested-witness e d (sym same_kept) (sym same_witness)))

witnesses_within_unique : (n : ℕ) (kept list : List Constraint) (ds : List Decision) (ws vs : List (List ℕ)) → AreWitnessesWithin n kept list ds ws → AreWitnessesWithin n kept list ds vs → ws ≡ vs
witnesses_within_unique n kept [] ds [] [] h g = refl
witnesses_within_unique n kept [] ds (w ∷ ws) vs h g = absurd h
witnesses_within_unique n kept [] ds [] (v ∷ vs) h g = absurd g
witnesses_within_unique n kept (c ∷ list) [] ws vs h g = absurd h
witnesses_within_unique n kept (c ∷ list) (Kept ∷ ds) [] vs h g = absurd h
witnesses_within_unique n kept (c ∷ list) (Kept ∷ ds) (w ∷ ws) [] h g = absurd g
witnesses_within_unique n kept (c ∷ list) (Kept ∷ ds) (w ∷ ws) (v ∷ vs) h g =
    let here = least_unique n (Breaks (kept ++ those is_kept list ds) c) w v h.0 g.0 in let more = witnesses_within_unique n (kept ++ c ∷ []) list ds ws vs h.1 g.1 in cc (here, more)
witnesses_within_unique n kept (c ∷ list) (Untested ∷ ds) ws vs h g = witnesses_within_unique n (kept ++ c ∷ []) list ds ws vs h g
witnesses_within_unique n kept (c ∷ list) (d ∷ ds) ws vs h g = witnesses_within_unique n kept list ds ws vs h g

pub reduction_within_unique : (n s : ℕ) (list : List Constraint) (a b : Reduction) → IsReductionWithin n s list a → IsReductionWithin n s list b → a ≡ b
reduction_within_unique n s list a b h g =
    let decisions = reduced_within_unique n s list a.decisions b.decisions h.reduced g.reduced in
    let ws : AreWitnessesWithin n [] list b.decisions a.witnesses = subst (λ (ds : List Decision). AreWitnessesWithin n [] list ds a.witnesses) decisions h.witnesses in
    let witnesses = witnesses_within_unique n [] list b.decisions a.witnesses b.witnesses ws g.witnesses in
    let t : IsLeastMember n (KeepsAll (those is_kept list b.decisions)) a.example = subst (λ (ds : List Decision). IsLeastMember n (KeepsAll (those is_kept list ds)) a.example) decisions h.example in
    let example = least_unique n (KeepsAll (those is_kept list b.decisions)) a.example b.example t g.example in
    three-same a b decisions witnesses example

two : List Decision → List ℕ → Sifting
two ds t = record {
  decisions = ds;
  example = t;
}

pub sift_within_unique : (n s : ℕ) (list : List Constraint) (a b : Sifting) → IsSiftWithin n s list a → IsSiftWithin n s list b → a ≡ b
unfolding two
sift_within_unique n s list a b h g =
    let decisions = sifted_within_unique n s [] list a.decisions b.decisions h.sifted g.sifted in
    let t : IsLeastMember n (KeepsAll (kept_of list b.decisions)) a.example = subst (λ (ds : List Decision). IsLeastMember n (KeepsAll (kept_of list ds)) a.example) decisions h.example in
    let example = least_unique n (KeepsAll (kept_of list b.decisions)) a.example b.example t g.example in
    ap (λ (ds : List Decision). two ds a.example) decisions ∙ ap (two b.decisions) example
