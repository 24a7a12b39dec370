-- The links and the pairs that are read of a certificate.
use Rattle.std.proofs.Common.{◌≡◌, ℕ, zero, suc, ◌<◌, List, [], ◌∷◌, ◌&&◌, Bool, true, false, cond, eqb, map, length, get_or, codes, ap₂, refl, sym, ap, ◌∙◌, subst, Option, None, Some, option_and_then, option_map, arith}
use Rattle.std.specs.Prelude.{All, MatchOption, IfSome, IfNone, slice_get}
use Rattle.std.specs.List.{flat_map, list_all}
use Rattle.std.proofs.lemmas.Bool.{eq-eqb, ne_eqb}
use Rattle.std.proofs.lemmas.List.Folds.{list_all-map}
use Rattle.std.proofs.lemmas.List.Elements.{All-head, All-tail}
use Rattle.serde_json.specs.Data.{Data}
use Rattle.serde_json.specs.Find.{get}
use Rattle.chain_cert.specs.Forms.{FitLinks, IsAscending, IsChain, IsLink}
use Rattle.chain_cert.specs.Parts.{ChainParts, ClaimParts, LinkParts, chain_parts, link_parts}
use Rattle.model_json.specs.Model.{each, list_in}
use Rattle.model_json.specs.Certificate.{AreLinks, ArePairs, HasNoLinks, HasNoPairs, joined, link_in, list_of, list_under, mark_in, number_in, tuple_in}
use Rattle.model_json.proofs.ClaimForms.{and_then-some, map-some}
use Rattle.model_json.proofs.Elements.{each-length}

-- ---- one that is made exactly where what was read has its form

pub exactly : {X : Type 0} (o read : Option X) (P : X → Type 0) (parts : X) → read ≡ Some parts → IfSome o (λ x. x ≡ parts) → IfSome o P → IfNone o (P parts → ⊥)
    → MatchOption o ((x : X) → read ≡ Some x → P x → ⊥) (λ x. (read ≡ Some x) × P x)
exactly None read P parts is some form none = λ x e made. let same : x ≡ parts = cc in none (subst P same made)
exactly (Some x) read P parts is some form none = (is ∙ ap Some (sym some), form)

pub unread : {X : Type 0} (read : Option X) (P : X → Type 0) → read ≡ None → (x : X) → read ≡ Some x → P x → ⊥
unread read P none x is made = absurd (cc)

-- ---- all of them

-- what is read of all has its form at each place
each-at : {V A B : Type 0} (v : V → A) (f : A → Option B) (P : B → Type 0) (values : List V) (i : ℕ) (x : V) → i < length values → x ≡ get_or values i x → (ys : List B)
    → each f (map v values) ≡ Some ys → All P ys → (y : B) × (f (v x) ≡ Some y) × P y
each-at v f P [] i x inside is ys h all = absurd (omega (arith, inside))
each-at v f P (z ∷ values) zero x inside is ys h all =
    let first = and_then-some (f (v z)) (λ y. option_map (λ more. y ∷ more) (each f (map v values))) ys h in
    let rest = map-some (each f (map v values)) (λ more. first.0 ∷ more) ys first.2 in
    (first.0, ap (λ z. f (v z)) is ∙ first.1, All-head P first.0 rest.0 (subst (All P) (sym rest.2) all))
each-at v f P (z ∷ values) (suc i) x inside is ys h all =
    let first = and_then-some (f (v z)) (λ y. option_map (λ more. y ∷ more) (each f (map v values))) ys h in
    let rest = map-some (each f (map v values)) (λ more. first.0 ∷ more) ys first.2 in
    each-at v f P values i x (omega (arith, inside)) is rest.0 rest.1 (All-tail P first.0 rest.0 (subst (All P) (sym rest.2) all))

pub fails-at : {V A B : Type 0} (v : V → A) (f : A → Option B) (P : B → Type 0) (values : List V) (i : ℕ) (x : V) → i < length values → x ≡ get_or values i x
    → ((y : B) → f (v x) ≡ Some y → P y → ⊥) → (ys : List B) → each f (map v values) ≡ Some ys → All P ys → ⊥
fails-at v f P values i x inside is fails ys h all =
    let at = each-at v f P values i x inside is ys h all in
    fails at.0 at.1 at.2

-- a member's list is read element by element
pub under-is : {A : Type 0} (f : Data → Option A) (name : List ℕ) (value : Data) → list_under f name value ≡ option_and_then (each f) (option_and_then list_in (get name value))
under-is f name value =
    elim (get name value) as (λ o. option_and_then (list_of f) o ≡ option_and_then (each f) (option_and_then list_in o)) [
      | None ↦ refl
      | Some member ↦ refl
    ]

pub under-none : {A : Type 0} (f : Data → Option A) (name : List ℕ) (value : Data) → None ≡ option_and_then list_in (get name value) → list_under f name value ≡ None
under-none f name value none = under-is f name value ∙ ap (option_and_then (each f)) (sym none)

pub under-some : {A : Type 0} (f : Data → Option A) (name : List ℕ) (value : Data) (values : List Data) → Some values ≡ option_and_then list_in (get name value) → list_under f name value ≡ each f values
under-some f name value values some = under-is f name value ∙ ap (option_and_then (each f)) (sym some)

-- ---- one link

module _ (value : Data) where
  pub no-accepting : None ≡ list_under mark_in (codes "accepting") value → link_in value ≡ None
  no-accepting none = rw (← none) refl

  module _ (accepting : List Bool) (marks : Some accepting ≡ list_under mark_in (codes "accepting") value) where
    pub no-columns : None ≡ list_under number_in (codes "columns") value → link_in value ≡ None
    no-columns none = rw (← marks, ← none) refl

    module _ (columns : List ℕ) (numbers : Some columns ≡ list_under number_in (codes "columns") value) where
      pub no-next : None ≡ option_and_then (joined (length accepting)) (list_under (list_of number_in) (codes "next") value) → link_in value ≡ None
      no-next none = rw (← marks, ← numbers, ← none) refl

      module _ (next : List ℕ) (rows : Some next ≡ option_and_then (joined (length accepting)) (list_under (list_of number_in) (codes "next") value)) where
        pub no-pairs : None ≡ list_under (tuple_in 3) (codes "pairs") value → link_in value ≡ None
        no-pairs none = rw (← marks, ← numbers, ← rows, ← none) refl

        pub link-is : (pairs : List (List ℕ)) → Some pairs ≡ list_under (tuple_in 3) (codes "pairs") value → link_in value ≡ Some (link_parts accepting columns next pairs)
        link-is pairs triples = rw (← marks, ← numbers, ← rows, ← triples) refl

-- ---- the fifth part

module _ (certificate : Data) (claim : ClaimParts) where
  pub no-links : None ≡ option_and_then list_in (get (codes "chain") certificate) → HasNoLinks certificate claim
  no-links none = λ links are. unread (list_under link_in (codes "chain") certificate) (λ _. Unit {0}) (under-none link_in (codes "chain") certificate none) links are.read tt

  module _ (values : List Data) (listed : Some values ≡ option_and_then list_in (get (codes "chain") certificate)) where
    read_is : list_under link_in (codes "chain") certificate ≡ each link_in values
    read_is = under-some link_in (codes "chain") certificate values listed

    pub links-unread : ((links : List LinkParts) → each link_in values ≡ Some links → All IsLink links → ⊥) → HasNoLinks certificate claim
    links-unread fails = λ links are. fails links (sym read_is ∙ are.read) are.each_made

    pub links-unfit : (links : List LinkParts) → each link_in values ≡ Some links → (FitLinks claim links → ⊥) → HasNoLinks certificate claim
    links-unfit links is unfit = λ others are. let same : others ≡ links = same_links others links (sym are.read ∙ read_is ∙ is) in unfit (subst (FitLinks claim) same are.fit)
      where
        same_links : (others links : List LinkParts) → Some others ≡ Some links → others ≡ links
        same_links others links e = cc

    pub links-fit : (links : List LinkParts) → each link_in values ≡ Some links → All IsLink links → FitLinks claim links → AreLinks certificate claim links
    links-fit links is made fit = record { read = read_is ∙ is; each_made = made; fit = fit }

-- ---- the sixth part

module _ (certificate : Data) (claim : ClaimParts) (links : List LinkParts) where
  pub no-pairs-listed : None ≡ option_and_then list_in (get (codes "implied") certificate) → HasNoPairs certificate claim links
  no-pairs-listed none = λ implied are. unread (list_under (list_of (tuple_in 2)) (codes "implied") certificate) (λ _. Unit {0})
      (under-none (list_of (tuple_in 2)) (codes "implied") certificate none) implied are.read tt

  module _ (values : List Data) (listed : Some values ≡ option_and_then list_in (get (codes "implied") certificate)) where
    pairs_is : list_under (list_of (tuple_in 2)) (codes "implied") certificate ≡ each (list_of (tuple_in 2)) values
    pairs_is = under-some (list_of (tuple_in 2)) (codes "implied") certificate values listed

    pub pairs-unread : ((implied : List (List (List ℕ))) → each (list_of (tuple_in 2)) values ≡ Some implied → All IsAscending implied → ⊥) → HasNoPairs certificate claim links
    pairs-unread fails = λ implied are. fails implied (sym pairs_is ∙ are.read) are.each_made

    -- the chain that is made of them, or none
    pub chain-made : (chain : Option ChainParts) (implied : List (List (List ℕ))) → each (list_of (tuple_in 2)) values ≡ Some implied → All IsAscending implied
        → IfSome chain (λ chain. chain ≡ chain_parts links implied) → IfSome chain (IsChain claim) → IfNone chain (IsChain claim (chain_parts links implied) → ⊥)
        → MatchOption chain (HasNoPairs certificate claim links) (λ chain. (chain.links ≡ links) × ArePairs certificate claim links chain.implied)
    chain-made None implied is made some form none =
        λ others are. let same : others ≡ implied = same_pairs others implied (sym are.read ∙ pairs_is ∙ is) in none (subst (λ l. IsChain claim (chain_parts links l)) same are.fit)
      where
        same_pairs : (others implied : List (List (List ℕ))) → Some others ≡ Some implied → others ≡ implied
        same_pairs others implied e = cc
    chain-made (Some chain) implied is made some form none =
        let implied_is : implied ≡ chain.implied = ap (λ c. c.implied) (sym some) in (
          ap (λ c. c.links) some,
          record {
            read = pairs_is ∙ is ∙ ap Some implied_is;
            each_made = subst (All IsAscending) implied_is made;
            fit = subst (λ l. IsChain claim (chain_parts links l)) implied_is (subst (IsChain claim) some form);
          },
        )

-- ---- rows

pub one-width : {V : Type 0} (v : V → List ℕ) (rows : List V) (first : V) (result : Bool) → slice_get rows 0 ≡ Some first → result ≡ list_all (λ row. eqb (length (v row)) (length (v first))) rows
    → result ≡ list_all (λ row. eqb (length row) (length (get_or (map v rows) 0 []))) (map v rows)
one-width v [] first result is all = absurd (cc)
one-width v (x ∷ rows) first result is all =
    let same : x ≡ first = cc in
    all ∙ ap (λ y. list_all (λ row. eqb (length (v row)) (length (v y))) (x ∷ rows)) (sym same) ∙ sym (list_all-map (λ row. eqb (length row) (length (v x))) v (x ∷ rows))

pub no-rows : {V : Type 0} (v : V → List ℕ) (rows : List V) → None ≡ slice_get rows 0 → true ≡ list_all (λ row. eqb (length row) (length (get_or (map v rows) 0 []))) (map v rows)
no-rows v [] none = refl
no-rows v (x ∷ rows) none = absurd (cc)

-- rows that are joined, or not
pub rows-joined : (states : ℕ) (rows : List (List ℕ)) → length rows ≡ states → true ≡ list_all (λ row. eqb (length row) (length (get_or rows 0 []))) rows → joined states rows ≡ Some (flat_map (λ row. row) rows)
rows-joined states rows many one = ap₂ (λ a b. cond (a && b) (Some (flat_map (λ row. row) rows)) None) (eq-eqb (length rows) states many) (sym one)

pub rows-many : (states : ℕ) (rows : List (List ℕ)) → (length rows ≡ states → ⊥) → joined states rows ≡ None
rows-many states rows many = ap (λ a. cond (a && list_all (λ row. eqb (length row) (length (get_or rows 0 []))) rows) (Some (flat_map (λ row. row) rows)) None) (ne_eqb (length rows) states many)

pub rows-wide : (states : ℕ) (rows : List (List ℕ)) → false ≡ list_all (λ row. eqb (length row) (length (get_or rows 0 []))) rows → joined states rows ≡ None
rows-wide states rows wide = ap (λ b. cond (eqb (length rows) states && b) (Some (flat_map (λ row. row) rows)) None) (sym wide) ∙ go (eqb (length rows) states)
  where
    go : (a : Bool) → cond (a && false) (Some (flat_map (λ (row : List ℕ). row) rows)) None ≡ None
    go true = refl
    go false = refl

-- ---- tuples

module _ (count : ℕ) (value : Data) (elements : List Data) (listed : list_in value ≡ Some elements) where
  pub tuple-unread : each number_in elements ≡ None → tuple_in count value ≡ None
  tuple-unread none = ap (λ l. option_and_then (λ numbers. cond (eqb (length numbers) count) (Some numbers) None) (option_and_then (each number_in) l)) listed ∙ ap (option_and_then (λ numbers. cond (eqb (length numbers) count) (Some numbers) None)) none

  pub tuple-read : (numbers : List ℕ) → each number_in elements ≡ Some numbers → length numbers ≡ count → tuple_in count value ≡ Some numbers
  tuple-read numbers read many =
      ap (λ l. option_and_then (λ numbers. cond (eqb (length numbers) count) (Some numbers) None) (option_and_then (each number_in) l)) listed
      ∙ ap (option_and_then (λ numbers. cond (eqb (length numbers) count) (Some numbers) None)) read ∙ ap (λ b. cond b (Some numbers) None) (eq-eqb (length numbers) count many)

  pub tuple-none : (length elements ≡ count → ⊥) → None ≡ tuple_in count value
  tuple-none other = sym (go (each number_in elements) refl)
    where
      test : List ℕ → Option (List ℕ)
      test numbers = cond (eqb (length numbers) count) (Some numbers) None

      go : (o : Option (List ℕ)) → each number_in elements ≡ o → tuple_in count value ≡ None
      go None e = tuple-unread e
      go (Some numbers) e =
          ap (λ l. option_and_then test (option_and_then (each number_in) l)) listed ∙ ap (option_and_then test) e
          ∙ ap (λ b. cond b (Some numbers) None) (ne_eqb (length numbers) count (λ same. other (sym (each-length number_in elements numbers e) ∙ same)))
