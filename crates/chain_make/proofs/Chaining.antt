-- Links one after the other, and the whole chain.
use Rattle.std.proofs.Common.{◌≡◌, inl, inr, ℕ, zero, suc, ◌+◌, ◌<◌, ◌≤◌, List, [], ◌∷◌, ◌++◌, length, take, get_or, refl, sym, ap, ◌∙◌, arith, subst}
use Rattle.std.proofs.lemmas.List.{get_or_append_left, get_or_push, length_push, take_all, take_more}
use Rattle.dfa_core.specs.Automaton.{Automaton, IsEverything}
use Rattle.dfa_core.specs.Languages.{IsLeastMember}
use Rattle.dfa_core.proofs.Places.{pushed}
use Rattle.template_core.specs.Keeping.{KeepsAll}
use Rattle.template_core.specs.declared.constraint.Constraint.{Constraint}
use Rattle.list_dfa.proofs.Keeping.{keeps-append, push-keeps}
use Rattle.reduce_model.specs.Deciding.{is_kept, those}
use Rattle.reduce_model.specs.Reduction.{AreWitnesses, Reduction}
use Rattle.chain_cert.specs.Checks.{IsDecided, IsRelated, IsRight}
use Rattle.chain_cert.specs.Forms.{FitsLink, IsChain}
use Rattle.chain_cert.specs.Links.{before, last, link_at, whole}
use Rattle.chain_cert.specs.Parts.{LinkParts, chain_parts, constraint_at, dropped_at, list_at, no_constraint, no_dropped}
use Rattle.chain_cert.specs.declared.claim.Dropped.{Dropped}
use Rattle.chain_make.specs.Claims.{claim_of, left_out}
use Rattle.chain_make.specs.Copies.{Copies}
use Rattle.chain_make.specs.Chains.{AreImplied, AreLinks, ArePairs, IsNext}
use Rattle.chain_make.proofs.Claiming.{keeps-at, witness-is}
use Rattle.chain_make.proofs.Copying.{copies-whole}

pub links-none : (n : ℕ) (a : Automaton) → IsEverything n a → AreLinks n [] [] a
links-none n a all = record {
  over = all.over;
  keeps = λ w tw. (λ yes. tt, λ yes. all.accepts_all w tw);
  copied = copies-whole n a all;
  as_many = refl;
  fit = λ i lt. absurd (omega (arith, lt));
  related = λ i lt. absurd (omega (arith, lt));
}

before-front : (links more : List LinkParts) (i : ℕ) → i ≤ length links → before (links ++ more) i ≡ before links i
before-front links more zero le = refl
before-front links more (suc i) le = get_or_append_left links more whole i (omega (arith, le))

module _ (n : ℕ) (model : List Constraint) (links : List LinkParts) (a next : Automaton) (c : Constraint) (link : LinkParts) (h : AreLinks n model links a) (is : IsNext a c next link) where
  last-is : last (links ++ link ∷ []) ≡ link
  last-is =
      let e : length (links ++ link ∷ []) ≡ suc (length links) = let long = length_push links link in omega (arith, long) in
      ap (before (links ++ link ∷ [])) e ∙ get_or_push links link whole (length links) refl

  -- what holds of each link and constraint
  each : (P : LinkParts → Constraint → LinkParts → Type 0) → ((i : ℕ) → i < length model → P (before links i) (constraint_at model i) (link_at links i)) → P (last links) c link
      → (i : ℕ) → i < length (model ++ c ∷ []) → P (before (links ++ link ∷ []) i) (constraint_at (model ++ c ∷ []) i) (link_at (links ++ link ∷ []) i)
  each P so_far here i lt =
      let long = length_push model c in
      let le : i ≤ length links = omega (arith, lt, long, h.as_many) in
      elim (pushed model c no_constraint i (length model) refl (omega (arith, lt, long))) [
        | inl p ↦
            let l : link_at (links ++ link ∷ []) i ≡ link_at links i = get_or_append_left links (link ∷ []) whole i (omega (arith, p.0, h.as_many)) in
            same (before links i) (constraint_at model i) (link_at links i) (before-front links (link ∷ []) i le) p.1 l (so_far i p.0)
        | inr p ↦
            let e : i ≡ length links = omega (arith, p.0, h.as_many) in
            same (last links) c link (before-front links (link ∷ []) i le ∙ ap (before links) e) p.1 (get_or_push links link whole i (sym e)) here
      ]
    where
      same : (b : LinkParts) (d : Constraint) (l : LinkParts) → before (links ++ link ∷ []) i ≡ b → constraint_at (model ++ c ∷ []) i ≡ d → link_at (links ++ link ∷ []) i ≡ l → P b d l
          → P (before (links ++ link ∷ []) i) (constraint_at (model ++ c ∷ []) i) (link_at (links ++ link ∷ []) i)
      same b d l eb ed el p =
          subst (λ (x : LinkParts). P x (constraint_at (model ++ c ∷ []) i) (link_at (links ++ link ∷ []) i)) (sym eb)
          (subst (λ (x : Constraint). P b x (link_at (links ++ link ∷ []) i)) (sym ed) (subst (P b d) (sym el) p))

  pub links-more : AreLinks n (model ++ c ∷ []) (links ++ link ∷ []) next
  links-more =
      let lm = length_push model c in
      let ll = length_push links link in
      record {
        over = is.over ∙ h.over;
        keeps = λ w tw.
            let one = is.keeps w (rw h.over tw) in
            let all = h.keeps w tw in
            (λ yes. let both = one.0 yes in push-keeps model c w (all.0 both.0) both.1, λ yes. let parts = (keeps-append model (c ∷ []) w).0 yes in one.1 (all.1 parts.0, parts.1.0));
        copied = subst (Copies next) (sym last-is) is.copied;
        as_many = omega (arith, lm, ll, h.as_many);
        fit = each (λ before c link. FitsLink n before c.kind link) h.fit (subst (λ (m : ℕ). FitsLink m (last links) c.kind link) h.over (is.fits (last links) h.copied));
        related = each (λ before c link. IsRelated n before c link) h.related (subst (λ (m : ℕ). IsRelated m (last links) c link) h.over (is.related (last links) h.copied));
      }

-- ---- the pairs

pub implied-none : (a : Automaton) → AreImplied a [] []
implied-none a = record { as_many = refl; each = λ i lt. absurd (omega (arith, lt)) }

pub implied-more : (a : Automaton) (dropped : List Dropped) (implied : List (List (List ℕ))) (d : Dropped) (pairs : List (List ℕ)) → AreImplied a dropped implied → ArePairs a d pairs
    → AreImplied a (dropped ++ d ∷ []) (implied ++ pairs ∷ [])
implied-more a dropped implied d pairs h is =
    let ld = length_push dropped d in
    let li = length_push implied pairs in
    record {
      as_many = omega (arith, ld, li, h.as_many);
      each = λ i lt. elim (pushed dropped d no_dropped i (length dropped) refl (omega (arith, lt, ld))) [
        | inl p ↦
            let l : list_at (implied ++ pairs ∷ []) i ≡ list_at implied i = get_or_append_left implied (pairs ∷ []) [] i (omega (arith, p.0, h.as_many)) in
            subst (λ (x : Dropped). ArePairs a x (list_at (implied ++ pairs ∷ []) i)) (sym p.1) (subst (ArePairs a (dropped_at dropped i)) (sym l) (h.each i p.0))
        | inr p ↦
            let l : list_at (implied ++ pairs ∷ []) i ≡ pairs = get_or_push implied pairs [] i (omega (arith, p.0, h.as_many)) in
            subst (λ (x : Dropped). ArePairs a x (list_at (implied ++ pairs ∷ []) i)) (sym p.1) (subst (ArePairs a d) (sym l) is)
      ];
    }

-- ---- the chain

module _ (n : ℕ) (list : List Constraint) (r : Reduction) (links : List LinkParts) (a : Automaton) (implied : List (List (List ℕ))) (are : AreLinks n (those is_kept list r.decisions) links a)
    (shown : AreImplied a (left_out list r.decisions) implied) where
  pub chain-form : IsChain (claim_of n list r) (chain_parts links implied)
  chain-form = record {
    links_fit = record { one_for_each = are.as_many; each = are.fit };
    pairs_for_each = shown.as_many;
    pairs_fit = λ i lt. (shown.each i lt).fit (last links) are.copied;
  }

  pub chain-right : AreWitnesses n [] (those is_kept list r.decisions) r.witnesses → IsLeastMember n (KeepsAll (those is_kept list r.decisions)) r.example
      → IsRight (claim_of n list r) (chain_parts links implied)
  chain-right witnesses example = record {
    example = λ i lt. keeps-at (those is_kept list r.decisions) r.example example.member i lt;
    witnesses = λ i lt. witness-is n (those is_kept list r.decisions) r.witnesses witnesses i lt;
    links = are.related;
    implied = λ i lt. subst (λ (m : ℕ). IsDecided m (last links) (dropped_at (left_out list r.decisions) i) (list_at implied i)) are.over ((shown.each i lt).decided (last links) are.copied);
  }

-- ---- as loops go on

pub links-take : (n : ℕ) (model : List Constraint) (links : List LinkParts) (a next : Automaton) (i : ℕ) (d : Constraint) (link : LinkParts) → i < length model → AreLinks n (take i model) links a
    → IsNext a (get_or model i d) next link → AreLinks n (take (i + 1) model) (links ++ link ∷ []) next
links-take n model links a next i d link lt h is =
    subst (λ (l : List Constraint). AreLinks n l (links ++ link ∷ []) next) (sym (take_more model i d lt)) (links-more n (take i model) links a next (get_or model i d) link h is)

pub links-all : (n : ℕ) (model : List Constraint) (links : List LinkParts) (a : Automaton) (i : ℕ) → length model ≤ i → AreLinks n (take i model) links a → AreLinks n model links a
links-all n model links a i past h = subst (λ (l : List Constraint). AreLinks n l links a) (take_all i model past) h

pub implied-take : (a : Automaton) (dropped : List Dropped) (implied : List (List (List ℕ))) (i : ℕ) (d : Dropped) (pairs : List (List ℕ)) → i < length dropped → AreImplied a (take i dropped) implied
    → ArePairs a (get_or dropped i d) pairs → AreImplied a (take (i + 1) dropped) (implied ++ pairs ∷ [])
implied-take a dropped implied i d pairs lt h is =
    subst (λ (l : List Dropped). AreImplied a l (implied ++ pairs ∷ [])) (sym (take_more dropped i d lt)) (implied-more a (take i dropped) implied (get_or dropped i d) pairs h is)

pub implied-all : (a : Automaton) (dropped : List Dropped) (implied : List (List (List ℕ))) (i : ℕ) → length dropped ≤ i → AreImplied a (take i dropped) implied → AreImplied a dropped implied
implied-all a dropped implied i past h = subst (λ (l : List Dropped). AreImplied a l implied) (take_all i dropped past) h
