-- The first members of a language, found one after the other.
use Rattle.std.proofs.Common.{◌≡◌, ◌↔◌, ℕ, zero, suc, ◌+◌, ◌-◌, ◌<◌, ◌≤◌, List, [], ◌∷◌, ◌++◌, length, get_or, Option, Some, None, refl, sym, ap, ◌∙◌, arith, add-one}
use Rattle.std.specs.List.{slice_get}
use Rattle.std.proofs.lemmas.List.{get_or_push, length_push}
use Rattle.std.proofs.lemmas.Option.{slice_get-get_or}
use Rattle.dfa_core.specs.Languages.{HasNoMember, IsLeastMember}
use Rattle.dfa_core.specs.Shortlex.{IsBefore}
use Rattle.dfa_core.specs.Traces.{IsTrace}
use Rattle.dfa_core.proofs.Shortlex.{before_trans}
use Rattle.dfa_product.proofs.AfterRuns.{least-same}
use Rattle.model_compare.specs.Analysis.{AreFirst}
use Rattle.model_compare.specs.Unused.{IsPast}

-- a member that stands after each of the traces
abbrev pub Past : (List ℕ → Type 0) → List (List ℕ) → List ℕ → Type 0
Past Member [] w = Member w
Past Member (t ∷ ts) w = Past (λ v. Member v × IsBefore t v) ts w

past-push : (Member : List ℕ → Type 0) (ts : List (List ℕ)) (t w : List ℕ) → Past Member (ts ++ t ∷ []) w ↔ (Past Member ts w × IsBefore t w)
past-push Member [] t w = (λ h. h, λ h. h)
past-push Member (u ∷ ts) t w = past-push (λ v. Member v × IsBefore u v) ts t w

first-push : (n : ℕ) (Member : List ℕ → Type 0) (ts : List (List ℕ)) (t : List ℕ) → AreFirst n Member (length ts) ts → IsLeastMember n (Past Member ts) t
    → AreFirst n Member (suc (length ts)) (ts ++ t ∷ [])
first-push n Member [] t h least = (least, refl)
first-push n Member (u ∷ ts) t h least = (h.0, first-push n (λ v. Member v × IsBefore u v) ts t h.1 least)

first-end : (n : ℕ) (Member : List ℕ → Type 0) (ts : List (List ℕ)) (k : ℕ) → AreFirst n Member (length ts) ts → HasNoMember n (Past Member ts) → length ts ≤ k → AreFirst n Member k ts
first-end n Member [] zero h none le = refl
first-end n Member [] (suc k) h none le = none
first-end n Member (u ∷ ts) zero h none le = absurd (omega (arith, le))
first-end n Member (u ∷ ts) (suc k) h none le = (h.0, first-end n (λ v. Member v × IsBefore u v) ts k h.1 none (omega (arith, le)))

-- the traces so far are the first, and what stands after the last of them stands after all
pub record AreSoFar (n : ℕ) (Member : List ℕ → Type 0) (ts : List (List ℕ)) : Type 0 where
  pub first : AreFirst n Member (length ts) ts
  pub past : (w : List ℕ) → Past Member ts w ↔ (Member w × IsPast (slice_get ts (length ts - 1)) w)

pub so_far-none : (n : ℕ) (Member : List ℕ → Type 0) → AreSoFar n Member []
so_far-none n Member = record { first = refl; past = λ w. (λ is. (is, tt), λ p. p.0) }

later : (o : Option (List ℕ)) (t w : List ℕ) → IsPast o t → IsBefore t w → IsPast o w
later None t w past before = tt
later (Some u) t w past before = before_trans u t w past before

last-push : (ts : List (List ℕ)) (t : List ℕ) → slice_get (ts ++ t ∷ []) (length (ts ++ t ∷ []) - 1) ≡ Some t
last-push ts t =
    let long = length_push ts t in
    let e : length (ts ++ t ∷ []) - 1 ≡ length ts = omega (arith, long) in rw e (slice_get-get_or (ts ++ t ∷ []) (length ts) [] (omega (arith, long)) ∙ ap Some (get_or_push ts t [] (length ts) refl))

module _ (n : ℕ) (Member : List ℕ → Type 0) (ts : List (List ℕ)) (h : AreSoFar n Member ts) where
  abbrev Next : List ℕ → Type 0
  Next w = Member w × IsPast (slice_get ts (length ts - 1)) w

  pub so_far-more : (t : List ℕ) → IsLeastMember n Next t → AreSoFar n Member (ts ++ t ∷ [])
  so_far-more t least = record {
    first = rw (length_push ts t, add-one) (first-push n Member ts t h.first (least-same n Next (Past Member ts) (λ w tw. ((h.past w).1, (h.past w).0)) (Some t) least));
    past = λ w. rw (last-push ts t) (
      λ is. let p = (past-push Member ts t w).0 is in (((h.past w).0 p.0).0, p.1),
      λ p. (past-push Member ts t w).1 ((h.past w).1 (p.0, later (slice_get ts (length ts - 1)) t w least.member.1 p.1), p.1),
    );
  }

  pub so_far-end : (k : ℕ) → HasNoMember n Next → length ts ≤ k → AreFirst n Member k ts
  so_far-end k none le = first-end n Member ts k h.first (λ w tw is. none w tw ((h.past w).0 is)) le

  pub so_far-all : (k : ℕ) → length ts ≡ k → AreFirst n Member k ts
  so_far-all k e = rw (← e) h.first

-- the same members, the same first ones
pub first-same : (n : ℕ) (P Q : List ℕ → Type 0) → ((w : List ℕ) → IsTrace n w → P w ↔ Q w) → (k : ℕ) (ts : List (List ℕ)) → AreFirst n P k ts → AreFirst n Q k ts
first-same n P Q same zero ts h = h
first-same n P Q same (suc k) [] h = λ w tw is. h w tw ((same w tw).1 is)
first-same n P Q same (suc k) (t ∷ ts) h = (
  least-same n P Q same (Some t) h.0,
  first-same n (λ w. P w × IsBefore t w) (λ w. Q w × IsBefore t w) (λ w tw. (λ p. ((same w tw).0 p.0, p.1), λ p. ((same w tw).1 p.0, p.1))) k ts h.1,
)
