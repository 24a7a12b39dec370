-- Witnesses of a model, one after the other.
use Rattle.std.proofs.Common.{◌≡◌, ◌↔◌, ℕ, zero, suc, ◌+◌, ◌-◌, ◌<◌, ◌≤◌, inl, inr, List, [], ◌∷◌, ◌++◌, length, take, drop, get_or, refl, sym, ap, subst, ◌∙◌, arith, add-one, append_assoc, drop-cons, length-append}
use Rattle.std.specs.List.{AllByRecursion}
use Rattle.std.proofs.lemmas.Bool.{cases_lt}
use Rattle.std.proofs.lemmas.List.{append-nil, get_or_append_left, get_or_push, length-take-le, length_push, take-append-drop, take-append-le, take-take, take_all, take_more, take_rest}
use Rattle.std.proofs.lemmas.Option.{slice_get-get_or}
use Rattle.decl_base.specs.declared.refusal.Refusal.{Refusal}
use Rattle.decl_base.specs.declared.refusal.Refusal.TheVariants.{States, Memory}
use Rattle.dfa_core.specs.Languages.{HasNoMember, IsLeastMember}
use Rattle.dfa_core.specs.Traces.{IsTrace}
use Rattle.dfa_minimise.specs.Wide.{IsWide}
use Rattle.template_core.specs.declared.constraint.Constraint.{Constraint}
use Rattle.reduce_model.proofs.FirstPasses.{narrow-push}
use Rattle.reduce_model.proofs.Grows.{sought}
use Rattle.reduce_model.proofs.SecondPasses.{told-at}
use Rattle.reduce_model.proofs.Lists.{all-append, all_but-at, length-all_but, phase-first, phase-narrow}
use Rattle.list_dfa.proofs.Keeping.{anything, keeps-push, push-keeps}
use Rattle.dfa_minimise.proofs.Widths.{over-wide, wide-over}
use Rattle.reduce_model.specs.Building.{IsFirstOfWide, all_but_each, in_phase}
use Rattle.list_dfa.specs.Extending.{AcceptsKept, Extends}
use Rattle.reduce_model.specs.Keeping.{KeepsAll}
use Rattle.reduce_model.specs.Passes.{AreFirstWitnesses, AreMoreWitnesses, IsIrredundant, IsSought, IsSoughtFrom, IsStart, IsWitnessed, RefusesWitness, RefusesWitnesses}
use Rattle.list_dfa.specs.Lists.{IsFirstPrefix, IsNarrowList}
use Rattle.reduce_model.specs.Reduction.{AreWitnesses, Breaks}
use Rattle.reduce_model.specs.declared.grown.Sought.{Sought}
use Rattle.reduce_model.specs.declared.prefixes.Prefix.{Prefix}

-- the model without the constraint at a place
abbrev pub but : ℕ → List Constraint → List Constraint
but place model = take place model ++ drop (suc place) model

-- so many constraints have their witnesses
pub record IsWitnessing (n s : ℕ) (model : List Constraint) (at : ℕ) (witnesses : List (List ℕ)) : Type 0 where
  pub as_many : length witnesses ≡ at
  pub least : (k : ℕ) → k < at → IsLeastMember n (Breaks (but k model) (get_or model k anything)) (get_or witnesses k [])
  pub narrow : AllByRecursion (IsNarrowList n s) (take at (all_but_each [] model))

pub witnessing-none : (n s : ℕ) (model : List Constraint) → IsWitnessing n s model 0 []
witnessing-none n s model = record {
  as_many = refl;
  least = λ k lt. absurd (omega (arith, lt));
  narrow = tt;
}

module _ (n s : ℕ) (model : List Constraint) (at : ℕ) (in_model : at < length model) where
  -- the list at the place, in the lists of the phase
  at_place_list : get_or (all_but_each [] model) at [] ≡ but at model
  at_place_list =
      let long = length-all_but [] model in
      let in_lists : at < length (all_but_each [] model) = omega (arith, long, in_model) in
      let e : get_or (all_but_each [] model) at [] ∷ drop (suc at) (all_but_each [] model) ≡ but at model ∷ drop (suc at) (all_but_each [] model) = sym (drop-cons (all_but_each [] model) at [] in_lists) ∙ all_but-at [] model at in_model in
      cc

  pub witnessing-more : (witnesses : List (List ℕ)) (t : List ℕ) → IsWitnessing n s model at witnesses → IsLeastMember n (Breaks (but at model) (get_or model at anything)) t → IsNarrowList n s (but at model)
      → IsWitnessing n s model (at + 1) (witnesses ++ t ∷ [])
  witnessing-more witnesses t h least narrow =
      let long = length-all_but [] model in
      let in_lists : at < length (all_but_each [] model) = omega (arith, long, in_model) in
      let more : take (at + 1) (all_but_each [] model) ≡ take at (all_but_each [] model) ++ but at model ∷ [] =
      take_more (all_but_each [] model) at [] in_lists ∙ ap (λ (l : List Constraint). take at (all_but_each [] model) ++ l ∷ []) at_place_list in
      let many = h.as_many in
      record {
        as_many = length_push witnesses t ∙ ap (λ (k : ℕ). k + 1) many;
        least = λ k lt. elim (cases_lt k at) [
          | inl before ↦ rw (get_or_append_left witnesses (t ∷ []) [] k (omega (arith, many, before))) (h.least k before)
          | inr le ↦
              let e : k ≡ at = omega arith in
              rw (e, get_or_push witnesses t [] at many) least
        ];
        narrow = rw more (all-append n s (take at (all_but_each [] model)) (but at model ∷ []) h.narrow (narrow, tt));
      }

  pub witnessing-refused : (size : ℕ) → AllByRecursion (IsNarrowList n s) (take at (all_but_each [] model)) → IsFirstPrefix n s (but at model) size → IsFirstOfWide n s (in_phase 4 (all_but_each [] model)) 4 size
  witnessing-refused size narrow first =
      let split : all_but_each [] model ≡ take at (all_but_each [] model) ++ but at model ∷ drop (suc at) (all_but_each [] model) =
      sym (take-append-drop at (all_but_each [] model)) ∙ ap (λ (l : List (List Constraint)). take at (all_but_each [] model) ++ l) (all_but-at [] model at in_model) in
      rw split (phase-first n s 4 (take at (all_but_each [] model)) (but at model) (drop (suc at) (all_but_each [] model)) size narrow first)

  pub not-missing : IsIrredundant n model → HasNoMember n (Breaks (but at model) (get_or model at anything)) → ⊥
  not-missing irredundant none = irredundant at (get_or model at anything) (slice_get-get_or model at anything in_model) none

are-witnesses : (n : ℕ) (before after : List Constraint) (ws : List (List ℕ)) → length ws ≡ length after
    → ((k : ℕ) → k < length after → IsLeastMember n (Breaks ((before ++ take k after) ++ drop (suc k) after) (get_or after k anything)) (get_or ws k [])) → AreWitnesses n before after ws
are-witnesses n before [] [] many h = tt
are-witnesses n before [] (w ∷ ws) many h = absurd (omega (arith, many))
are-witnesses n before (c ∷ after) [] many h = absurd (omega (arith, many))
are-witnesses n before (c ∷ after) (w ∷ ws) many h =
    let here : IsLeastMember n (Breaks (before ++ after) c) w = rw append-nil at (h 0 (omega arith)) in
    (here, are-witnesses n (before ++ c ∷ []) after ws (omega (arith, many)) (λ k lt. rw (append_assoc before (c ∷ []) (take k after)) (h (suc k) (omega (arith, lt)))))

pub witnessing-all : (n s : ℕ) (model : List Constraint) (at : ℕ) (witnesses : List (List ℕ)) → at ≡ length model → IsWitnessing n s model at witnesses → IsWitnessed n s model witnesses
witnessing-all n s model at witnesses e h =
    let long = length-all_but [] model in
    let all_ : take at (all_but_each [] model) ≡ all_but_each [] model = take_all at (all_but_each [] model) (omega (arith, long, e)) in
    record {
      witnesses_of = are-witnesses n [] model witnesses (h.as_many ∙ e) (λ k lt. h.least k (omega (arith, lt, e)));
      narrow = phase-narrow n s 4 (all_but_each [] model) (rw all_ at h.narrow);
    }

-- ---- those that are known

pub known-few : (n s : ℕ) (before after : List Constraint) (ws : List (List ℕ)) → AreFirstWitnesses n s before after ws → length ws ≤ length after
known-few n s before after [] h = omega arith
known-few n s before [] (w ∷ ws) h = absurd h
known-few n s before (c ∷ after) (w ∷ ws) h = let ih = known-few n s (before ++ c ∷ []) after ws h.1 in omega (arith, ih)

known-narrow : (n s : ℕ) (before after : List Constraint) (ws : List (List ℕ)) → AreFirstWitnesses n s before after ws → AllByRecursion (IsNarrowList n s) (take (length ws) (all_but_each before after))
known-narrow n s before after [] h = tt
known-narrow n s before [] (w ∷ ws) h = absurd h
known-narrow n s before (c ∷ after) (w ∷ ws) h = (h.0.1, known-narrow n s (before ++ c ∷ []) after ws h.1)

known-least : (n s : ℕ) (before after : List Constraint) (ws : List (List ℕ)) → AreFirstWitnesses n s before after ws → (k : ℕ) → k < length ws
    → IsLeastMember n (Breaks ((before ++ take k after) ++ drop (suc k) after) (get_or after k anything)) (get_or ws k [])
known-least n s before after [] h k lt = absurd (omega (arith, lt))
known-least n s before [] (w ∷ ws) h k lt = absurd h
known-least n s before (c ∷ after) (w ∷ ws) h zero lt = subst (λ (l : List Constraint). IsLeastMember n (Breaks (l ++ after) c) w) (sym (append-nil before)) h.0.0
known-least n s before (c ∷ after) (w ∷ ws) h (suc k) lt =
    subst (λ (l : List Constraint). IsLeastMember n (Breaks (l ++ drop (suc k) after) (get_or after k anything)) (get_or ws k [])) (append_assoc before (c ∷ []) (take k after))
    (known-least n s (before ++ c ∷ []) after ws h.1 k (omega (arith, lt)))

-- ---- the constraints before a place

-- enough witnesses for the constraints before a place, and these constraints as a prefix
pub record IsWitnessingAt (n s : ℕ) (model : List Constraint) (at : ℕ) (before : Prefix) (witnesses : List (List ℕ)) : Type 0 where
  pub enough : at ≤ length witnesses
  pub few : length witnesses ≤ length model
  pub witnessing : IsWitnessing n s model (length witnesses) witnesses
  pub start : at < length model → IsStart n s (take at model) before

pub witnessing-known : (n s : ℕ) (model : List Constraint) (start : Prefix) (ws : List (List ℕ)) → AreFirstWitnesses n s [] model ws → IsStart n s (take start.length model) start → start.length ≤ length ws
    → IsWitnessingAt n s model start.length start ws
witnessing-known n s model start ws known begins enough = record {
  enough = enough;
  few = known-few n s [] model ws known;
  witnessing = record {
    as_many = refl;
    least = known-least n s [] model ws known;
    narrow = known-narrow n s [] model ws known;
  };
  start = λ lt. begins;
}

pub witnessing-whole : (n s : ℕ) (model : List Constraint) (ws : List (List ℕ)) → AreFirstWitnesses n s [] model ws → length ws ≡ length model → IsWitnessed n s model ws
witnessing-whole n s model ws known many = witnessing-all n s model (length ws) ws many (record {
  as_many = refl;
  least = known-least n s [] model ws known;
  narrow = known-narrow n s [] model ws known;
})

-- a prefix with one constraint more
with_candidate : (n s : ℕ) (list : List Constraint) (prefix : Prefix) (c : Constraint) → IsStart n s list prefix → (w : List ℕ) → IsTrace n w → AcceptsKept prefix.dfa c w ↔ KeepsAll (list ++ c ∷ []) w
with_candidate n s list prefix c start w tw =
    let p = start.automaton.same w tw in (λ both. push-keeps list c w (p.0 both.0) both.1, λ all. let parts = keeps-push list c w all in (p.1 parts.0, parts.1))

pub start-push : (n s : ℕ) (list : List Constraint) (prefix more : Prefix) (c : Constraint) → s ≤ 65536 → IsStart n s list prefix → Extends s prefix.dfa c more.dfa → more.length ≡ prefix.length + 1 → IsStart n s (list ++ c ∷ []) more
start-push n s list prefix more c limit start x long = record {
  automaton = record {
    over = x.over ∙ start.automaton.over;
    same = λ w tw.
        let there = x.same w (rw start.automaton.over tw) in
        let here = with_candidate n s list prefix c start w tw in (λ is. here.0 (there.0 is), λ all. there.1 (here.1 all));
    few = let few_ = x.few in omega (arith, few_, limit);
  };
  counted = long ∙ (ap (λ (k : ℕ). k + 1) start.counted ∙ sym (length_push list c));
  narrow = narrow-push n s list c start.narrow (λ wide. x.narrow (wide-over prefix.dfa.symbols n s (AcceptsKept prefix.dfa c) (KeepsAll (list ++ c ∷ [])) start.automaton.over (with_candidate n s list prefix c start) wide));
}

pub start-wide : (n s : ℕ) (list : List Constraint) (prefix : Prefix) (c : Constraint) → IsStart n s list prefix → IsWide prefix.dfa.symbols (AcceptsKept prefix.dfa c) s → IsWide n (KeepsAll (list ++ c ∷ [])) s
start-wide n s list prefix c start wide = over-wide prefix.dfa.symbols n s (AcceptsKept prefix.dfa c) (KeepsAll (list ++ c ∷ [])) start.automaton.over (with_candidate n s list prefix c start) wide

all-less : (n s : ℕ) (lists : List (List Constraint)) (less most : ℕ) → less ≤ most → AllByRecursion (IsNarrowList n s) (take most lists) → AllByRecursion (IsNarrowList n s) (take less lists)
all-less n s lists zero most le h = tt
all-less n s [] (suc less) most le h = tt
all-less n s (list ∷ lists) (suc less) zero le h = absurd (omega (arith, le))
all-less n s (list ∷ lists) (suc less) (suc most) le h = (h.0, all-less n s lists less most (omega (arith, le)) h.1)

-- what the others of the constraint at a place say of it
pub but-sought : {n s : ℕ} (model : List Constraint) (at : ℕ) {before : Prefix} → IsStart n s (take at model) before → (r : Sought)
    → IsSoughtFrom s before.dfa before.length (drop (suc at) model) (get_or model at anything) r → IsSought n s (but at model) (get_or model at anything) r
but-sought {n = n} {s = s} model at {before = before} start r found =
    sought n s (take at model) (drop (suc at) model) (but at model) before.dfa refl start.automaton start.narrow before.length start.counted (get_or model at anything) r found

module _ {n s : ℕ} {model : List Constraint} {at : ℕ} {before : Prefix} {ws : List (List ℕ)} (in_model : at < length model) (h : IsWitnessingAt n s model at before ws) where
  pub narrow-at : AllByRecursion (IsNarrowList n s) (take at (all_but_each [] model))
  narrow-at = all-less n s (all_but_each [] model) at (length ws) h.enough h.witnessing.narrow

  pub at-length : before.length ≡ at
  at-length = let start = h.start in_model in start.counted ∙ length-take-le at model (omega (arith, in_model))

  abbrev c : Constraint
  c = get_or model at anything

  longer : take (at + 1) model ≡ take at model ++ c ∷ []
  longer = take_more model at anything in_model

  pub start-more : (more : Prefix) → s ≤ 65536 → Extends s before.dfa c more.dfa → more.length ≡ before.length + 1 → IsStart n s (take (at + 1) model) more
  start-more more limit x long = rw longer (start-push n s (take at model) before more c limit (h.start in_model) x long)

  -- one more witness is known, as it is found or from before
  at-found : (t : List ℕ) → length ws ≡ at → IsLeastMember n (Breaks (but at model) c) t → IsNarrowList n s (but at model) → IsWitnessingAt n s model at before (ws ++ t ∷ []) × (at + 1 ≤ length (ws ++ t ∷ []))
  at-found t many least narrow =
      let long = length_push ws t in
      let old : IsWitnessing n s model at ws = subst (λ (k : ℕ). IsWitnessing n s model k ws) many h.witnessing in
      let new : IsWitnessing n s model (at + 1) (ws ++ t ∷ []) = witnessing-more n s model at in_model ws t old least narrow in
      let e : at + 1 ≡ length (ws ++ t ∷ []) = omega (arith, long, many) in (
        record {
          enough = omega (arith, e);
          few = omega (arith, e, in_model);
          witnessing = subst (λ (k : ℕ). IsWitnessing n s model k (ws ++ t ∷ [])) e new;
          start = h.start;
        },
        omega (arith, e),
      )

  pub witness-refused : (refusal : Refusal) → RefusesWitness n s model at refusal → RefusesWitnesses n s model refusal
  witness-refused (States phase built) refuses = rw refuses.0 (witnessing-refused n s model at in_model built narrow-at (told-at in_model refuses.1))
  witness-refused Memory refuses = tt
  witness-refused refusal refuses = absurd refuses

  pub at-more : (new : List (List ℕ)) → AreMoreWitnesses n s model at ws new → IsWitnessingAt n s model at before new × (at + 1 ≤ length new)
  at-more new (inl known) = rw known.1 (let enough = h.enough in let other = known.0 in (h, omega (arith, enough, other)))
  at-more new (inr found) = let sought = told-at in_model found.1.2 in rw found.1.1 (at-found found.1.0 found.0 sought.0 sought.1)

  -- the next place
  pub next-last : at + 1 ≤ length ws → length model ≤ at + 1 → IsWitnessingAt n s model (at + 1) before ws
  next-last enough last = record {
    enough = enough;
    few = h.few;
    witnessing = h.witnessing;
    start = λ lt. absurd (omega (arith, lt, last));
  }

  pub next-more : (more : Prefix) → at + 1 ≤ length ws → IsStart n s (take (at + 1) model) more → IsWitnessingAt n s model (at + 1) more ws
  next-more more enough start = record {
    enough = enough;
    few = h.few;
    witnessing = h.witnessing;
    start = λ lt. start;
  }

  -- the constraints up to a place are wide: the others of the next one begin with them
  pub start-refused : at + 1 < length model → (size : ℕ) → size ≡ before.length + 1 → at + 1 ≤ length ws → IsWide before.dfa.symbols (AcceptsKept before.dfa c) s → IsFirstOfWide n s (in_phase 4 (all_but_each [] model)) 4 size
  start-refused more size long enough wide =
      let start = h.start in_model in
      let wide_ : IsWide n (KeepsAll (take (at + 1) model)) s = rw longer (start-wide n s (take at model) before c start wide) in
      let front = length-take-le (at + 1) model (omega (arith, more)) in
      let both = length-append (take (at + 1) model) (drop (suc (at + 1)) model) in
      let cut : take (at + 1) (but (at + 1) model) ≡ take (at + 1) model =
      take-append-le (at + 1) (take (at + 1) model) (drop (suc (at + 1)) model) (omega (arith, front)) ∙ take_all (at + 1) (take (at + 1) model) (omega (arith, front)) in
      let size_is : size ≡ at + 1 = long ∙ ap (λ (k : ℕ). k + 1) at-length in
      rw size_is (witnessing-refused n s model (at + 1) more (at + 1) (all-less n s (all_but_each [] model) (at + 1) (length ws) enough h.witnessing.narrow) (record {
        within = omega (arith, front, both);
        wide = rw cut wide_;
        first = λ less lt is.
            let part : take less (but (at + 1) model) ≡ take less (take at model) =
            take-append-le less (take (at + 1) model) (drop (suc (at + 1)) model) (omega (arith, front, lt)) ∙ (take-take less (at + 1) model (omega (arith, lt)) ∙ sym (take-take less at model (omega (arith, lt)))) in
            start.narrow less (rw part at is);
      }))

-- the part of a model behind a place
pub behind-is : (model : List Constraint) (place : ℕ) → take (length model - (place + 1)) (drop (place + 1) model) ≡ drop (suc place) model
behind-is model place = rw (take_rest model (place + 1), add-one) refl

pub witnessing-end : (n s : ℕ) (model : List Constraint) (at : ℕ) (before : Prefix) (ws : List (List ℕ)) → length model ≤ at → IsWitnessingAt n s model at before ws → IsWitnessed n s model ws
witnessing-end n s model at before ws past h =
    let enough = h.enough in
    let few = h.few in
    witnessing-all n s model (length ws) ws (omega (arith, enough, few, past)) h.witnessing
