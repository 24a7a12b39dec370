-- What is made of a list from its first constraint on.
use Rattle.std.proofs.Common.{◌≡◌, ◌↔◌, ℕ, zero, suc, ◌+◌, ◌≤◌, inl, inr, List, [], length, take, refl, ◌∙◌, arith}
use Rattle.std.proofs.lemmas.Bool.{cases_lt}
use Rattle.std.proofs.lemmas.List.{take_all}
use Rattle.dfa_core.specs.Automaton.{Automaton, Accepts, IsBreadthFirst, IsEverything, SameLanguage, state_count}
use Rattle.dfa_core.specs.Traces.{IsTrace}
use Rattle.dfa_minimise.proofs.Widths.{over-wide, same-accepts, wide-from_states}
use Rattle.dfa_minimise.specs.Least.{IsLeast}
use Rattle.dfa_minimise.specs.Wide.{IsWide}
use Rattle.template_core.specs.declared.constraint.Constraint.{Constraint}
use Rattle.list_dfa.proofs.Prefixes.{all-same, first-all, narrow-all}
use Rattle.list_dfa.specs.Growing.{IsGrownBy, IsWideFrom}
use Rattle.list_dfa.specs.Lists.{IsAutomatonOf, IsFirstPrefix, IsLeastOf, IsNarrowList, KeepsAll}

-- the empty list tells nothing apart
pub empty-narrow : (n s : ℕ) → 1 ≤ s → IsWide n (KeepsAll []) s → ⊥
empty-narrow n s some wide = let t = wide.apart 0 1 (omega arith) some in t.differs (λ is. tt, λ is. tt)

pub take-nil : (size : ℕ) → let none : List Constraint = [] in take size none ≡ []
take-nil zero = refl
take-nil (suc size) = refl

pub none-narrow : (n s : ℕ) → 1 ≤ s → IsNarrowList n s []
none-narrow n s some size wide = empty-narrow n s some (rw (take-nil size) at wide)

pub every-automaton : (n : ℕ) (a : Automaton) → IsEverything n a → IsAutomatonOf n [] a
every-automaton n a e = record {
  over = e.over;
  same = λ w tw. (λ is. tt, λ all. e.accepts_all w tw);
  few = let one = e.one_state in omega (arith, one);
}

-- all of it
pub listed-narrow : (n s : ℕ) (list : List Constraint) (every grown least : Automaton) → 1 ≤ s → s ≤ 65536 → IsEverything n every → IsGrownBy s every list grown
    → SameLanguage least grown → IsLeast least → IsBreadthFirst least → IsLeastOf n list least × IsNarrowList n s list
listed-narrow n s list every grown least some few e g h is order =
    let automaton = every-automaton n every e in
    let none = none-narrow n s some in
    let narrow : IsNarrowList n s list = narrow-all n s [] list list every refl automaton none g.narrow in
    let over : least.symbols ≡ n = h.over ∙ (g.over ∙ e.over) in
    let same : (w : List ℕ) → IsTrace n w → Accepts least w ↔ KeepsAll list w = λ w tw.
    let p = same-accepts grown least h w (rw over tw) in
    let q = g.same w (rw e.over tw) in
    let r = all-same n s [] list list every refl automaton none list w tw in
    (λ accepts. r.0 (q.0 (p.0 accepts)), λ keeps. p.1 (q.1 (r.1 keeps))) in
    let small : state_count least ≤ s = elim (cases_lt s (state_count least)) [
      | inl more ↦
          let wide : IsWide n (KeepsAll list) s = over-wide least.symbols n s (Accepts least) (KeepsAll list) over same (wide-from_states least s is order more) in
          absurd (narrow (length list) (rw (take_all (length list) list (omega arith)) wide))
      | inr le ↦ le
    ] in (
      record {
        of = record { over = over; same = same; few = omega (arith, small, few) };
        least = is;
        in_order = order;
      },
      narrow,
    )

-- or its first prefix that is wide
pub listed-wide : (n s : ℕ) (list : List Constraint) (every : Automaton) (size : ℕ) → 1 ≤ s → IsEverything n every → IsWideFrom s every list size → IsFirstPrefix n s list size
listed-wide n s list every size some e h =
    let here = first-all n s [] list list every refl (every-automaton n every e) (none-narrow n s some) size h in
    let same : 0 + size ≡ size = omega arith in rw same at here
