-- What is sought with an automaton that constraints have joined.
use Rattle.std.proofs.Common.{◌≡◌, ◌↔◌, ℕ, ◌+◌, List, ◌++◌, length, ap, ◌∙◌}
use Rattle.dfa_core.specs.Automaton.{Automaton}
use Rattle.dfa_core.specs.Languages.{HasNoMember, IsLeastMember}
use Rattle.dfa_core.specs.Traces.{IsTrace}
use Rattle.template_core.specs.declared.constraint.Constraint.{Constraint}
use Rattle.list_dfa.proofs.Prefixes.{all-same, first-all, narrow-all}
use Rattle.reduce_model.proofs.Members.{least-same}
use Rattle.list_dfa.specs.Extending.{AcceptsBroken}
use Rattle.reduce_model.specs.Passes.{AcceptsBreaks, IsSought, IsSoughtFrom}
use Rattle.list_dfa.specs.Growing.{IsGrownBy}
use Rattle.list_dfa.specs.Lists.{IsAutomatonOf, IsNarrowList}
use Rattle.reduce_model.specs.Reduction.{Breaks}
use Rattle.reduce_model.specs.declared.grown.Sought.{Sought}
use Rattle.reduce_model.specs.declared.grown.Sought.TheVariants.{Found, Missing, TooWide}

module _ (s : ℕ) (a : Automaton) (list : List Constraint) (dfa : Automaton) (h : IsGrownBy s a list dfa) where
  broken-same : (c : Constraint) (w : List ℕ) → IsTrace a.symbols w → AcceptsBroken dfa c w ↔ AcceptsBreaks a list c w
  broken-same c w tw = let p = h.same w tw in (λ b. (p.0 b.0, b.1), λ b. (p.1 b.0, b.1))

  pub found : (c : Constraint) (t : List ℕ) → IsLeastMember dfa.symbols (AcceptsBroken dfa c) t → IsLeastMember a.symbols (AcceptsBreaks a list c) t
  found c t least = least-same dfa.symbols a.symbols (AcceptsBroken dfa c) (AcceptsBreaks a list c) t h.over (broken-same c) least

  pub missing : (c : Constraint) → HasNoMember dfa.symbols (AcceptsBroken dfa c) → HasNoMember a.symbols (AcceptsBreaks a list c)
  missing c none w tw breaks = none w (rw h.over tw) ((broken-same c w tw).1 breaks)

-- ---- from the automaton of a list on

module _ (n s : ℕ) (before rest full : List Constraint) (a : Automaton) (is : full ≡ before ++ rest) (e : IsAutomatonOf n before a) (narrow : IsNarrowList n s before) where
  pub breaks-same : (c : Constraint) (w : List ℕ) → IsTrace n w → AcceptsBreaks a rest c w ↔ Breaks full c w
  breaks-same c w tw = let p = all-same n s before rest full a is e narrow rest w tw in rw is (λ b. (p.0 b.0, b.1), λ b. (p.1 b.0, b.1))

  pub sought : (size : ℕ) → size ≡ length before → (c : Constraint) (r : Sought) → IsSoughtFrom s a size rest c r → IsSought n s full c r
  sought size long c (Found t) h = (least-same a.symbols n (AcceptsBreaks a rest c) (Breaks full c) t e.over (breaks-same c) h.0, narrow-all n s before rest full a is e narrow h.1)
  sought size long c Missing h = (λ w tw b. h.0 w (rw e.over tw) ((breaks-same c w tw).1 b), narrow-all n s before rest full a is e narrow h.1)
  sought size long c (TooWide built) h =
      let same : built ≡ length before + h.0 = h.1 ∙ ap (λ (k : ℕ). k + h.0) long in
      rw same (first-all n s before rest full a is e narrow h.0 h.2)
