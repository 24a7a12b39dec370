-- A negative template that one activity alone activates is kept by the traces that keep the one that both activate: one automaton serves both.
use Rattle.std.proofs.Common.{◌≡◌, ◌↔◌, ◌∙◌, sym, ℕ, ◌+◌, ◌-◌, ◌<◌, List, Bool, IsTrue, nat_eq, subst, arith, inl, inr, sym}
use Rattle.template_core.specs.Recognition.{Recognises, TellsFulfilled}
use Rattle.template_core.specs.declared.counts.Counts.{Counts}
use Rattle.template_core.proofs.Parts.{each_passing, sum_failing-rest}
use Rattle.template_core.specs.Tests.{has_previous, has_next, has_earlier, has, has_later}
use Rattle.template_core.proofs.KeptByPlaces.{KeptByPlaces, to_places, from_places, within}
use Rattle.template_core.specs.Automaton.{TemplateMeaning, run}
use Rattle.template_core.specs.Constraints.{IsWellMade}
use Rattle.template_core.specs.Places.{EventIs}
use Rattle.template_core.specs.Repertoire.{Keeps, none}
use Rattle.template_core.specs.declared.kind.Kind.{Kind}
use Rattle.template_core.specs.declared.kind.Kind.TheVariants.{NotCoExistence, NotSuccession, NotChainSuccession, NotRespondedExistence, NotResponse, NotPrecedence, NotChainResponse, NotChainPrecedence}
use Rattle.templates_neg.specs.NotChainSuccession as chained
use Rattle.templates_neg.specs.NotChainSuccessionLaw as chained_law
use Rattle.templates_neg.specs.NotCoExistence as together
use Rattle.templates_neg.specs.NotCoExistenceLaw as together_law
use Rattle.templates_neg.specs.NotSuccession as ordered
use Rattle.templates_neg.specs.NotSuccessionLaw as ordered_law

-- the automaton of the one that both activate, with another number of fulfilled places
abbrev alone : TemplateMeaning → (Counts → ℕ) → TemplateMeaning
alone both number = record { fulfilled_by = number; states = both.states; some_states = both.some_states; next = both.next; accepts = both.accepts }

alike : (kind other : Kind) (a b : ℕ) (trace : List ℕ) (accepted : Bool) → IsWellMade kind a b → IsWellMade other a b
    → KeptByPlaces kind a b trace ↔ KeptByPlaces other a b trace → IsTrue accepted ↔ Keeps nat_eq kind a b trace → IsTrue accepted ↔ Keeps nat_eq other a b trace
alike kind other a b trace accepted made also same law = (
  λ yes. from_places other a b also trace (same.0 (to_places kind a b made trace (law.0 yes))),
  λ keeps. law.1 (from_places kind a b made trace (same.1 (to_places other a b also trace keeps))),
)

abbrev pub responded_existence_meaning : TemplateMeaning
responded_existence_meaning = alone together.meaning (λ counts. counts.onward.without)

pub responded_existence_kept : Recognises responded_existence_meaning NotRespondedExistence
responded_existence_kept a b trace differ =
    alike NotCoExistence NotRespondedExistence a b trace (together.accepts (run together.next_after 0 a b trace)) differ differ (
      λ h i le is. (h i le (inl is)).0 is,
      λ h i le at. (λ is. h i le is, λ is r. h r.0 (within a trace r.0 r.1) r.1 (i, is)),
    ) (together_law.kept a b trace differ)

abbrev pub response_meaning : TemplateMeaning
response_meaning = alone ordered.meaning (λ counts. counts.onward.no_later)

pub response_kept : Recognises response_meaning NotResponse
response_kept a b trace differ =
    alike NotSuccession NotResponse a b trace (ordered.accepts (run ordered.next_after 0 a b trace)) differ differ (
      λ h i le is. (h i le (inl is)).0 is,
      λ h i le at. (λ is. h i le is, λ is r. h r.0 (within a trace r.0 r.2) r.2 (i, r.1, is)),
    ) (ordered_law.kept a b trace differ)

abbrev pub precedence_meaning : TemplateMeaning
precedence_meaning = alone ordered.meaning (λ counts. counts.back.no_earlier)

pub precedence_kept : Recognises precedence_meaning NotPrecedence
precedence_kept a b trace differ =
    alike NotSuccession NotPrecedence a b trace (ordered.accepts (run ordered.next_after 0 a b trace)) differ differ (
      λ h i le is. (h i le (inr is)).1 is,
      λ h i le at. (λ is r. h r.0 (within b trace r.0 r.2) r.2 (i, r.1, is), λ is. h i le is),
    ) (ordered_law.kept a b trace differ)

abbrev pub chain_response_meaning : TemplateMeaning
chain_response_meaning = alone chained.meaning (λ counts. counts.first.occurrences - counts.onward.next)

pub chain_response_kept : Recognises chain_response_meaning NotChainResponse
chain_response_kept a b trace differ =
    alike NotChainSuccession NotChainResponse a b trace (chained.accepts (run chained.next_after 0 a b trace)) differ differ (
      λ h i le is. (h i le (inl is)).0 is,
      λ h i le at. (λ is. h i le is, λ is r. h (i - 1) (within a trace (i - 1) r.1) r.1 (subst (EventIs b trace) (after i r.0) is)),
    ) (chained_law.kept a b trace differ)
  where
    after : (i : ℕ) → 0 < i → i ≡ i - 1 + 1
    after i h = omega arith

abbrev pub chain_precedence_meaning : TemplateMeaning
chain_precedence_meaning = alone chained.meaning (λ counts. counts.second.occurrences - counts.back.previous)

pub chain_precedence_kept : Recognises chain_precedence_meaning NotChainPrecedence
chain_precedence_kept a b trace differ =
    alike NotChainSuccession NotChainPrecedence a b trace (chained.accepts (run chained.next_after 0 a b trace)) differ differ (
      λ h i le is. (h i le (inr is)).1 is,
      λ h i le at. (λ is next. h (i + 1) (within b trace (i + 1) next) next (omega arith, subst (EventIs a trace) (before i) is), λ is. h i le is),
    ) (chained_law.kept a b trace differ)
  where
    before : (i : ℕ) → i ≡ i + 1 - 1
    before i = omega arith

pub chain_precedence_told : TellsFulfilled chain_precedence_meaning NotChainPrecedence
chain_precedence_told a b log differ = sym (sum_failing-rest nat_eq b (has_previous nat_eq a) log) ∙ each_passing nat_eq b (none nat_eq (has_previous nat_eq a)) log

pub chain_response_told : TellsFulfilled chain_response_meaning NotChainResponse
chain_response_told a b log differ = sym (sum_failing-rest nat_eq a (has_next nat_eq b) log) ∙ each_passing nat_eq a (none nat_eq (has_next nat_eq b)) log

pub precedence_told : TellsFulfilled precedence_meaning NotPrecedence
precedence_told a b log differ = each_passing nat_eq b (none nat_eq (has_earlier nat_eq a)) log

pub responded_existence_told : TellsFulfilled responded_existence_meaning NotRespondedExistence
responded_existence_told a b log differ = each_passing nat_eq a (none nat_eq (has nat_eq b)) log

pub response_told : TellsFulfilled response_meaning NotResponse
response_told a b log differ = each_passing nat_eq a (none nat_eq (has_later nat_eq b)) log
