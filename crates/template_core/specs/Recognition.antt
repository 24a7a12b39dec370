-- What a template's automaton and number are to be.
use Rattle.std.specs.Prelude.{◌≡◌, ◌↔◌, ℕ, List, IsTrue, nat_eq}
use Rattle.template_core.specs.Automaton.{TemplateMeaning, run}
use Rattle.template_core.specs.Constraints.{IsWellMade}
use Rattle.template_core.specs.Counts.{counts_of}
use Rattle.template_core.specs.Repertoire.{Keeps, fulfilled}
use Rattle.template_core.specs.declared.kind.Kind.{Kind}

-- the automaton accepts exactly the traces that keep a constraint of the kind
abbrev pub Recognises : TemplateMeaning → Kind → Type 0
Recognises meaning kind =
    (a b : ℕ) (trace : List ℕ) → IsWellMade kind a b → IsTrue (meaning.accepts (run meaning.next 0 a b trace)) ↔ Keeps nat_eq kind a b trace

-- of the counters of a log, the number is that of the constraint's activated and fulfilled places
abbrev pub TellsFulfilled : TemplateMeaning → Kind → Type 0
TellsFulfilled meaning kind =
    (a b : ℕ) (log : List (List ℕ)) → IsWellMade kind a b → meaning.fulfilled_by (counts_of kind a b log) ≡ fulfilled nat_eq kind a b log
