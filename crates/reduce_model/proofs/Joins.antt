-- What the automaton of a list and a candidate tells.
use Rattle.std.proofs.Common.{◌≡◌, ℕ, ◌+◌, List}
use Rattle.dfa_core.specs.Automaton.{Automaton, Accepts}
use Rattle.dfa_core.specs.Languages.{IsLeastMember}
use Rattle.dfa_minimise.specs.Wide.{IsWide}
use Rattle.template_core.specs.declared.constraint.Constraint.{Constraint}
use Rattle.reduce_model.proofs.Members.{least-same}
use Rattle.reduce_model.specs.Joining.{IsTooWide, JoinsKept}
use Rattle.list_dfa.specs.Extending.{AcceptsKept, IsFitted, IsNarrowed}
use Rattle.reduce_model.specs.declared.kept.KeptList.{KeptList}
use Rattle.list_dfa.proofs.Fitting.{narrowed-wide, extends}

pub too-wide : (s : ℕ) (a : Automaton) (c : Constraint) (narrowed : Automaton) (by : List ℕ) → IsNarrowed a c narrowed → IsLeastMember narrowed.symbols (Accepts narrowed) by
    → IsWide narrowed.symbols (Accepts narrowed) s → IsTooWide s a c
too-wide s a c narrowed by h least wide = record {
  by = by;
  example = least-same narrowed.symbols a.symbols (Accepts narrowed) (AcceptsKept a c) by h.over h.same least;
  wide = narrowed-wide s a c narrowed h wide;
}

pub joins : (s : ℕ) (old : KeptList) (c : Constraint) (narrowed : Automaton) (new : KeptList) → IsNarrowed old.dfa c narrowed → IsLeastMember narrowed.symbols (Accepts narrowed) new.example
    → IsFitted s narrowed new.dfa → new.length ≡ old.length + 1 → JoinsKept s old c new
joins s old c narrowed new h least f long = record {
  extends = extends s old.dfa c narrowed new.dfa h f;
  example = least-same narrowed.symbols old.dfa.symbols (Accepts narrowed) (AcceptsKept old.dfa c) new.example h.over h.same least;
  new_length = long;
}
