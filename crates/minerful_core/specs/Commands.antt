-- What a command comes to, to the calls behind it.
use Rattle.std.specs.Prelude.{◌≡◌, ◌⊎◌, ℕ, List, [], Some}
use Rattle.decl_base.specs.declared.refusal.Refusal.{Refusal}
use Rattle.decl_outside.specs.Inputs.{InputState}
use Rattle.minerful_words.specs.Settings.{inputs_for}
use Rattle.minerful_words.specs.declared.settings.Command.{Command}
use Rattle.minerful_words.specs.declared.settings.Settings.{Settings}
use Rattle.minerful_core.specs.Outcome.{Outcome, IsCommandOutcome, refuses}
use Rattle.minerful_core.specs.Refusing.{MayRefuse}
use Rattle.minerful_core.specs.Run.{InputFailed}

-- the inputs may hold this: what they tell, and anything where none of them is named
abbrev pub MayHold : List (List ℕ) → InputState → (List ℕ → List ℕ) → Type 0
MayHold names inputs contents = (names ≡ []) ⊎ (inputs.contents ≡ Some contents)

-- this holds of all that the inputs may hold
abbrev pub OfContents : List (List ℕ) → InputState → ((List ℕ → List ℕ) → Type 0) → Type 0
OfContents names inputs P = (contents : List ℕ → List ℕ) → MayHold names inputs contents → P contents

-- this is the outcome of the command
abbrev pub HasOutcome : Command → Settings → InputState → Outcome → Type 0
HasOutcome command s inputs o = OfContents (inputs_for command s) inputs (λ contents. IsCommandOutcome command s contents o)

-- the command may refuse this
abbrev pub CommandRefuses : Command → Settings → InputState → InputState → Refusal → Type 0
CommandRefuses command s old new = MayRefuse (InputFailed (inputs_for command s) old new) (λ r. HasOutcome command s old (refuses r))
