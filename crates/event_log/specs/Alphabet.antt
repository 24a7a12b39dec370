-- What an alphabet is to a caller: a list of different names, with its limit beside it.
use Rattle.std.specs.Prelude.{◌≡◌, ℕ, List, false, length}
use Rattle.decl_base.specs.declared.refusal.Refusal.{Refusal}
use Rattle.decl_base.specs.declared.refusal.Refusal.TheVariants as refusal
use Rattle.event_log.specs.Logs.{has_name}

pub record Names : Type 0 where
  pub names : List (List ℕ)
  -- at most so many
  pub limit : ℕ

-- why a name was not added
abbrev pub AddCause : Names → List ℕ → Refusal → Type 0
AddCause old name (refusal.Activities n) = (n ≡ old.limit) × (length old.names ≡ old.limit) × (has_name old.names name ≡ false)
AddCause old name refusal.Memory = Unit {0}
AddCause old name _ = ⊥
