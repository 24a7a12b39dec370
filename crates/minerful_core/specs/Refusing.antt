-- What a call within a run may refuse.
use Rattle.decl_base.specs.declared.refusal.Refusal.{Refusal}
use Rattle.decl_base.specs.declared.refusal.Refusal.TheVariants as refusal

-- out of memory at any time, a read fault under its cause, nothing of the words or of the output, and else what is refused
abbrev pub MayRefuse : Type 0 → (Refusal → Type 0) → Refusal → Type 0
MayRefuse ReadFailed IsRefused refusal.Memory = Unit {0}
MayRefuse ReadFailed IsRefused refusal.ReadFault = ReadFailed
MayRefuse ReadFailed IsRefused refusal.WriteFault = ⊥
MayRefuse ReadFailed IsRefused (refusal.Usage at) = ⊥
MayRefuse ReadFailed IsRefused r = IsRefused r
