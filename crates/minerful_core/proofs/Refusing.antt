-- What may be refused within a run, from one call to the next.
use Rattle.std.proofs.Common.{◌≡◌, ℕ, List, Option, None, Some, Result, Ok, Err, IfErr, IfSome, sym, subst}
use Rattle.std.specs.Prelude.{IsErrAnd}
use Rattle.decl_base.specs.declared.refusal.Refusal.{Refusal}
use Rattle.decl_base.specs.declared.refusal.Refusal.TheVariants as refusal
use Rattle.minerful_core.specs.Refusing.{MayRefuse}

pub MayRefuse-weaker : (F G : Type 0) (P Q : Refusal → Type 0) → (F → G) → ((r : Refusal) → P r → Q r) → (r : Refusal) → MayRefuse F P r → MayRefuse G Q r
MayRefuse-weaker F G P Q failed more refusal.ReadFault h = failed h
MayRefuse-weaker F G P Q failed more refusal.Memory h = tt
MayRefuse-weaker F G P Q failed more refusal.WriteFault h = absurd h
MayRefuse-weaker F G P Q failed more (refusal.Usage at) h = absurd h
MayRefuse-weaker F G P Q failed more r h = more r h

-- an error that is handed on
pub handed_on : {T E : Type 0} (r : Result T E) (e : E) (P : E → Type 0) → IsErrAnd r (λ x. x ≡ e) → P e → IfErr r P
handed_on (Ok v) e P h p = tt
handed_on (Err x) e P h p = subst P (sym h) p

-- the same where the contents may be told or not
pub told : {A : Type 0} (contents : Option A) (P Q : A → Type 0) → ((a : A) → P a → Q a) → IfSome contents P → IfSome contents Q
told None P Q more h = tt
told (Some a) P Q more h = more a h

-- what holds of the bytes that are left holds of those of the input that was opened
pub told_left : (contents : Option (List ℕ → List ℕ)) (left : Option (List ℕ)) (name : List ℕ) (P : List ℕ → Type 0)
    → IfSome contents (λ contents. left ≡ Some (contents name)) → IfSome left P → IfSome contents (λ contents. P (contents name))
told_left None left name P opened h = tt
told_left (Some contents) left name P opened h = subst (λ l. IfSome l P) opened h
