-- The first fault decides.
use Rattle.std.proofs.Common.{ℕ, Result, ap}
use Rattle.decl_base.specs.declared.refusal.Refusal.{Refusal}
use Rattle.decl_base.specs.declared.refusal.Refusal.TheVariants.{Usage, Memory}
use Rattle.minerful_words.specs.Settings.{◌>>=◌, Refuses}

-- what refuses the first part refuses the whole
pub refuses_first : {A B : Type 0} (r : Result A ℕ) (f : A → Result B ℕ) (e : Refusal) → Refuses e r → Refuses e (r >>= f)
refuses_first r f (Usage at) h = ap (λ x. x >>= f) h
refuses_first r f Memory h = h
refuses_first r f _ h = absurd h
