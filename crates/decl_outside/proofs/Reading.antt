-- Bytes that are held before what an input has left.
use Rattle.std.proofs.Common.{◌≡◌, ℕ, ◌<◌, ◌≤◌, List, ◌++◌, Option, None, Some, Ok, true, IfSome, refl, sym, ap, subst, ◌∙◌, append_assoc, arith, take}
use Rattle.std.specs.Io.KnownBytes.{prepend_known}
use Rattle.decl_outside.specs.Inputs.{InputState, KeepsInput, Reads}
use Rattle.decl_outside.specs.Lines.{line_length, BeginsLong, IsLong}
use Rattle.decl_outside.proofs.Lining.{line_length-longer, begins_long}

-- an input that is open keeps itself
pub KeepsInput-same : (state : InputState) → state.is_open ≡ true → KeepsInput state state
KeepsInput-same state is_open = record { later = omega arith; stays_open = is_open; asked = refl; names = refl; contents = refl }

pub KeepsInput-twice : (old now next : InputState) → KeepsInput old now → KeepsInput now next → KeepsInput old next
KeepsInput-twice old now next h k = record {
  later = omega (arith, h.later, k.later);
  stays_open = k.stays_open;
  asked = k.asked ∙ h.asked;
  names = k.names ∙ h.names;
  contents = k.contents ∙ h.contents;
}

-- what is still to come is what was to come
pub record IsHeld (old now : InputState) (before held : List ℕ) : Type 0 where
  pub keeps : KeepsInput old now
  pub rest : prepend_known held now.left ≡ prepend_known before old.left

pub prepend_known-prepend_known : (xs ys : List ℕ) (known : Option (List ℕ)) → prepend_known xs (prepend_known ys known) ≡ prepend_known (xs ++ ys) known
prepend_known-prepend_known xs ys None = refl
prepend_known-prepend_known xs ys (Some zs) = ap (λ l. Some l) (sym (append_assoc xs ys zs))

-- one read more is held
pub IsHeld-more : {E : Type 0} (old now next : InputState) (before held more buffer : List ℕ) (n : ℕ) → IsHeld old now before held
    → Reads {E = E} now next buffer (Ok n) → more ≡ held ++ take n buffer → IsHeld old next before more
IsHeld-more old now next before held more buffer n front step is = record {
  keeps = KeepsInput-twice old now next front.keeps step.keeps;
  rest = ap (λ l. prepend_known l next.left) is ∙ sym (prepend_known-prepend_known held (take n buffer) next.left) ∙ ap (prepend_known held) (sym step.bytes) ∙ front.rest;
}

-- more bytes have no line feed in the front that has none
pub line_length-more : (held more piece : List ℕ) (n : ℕ) → n ≡ line_length held → more ≡ held ++ piece → n ≤ line_length more
line_length-more held more piece n is grown = subst (λ l. n ≤ line_length l) (sym grown) (omega (arith, line_length-longer held piece))

-- the line is too long whatever stands behind
pub long_line : (limit : ℕ) (held : List ℕ) (left rest : Option (List ℕ)) → prepend_known held left ≡ rest → limit < line_length held → IsLong limit held rest
long_line limit held None rest is long = (long, subst (λ r. IfSome r (BeginsLong limit)) is tt)
long_line limit held (Some xs) rest is long =
    (long, subst (λ r. IfSome r (BeginsLong limit)) is (begins_long limit (held ++ xs) (omega (arith, line_length-longer held xs))))
