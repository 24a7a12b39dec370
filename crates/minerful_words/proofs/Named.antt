-- The template of a name is the one that `kind_of` finds.
use Rattle.std.proofs.Common.{◌≡◌, ◌≢◌, ℕ, List, [], ◌∷◌, Bool, true, false, cond, All, Option, None, Some, refl, sym, ap, ◌∙◌}
use Rattle.std.specs.Prelude.{MatchOption, map}
use Rattle.std.specs.Cmp.Lexicographic.{bytes_decides}
use Rattle.std.specs.List.{find}
use Rattle.std.specs.Str.{bytes_eq}
use Rattle.std.proofs.lemmas.List.Elements.{All-cons, All-head, All-nil, All-tail, All-weaker}
use Rattle.template_core.specs.Constraints.{IsTemplate}
use Rattle.template_core.specs.declared.kind.Kind.{Kind}
use Rattle.template_set.proofs.EachKind.{all_templates, each_kind}
use Rattle.template_set.specs.Names.{all_kinds, name_of}
use Rattle.minerful_words.specs.Templates.{kind_named}

find-none : {A : Type 0} (p : A → Bool) (xs : List A) → All (λ x. p x ≡ false) xs → find p xs ≡ None
find-none p [] none = refl
find-none p (x ∷ xs) none =
    ap (λ b. cond b (Some x) (find p xs)) (All-head (λ x. p x ≡ false) x xs none) ∙ find-none p xs (All-tail (λ x. p x ≡ false) x xs none)

alike : {X Y : Type 0} (f g : X → Y) (xs : List X) → map f xs ≡ map g xs → All (λ x. f x ≡ g x) xs
alike f g [] same = All-nil (λ x. f x ≡ g x)
alike f g (x ∷ xs) same = let first : f x ≡ g x = cc in All-cons (λ x. f x ≡ g x) x xs first (alike f g xs (cc))

-- by computing each
own : (kind : Kind) → IsTemplate kind → kind_named (name_of kind) ≡ Some kind
own = each_kind (λ kind. kind_named (name_of kind) ≡ Some kind) (alike (λ kind. kind_named (name_of kind)) (λ kind. Some kind) all_kinds refl)

abbrev Found : List ℕ → Option Kind → Type 0
Found text kind = MatchOption kind ((kind : Kind) → IsTemplate kind → text ≢ name_of kind) (λ kind. IsTemplate kind × (text ≡ name_of kind))

pub found_by_name : (text : List ℕ) (kind : Option Kind) → Found text kind → kind ≡ kind_named text
found_by_name text (Some kind) found = sym (ap kind_named found.1 ∙ own kind found.0)
found_by_name text None other = sym (find-none (λ kind. bytes_eq text (name_of kind)) all_kinds (All-weaker IsTemplate (λ kind. bytes_eq text (name_of kind) ≡ false) apart all_kinds all_templates))
  where
    apart : (kind : Kind) → IsTemplate kind → bytes_eq text (name_of kind) ≡ false
    apart kind known = go (bytes_eq text (name_of kind)) refl
      where
        go : (b : Bool) → bytes_eq text (name_of kind) ≡ b → bytes_eq text (name_of kind) ≡ false
        go true e = absurd (other kind known ((bytes_decides text (name_of kind)).0 e))
        go false e = e
