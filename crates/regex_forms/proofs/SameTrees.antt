-- Trees that the test takes for the same are equal.
use Rattle.std.proofs.Common.{◌≡◌, Bool, true, false, ◌&&◌, refl, ap, ap₂, ◌∙◌}
use Rattle.std.proofs.lemmas.Bool.{false≢true, and_parts}
use Rattle.std.specs.Bool.{beq}
use Rattle.std.specs.Cmp.{booleans_Decides}
use Rattle.regex_forms.specs.Derivatives.{same, same_parts}
use Rattle.regex_forms.specs.Trees.{Tree, set, in_order, one_of, star, maybe, Parts, no_part, part}

pub never : {P : Type 0} → false ≡ true → P
never e = absurd (false≢true e)

sets : (a b c d e f : Bool) → (a ≡ d) × ((b ≡ e) × (c ≡ f)) → set a b c ≡ set d e f
sets a b c d e f h = ap (λ v. set v b c) h.0 ∙ ap (λ v. set d v c) h.1.0 ∙ ap (set d e) h.1.1

mutual
  pub same-is : (t u : Tree) → same t u ≡ true → t ≡ u
  same-is (set a b c) (set d e f) h =
      let parts = and_parts (beq a d) (beq b e && beq c f) h in
      let rest = and_parts (beq b e) (beq c f) parts.1 in
      sets a b c d e f ((booleans_Decides a d).0 parts.0, ((booleans_Decides b e).0 rest.0, (booleans_Decides c f).0 rest.1))
  same-is (in_order ps) (in_order qs) h = ap in_order (same_parts-is ps qs h)
  same-is (one_of ps) (one_of qs) h = ap one_of (same_parts-is ps qs h)
  same-is (star t) (star u) h = ap star (same-is t u h)
  same-is (maybe t) (maybe u) h = ap maybe (same-is t u h)
  same-is t u h = never h

  pub same_parts-is : (ps qs : Parts) → same_parts ps qs ≡ true → ps ≡ qs
  same_parts-is no_part no_part h = refl
  same_parts-is (part t ps) (part u qs) h =
      let both = and_parts (same t u) (same_parts ps qs) h in
      ap₂ part (same-is t u both.0) (same_parts-is ps qs both.1)
  same_parts-is ps qs h = never h
