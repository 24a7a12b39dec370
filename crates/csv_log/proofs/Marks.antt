-- A text with and without a byte order mark.
use Rattle.std.proofs.Common.{◌≡◌, ℕ, List, [], ◌∷◌, Bool, true, false, cond, ◌&&◌, ◌==◌, take, drop, refl}
use lib.Pointwise.{pointwise}
use Rattle.csv.specs.Reading.{strip_bom}

abbrev pub begins : List ℕ → Bool
begins text = pointwise ◌==◌ (take 3 text) (239 ∷ 187 ∷ 191 ∷ [])

never : (p q : Bool) → (p && (q && false)) ≡ true → ⊥
never true true h = cc
never true false h = cc
never false q h = cc

short : (p : Bool) → (p && false) ≡ true → ⊥
short true h = cc
short false h = cc

whole : (p q r : Bool) (mark bare : List ℕ) → (p && (q && (r && true))) ≡ true → bare ≡ cond (p && q && r) bare mark
whole true true true mark bare h = refl
whole true true false mark bare h = cc
whole true false r mark bare h = cc
whole false q r mark bare h = cc

none : (p q r : Bool) (mark bare : List ℕ) → (p && (q && (r && true))) ≡ false → mark ≡ cond (p && q && r) bare mark
none true true true mark bare h = cc
none true true false mark bare h = refl
none true false r mark bare h = refl
none false q r mark bare h = refl

pub behind_mark : (text : List ℕ) → begins text ≡ true → drop 3 text ≡ strip_bom text
unfolding strip_bom
behind_mark [] h = cc
behind_mark (a ∷ []) h = absurd (short (a == 239) h)
behind_mark (a ∷ b ∷ []) h = absurd (never (a == 239) (b == 187) h)
behind_mark (a ∷ b ∷ c ∷ rest) h = whole (a == 239) (b == 187) (c == 191) (a ∷ b ∷ c ∷ rest) rest h

pub no_mark : (text : List ℕ) → begins text ≡ false → text ≡ strip_bom text
unfolding strip_bom
no_mark [] h = refl
no_mark (a ∷ []) h = refl
no_mark (a ∷ b ∷ []) h = refl
no_mark (a ∷ b ∷ c ∷ rest) h = none (a == 239) (b == 187) (c == 191) (a ∷ b ∷ c ∷ rest) rest h
