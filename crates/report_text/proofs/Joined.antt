-- Pieces that are put behind each other, and the names among them.
use Rattle.std.proofs.Common.{◌≡◌, ℕ, zero, suc, ◌<◌, ◌+◌, List, [], ◌∷◌, ◌++◌, map, length, get_or, sym, ap, ◌∙◌, append_assoc, append-nil, arith}
use Rattle.std.specs.List.{flat_map, range_with_len}
use Rattle.std.proofs.lemmas.List.{length-map}
use Rattle.std.proofs.lemmas.Grind.{flat_map-append}
use Rattle.interplay_kb.proofs.Ranges.{range_more}
use Rattle.report_text.specs.Fields.{quoted}

pub two : (old a : List ℕ) (c : ℕ) (b : List ℕ) → ((old ++ a) ++ c ∷ []) ++ b ≡ old ++ (a ++ c ∷ b)
two old a c b = simp append_assoc

pub three : (old a b c : List ℕ) → ((old ++ a) ++ b) ++ c ≡ old ++ ((a ++ b) ++ c)
three old a b c = simp append_assoc

pub four : (old a b c d : List ℕ) → (((old ++ a) ++ b) ++ c) ++ d ≡ old ++ (((a ++ b) ++ c) ++ d)
four old a b c d = simp append_assoc

pub five : (old a b c d e : List ℕ) → ((((old ++ a) ++ b) ++ c) ++ d) ++ e ≡ old ++ ((((a ++ b) ++ c) ++ d) ++ e)
five old a b c d e = simp append_assoc

-- the bytes of the text at a rank
pub name_at : {X : Type 0} (bytes : X → List ℕ) (texts : List X) (names : List (List ℕ)) → map bytes texts ≡ map quoted names
    → (rank : ℕ) (text : X) → rank < length texts → text ≡ get_or texts rank text → bytes text ≡ quoted (get_or names rank [])
name_at bytes [] names e rank text h is = absurd (omega arith)
name_at bytes (t ∷ texts) [] e rank text h is = absurd (cc)
name_at bytes (t ∷ texts) (n ∷ names) e zero text h is = ap bytes is ∙ cc
name_at bytes (t ∷ texts) (n ∷ names) e (suc rank) text h is = name_at bytes texts names (cc) rank text (omega arith) is

-- one more element, and its line
pub line_more : {X : Type 0} (line : X → List ℕ) (old done now : List ℕ) (before after : List X) (x : X) → after ≡ before ++ x ∷ []
    → done ≡ old ++ flat_map line before → now ≡ done ++ line x → now ≡ old ++ flat_map line after
line_more line old done now before after x grown so_far more =
    more ∙ ap (λ xs. xs ++ line x) so_far ∙ append_assoc old (flat_map line before) (line x)
    ∙ ap (λ xs. old ++ xs) (sym (ap (flat_map line) grown ∙ flat_map-append line before (x ∷ []) ∙ ap (λ xs. flat_map line before ++ xs) (append-nil (line x))))

-- one line more, and one less to come
pub line_moved : {X : Type 0} (line : X → List ℕ) (done now : List ℕ) (x : X) (rest after : List X) (all : List ℕ) → rest ≡ x ∷ after → now ≡ done ++ line x
    → done ++ flat_map line rest ≡ all → now ++ flat_map line after ≡ all
line_moved line done now x rest after all rest_is more so_far =
    ap (λ l. l ++ flat_map line after) more ∙ append_assoc done (line x) (flat_map line after) ∙ ap (λ l. done ++ flat_map line l) (sym rest_is) ∙ so_far

-- one number more from 0, and its line
pub piece_more : (f : ℕ → List ℕ) (old done now : List ℕ) (n : ℕ) → done ≡ old ++ flat_map f (range_with_len 0 n) → now ≡ done ++ f n
    → now ≡ old ++ flat_map f (range_with_len 0 (n + 1))
piece_more f old done now n before more = line_more f old done now (range_with_len 0 n) (range_with_len 0 (n + 1)) n (range_more n) before more

pub same_long : {X : Type 0} (bytes : X → List ℕ) (texts : List X) (names : List (List ℕ)) → map bytes texts ≡ map quoted names → length texts ≡ length names
same_long bytes texts names e = sym (length-map texts bytes) ∙ ap length e ∙ length-map names quoted
