-- The lines that a line feed ended among the bytes that were taken.
use Rattle.std.proofs.Common.{◌≡◌, ℕ, zero, suc, ◌+◌, ◌<◌, ◌≤◌, List, [], ◌∷◌, ◌++◌, Bool, true, false, cond, eqb, Option, None, Some, All, length, take, drop, refl, sym, ap, ap₂, subst, ◌∙◌, arith, append-nil, append_assoc, ⊎_elim, true≢false}
use Rattle.std.specs.Prelude.{option_and_then, slice_get, filter}
use Rattle.std.specs.Io.KnownBytes.{prepend_known}
use Rattle.std.specs.List.{flat_map, join_with_byte, slice_split}
use Rattle.std.proofs.lemmas.Bool.{cases_lt}
use Rattle.std.proofs.lemmas.Bool.Decides.{nat_tests}
use Rattle.std.proofs.lemmas.Grind.{flat_map-append}
use Rattle.std.proofs.lemmas.List.{get_or-take, length-take-le, take-append-le}
use Rattle.std.proofs.lemmas.List.Elements.{filter-append}
use Rattle.std.proofs.lemmas.List.Splits.{join_with_byte-slice_split, length-slice_split, slice_split_at}
use Rattle.std.proofs.lemmas.List.Sums.{fails_before_first}
use Rattle.decl_base.specs.declared.limits.Limits.{Limits}
use Rattle.decl_outside.specs.Lines.{Piece, pieces, pieces_of_parts, line_length, HasNoFeed}
use Rattle.decl_outside.proofs.Lining.{line_length-within, pieces-first, pieces-last}
use Rattle.strings_log.specs.Reading.{ended_lines, TookNoFault}
use Rattle.strings_log.specs.StringLog.{fault_at, fault_behind, first_fault}
use Rattle.strings_log.proofs.Faults.{Faultless, none_found}

abbrev is_feed : ℕ → Bool
is_feed b = eqb b 10

-- a line feed ended each of these
abbrev pub AreEnded : List Piece → Type 0
AreEnded [] = Unit {0}
AreEnded (piece ∷ done) = (piece.is_ended ≡ true) × AreEnded done

pub AreEnded-push : (done : List Piece) (piece : Piece) → AreEnded done → piece.is_ended ≡ true → AreEnded (done ++ piece ∷ [])
AreEnded-push [] piece h ended = (ended, tt)
AreEnded-push (first ∷ done) piece h ended = (h.0, AreEnded-push done piece h.1 ended)

-- ---- pieces, put together again

abbrev bytes_of_piece : Piece → List ℕ
bytes_of_piece piece = cond piece.is_ended (piece.bytes ++ 10 ∷ []) piece.bytes

abbrev bytes_of : List Piece → List ℕ
bytes_of done = flat_map bytes_of_piece done

not_zero : (n : ℕ) → 0 < n → eqb n 0 ≡ false
not_zero n h = grind (arith, nat_tests)

bytes_of-parts : (parts : List (List ℕ)) → bytes_of (pieces_of_parts parts) ≡ join_with_byte 10 parts
bytes_of-parts [] = refl
bytes_of-parts ([] ∷ []) = refl
bytes_of-parts ((b ∷ part) ∷ []) =
    ap (λ v. bytes_of (cond v [] (record { bytes = b ∷ part; is_ended = false } ∷ []))) (not_zero (suc (length part)) (omega arith)) ∙ append-nil (b ∷ part)
bytes_of-parts (part ∷ next ∷ parts) =
    append_assoc part (10 ∷ []) (bytes_of (pieces_of_parts (next ∷ parts))) ∙ ap (λ l. part ++ 10 ∷ l) (bytes_of-parts (next ∷ parts))

bytes_of-pieces : (bytes : List ℕ) → bytes_of (pieces bytes) ≡ bytes
bytes_of-pieces bytes = bytes_of-parts (slice_split is_feed bytes) ∙ join_with_byte-slice_split 10 bytes

-- ---- the first piece

module _ (piece : Piece) (others : List Piece) (ended : piece.is_ended ≡ true) where
  -- it ends at the first line feed
  first_ended : (bytes : List ℕ) → pieces bytes ≡ piece ∷ others
      → (piece.bytes ≡ take (line_length bytes) bytes) × (others ≡ pieces (drop (line_length bytes + 1) bytes)) × (line_length bytes < length bytes)
  first_ended [] h = absurd (cc)
  first_ended (b ∷ bytes) h = ⊎_elim inside all (cases_lt (line_length (b ∷ bytes)) (length (b ∷ bytes)))
    where
      inside : line_length (b ∷ bytes) < length (b ∷ bytes)
          → (piece.bytes ≡ take (line_length (b ∷ bytes)) (b ∷ bytes)) × (others ≡ pieces (drop (line_length (b ∷ bytes) + 1) (b ∷ bytes))) × (line_length (b ∷ bytes) < length (b ∷ bytes))
      inside k =
          let first = pieces-first (b ∷ bytes) k in
          let same : piece ≡ record { bytes = take (line_length (b ∷ bytes)) (b ∷ bytes); is_ended = true } = cc in
          (ap (λ p. p.bytes) same, cc, k)

      all : {A : Type 0} → length (b ∷ bytes) ≤ line_length (b ∷ bytes) → A
      all k =
          let within = line_length-within (b ∷ bytes) in
          let last = pieces-last (b ∷ bytes) (omega arith) (omega arith) in
          let same : piece ≡ record { bytes = b ∷ bytes; is_ended = false } = cc in
          absurd (true≢false (sym ended ∙ ap (λ p. p.is_ended) same))

no_feed_before : (bytes : List ℕ) → line_length bytes < length bytes → All (λ b. is_feed b ≡ false) (take (line_length bytes) bytes)
no_feed_before bytes h = λ k d inside.
    let below : k < line_length bytes = omega (arith, inside, length-take-le (line_length bytes) bytes (omega arith)) in
    ap is_feed (get_or-take (line_length bytes) bytes k d below) ∙ fails_before_first is_feed bytes k d below

cut : (front more : List ℕ) → All (λ b. is_feed b ≡ false) front → pieces (front ++ 10 ∷ more) ≡ record { bytes = front; is_ended = true } ∷ pieces more
cut front more none = ap pieces_of_parts (slice_split_at is_feed front 10 more none refl) ∙ first (slice_split is_feed more) (omega (arith, length-slice_split is_feed more))
  where
    first : (parts : List (List ℕ)) → 0 < length parts → pieces_of_parts (front ∷ parts) ≡ record { bytes = front; is_ended = true } ∷ pieces_of_parts parts
    first [] h = absurd (omega arith)
    first (next ∷ parts) h = refl

-- ended pieces of some bytes are pieces whatever stands behind them
pieces-more : (done : List Piece) (bytes left more : List ℕ) → AreEnded done → pieces bytes ≡ done ++ pieces left → pieces (bytes_of done ++ more) ≡ done ++ pieces more
pieces-more [] bytes left more ended is = refl
pieces-more (piece ∷ done) bytes left more ended is =
    let first = first_ended piece (done ++ pieces left) ended.0 bytes is in
    let none : All (λ b. is_feed b ≡ false) piece.bytes = subst (All (λ b. is_feed b ≡ false)) (sym first.0) (no_feed_before bytes first.2) in
    ap (λ b. pieces ((cond b (piece.bytes ++ 10 ∷ []) piece.bytes ++ bytes_of done) ++ more)) ended.0
    ∙ ap pieces (append_assoc (piece.bytes ++ 10 ∷ []) (bytes_of done) more ∙ append_assoc piece.bytes (10 ∷ []) (bytes_of done ++ more))
    ∙ cut piece.bytes (bytes_of done ++ more) none
    ∙ ap₂ (λ (b : Bool) (l : List Piece). record { bytes = piece.bytes; is_ended = b } ∷ l) (sym ended.0) (pieces-more done (drop (line_length bytes + 1) bytes) left more ended.1 (sym first.1))

-- ---- the lines that were ended

filter-ended : (done : List Piece) → AreEnded done → filter (λ piece. piece.is_ended) done ≡ done
filter-ended [] ended = refl
filter-ended (piece ∷ done) ended =
    ap (λ b. cond b (piece ∷ filter (λ piece. piece.is_ended) done) (filter (λ piece. piece.is_ended) done)) ended.0 ∙ ap (λ l. piece ∷ l) (filter-ended done ended.1)

ended_lines-none : (held : List ℕ) → HasNoFeed held → ended_lines held ≡ []
ended_lines-none [] none = refl
ended_lines-none (b ∷ held) none = ap (filter (λ piece. piece.is_ended)) (pieces-last (b ∷ held) none (omega arith))

ended_lines-taken : (done : List Piece) (bytes left held : List ℕ) → AreEnded done → pieces bytes ≡ done ++ pieces left → HasNoFeed held → ended_lines (bytes_of done ++ held) ≡ done
ended_lines-taken done bytes left held ended is none =
    ap (filter (λ piece. piece.is_ended)) (pieces-more done bytes left held ended is)
    ∙ filter-append (λ piece. piece.is_ended) done (pieces held)
    ∙ ap₂ (λ l m. l ++ m) (filter-ended done ended) (ended_lines-none held none)
    ∙ append-nil done

slice_get-append : {X : Type 0} (xs ys : List X) (i : ℕ) → i < length xs → slice_get (xs ++ ys) i ≡ slice_get xs i
slice_get-append [] ys i h = absurd (omega arith)
slice_get-append (x ∷ xs) ys zero h = refl
slice_get-append (x ∷ xs) ys (suc i) h = slice_get-append xs ys i (omega arith)

-- lines behind them change nothing
first_fault-none : (limits : Limits) (lines done others : List Piece) → lines ≡ done ++ others → Faultless limits lines (length done) → first_fault limits done ≡ None
first_fault-none limits lines done others is faultless = none_found (fault_at limits done) 0 (length done) (λ place below.
    let inside : place < length done = omega (arith, below) in
    ap₂ (λ l o. option_and_then (fault_behind limits l) o) (sym (take-append-le place done others (omega (arith, inside)))) (sym (slice_get-append done others place inside))
    ∙ ap (λ l. fault_at limits l place) (sym is) ∙ faultless place inside)

-- lines that were ended were taken, and then bytes without a line feed
pub lines_taken : (bytes left held : List ℕ) (after : Option (List ℕ)) (done : List Piece) → AreEnded done → pieces bytes ≡ done ++ pieces left → HasNoFeed held → prepend_known held after ≡ Some left
    → (taken : List ℕ) × (Some bytes ≡ prepend_known taken after) × (ended_lines taken ≡ done)
lines_taken bytes left held None done ended is none rest = absurd (cc)
lines_taken bytes left held (Some unread) done ended is none rest =
    let left_is : held ++ unread ≡ left = cc in (
      bytes_of done ++ held,
      ap Some (sym (bytes_of-pieces bytes) ∙ ap bytes_of is ∙ flat_map-append bytes_of_piece done (pieces left)
          ∙ ap (λ l. bytes_of done ++ l) (bytes_of-pieces left ∙ sym left_is) ∙ sym (append_assoc (bytes_of done) held unread)),
      ended_lines-taken done bytes left held ended is none,
    )

-- those lines aren't at fault where no line before them is
pub took_no_fault : (limits : Limits) (bytes left held : List ℕ) (after : Option (List ℕ)) (done : List Piece) → AreEnded done → pieces bytes ≡ done ++ pieces left
    → Faultless limits (pieces bytes) (length done) → HasNoFeed held → prepend_known held after ≡ Some left → TookNoFault limits (Some bytes) after
took_no_fault limits bytes left held after done ended is faultless none rest =
    let front = lines_taken bytes left held after done ended is none rest in
    (front.0, front.1, ap (first_fault limits) front.2 ∙ first_fault-none limits (pieces bytes) done (pieces left) is faultless)
