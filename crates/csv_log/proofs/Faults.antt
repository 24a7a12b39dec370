-- The first fault of the rows.
use Rattle.std.proofs.Common.{◌≡◌, ℕ, zero, suc, ◌+◌, ◌<◌, ◌≤◌, ◌⊎◌, inl, inr, Bool, not, List, [], ◌∷◌, ◌++◌, Option, Some, None, Ok, Err, length, map, get_or, take, position, refl, ap, ap₂, ◌∙◌, arith, length-append}
use Rattle.std.proofs.lemmas.Bool.{cases_lt}
use Rattle.std.proofs.lemmas.List.{get_or_append_left, map-append, take-append-le}
use Rattle.std.specs.List.{range_with_len}
use Rattle.std.specs.Option.{option_or}
use Rattle.decl_base.specs.declared.limits.Limits.{Limits}
use Rattle.decl_base.specs.declared.refusal.Refusal.{Refusal}
use Rattle.decl_base.specs.declared.refusal.Refusal.TheVariants as refusal
use Rattle.event_log.specs.Logs.{has_name}
use Rattle.log_columns.specs.declared.Columns.{Columns}
use Rattle.csv_log.specs.CsvLog.{csv_log, csv_log_of, decided, event_of, fault_at, first_fault, first_some, header_of, limit_fault, log_of_events, records_of, row_fault, rows_of, wanted}

module _ (f : ℕ → Option Refusal) where
  first-none : (a n : ℕ) → ((k : ℕ) → a ≤ k → k < a + n → f k ≡ None) → first_some (map f (range_with_len a n)) ≡ None
  first-none a zero none = refl
  first-none a (suc n) none =
      ap (λ o. option_or o (first_some (map f (range_with_len (a + 1) n)))) (none a (omega arith) (omega arith))
      ∙ first-none (a + 1) n (λ k low high. none k (omega arith) (omega arith))

  first-found : (a m n : ℕ) (e : Refusal) → ((k : ℕ) → a ≤ k → k < a + m → f k ≡ None) → m < n → f (a + m) ≡ Some e → first_some (map f (range_with_len a n)) ≡ Some e
  first-found a m zero e none inside here = absurd (omega arith)
  first-found a zero (suc n) e none inside here =
      ap (λ o. option_or o (first_some (map f (range_with_len (a + 1) n)))) (ap f {x = a} {y = a + 0} (omega arith) ∙ here)
  first-found a (suc m) (suc n) e none inside here =
      ap (λ o. option_or o (first_some (map f (range_with_len (a + 1) n)))) (none a (omega arith) (omega arith))
      ∙ first-found (a + 1) m n e (λ k low high. none k (omega arith) (omega arith)) (omega arith) (ap f {x = a + 1 + m} {y = a + suc m} (omega arith) ∙ here)

get_or-there : {X : Type 0} (xs : List X) (x : X) (ys : List X) (d : X) → get_or (xs ++ x ∷ ys) (length xs) d ≡ x
get_or-there [] x ys d = refl
get_or-there (z ∷ xs) x ys d = get_or-there xs x ys d

take-there : {X : Type 0} (xs : List X) (x : X) (ys : List X) → take (length xs + 1) (xs ++ x ∷ ys) ≡ xs ++ x ∷ []
take-there [] x ys = refl
take-there (z ∷ xs) x ys = let one : suc (length xs) + 1 ≡ suc (length xs + 1) = omega arith in rw one (ap (λ l. z ∷ l) (take-there xs x ys))

module _ (columns : Columns) (limits : Limits) (header : List (List ℕ)) where
  abbrev pub AreFaultless : List (List (List ℕ)) → Type 0
  AreFaultless rows = (k : ℕ) → k < length rows → fault_at columns limits header rows k ≡ None

  before : (rows more : List (List (List ℕ))) (k : ℕ) → k < length rows → fault_at columns limits header (rows ++ more) k ≡ fault_at columns limits header rows k
  before rows more k inside =
      ap₂ (λ row front. option_or (row_fault columns header row (k + 2)) (limit_fault limits (map (event_of columns header) front)))
      (get_or_append_left rows more [] k inside) (take-append-le (k + 1) rows more (omega arith))

  here : (rows : List (List (List ℕ))) (row : List (List ℕ)) (more : List (List (List ℕ)))
      → fault_at columns limits header (rows ++ row ∷ more) (length rows)
      ≡ option_or (row_fault columns header row (length rows + 2)) (limit_fault limits (map (event_of columns header) rows ++ event_of columns header row ∷ []))
  here rows row more =
      ap₂ (λ r front. option_or (row_fault columns header r (length rows + 2)) (limit_fault limits front))
      (get_or-there rows row more []) (ap (map (event_of columns header)) (take-there rows row more) ∙ map-append (event_of columns header) rows (row ∷ []))

  pub faultless-push : (rows : List (List (List ℕ))) (row : List (List ℕ)) → AreFaultless rows → row_fault columns header row (length rows + 2) ≡ None
      → limit_fault limits (map (event_of columns header) rows ++ event_of columns header row ∷ []) ≡ None → AreFaultless (rows ++ row ∷ [])
  faultless-push rows row none alone limit k inside = at (cases_lt k (length rows))
    where
      at : (k < length rows) ⊎ (length rows ≤ k) → fault_at columns limits header (rows ++ row ∷ []) k ≡ None
      at (inl front) = before rows (row ∷ []) k front ∙ none k front
      at (inr behind) =
          let end : k ≡ length rows = omega (arith, length-append rows (row ∷ [])) in
          ap (fault_at columns limits header (rows ++ row ∷ [])) end ∙ here rows row [] ∙ ap₂ option_or alone limit

  pub no_fault : (rows : List (List (List ℕ))) → AreFaultless rows → first_fault columns limits header rows ≡ None
  no_fault rows none = first-none (fault_at columns limits header rows) 0 (length rows) (λ k low high. none k (omega arith))

  pub fault_here : (rows : List (List (List ℕ))) (row : List (List ℕ)) (more : List (List (List ℕ))) (e : Refusal) → AreFaultless rows
      → option_or (row_fault columns header row (length rows + 2)) (limit_fault limits (map (event_of columns header) rows ++ event_of columns header row ∷ [])) ≡ Some e
      → first_fault columns limits header (rows ++ row ∷ more) ≡ Some e
  fault_here rows row more e none found =
      first-found (fault_at columns limits header (rows ++ row ∷ more)) 0 (length rows) (length (rows ++ row ∷ more)) e
      (λ k low high. before rows (row ∷ more) k (omega arith) ∙ none k (omega arith)) (omega (arith, length-append rows (row ∷ more)))
      (ap (fault_at columns limits header (rows ++ row ∷ more)) {x = 0 + length rows} {y = length rows} (omega arith) ∙ here rows row more ∙ found)

  abbrev pub lacks : List ℕ → Bool
  lacks name = not (has_name header name)

  module _ (bytes : List ℕ) (rows : List (List (List ℕ))) (all : records_of bytes ≡ header ∷ rows) where
    parts : csv_log columns limits bytes ≡ csv_log_of columns limits header rows
    parts = ap (λ l. csv_log_of columns limits (header_of l) (rows_of l)) all

    pub no_column : (i : ℕ) → position lacks (wanted columns) ≡ Some i → csv_log columns limits bytes ≡ Err (refusal.Header (i + 1))
    no_column i h = parts ∙ ap (λ o. decided o (first_fault columns limits header rows) (log_of_events columns (map (event_of columns header) rows))) h

    pub at_fault : (e : Refusal) → position lacks (wanted columns) ≡ None → first_fault columns limits header rows ≡ Some e → csv_log columns limits bytes ≡ Err e
    at_fault e present fault = parts ∙ ap₂ (λ o f. decided o f (log_of_events columns (map (event_of columns header) rows))) present fault

    pub whole : position lacks (wanted columns) ≡ None → first_fault columns limits header rows ≡ None → csv_log columns limits bytes ≡ Ok (log_of_events columns (map (event_of columns header) rows))
    whole present none = parts ∙ ap₂ (λ o f. decided o f (log_of_events columns (map (event_of columns header) rows))) present none
