-- What the reader has read of a CSV text.
use Rattle.std.proofs.Common.{◌≡◌, ℕ, suc, ◌+◌, List, [], ◌∷◌, ◌++◌, Some, None, Result, Ok, Err, Bool, true, false, IfErr, length, map, option_map, position, sym, ap, ap₂, ◌∙◌, subst, arith, append_assoc}
use Rattle.std.proofs.lemmas.List.{length-map, map-append}
use denote.Ref.{Bor}
use Rattle.std.specs.Option.{option_or}
use Rattle.std.specs.Result.{IsErrAnd}
use Rattle.csv.specs.Reading.{default_config, records, records_from, strip_bom}
use Rattle.csv.specs.declared.reader.Reader.{Reader}
use Rattle.decl_base.specs.declared.limits.Limits.{Limits}
use Rattle.decl_base.specs.declared.refusal.Refusal.{Refusal}
use Rattle.decl_base.specs.declared.refusal.Refusal.TheVariants as refusal
use Rattle.event_log.specs.Logs.{first_seen}
use Rattle.log_columns.specs.declared.Columns.{Columns}
use Rattle.csv_log.specs.declared.collect.Collected.{Collected}
use Rattle.csv_log.specs.declared.places.Places.{Places}
use Rattle.csv_log.specs.declared.row.Fields.{Fields}
use Rattle.csv_log.specs.CsvLog.{CsvCause, activities_of, csv_log, csv_log_of, event_of, field_of, header_of, limit_fault, log_of_events, records_of, row_fault, rows_of, wanted}
use Rattle.csv_log.specs.Kept.{AddsEvent, ArePlaces, CollectCause, Collects, SaysEvent}
use Rattle.csv_log.specs.Walk.{GoesOn, IsReading, ReadsRecord}
use Rattle.csv_log.proofs.Collecting.{OfLimit, collected_count, collects-more, limit_refused, no_limit}
use Rattle.csv_log.proofs.Faults.{AreFaultless, at_fault, fault_here, faultless-push, lacks, no_column, no_fault, whole}
use Rattle.csv_log.proofs.Finishing.{map-map}
use Rattle.csv_log.proofs.Firsts.{err_then}
use Rattle.csv_log.proofs.Rows.{records_so_far}

-- a refusal that the definition gives
pub cause : (outcome : Result (List (List (List ℕ))) Refusal) (e : Refusal) → outcome ≡ Err e → CsvCause outcome e
cause outcome refusal.Memory h = tt
cause outcome e h = h

pub cause_of : (outcome : Result (List (List (List ℕ))) Refusal) (e : Refusal) (P : Type 0) → OfLimit e P → (P → outcome ≡ Err e) → CsvCause outcome e
cause_of outcome refusal.Memory P h gives = tt
cause_of outcome e P h gives = gives h

-- a refusal that is handed on
pub handed_on : {T : Type 0} (outcome : Result (List (List (List ℕ))) Refusal) (result : Result T Refusal) (e : Refusal) → IsErrAnd result (λ x. x ≡ e) → CsvCause outcome e → IfErr result (CsvCause outcome)
handed_on outcome result e same gives = err_then result (λ x. x ≡ e) (CsvCause outcome) same (λ (x : Refusal) is. subst (CsvCause outcome) (sym is) gives)

-- what a read shows, by whether it found a record
shown : (text : List ℕ) (rows : List (List (List ℕ))) (reader next : Reader (Bor (List ℕ))) (found is : Bool) (row : List (List ℕ)) → IsReading text rows reader → ReadsRecord reader next found row → found ≡ is
    → GoesOn text rows is row next
shown text rows reader next found is row reading reads same = subst (λ (found : Bool). GoesOn text rows found row next) same (reads text rows reading)

-- the records that were read are the first of all
all_of : (text : List ℕ) (rows : List (List (List ℕ))) (reader : Reader (Bor (List ℕ))) → IsReading text rows reader
    → (more : List (List (List ℕ))) × (records default_config (strip_bom text) ≡ rows ++ more)
all_of text rows reader reading =
    let far = records_so_far default_config reader.state (strip_bom text) reading.left rows reading.reached in
    (records_from default_config (suc far.0) reader.state reading.left, far.1)

module _ (columns : Columns) (limits : Limits) (bytes : List ℕ) where
  module _ (places : Places) where
    pub record HasRead (reader : Reader (Bor (List ℕ))) (collected : Collected) : Type 0 where
      pub header : List (List ℕ)
      pub rows : List (List (List ℕ))
      pub reading : IsReading (strip_bom bytes) (header ∷ rows) reader
      pub placed : ArePlaces header columns places
      pub present : position (lacks columns limits header) (wanted columns) ≡ None
      pub collects : Collects columns limits (map (event_of columns header) rows) collected
      pub faultless : AreFaultless columns limits header rows

  -- the first read
  module _ (opened : List ℕ) (start next : Reader (Bor (List ℕ))) (found : Bool) (row : List (List ℕ)) (whole_is : opened ≡ strip_bom bytes) (begun : IsReading opened [] start) (reads : ReadsRecord start next found row) where
    first_shown : (is : Bool) → found ≡ is → GoesOn (strip_bom bytes) [] is row next
    first_shown is same = shown (strip_bom bytes) [] start next found is row (subst (λ (text : List ℕ). IsReading text [] start) whole_is begun) reads same

    pub no_record : found ≡ false → csv_log columns limits bytes ≡ Err (refusal.Header 1)
    no_record none = ap (λ l. csv_log_of columns limits (header_of l) (rows_of l)) (first_shown false none) ∙ grind arith

    pub no_such_column : found ≡ true → (e : Refusal) → (i : ℕ) × (position (lacks columns limits row) (wanted columns) ≡ Some i) × (e ≡ refusal.Header (i + 1)) → CsvCause (csv_log columns limits bytes) e
    no_such_column some e missing =
        let all = all_of (strip_bom bytes) (row ∷ []) next (first_shown true some) in
        cause (csv_log columns limits bytes) e (no_column columns limits row bytes all.0 all.1 missing.0 missing.1 ∙ ap Err (sym missing.2))

    pub has_read_header : found ≡ true → (places : Places) (collected : Collected) → ArePlaces row columns places → position (lacks columns limits row) (wanted columns) ≡ None → Collects columns limits [] collected
        → HasRead places next collected
    has_read_header some places collected placed present collects = record {
      header = row;
      rows = [];
      reading = first_shown true some;
      placed = placed;
      present = present;
      collects = collects;
      faultless = λ k inside. absurd (omega arith);
    }

  -- a later read
  module _ (places : Places) (reader next : Reader (Bor (List ℕ))) (collected : Collected) (h : HasRead places reader collected) (found : Bool) (row : List (List ℕ)) (reads : ReadsRecord reader next found row) where
    later_shown : (is : Bool) → found ≡ is → GoesOn (strip_bom bytes) (h.header ∷ h.rows) is row next
    later_shown is same = shown (strip_bom bytes) (h.header ∷ h.rows) reader next found is row h.reading reads same

    module _ (some : found ≡ true) where
      reading : IsReading (strip_bom bytes) ((h.header ∷ h.rows) ++ row ∷ []) next
      reading = later_shown true some

      all : (more : List (List (List ℕ))) × (records_of bytes ≡ h.header ∷ (h.rows ++ row ∷ more))
      all =
          let found = all_of (strip_bom bytes) ((h.header ∷ h.rows) ++ row ∷ []) next reading in
          (found.0, found.1 ∙ append_assoc (h.header ∷ h.rows) (row ∷ []) found.0)

      refused : (e : Refusal)
          → option_or (row_fault columns h.header row (length h.rows + 2)) (limit_fault limits (map (event_of columns h.header) h.rows ++ event_of columns h.header row ∷ [])) ≡ Some e
          → csv_log columns limits bytes ≡ Err e
      refused e found =
          at_fault columns limits h.header bytes (h.rows ++ row ∷ all.0) all.1 e h.present (fault_here columns limits h.header h.rows row all.0 e h.faultless found)

      number_is : length collected.events.items + 2 ≡ length h.rows + 2
      number_is = ap (λ n. n + 2) (collected_count columns limits (map (event_of columns h.header) h.rows) collected h.collects ∙ length-map h.rows (event_of columns h.header))

      pub row_refused : (e : Refusal) (number : ℕ) → number ≡ length collected.events.items + 2 → row_fault columns h.header row number ≡ Some e → CsvCause (csv_log columns limits bytes) e
      row_refused e number is fault =
          let here : row_fault columns h.header row (length h.rows + 2) ≡ Some e = ap (row_fault columns h.header row) (sym (is ∙ number_is)) ∙ fault in
          cause (csv_log columns limits bytes) e (refused e (ap (λ o. option_or o (limit_fault limits (map (event_of columns h.header) h.rows ++ event_of columns h.header row ∷ []))) here))

      module _ (fields : Fields) (says : SaysEvent columns.order_as (event_of columns h.header row) fields) (number : ℕ) (is : number ≡ length collected.events.items + 2)
          (alone : row_fault columns h.header row number ≡ None) where
        no_row_fault : row_fault columns h.header row (length h.rows + 2) ≡ None
        no_row_fault = ap (row_fault columns h.header row) (sym (is ∙ number_is)) ∙ alone

        pub add_refused : (e : Refusal) → CollectCause fields limits collected e → CsvCause (csv_log columns limits bytes) e
        add_refused e why =
            let limit = limit_refused columns limits (map (event_of columns h.header) h.rows) (event_of columns h.header row) fields collected h.collects says e why in
            cause_of (csv_log columns limits bytes) e _ limit (λ fault. refused e (ap₂ option_or no_row_fault fault))

        pub has_read_more : (after : Collected) → AddsEvent fields limits collected after → HasRead places next after
        has_read_more after adds = record {
          header = h.header;
          rows = h.rows ++ row ∷ [];
          reading = reading;
          placed = h.placed;
          present = h.present;
          collects =
              subst (λ l. Collects columns limits l after) (sym (map-append (event_of columns h.header) h.rows (row ∷ [])))
              (collects-more columns limits (map (event_of columns h.header) h.rows) (event_of columns h.header row) fields collected h.collects says
              (λ none. ap (option_map (field_of h.header row)) none) after adds);
          faultless =
              faultless-push columns limits h.header h.rows row h.faultless no_row_fault
              (no_limit columns limits (map (event_of columns h.header) h.rows) (event_of columns h.header row) fields collected h.collects says after adds);
        }

    -- after the last record
    module _ (none : found ≡ false) where
      end : records_of bytes ≡ h.header ∷ h.rows
      end = later_shown false none

      pub is_whole : csv_log columns limits bytes ≡ Ok (log_of_events columns (map (event_of columns h.header) h.rows))
      is_whole = whole columns limits h.header bytes h.rows end h.present (no_fault columns limits h.header h.rows h.faultless)

      pub names_are : first_seen (map (λ event. event.activity) (map (event_of columns h.header) h.rows)) ≡ activities_of columns bytes
      names_are =
          ap first_seen (map-map (event_of columns h.header) (λ event. event.activity) h.rows)
          ∙ ap (λ l. first_seen (map (λ row. field_of (header_of l) row columns.activity) (rows_of l))) (sym end)
