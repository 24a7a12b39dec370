-- What a read does to a reader that has given some of the records.
use Rattle.std.proofs.Common.{◌≡◌, ◌∙◌, ℕ, List, Bool, true, false, Some, Bor, inl}
use Rattle.csv.specs.Reading.{ReadRecord, default_config, strip_bom}
use Rattle.csv.specs.declared.parser.State.TheVariants as st
use Rattle.csv.specs.declared.reader.Reader.{Reader}
use Rattle.csv.proofs.ReadFacts.{rows-end, rows-more}
use Rattle.csv_log.specs.Walk.{IsReading, GoesOn}
use Rattle.csv_log.proofs.Rows.{records_at_end}

pub goes_on : (a b : Reader (Bor (List ℕ))) (text : List ℕ) (rows : List (List (List ℕ))) (fields : List (List ℕ)) (found : Bool)
    → IsReading text rows a → ReadRecord (λ (s : Bor (List ℕ)). Some s.now) a b found fields → b.first ≡ true → b.flexible ≡ a.flexible → GoesOn text rows found fields b
goes_on a b text rows fields true reading read first as_flexible =
    let more = rows-more (λ (s : Bor (List ℕ)). Some s.now) a b fields default_config st.StartRecord (strip_bom text) reading.left rows reading.setup reading.source reading.reached read in
    record {
      plain = read.3 ∙ reading.plain;
      ready = inl first;
      setup = read.2 ∙ reading.setup;
      flexible = as_flexible ∙ reading.flexible;
      left = more.0;
      source = more.1;
      reached = more.2;
    }
goes_on a b text rows fields false reading read first as_flexible =
    records_at_end default_config a.state (strip_bom text) reading.left rows reading.reached
    (rows-end (λ (s : Bor (List ℕ)). Some s.now) a b fields default_config reading.left reading.setup reading.source read)
