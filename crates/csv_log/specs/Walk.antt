-- A reader that has given some of the records of a text.
use Rattle.std.specs.Prelude.{◌≡◌, ℕ, List, [], ◌∷◌, ◌++◌, Bool, true, false, Some}
use denote.Ref.{Bor}
use Rattle.csv.specs.Reading.{Ready, Reached, default_config, is_flexible, records, source_of, strip_bom}
use Rattle.csv.specs.declared.parser.State.TheVariants as st
use Rattle.csv.specs.declared.reader.Reader.{Reader}
use Rattle.csv.specs.declared.reader.Trim.TheVariants as trim

-- the reader has given these records of the text, and goes on behind them
pub record IsReading (text : List ℕ) (rows : List (List (List ℕ))) (reader : Reader (Bor (List ℕ))) : Type 0 where
  pub plain : reader.trim ≡ trim.None
  pub ready : Ready reader
  pub setup : reader.config ≡ default_config
  -- records may differ in length
  pub flexible : is_flexible reader ≡ true
  pub left : List ℕ
  pub source : source_of (λ (s : Bor (List ℕ)). Some s.now) reader ≡ Some left
  pub reached : Reached default_config st.StartRecord (strip_bom text) rows reader.state left

-- what the next read shows: one record more, or that these are all
abbrev pub GoesOn : List ℕ → List (List (List ℕ)) → Bool → List (List ℕ) → Reader (Bor (List ℕ)) → Type 0
GoesOn text rows true fields reader = IsReading text (rows ++ fields ∷ []) reader
GoesOn text rows false fields reader = records default_config (strip_bom text) ≡ rows

-- a read showed whether there is one record more, and went behind it
abbrev pub ReadsRecord : Reader (Bor (List ℕ)) → Reader (Bor (List ℕ)) → Bool → List (List ℕ) → Type 0
ReadsRecord old new found fields = (text : List ℕ) (rows : List (List (List ℕ))) → IsReading text rows old → GoesOn text rows found fields new
