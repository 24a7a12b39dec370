-- The commands and the options of the command line, a row for each.
use Rattle.std.specs.Prelude.{ℕ, List, [], ◌∷◌, Bool, true, false, Option, codes, find}
use Rattle.std.specs.List.{list_any}
use Rattle.std.specs.Str.{bytes_eq}
use Rattle.clap.specs.Words.{Text}
use Rattle.minerful_words.specs.declared.settings.Command.{Command}
use Rattle.minerful_words.specs.declared.settings.Command.TheVariants.{Mine, Kb, Check, Gen, Sample, Verify, Monitor, Compare, Analyse, Regex}
use Rattle.minerful_words.specs.declared.table.Field.{Field}
use Rattle.minerful_words.specs.declared.table.Field.TheVariants as field

-- an option: its number, its name, the commands that take it, and the field of the settings that its text sets
pub record OptionRow : Type 0 where
  pub number : ℕ
  pub name : Text
  pub commands : List Command
  pub field : Field

-- a text that is known by its place among the words: its name, and whether it must be there
pub record PositionalRow : Type 0 where
  pub name : Text
  pub is_required : Bool

-- a command: its name, and its texts by place
pub record CommandRow : Type 0 where
  pub command : Command
  pub name : Text
  pub positionals : List PositionalRow

abbrev option : ℕ → Text → List Command → Field → OptionRow
option number name commands field = record { number = number; name = name; commands = commands; field = field }

-- the commands that read a log
abbrev reading : List Command
reading = Mine ∷ Kb ∷ Check ∷ []

-- the commands that mine a log
abbrev mining : List Command
mining = Mine ∷ []

-- the commands that make an automaton
abbrev pub limited : List Command
limited = Mine ∷ Monitor ∷ Compare ∷ Analyse ∷ []

-- the commands that list the first traces of a model
abbrev pub listing : List Command
listing = Analyse ∷ []

-- the commands that generate a log
abbrev generating : List Command
generating = Gen ∷ Sample ∷ []

-- the commands that write the log that they generate
abbrev writing : List Command
writing = Gen ∷ []

-- the options, in the order in which their texts are tried
unfoldable pub options : List OptionRow
options =
    option 2 (codes "format") reading field.Format
    ∷ option 3 (codes "case-column") reading field.CaseColumn
    ∷ option 4 (codes "activity-column") reading field.ActivityColumn
    ∷ option 5 (codes "order-column") reading field.OrderColumn
    ∷ option 6 (codes "order-as") reading field.OrderAs
    ∷ option 7 (codes "support") mining field.Support
    ∷ option 8 (codes "confidence") mining field.Confidence
    ∷ option 9 (codes "interest") mining field.Interest
    ∷ option 10 (codes "max-states") limited field.States
    ∷ option 11 (codes "stage") mining field.Stage
    ∷ option 12 (codes "out") mining field.Out
    ∷ option 13 (codes "seed") generating field.Seed
    ∷ option 14 (codes "traces") writing field.Traces
    ∷ option 15 (codes "length") writing field.Length
    ∷ option 16 (codes "letters") writing field.Letters
    ∷ option 19 (codes "repertoire") mining field.Repertoire
    ∷ option 20 (codes "on-limit") mining field.OnLimit
    ∷ option 21 (codes "first") listing field.First
    ∷ []

-- the model, which must be there; to `verify` it is a certificate, to `compare` the first model, to `regex` the name of
-- a template
abbrev model : PositionalRow
model = record { name = codes "model"; is_required = true }

-- the log, which need not be there
abbrev log : PositionalRow
log = record { name = codes "log"; is_required = false }

-- the second model of a comparison, which must be there; it stands in the log's place
abbrev pub second_model : PositionalRow
second_model = record { name = codes "log"; is_required = true }

-- the word that an expression is tried on, which need not be there
abbrev word : PositionalRow
word = record { name = codes "word"; is_required = false }

unfoldable pub commands : List CommandRow
commands =
    record { command = Mine; name = codes "mine"; positionals = log ∷ [] }
    ∷ record { command = Kb; name = codes "kb"; positionals = log ∷ [] }
    ∷ record { command = Check; name = codes "check"; positionals = model ∷ log ∷ [] }
    ∷ record { command = Gen; name = codes "gen"; positionals = [] }
    ∷ record { command = Sample; name = codes "sample"; positionals = [] }
    ∷ record { command = Verify; name = codes "verify"; positionals = model ∷ [] }
    ∷ record { command = Monitor; name = codes "monitor"; positionals = model ∷ log ∷ [] }
    ∷ record { command = Compare; name = codes "compare"; positionals = model ∷ second_model ∷ [] }
    ∷ record { command = Analyse; name = codes "analyse"; positionals = model ∷ [] }
    ∷ record { command = Regex; name = codes "regex"; positionals = model ∷ word ∷ [] }
    ∷ []

-- the command of this name
unfoldable pub row_named : Text → Option CommandRow
row_named text = find (λ row. bytes_eq row.name text) commands

abbrev pub is_command : Command → Command → Bool
is_command Mine Mine = true
is_command Kb Kb = true
is_command Check Check = true
is_command Gen Gen = true
is_command Sample Sample = true
is_command Verify Verify = true
is_command Monitor Monitor = true
is_command Compare Compare = true
is_command Analyse Analyse = true
is_command Regex Regex = true
is_command _ _ = false

-- whether the command takes the option
abbrev pub takes : Command → OptionRow → Bool
takes command option = list_any (is_command command) option.commands
