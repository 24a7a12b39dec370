-- The settings that the words of the command line give, or the place of their fault.
use Rattle.std.specs.Prelude.{◌≡◌, ◌≤◌, ◌*◌, ℕ, List, [], ◌∷◌, codes, Bool, true, false, ◌&&◌, not, nat_le, Option, Some, None, IsSome, Result, Ok, Err, unwrap_or, option_map, if◌then◌else◌}
use Rattle.std.specs.Option.{ok_or}
use Rattle.std.specs.Str.{bytes_eq}
use Rattle.clap.specs.Words.{Row, Text, first_of}
use Rattle.decl_base.specs.Limits.{greatest_state_limit, standard}
use Rattle.decl_base.specs.Threshold.{threshold_of}
use Rattle.decl_base.specs.declared.refusal.Refusal.{Refusal}
use Rattle.decl_base.specs.declared.refusal.Refusal.TheVariants.{Usage, Memory}
use Rattle.decl_base.specs.declared.threshold.Threshold.{Threshold}
use Rattle.decl_base.specs.declared.threshold.Thresholds.{Thresholds}
use Rattle.log_columns.specs.declared.Columns.{Columns}
use Rattle.log_columns.specs.declared.OrderAs.TheVariants as order
use Rattle.template_core.specs.declared.kind.Kind.{Kind}
use Rattle.template_core.specs.declared.repertoire.Repertoire.TheVariants as repertoire
use Rattle.minerful_words.specs.Apps.{app_for, taken}
use Rattle.minerful_words.specs.Grammars.{IsBetween, number_between, most_seed, most_traces, most_length, most_letters, most_listed, format_of, order_as_of, stage_of, out_of, repertoire_of, keep_of}
use Rattle.minerful_words.specs.Templates.{kind_named, is_word_if_any}
use Rattle.minerful_words.specs.Table.{OptionRow, options, row_named, takes, is_command}
use Rattle.minerful_words.specs.declared.settings.Command.{Command}
use Rattle.minerful_words.specs.declared.settings.Command.TheVariants.{Mine, Kb, Check, Gen, Sample, Verify, Monitor, Compare, Analyse, Regex}
use Rattle.minerful_words.specs.declared.settings.Format.TheVariants as format
use Rattle.minerful_words.specs.declared.settings.Stage.{Stage}
use Rattle.minerful_words.specs.declared.settings.Stage.TheVariants as stage
use Rattle.minerful_words.specs.declared.settings.Out.{Out}
use Rattle.minerful_words.specs.declared.settings.Out.TheVariants as out
use Rattle.minerful_words.specs.declared.settings.Settings.{Settings}
use Rattle.minerful_words.specs.declared.table.Field.{Field}
use Rattle.minerful_words.specs.declared.table.Field.TheVariants as field

-- the first fault decides
infixl 10 ◌>>=◌
abbrev pub ◌>>=◌ : {A B : Type 0} → Result A ℕ → (A → Result B ℕ) → Result B ℕ
(Ok x) >>= f = f x
(Err at) >>= f = Err at

-- ---- what is not given

abbrev pub default_columns : Columns
default_columns = record { case = codes "case"; activity = codes "activity"; order = None; order_as = order.Text }

abbrev pub default_thresholds : Thresholds
default_thresholds = record {
  support = record { millionths = 950000 };
  confidence = record { millionths = 250000 };
  interest = record { millionths = 125000 };
}

abbrev pub default_states : ℕ
default_states = standard.states

-- the name of standard input
abbrev pub standard_input : Text
standard_input = codes "-"

-- the settings of a command before its options are looked at: a log that isn't named is standard input, and a model
-- that isn't named has the empty name
unfoldable pub without_options : Command → List Row → Settings
without_options command found = record {
  command = command;
  model = unwrap_or (first_of (codes "model") found) [];
  log = unwrap_or (first_of (codes "log") found) standard_input;
  format = format.Strings;
  columns = default_columns;
  thresholds = default_thresholds;
  states = default_states;
  stage = stage.Model;
  out = out.Json;
  seed = 0;
  traces = 100;
  length = 10;
  letters = 4;
  repertoire = repertoire.First;
  keep = false;
  first = 3;
  word = first_of (codes "word") found;
}

-- ---- what is given

abbrev pub read_threshold : Text → Option Threshold
read_threshold text = option_map (λ n. record { millionths = n }) (threshold_of text)

-- the settings with a field set to the value of a text, where it is in the field's grammar; any text names a column
unfoldable pub put : Field → Text → Settings → Option Settings
put field.Format text s = option_map (λ v. record s { format = v }) (format_of text)
put field.CaseColumn text s = Some (record s { columns = record s.columns { case = text } })
put field.ActivityColumn text s = Some (record s { columns = record s.columns { activity = text } })
put field.OrderColumn text s = Some (record s { columns = record s.columns { order = Some text } })
put field.OrderAs text s = option_map (λ v. record s { columns = record s.columns { order_as = v } }) (order_as_of text)
put field.Support text s = option_map (λ v. record s { thresholds = record s.thresholds { support = v } }) (read_threshold text)
put field.Confidence text s = option_map (λ v. record s { thresholds = record s.thresholds { confidence = v } }) (read_threshold text)
put field.Interest text s = option_map (λ v. record s { thresholds = record s.thresholds { interest = v } }) (read_threshold text)
put field.States text s = option_map (λ v. record s { states = v }) (number_between 1 greatest_state_limit text)
put field.Stage text s = option_map (λ v. record s { stage = v }) (stage_of text)
put field.Out text s = option_map (λ v. record s { out = v }) (out_of text)
put field.Seed text s = option_map (λ v. record s { seed = v }) (number_between 0 most_seed text)
put field.Traces text s = option_map (λ v. record s { traces = v }) (number_between 0 most_traces text)
put field.Length text s = option_map (λ v. record s { length = v }) (number_between 1 most_length text)
put field.Letters text s = option_map (λ v. record s { letters = v }) (number_between 1 most_letters text)
put field.Repertoire text s = option_map (λ v. record s { repertoire = v }) (repertoire_of text)
put field.OnLimit text s = option_map (λ v. record s { keep = v }) (keep_of text)
put field.First text s = option_map (λ v. record s { first = v }) (number_between 0 most_listed text)

-- the text of an option among those found: none where the command doesn't take it
abbrev pub text_for : Command → List Row → OptionRow → Option Text
text_for command found option = if takes command option then first_of option.name found else None

-- an option without a text changes nothing; a text that isn't in the grammar is a fault at the option's number
abbrev pub with_text : OptionRow → Option Text → Settings → Result Settings ℕ
with_text option None s = Ok s
with_text option (Some text) s = ok_or (put option.field text s) option.number

-- the settings with the texts of these options, one after the other
unfoldable pub with_texts : List OptionRow → Command → List Row → Settings → Result Settings ℕ
with_texts [] command found s = Ok s
with_texts (option ∷ rest) command found s = do
  next ← with_text option (text_for command found option) s
  with_texts rest command found next

-- ---- what the settings have together

-- the commands of two inputs
abbrev pub reads_two : Command → Bool
reads_two Check = true
reads_two Monitor = true
reads_two Compare = true
reads_two _ = false

-- the command has two inputs, and both are standard input
abbrev pub reads_standard_input_twice : Settings → Bool
reads_standard_input_twice s = reads_two s.command && bytes_eq s.model standard_input && bytes_eq s.log standard_input

-- the greatest number of events that a log may be generated with
abbrev pub most_events : ℕ
most_events = standard.events

-- the generated log has few enough events, however long its traces get
abbrev pub is_log_small : Settings → Bool
is_log_small s = nat_le (s.traces * s.length) most_events

-- a certificate is of the model, with each constraint tested
abbrev pub can_certify : Out → Stage → Bool → Bool
can_certify out.Cert stage.Model keep = not keep
can_certify out.Cert stage keep = false
can_certify out stage keep = true

-- the template is known, and the word is one of its letters
abbrev pub with_template : Settings → Option Kind → Result Settings ℕ
with_template s None = Err 22
with_template s (Some kind) = if is_word_if_any kind s.word then Ok s else Err 23

-- where an expression is asked for, its template is known
abbrev pub expression_asked : Settings → Result Settings ℕ
expression_asked s = if is_command Regex s.command then with_template s (kind_named s.model) else Ok s

-- standard input is read once, a generated log is small enough, a certificate is of a whole model, and an expression is
-- that of a template
unfoldable pub together : Settings → Result Settings ℕ
together s =
    if reads_standard_input_twice s then Err 17
    else (if not (is_log_small s) then Err 18
    else (if can_certify s.out s.stage s.keep then expression_asked s else Err 24))

unfoldable pub settings_in : Command → List Row → Result Settings ℕ
settings_in command found = with_texts options command found (without_options command found) >>= together

-- The settings, or a number: 0 where the first word names no command; else 1 where the command doesn't take the
-- words; else the least number of an option whose text isn't in its grammar; else 17 where a command of two inputs reads
-- standard input twice; else 18 where a generated log may have too many events; else 24 where a certificate is asked of
-- another stage than the model's, or of a run that keeps on at the limit; else 22 where an expression is asked for and
-- the name is no template's; else 23 where its word is too long or has a letter that the template doesn't have.
unfoldable pub settings : List Text → Result Settings ℕ
settings [] = Err 0
settings (word ∷ words) = do
  row ← ok_or (row_named word) 0
  found ← taken (app_for row) (word ∷ words)
  settings_in row.command found

-- the names of the inputs that a command reads, in the order in which it reads them
abbrev pub inputs_for : Command → Settings → List Text
inputs_for Mine settings = settings.log ∷ []
inputs_for Kb settings = settings.log ∷ []
inputs_for Check settings = settings.model ∷ settings.log ∷ []
inputs_for Gen settings = []
inputs_for Sample settings = []
inputs_for Verify settings = settings.model ∷ []
inputs_for Monitor settings = settings.model ∷ settings.log ∷ []
inputs_for Compare settings = settings.model ∷ settings.log ∷ []
inputs_for Analyse settings = settings.model ∷ []
inputs_for Regex settings = []

-- the names of the inputs that a command with these settings reads
abbrev pub inputs_of_settings : Result Settings ℕ → List Text
inputs_of_settings (Ok settings) = inputs_for settings.command settings
inputs_of_settings (Err at) = []

unfoldable pub inputs_of : List Text → List Text
inputs_of words = inputs_of_settings (settings words)

-- ---- what is answered

-- up to 1
pub record AreFractions (thresholds : Thresholds) : Type 0 where
  pub support : thresholds.support.millionths ≤ 1000000
  pub confidence : thresholds.confidence.millionths ≤ 1000000
  pub interest : thresholds.interest.millionths ≤ 1000000

-- an expression is asked for a template only
abbrev pub NamesTemplate : Settings → Type 0
NamesTemplate s = s.command ≡ Regex → IsSome (kind_named s.model)

-- a certificate is asked of the model only, and of a run that stops at the limit
pub record CertifiesModel (s : Settings) : Type 0 where
  pub stage : s.out ≡ out.Cert → s.stage ≡ stage.Model
  pub keep : s.out ≡ out.Cert → s.keep ≡ false

-- a log can be generated with these numbers: it is within the limits on traces and events, whatever is drawn
pub record CanGenerate (seed traces length letters : ℕ) : Type 0 where
  pub seed_is_small : seed ≤ most_seed
  pub traces_are_few : traces ≤ most_traces
  pub length_is_within : IsBetween 1 most_length length
  pub letters_are_within : IsBetween 1 most_letters letters
  pub events_are_few : traces * length ≤ most_events

-- a refusal of words that give no settings names the place of their fault; want of memory is free
abbrev pub Refuses : {T : Type 0} → Refusal → Result T ℕ → Type 0
Refuses (Usage at) wanted = wanted ≡ Err at
Refuses Memory wanted = Unit {0}
Refuses _ wanted = ⊥

-- an answer is what the words give
abbrev pub Gives : {T : Type 0} → Result T Refusal → Result T ℕ → Type 0
Gives (Ok value) wanted = wanted ≡ Ok value
Gives (Err refusal) wanted = Refuses refusal wanted
