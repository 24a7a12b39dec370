-- Models over the names of one or two of them, and over one symbol more.
use Rattle.std.specs.Prelude.{ℕ, suc, List, [], ◌++◌, length, map, slice_index_or}
use Rattle.event_log.specs.Logs.{in_byte_order, place_of}
use Rattle.model_json.specs.Model.{Known}
use Rattle.template_core.specs.declared.constraint.Constraint.{Constraint}

-- the names of a model, in the order of their bytes
abbrev pub names_of : Known → List (List ℕ)
names_of model = in_byte_order model.names

-- the names of two models, each once, in the order of their bytes
abbrev pub names_of_both : Known → Known → List (List ℕ)
names_of_both first second = in_byte_order (first.names ++ second.names)

-- a symbol for each name, and one behind them for all that has no name
abbrev pub symbols_of : List (List ℕ) → ℕ
symbols_of names = suc (length names)

-- a constraint of a model, over the places of its activities among these names
abbrev pub put_over : List (List ℕ) → Known → Constraint → Constraint
put_over names model c = record {
  kind = c.kind;
  first = place_of names (slice_index_or model.names c.first []);
  second = place_of names (slice_index_or model.names c.second []);
}

abbrev pub constraints_over : List (List ℕ) → Known → List Constraint
constraints_over names model = map (put_over names model) model.constraints
