-- The greatest numbers that a run accepts.
use Rattle.std.specs.Prelude.{ℕ}
use Rattle.decl_base.specs.declared.limits.Limits.{Limits}

abbrev pub standard : Limits
standard = record {
  events = 16777215;
  traces = 1048575;
  activities = 1000;
  line_bytes = 1048576;
  csv_bytes = 134217728;
  model_bytes = 16777216;
  certificate_bytes = 134217728;
  candidates = 65536;
  states = 16384;
}

-- the greatest limit on states that may be set
abbrev pub greatest_state_limit : ℕ
greatest_state_limit = 65536
