-- What is kept while the options are looked at, one after the other.
use Rattle.std.specs.Prelude.{◌≤◌}
use Rattle.minerful_words.specs.Grammars.{IsBetween, IsLimit, most_seed, most_traces, most_length, most_letters, most_listed}
use Rattle.minerful_words.specs.Settings.{AreFractions}
use Rattle.minerful_words.specs.declared.settings.Settings.{Settings}

-- the thresholds are fractions, the limit on states is one that may be set, and each number that a log is generated
-- with, or a model analysed with, is within its bounds
pub record IsBounded (s : Settings) : Type 0 where
  pub thresholds : AreFractions s.thresholds
  pub states : IsLimit s.states
  pub seed : s.seed ≤ most_seed
  pub traces : s.traces ≤ most_traces
  pub length : IsBetween 1 most_length s.length
  pub letters : IsBetween 1 most_letters s.letters
  pub first : s.first ≤ most_listed
