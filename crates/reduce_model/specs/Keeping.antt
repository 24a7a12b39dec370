-- Lists of constraints, and the traces that keep them.
pub use Rattle.list_dfa.specs.Lists.{IsKeepable, KeepsAll, KeepsOne}
