-- Meaning: what clauses of public functions speak of, in reading order.
pub mod Traces
pub mod Shortlex
pub mod Languages
pub mod Steps
pub mod Automaton
pub mod Columns
-- Internal: what clauses of private functions speak of.
pub mod Grouping
pub mod Searching
