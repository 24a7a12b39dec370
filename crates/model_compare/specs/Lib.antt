-- Meaning: what clauses of public functions speak of.
pub mod Comparison
pub mod Analysis
-- Internal: what clauses of private functions speak of.
pub mod Narrow
pub mod Unused
