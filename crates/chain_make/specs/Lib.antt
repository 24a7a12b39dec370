-- Meaning: what clauses of public functions speak of.
pub mod Claims
-- Internal: what clauses of private functions speak of.
pub mod Beside
pub mod Searching
pub mod Entries
pub mod Copies
pub mod Chains
