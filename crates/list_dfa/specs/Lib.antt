-- Meaning: what clauses of public functions speak of.
pub mod Lists
pub mod Extending
pub mod Growing
