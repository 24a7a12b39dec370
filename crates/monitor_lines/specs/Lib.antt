-- Meaning: what clauses of public functions speak of, in reading order.
pub mod Cases
pub mod LineText
pub mod Faults
pub mod Watching
-- Internal: what a line does to what is kept of the cases.
pub mod Stepping
