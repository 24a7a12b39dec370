-- Meaning: what clauses of public functions speak of, in reading order.
pub mod Standing
pub mod Stands
-- Internal: what is kept of a list and of each constraint.
pub mod Watching
