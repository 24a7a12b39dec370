-- Meaning: what a check of a log says of each constraint, and what it says of a trace.
pub mod Checking
pub mod Demands
pub mod Index
pub mod Sides
pub mod Standing
pub mod Tallies
