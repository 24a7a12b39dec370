-- Meaning: the hierarchy; a template's names, its numbers over a log, and its table.
pub mod Hierarchy
pub mod Names
pub mod Numbers
pub mod Tables
-- Internal: tests that an automaton is the least one.
pub mod Least
